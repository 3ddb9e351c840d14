use Rattle.std.proofs.Common.{ℕ, ◌+◌, sym, ap, subst, ◌∙◌}
use Rattle.xs_layout.specs.Geometry.{PacketPlace}
use Rattle.xs_params.specs.Geometry.{packet_bands}
use Rattle.xs_geometry.specs.Places.{packet_at}
use Rattle.xs_sizes.specs.declared.precincts.PacketBands.{PacketBands}
use Rattle.xs_sizes.specs.Precincts.{IsPacketAt}
use Rattle.xs_sizes.proofs.Sets.{pushed_more}
use Rattle.xs_sizes.proofs.precincts.list_packets.Goals as goal

pub packets-preserved : goal.packets-preserved
packets-preserved c =
    let g = c.args.geometry.now in
    let P : ℕ → PacketBands → Type 0 = λ number packet. IsPacketAt g (packet_at g c.args.precinct number) packet in
    let size = c.packets.invariant.count in
    let place = c.packet-place.ensures.place in
    let bands = c.packet_bands-first.result in
    let own : PacketBands = record { first = bands.0; end = bands.1; line = c.packet-place.result.line } in
    let new : P c.packets.number own = record {
      bands = ap (packet_bands g) (sym place) ∙ c.packet_bands-first.ensures.bands;
      order = c.packet_bands-first.ensures.order;
      there = c.packet_bands-first.ensures.there;
      line = ap (λ (p : PacketPlace). p.line) place;
    } in
    let more = pushed_more P c.packets.packets.items c.push_packet.new.packets.items own c.packets.invariant.each (subst (λ k. P k own) (sym size) new) c.in_ok-push_packet.ensures in
    record { count = more.0 ∙ ap (λ n. n + 1) size; each = more.1 }
