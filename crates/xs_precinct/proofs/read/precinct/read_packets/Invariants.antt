use Rattle.std.proofs.Common.{◌≡◌, ℕ, ◌≤◌, length}
use Rattle.std.specs.Prelude.{◌↔◌}
use Rattle.xs_params.specs.declared.header.Header.{Header}
use Rattle.xs_geometry.specs.SliceLines.{AreLinesOf, HasLine}
use Rattle.xs_grammar.specs.Precinct.{Content}
use Rattle.xs_precinct.specs.Held.{SameElsewhere}
use Rattle.xs_precinct.specs.Read.{AreReady, HaveRooms}
use Rattle.xs_precinct.proofs.Packets.{PacketsSoFar}
use Rattle.xs_precinct.proofs.read.precinct.read_packets.Given as goal

abbrev pub invariant-packets : goal.invariant-packets
invariant-packets l = record {
  within : l.at ≤ length l.body;
  count : length l.bands ≡ length l.initial.bands;
  room : HaveRooms l.place.header.now l.bands;
  kept : (h : Header) (slice : ℕ) → AreLinesOf h slice l.initial.into → AreLinesOf h slice l.into;
  same_lines : (band line : ℕ) → HasLine l.into band line ↔ HasLine l.initial.into band line;
  elsewhere : SameElsewhere l.place.header.now l.place.precinct l.initial.into l.into;
  so : (content : Content) (modes : ℕ → ℕ) → AreReady l.place.header.now l.place.precinct content modes l.initial.bands
      → PacketsSoFar l.place.header.now l.place.precinct content modes l.body l.into l.bands l.at l.number;
}
