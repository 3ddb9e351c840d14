use Rattle.std.proofs.Common.{◌≡◌, ◌-◌, ◌<◌, ◌≤◌, [], length, slice_index_or, ap, subst, ◌∙◌, arith}
use Rattle.std.specs.List.{range_with_len}
use Rattle.xs_params.specs.Geometry.{packet_bands}
use Rattle.xs_geometry.specs.SliceLines.{rows_held}
use Rattle.xs_lists.proofs.Ranges.{range_end}
use Rattle.xs_sizes.specs.Precincts.{mode_at}
use Rattle.xs_sizes.specs.Measured.{header_in, AreLineBits}
use Rattle.xs_sizes.specs.declared.packets.PartBits.{PartBits}
use Rattle.xs_sizes.proofs.PacketSizes.{MakeUp, mode_few, none_yet, band_more, bands_done}
use Rattle.xs_sizes.proofs.packets.packet_bits.Goals as goal

pub line_bits-line-requires-clause-coding : goal.line_bits-line-requires-clause-coding
line_bits-line-requires-clause-coding c =
    let is = c.requires.packet.4 in
    (c.requires.packet.0, c.requires.packet.1, is.coded, is.lines c.bands.band c.bands.invariant.from c.bands-test.true)

pub line_bits-line-requires-clause-mode : goal.line_bits-line-requires-clause-mode
line_bits-line-requires-clause-mode c =
    let is = c.requires.packet.4 in
    let band = c.bands.band in
    let t = slice_index_or c.args.cuts.now band 0 in
    let few : t ≤ 15 = c.requires.cuts band 0 (omega (arith, c.bands-test.true, c.requires.few, c.told-cuts)) in
    let there : band < length c.args.kept.now.modes.items = omega (arith, c.bands-test.true, is.at.there, is.modes.count) in
    let mode = c.mode_of.ensures [] ∙ is.modes.each band [] there t few in
    omega (arith, mode, mode_few c.args.coding.now.geometry.now (rows_held c.requires.packet.1) c.requires.packet.2 band t)

pub bands-init : goal.bands-init
bands-init c = record {
  from = omega arith;
  flags = omega arith;
  counts = omega arith;
  numbers = omega arith;
  signs = omega arith;
  left = λ slice bands weights precinct place is.
      subst (λ l. MakeUp (header_in c.args.coding.now weights) (rows_held bands) c.args.cuts.now precinct c.args.packet.line l (packet_bands c.args.coding.now.geometry.now place) (record { flags = 0; counts = 0; numbers = 0; signs = 0 })) is.at.bands
      (none_yet (header_in c.args.coding.now weights) (rows_held bands) c.args.cuts.now precinct c.args.packet.line (packet_bands c.args.coding.now.geometry.now place));
}

pub bands-preserved : goal.bands-preserved
bands-preserved c = record {
  from = omega (arith, c.bands.invariant.from);
  flags = omega (arith, c.bands.invariant.from, c.bands.invariant.flags, ap (λ (b : PartBits). b.flags) c.added-bits.ensures, c.line_bits-line.ensures.few);
  counts = omega (arith, c.bands.invariant.from, c.bands.invariant.counts, ap (λ (b : PartBits). b.counts) c.added-bits.ensures, c.line_bits-line.ensures.few);
  numbers = omega (arith, c.bands.invariant.from, c.bands.invariant.numbers, ap (λ (b : PartBits). b.numbers) c.added-bits.ensures, c.line_bits-line.ensures.few);
  signs = omega (arith, c.bands.invariant.from, c.bands.invariant.signs, ap (λ (b : PartBits). b.signs) c.added-bits.ensures, c.line_bits-line.ensures.few);
  left = λ slice bands weights precinct place is. (
      let h = header_in c.args.coding.now weights in
      let rows = rows_held bands in
      let band = c.bands.band in
      let t = slice_index_or c.args.cuts.now band 0 in
      let there : band < length c.args.kept.now.modes.items = omega (arith, c.bands-test.true, is.at.there, is.modes.count) in
      let mode : c.mode_of.result ≡ mode_at h rows precinct band t = c.mode_of.ensures [] ∙ is.modes.each band [] there t (c.requires.cuts band 0 (omega (arith, c.bands-test.true, c.requires.few, c.told-cuts))) in
      let own : AreLineBits h rows t (mode_at h rows precinct band t) band c.args.packet.line c.line_bits-line.result =
      subst (λ m. AreLineBits h rows t m band c.args.packet.line c.line_bits-line.result) mode (c.line_bits-line.ensures.bits slice bands weights is.coded) in
      band_more h rows c.args.cuts.now precinct c.args.packet.line band c.args.packet.end (packet_bands c.args.coding.now.geometry.now place) c.bands.bits c.line_bits-line.result c.added-bits.result c.bands-test.true own c.added-bits.ensures
      (c.bands.invariant.left slice bands weights precinct place is));
}

pub returns-clause-bits : goal.returns-clause-bits
returns-clause-bits c slice bands weights precinct place is =
    bands_done (header_in c.args.coding.now weights) (rows_held bands) c.args.cuts.now precinct place c.args.packet.line (range_with_len c.bands.band (c.args.packet.end - c.bands.band)) c.bands.bits is.at.line
    (range_end c.bands.band c.args.packet.end (omega (arith, c.bands-test.false))) (c.bands.invariant.left slice bands weights precinct place is)
