use Rattle.std.proofs.Common.{◌<◌, length, sym, ap, subst, ◌∙◌, arith}
use Rattle.std.specs.Prelude.{if◌then◌else◌, nat_le}
use Rattle.xs_geometry.specs.SliceLines.{rows_held}
use Rattle.xs_sizes.specs.Counted.{IsBandCounted, no_line}
use Rattle.xs_sizes.specs.Measured.{header_in}
use Rattle.xs_sizes.proofs.Moded.{flags_are, signs_are, held_line, held_regular}
use Rattle.xs_sizes.proofs.packets.line_bits.Goals as goal

pub returns-clause-bits : goal.returns-clause-bits
returns-clause-bits c slice bands weights known =
    let g = c.args.coding.now.geometry.now in
    let h = header_in c.args.coding.now weights in
    let band = c.args.at.0 in
    let line = c.args.at.1 in
    let t = c.args.t in
    let m = c.args.mode in
    let inner = c.requires.coding.2 in
    let has = c.requires.coding.3 in
    let there : band < length c.args.coding.now.counts.now.bands.items = omega (arith, has.band_there, inner.counted.counted.sizes.count) in
    let at = c.index-counts.ensures in
    let signs = c.args.coding.now.counts.now.signs in
    let counted : IsBandCounted g bands signs band c.index-counts.result.now = subst (λ counts. IsBandCounted g bands signs band counts) (sym at) (known.counted.counted.sizes.each band _ there) in
    let held : IsBandCounted g c.requires.coding.1 signs band c.index-counts.result.now = subst (λ counts. IsBandCounted g c.requires.coding.1 signs band counts) (sym at) (inner.counted.counted.sizes.each band _ there) in
    let sizes = held_line g bands c.requires.coding.1 signs band line t c.index-counts.result.now c.line_at-line.result.now counted held has c.requires.cut (c.line_at-line.ensures no_line) in
    record {
      flags = c.from.ensures ∙ c.flags_in.ensures ∙ ap (λ n. if nat_le 2 m then n else 0) counted.flags ∙ sym (flags_are g h.quant (rows_held bands) t m band line c.requires.mode);
      counts = c.counts_at.ensures.counts ∙ sizes.counts h.quant m c.requires.mode;
      numbers = c.numbers_at.ensures.numbers ∙ sizes.numbers h.quant m c.args.coding.now.signs_apart;
      signs = λ apart. c.signs_at.ensures.signs ∙ signs_are g (rows_held bands) t m band line h.quant signs _ sizes (known.signs apart);
    }

pub numbers_at-requires-clause-regular : goal.numbers_at-requires-clause-regular
numbers_at-requires-clause-regular c =
    let inner = c.requires.coding.2 in
    let has = c.requires.coding.3 in
    let there : c.args.at.0 < length c.args.coding.now.counts.now.bands.items = omega (arith, has.band_there, inner.counted.counted.sizes.count) in
    let held = subst (λ counts. IsBandCounted c.args.coding.now.geometry.now c.requires.coding.1 c.args.coding.now.counts.now.signs c.args.at.0 counts) (sym c.index-counts.ensures) (inner.counted.counted.sizes.each c.args.at.0 _ there) in
    held_regular c.args.coding.now.geometry.now c.requires.coding.1 c.args.coding.now.counts.now.signs c.args.at.0 c.args.at.1 c.index-counts.result.now c.line_at-line.result.now held has (c.line_at-line.ensures no_line)
