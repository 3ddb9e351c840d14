use Rattle.std.proofs.Common.{ℕ, ap, arith}
use Rattle.xs_codec_tests.proofs.Made.{line_made}
use Rattle.xs_codec_tests.proofs.decoding.fill_band.Goals as goal

pub fill_row-requires : goal.fill_row-requires
fill_row-requires c =
    let from = ap (λ (p : ℕ × ℕ). p.0) c.lines-from.ensures in
    let to = ap (λ (p : ℕ × ℕ). p.1) c.lines-from.ensures in
    line_made c.args.geometry.now c.args.slice c.args.precinct c.args.band c.loop-line.line c.loop-line.rows c.loop-line.invariant.lines c.requires.band c.requires.from c.requires.to
    (omega (arith, from, c.loop-line.auto.line)) (omega (arith, to, c.loop-line-test.true))
