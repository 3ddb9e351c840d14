use Rattle.std.proofs.Common.{◌≡◌, ◌-ℤ◌, arith, ◌∙◌, w32, to_z, of_z}
use Rattle.std.proofs.lemmas.Int.{ints}
use Rattle.std.specs.Prelude.{slice_index}
use Rattle.xs_signal.specs.Samples.{scale_in}
use Rattle.xs_rows.proofs.Places.{one_more}
use Rattle.xs_rows.proofs.scaling.scale_row_in.Goals as goal

pub loop-k-preserved : goal.loop-k-preserved
loop-k-preserved c =
    let k = c.loop-k.k in
    let x = c.raised.result in
    let y = c.power-centre.result in
    let sx = c.raised.ensures.small in
    let sy = c.power-centre.ensures.small in
    let kept : to_z w32 (of_z w32 (to_z w32 (of_z w32 x) -ℤ to_z w32 (of_z w32 y))) ≡ x -ℤ y = omega (arith, ints, sx.least, sx.most, sy.least, sy.most) in
    let first = c.raised.ensures.value in
    let second = c.power-centre.ensures.value in
    let value : x -ℤ y ≡ scale_in c.args.depth c.args.bw (slice_index c.args.samples.now k) = cc in
    one_more (λ j. j) c.loop-k.row (λ j. scale_in c.args.depth c.args.bw (slice_index c.args.samples.now j)) k _ (λ i j e. e) (omega (arith, c.loop-k.auto.row, c.loop-k.auto.k-end, c.loop-k-test.true)) (kept ∙ value) c.loop-k.invariant
