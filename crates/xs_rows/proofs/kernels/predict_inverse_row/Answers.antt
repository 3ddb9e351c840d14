use Rattle.std.proofs.Common.{◌≢◌, ◌^◌, pos, ◌+ℤ◌, arith, ◌∙◌, get_or-set_other}
use Rattle.std.specs.Int.{int_shr}
use Rattle.xs_signal.specs.Lines.{entries_of}
use Rattle.xs_rows.proofs.Places.{one_more}
use Rattle.xs_rows.proofs.Values.{passed, passed_small, below_passed, below_same, predict_inverse_from}
use Rattle.xs_rows.proofs.kernels.predict_inverse_row.Goals as goal

pub predict_inverse-requires-clause-high : goal.predict_inverse-requires-clause-high
predict_inverse-requires-clause-high c =
    let k = c.loop-k.k in
    below_passed (2 ^ 29) _ (omega arith) (below_same (2 ^ 29) _ _ (c.loop-k.invariant.rest k (omega arith)) (c.requires.row k))

pub loop-k-preserved : goal.loop-k-preserved
loop-k-preserved c =
    let k = c.loop-k.k in
    let x = entries_of c.args.row.now in
    let above = entries_of c.args.above.now in
    let below = entries_of c.args.below.now in
    let here = c.loop-k.invariant.rest k (omega arith) in
    let value = predict_inverse_from (2 ^ 29) (x k) (above k) (below k) _ _ _ _ (omega arith) (c.requires.row k) (c.requires.above k) (c.requires.below k)
    (passed_small (2 ^ 29) _ (omega arith) (below_same (2 ^ 29) _ _ here (c.requires.row k)) ∙ here) (passed_small (2 ^ 29) (above k) (omega arith) (c.requires.above k)) (passed_small (2 ^ 29) (below k) (omega arith) (c.requires.below k)) c.predict_inverse.ensures in
    record {
      done = one_more (λ j. j) c.loop-k.row (λ j. x j +ℤ int_shr (above j +ℤ below j) 1) k _ (λ i j e. e) (omega (arith, c.loop-k.auto.row, c.loop-k-test.true)) value c.loop-k.invariant.done;
      rest = λ j past. let other : j ≢ k = omega arith in get_or-set_other c.loop-k.row k j (passed c.predict_inverse.result) (pos 0) other ∙ c.loop-k.invariant.rest j (omega arith);
    }
