use Rattle.std.proofs.Common.{◌^◌, ◌+◌, pos, ◌+ℤ◌, ◌-ℤ◌, arith, ◌∙◌, get_or-set_other, inr}
use Rattle.std.specs.Int.{int_shr}
use Rattle.xs_signal.specs.Lines.{entries_of}
use Rattle.xs_wave.proofs.Lifted.{apart_place, outside_other, outside_more}
use Rattle.xs_wave.proofs.Places.{one_more}
use Rattle.xs_wave.proofs.Values.{passed, passed_small, below_passed, below_same, lowered_from}
use Rattle.xs_wave.proofs.lifts.less_quarter.Goals as goal

pub lowered-requires-clause-low : goal.lowered-requires-clause-low
lowered-requires-clause-low c =
    let k = c.loop-k.k in
    let same = c.loop-k.invariant.others (c.args.row + k) (inr (omega arith)) in
    below_passed (2 ^ 54) _ (omega arith) (below_same (2 ^ 54) _ _ same (c.requires.small k c.loop-k-test.true))

pub lowered-requires-clause-left : goal.lowered-requires-clause-left
lowered-requires-clause-left c =
    let k = c.loop-k.k in
    let same = c.loop-k.invariant.others (c.args.above + k) (apart_place c.args.width c.args.row c.args.above k c.requires.above_apart c.loop-k-test.true) in
    below_passed (2 ^ 54) _ (omega arith) (below_same (2 ^ 54) _ _ same (c.requires.small_above k c.loop-k-test.true))

pub lowered-requires-clause-right : goal.lowered-requires-clause-right
lowered-requires-clause-right c =
    let k = c.loop-k.k in
    let same = c.loop-k.invariant.others (c.args.below + k) (apart_place c.args.width c.args.row c.args.below k c.requires.below_apart c.loop-k-test.true) in
    below_passed (2 ^ 54) _ (omega arith) (below_same (2 ^ 54) _ _ same (c.requires.small_below k c.loop-k-test.true))

pub loop-k-preserved : goal.loop-k-preserved
loop-k-preserved c =
    let k = c.loop-k.k in
    let less = c.loop-k-test.true in
    let x = entries_of c.args.numbers.now in
    let row = c.args.row in
    let above = c.args.above in
    let below = c.args.below in
    let i = c.loop-k.invariant in
    let here = i.others (row + k) (inr (omega arith)) in
    let up = i.others (above + k) (apart_place c.args.width row above k c.requires.above_apart less) in
    let down = i.others (below + k) (apart_place c.args.width row below k c.requires.below_apart less) in
    let small = c.requires.small k less in
    let small_up = c.requires.small_above k less in
    let small_down = c.requires.small_below k less in
    let value = lowered_from (2 ^ 54) (x (row + k)) (x (above + k)) (x (below + k)) _ _ _ _ (omega arith) small small_up small_down (passed_small (2 ^ 54) _ (omega arith) (below_same (2 ^ 54) _ _ here small) ∙ here)
    (passed_small (2 ^ 54) _ (omega arith) (below_same (2 ^ 54) _ _ up small_up) ∙ up) (passed_small (2 ^ 54) _ (omega arith) (below_same (2 ^ 54) _ _ down small_down) ∙ down) c.lowered.ensures in
    record {
      done = one_more (λ j. row + j) c.loop-k.numbers (λ j. x (row + j) -ℤ int_shr (x (above + j) +ℤ x (below + j) +ℤ pos 2) 2) k _ (λ a b e. omega (arith, e)) (omega (arith, c.loop-k.auto.numbers, less, c.requires.inside)) value i.done;
      others = λ place outside. get_or-set_other c.loop-k.numbers (row + k) place (passed c.lowered.result) (pos 0) (outside_other row k place outside) ∙ i.others place (outside_more row k place outside);
    }
