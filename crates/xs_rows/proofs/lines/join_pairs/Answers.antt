use Rattle.std.proofs.Common.{◌≡◌, ◌+◌, ◌-◌, ◌*◌, ◌^◌, ◌<◌, length, min, arith, ap, ◌∙◌}
use Rattle.xs_signal.specs.Lines.{entries_of}
use Rattle.xs_signal.specs.Wavelet.{even_of, odd_of, high_count, low_count}
use Rattle.xs_signal.proofs.LineLaws.{even_below}
use Rattle.xs_rows.proofs.Pairs.{pair_more}
use Rattle.xs_rows.proofs.Shown.{below_more}
use Rattle.xs_rows.proofs.Values.{passed, passed_small, below_passed, below_same, update_inverse_at, predict_inverse_at}
use Rattle.xs_rows.proofs.lines.join_pairs.Goals as goal

pub predict_inverse-requires-clause-high : goal.predict_inverse-requires-clause-high
predict_inverse-requires-clause-high c = below_passed (2 ^ 28) _ (omega arith) (c.requires.high c.loop-k.k)

pub predict_inverse-requires-clause-left : goal.predict_inverse-requires-clause-left
predict_inverse-requires-clause-left c =
    let small = even_below (2 ^ 27) (length c.args.line.now) (entries_of c.args.low.now) (entries_of c.args.high.now) c.requires.low c.requires.high in
    below_more (3 * 2 ^ 27) (2 ^ 29) _ (omega arith) (below_same (3 * 2 ^ 27) _ _ c.loop-k.invariant.even (small c.loop-k.k))

pub predict_inverse-requires-clause-right : goal.predict_inverse-requires-clause-right
predict_inverse-requires-clause-right c =
    let k = c.loop-k.k in
    let n = length c.args.line.now in
    let low = entries_of c.args.low.now in
    let high = entries_of c.args.high.now in
    let before : k < length c.args.high.now - 1 = c.loop-k-test.true in
    let small = even_below (2 ^ 27) n low high c.requires.low c.requires.high in
    let middle : passed (high k) ≡ high k = passed_small (2 ^ 28) (high k) (omega arith) (c.requires.high k) in
    let after : passed (high (k + 1)) ≡ high (k + 1) = passed_small (2 ^ 28) (high (k + 1)) (omega arith) (c.requires.high (k + 1)) in
    let here : k ≡ k + 1 - 1 = omega arith in
    let last : k + 1 ≡ min (k + 1) (high_count n - 1) = omega (arith, c.requires.highs) in
    let next = update_inverse_at (2 ^ 28) (2 ^ 28) n (k + 1) (low (k + 1)) high _ _ _ _ (omega arith) (omega arith) (c.requires.low (k + 1)) c.requires.high
    (passed_small (2 ^ 28) (low (k + 1)) (omega arith) (c.requires.low (k + 1))) (middle ∙ ap high here) (after ∙ ap high last) c.update_inverse-next.ensures in
    below_more (3 * 2 ^ 27) (2 ^ 29) _ (omega arith) (below_same (3 * 2 ^ 27) _ _ next (small (k + 1)))

pub loop-k-preserved : goal.loop-k-preserved
loop-k-preserved c =
    let k = c.loop-k.k in
    let n = length c.args.line.now in
    let low = entries_of c.args.low.now in
    let high = entries_of c.args.high.now in
    let evens = even_of n low high in
    let before : k < length c.args.high.now - 1 = c.loop-k-test.true in
    let small = even_below (2 ^ 27) n low high c.requires.low c.requires.high in
    let middle : passed (high k) ≡ high k = passed_small (2 ^ 28) (high k) (omega arith) (c.requires.high k) in
    let after : passed (high (k + 1)) ≡ high (k + 1) = passed_small (2 ^ 28) (high (k + 1)) (omega arith) (c.requires.high (k + 1)) in
    let here : k ≡ k + 1 - 1 = omega arith in
    let last : k + 1 ≡ min (k + 1) (high_count n - 1) = omega (arith, c.requires.highs) in
    let next = update_inverse_at (2 ^ 28) (2 ^ 28) n (k + 1) (low (k + 1)) high _ _ _ _ (omega arith) (omega arith) (c.requires.low (k + 1)) c.requires.high
    (passed_small (2 ^ 28) (low (k + 1)) (omega arith) (c.requires.low (k + 1))) (middle ∙ ap high here) (after ∙ ap high last) c.update_inverse-next.ensures in
    let end : k + 1 ≡ min (k + 1) (low_count n - 1) = omega (arith, c.requires.highs) in
    let odd = predict_inverse_at (2 ^ 28) (3 * 2 ^ 27) n k (high k) evens _ _ _ _ (omega arith) (omega arith) (c.requires.high k) small middle c.loop-k.invariant.even (next ∙ ap evens end)
    c.predict_inverse.ensures in
    record {
      even = next;
      pairs = pair_more c.loop-k.line k evens (odd_of n low high) _ _ (omega (arith, c.requires.highs, c.loop-k.auto.line)) c.loop-k.invariant.even odd c.loop-k.invariant.pairs;
    }
