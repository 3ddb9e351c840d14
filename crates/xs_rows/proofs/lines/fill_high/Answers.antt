use Rattle.std.proofs.Common.{◌≡◌, ◌+◌, ◌-◌, ◌*◌, ◌/◌, ◌^◌, ◌<◌, length, length-set, min, arith, ap, ◌∙◌}
use Rattle.xs_signal.specs.Lines.{entries_of}
use Rattle.xs_signal.specs.Wavelet.{high_of, evens_of, low_count}
use Rattle.xs_rows.proofs.Places.{one_more}
use Rattle.xs_rows.proofs.Values.{passed, passed_small, predict_forward_at}
use Rattle.xs_rows.proofs.lines.fill_high.Goals as goal

pub loop-k-preserved : goal.loop-k-preserved
loop-k-preserved c =
    let k = c.loop-k.k in
    let n = length c.args.line.now in
    let line = entries_of c.args.line.now in
    let before : k < (n - 1) / 2 = c.loop-k-test.true in
    let right : passed (line (2 * k + 2)) ≡ line (2 * k + 2) = passed_small (2 ^ 28) (line (2 * k + 2)) (omega arith) (c.requires.small (2 * k + 2)) in
    let last : 2 * k + 2 ≡ 2 * min (k + 1) (low_count n - 1) = omega arith in
    let next : 2 * k + 2 ≡ 2 * (k + 1) = omega arith in
    let value = predict_forward_at (2 ^ 28) (2 ^ 28) n k (line (2 * k + 1)) (evens_of line) _ _ _ _ (omega arith) (omega arith) (c.requires.small (2 * k + 1)) (λ j. c.requires.small (2 * j))
    (passed_small (2 ^ 28) (line (2 * k + 1)) (omega arith) (c.requires.small (2 * k + 1))) c.loop-k.invariant.left (right ∙ ap line last) c.predict_forward.ensures in
    record {
      left = right ∙ ap line next;
      done = one_more (λ j. j) c.loop-k.high (high_of n line) k _ (λ i j e. e) (omega (arith, c.requires.highs, c.loop-k.auto.high)) value c.loop-k.invariant.done;
    }

pub returns-then-inner-high : goal.returns-then-inner-high
returns-then-inner-high c k inside =
    let n = length c.args.line.now in
    let at = (n - 1) / 2 in
    let line = entries_of c.args.line.now in
    let ended : c.loop-k.k ≡ at = omega (arith, c.loop-k-test.false, c.loop-k.auto.k-end) in
    let two = c.requires.two in
    let room : at < length c.loop-k.high = c.if-inner-high.true in
    let right : c.loop-k.k ≡ min (at + 1) (low_count n - 1) = omega (arith, c.requires.highs, c.loop-k.auto.high) in
    let value = predict_forward_at (2 ^ 28) (2 ^ 28) n at (line (2 * at + 1)) (evens_of line) _ _ _ _ (omega arith) (omega arith) (c.requires.small (2 * at + 1)) (λ j. c.requires.small (2 * j))
    (passed_small (2 ^ 28) (line (2 * at + 1)) (omega arith) (c.requires.small (2 * at + 1))) (c.loop-k.invariant.left ∙ ap (evens_of line) ended) (c.loop-k.invariant.left ∙ ap (evens_of line) right)
    c.predict_forward-then-inner-high.ensures in
    one_more (λ j. j) c.loop-k.high (high_of n line) at _ (λ i j e. e) room value
    (λ j less. c.loop-k.invariant.done j (omega arith)) k (omega (arith, c.requires.highs, c.loop-k.auto.high, inside, length-set c.loop-k.high at (passed c.predict_forward-then-inner-high.result)))
