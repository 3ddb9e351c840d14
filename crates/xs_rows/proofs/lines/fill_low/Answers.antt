use Rattle.std.proofs.Common.{◌≡◌, ◌+◌, ◌-◌, ◌*◌, ◌^◌, ◌<◌, length, length-set, min, ◌+ℤ◌, arith, ap, ◌∙◌}
use Rattle.xs_signal.specs.Lines.{entries_of}
use Rattle.xs_signal.specs.Wavelet.{updated, high_count}
use Rattle.xs_rows.proofs.Places.{one_more}
use Rattle.xs_rows.proofs.Values.{passed, passed_small, update_forward_at}
use Rattle.xs_rows.proofs.lines.fill_low.Goals as goal

pub loop-k-preserved : goal.loop-k-preserved
loop-k-preserved c =
    let k = c.loop-k.k in
    let n = length c.args.line.now in
    let line = entries_of c.args.line.now in
    let high = entries_of c.args.high.now in
    let before : k < length c.args.high.now = c.loop-k-test.true in
    let right : passed (high k) ≡ high k = passed_small (2 ^ 29) (high k) (omega arith) (c.requires.small_high k) in
    let last : k ≡ min k (high_count n - 1) = omega (arith, c.requires.highs) in
    let next : k ≡ k + 1 - 1 = omega arith in
    let value = update_forward_at (2 ^ 28) (2 ^ 29) n k (line (2 * k)) high _ _ _ _ (omega arith) (omega arith) (c.requires.small (2 * k)) c.requires.small_high
    (passed_small (2 ^ 28) (line (2 * k)) (omega arith) (c.requires.small (2 * k))) c.loop-k.invariant.left (right ∙ ap high last) c.update_forward.ensures in
    record {
      left = right ∙ ap high next;
      done = one_more (λ j. j) c.loop-k.low (λ j. line (2 * j) +ℤ updated n high j) k _ (λ i j e. e) (omega (arith, c.requires.highs, c.requires.lows, c.loop-k.auto.low)) value c.loop-k.invariant.done;
    }

pub returns-then-last-low : goal.returns-then-last-low
returns-then-last-low c k inside =
    let at = length c.args.high.now in
    let n = length c.args.line.now in
    let line = entries_of c.args.line.now in
    let high = entries_of c.args.high.now in
    let ended : c.loop-k.k ≡ at = omega (arith, c.loop-k-test.false, c.loop-k.auto.k-end) in
    let right : c.loop-k.k - 1 ≡ min at (high_count n - 1) = omega (arith, c.requires.highs) in
    let value = update_forward_at (2 ^ 28) (2 ^ 29) n at (line (2 * at)) high _ _ _ _ (omega arith) (omega arith) (c.requires.small (2 * at)) c.requires.small_high
    (passed_small (2 ^ 28) (line (2 * at)) (omega arith) (c.requires.small (2 * at))) (c.loop-k.invariant.left ∙ ap (λ j. high (j - 1)) ended) (c.loop-k.invariant.left ∙ ap high right)
    c.update_forward-then-last-low.ensures in
    one_more (λ j. j) c.loop-k.low (λ j. line (2 * j) +ℤ updated n high j) at _ (λ i j e. e) (omega (arith, c.if-last-low.true, c.loop-k.auto.low)) value
    (λ j less. c.loop-k.invariant.done j (omega arith)) k (omega (arith, c.requires.highs, c.requires.lows, c.loop-k.auto.low, inside, length-set c.loop-k.low at (passed c.update_forward-then-last-low.result)))
