use Rattle.std.proofs.Common.{◌≡◌, ◌+◌, ◌-◌, ◌*◌, ◌^◌, ◌<◌, ◌≤◌, length, length-set, min, pos, arith, ap, ◌∙◌}
use Rattle.std.proofs.Math.ListN.{set}
use Rattle.std.proofs.lemmas.Grind.{get_or-set_at}
use Rattle.xs_signal.specs.Lines.{entries_of}
use Rattle.xs_signal.specs.Wavelet.{even_of, odd_of, high_count, low_count}
use Rattle.xs_signal.proofs.LineLaws.{even_below}
use Rattle.xs_rows.specs.Halves.{ShowsPairs}
use Rattle.xs_rows.proofs.Pairs.{pair_more, pairs_kept, row_of_pairs}
use Rattle.xs_rows.proofs.Shown.{below_more}
use Rattle.xs_rows.proofs.Values.{passed, passed_small, below_same, update_inverse_at, predict_inverse_at}
use Rattle.xs_rows.proofs.lines.join_last.Goals as goal

pub predict_inverse-requires-clause-left : goal.predict_inverse-requires-clause-left
predict_inverse-requires-clause-left c =
    let h = length c.args.high.now - 1 in
    let small = even_below (2 ^ 27) (length c.args.line.now) (entries_of c.args.low.now) (entries_of c.args.high.now) c.requires.low c.requires.high in
    let below = below_same (3 * 2 ^ 27) _ _ c.requires.even (small h) in
    let even = passed_small (3 * 2 ^ 27) c.args.even (omega arith) below in
    below_more (3 * 2 ^ 27) (2 ^ 29) _ (omega arith) (below_same (3 * 2 ^ 27) _ _ even below)

pub predict_inverse-requires-clause-right : goal.predict_inverse-requires-clause-right
predict_inverse-requires-clause-right c =
    let h = length c.args.high.now - 1 in
    let n = length c.args.line.now in
    let low = entries_of c.args.low.now in
    let high = entries_of c.args.high.now in
    let small = even_below (2 ^ 27) n low high c.requires.low c.requires.high in
    let two : 2 ≤ n = c.requires.two in
    let middle : passed (high h) ≡ high h = passed_small (2 ^ 28) (high h) (omega arith) (c.requires.high h) in
    let here : h ≡ h + 1 - 1 = omega arith in
    let mirror : h ≡ min (h + 1) (high_count n - 1) = omega (arith, c.requires.highs) in
    let next = update_inverse_at (2 ^ 28) (2 ^ 28) n (h + 1) (low (h + 1)) high _ _ _ _ (omega arith) (omega arith) (c.requires.low (h + 1)) c.requires.high
    (passed_small (2 ^ 28) (low (h + 1)) (omega arith) (c.requires.low (h + 1))) (middle ∙ ap high here) (middle ∙ ap high mirror) c.update_inverse-next.ensures in
    below_more (3 * 2 ^ 27) (2 ^ 29) _ (omega arith) (below_same (3 * 2 ^ 27) _ _ next (small (h + 1)))

pub returns-then-last-low : goal.returns-then-last-low
returns-then-last-low c =
    let h = length c.args.high.now - 1 in
    let n = length c.args.line.now in
    let low = entries_of c.args.low.now in
    let high = entries_of c.args.high.now in
    let evens = even_of n low high in
    let odds = odd_of n low high in
    let small = even_below (2 ^ 27) n low high c.requires.low c.requires.high in
    let two : 2 ≤ n = c.requires.two in
    let room : h + 1 < length c.args.low.now = c.if-last-low.true in
    let whole : h + 1 ≡ high_count n = omega (arith, c.requires.highs) in
    let middle : passed (high h) ≡ high h = passed_small (2 ^ 28) (high h) (omega arith) (c.requires.high h) in
    let here : h ≡ h + 1 - 1 = omega arith in
    let mirror : h ≡ min (h + 1) (high_count n - 1) = omega (arith, c.requires.highs) in
    let next = update_inverse_at (2 ^ 28) (2 ^ 28) n (h + 1) (low (h + 1)) high _ _ _ _ (omega arith) (omega arith) (c.requires.low (h + 1)) c.requires.high
    (passed_small (2 ^ 28) (low (h + 1)) (omega arith) (c.requires.low (h + 1))) (middle ∙ ap high here) (middle ∙ ap high mirror) c.update_inverse-next.ensures in
    let even = passed_small (3 * 2 ^ 27) c.args.even (omega arith) (below_same (3 * 2 ^ 27) _ _ c.requires.even (small h)) ∙ c.requires.even in
    let end : h + 1 ≡ min (h + 1) (low_count n - 1) = omega (arith, c.requires.lows) in
    let odd = predict_inverse_at (2 ^ 28) (3 * 2 ^ 27) n h (high h) evens _ _ _ _ (omega arith) (omega arith) (c.requires.high h) small middle even (next ∙ ap evens end) c.predict_inverse.ensures in
    let line = c.args.line.now in
    let first = set line (2 * h) (passed c.args.even) in
    let second = set first (2 * h + 1) (passed c.predict_inverse.result) in
    let third = set second (2 * h + 2) (passed c.update_inverse-next.result) in
    let size1 : length first ≡ n = length-set line (2 * h) (passed c.args.even) in
    let size2 : length second ≡ n = length-set first (2 * h + 1) (passed c.predict_inverse.result) ∙ size1 in
    let size3 : length third ≡ n = length-set second (2 * h + 2) (passed c.update_inverse-next.result) ∙ size2 in
    let pairs : ShowsPairs second (h + 1) evens odds = pair_more line h evens odds _ _ (omega arith) even odd c.requires.pairs in
    let kept : ShowsPairs third (h + 1) evens odds = pairs_kept second (h + 1) (2 * h + 2) evens odds (passed c.update_inverse-next.result) (omega arith) pairs in
    let place : 2 * high_count n ≡ 2 * h + 2 = omega arith in
    row_of_pairs n low high third size3 (rw whole at kept)
    (λ more. get_or-set_at second (2 * h + 2) (2 * high_count n) (passed c.update_inverse-next.result) (pos 0) place (omega (arith, more, place, size2)) ∙ next ∙ ap evens whole)

pub returns-else-last-low : goal.returns-else-last-low
returns-else-last-low c =
    let h = length c.args.high.now - 1 in
    let n = length c.args.line.now in
    let low = entries_of c.args.low.now in
    let high = entries_of c.args.high.now in
    let evens = even_of n low high in
    let odds = odd_of n low high in
    let small = even_below (2 ^ 27) n low high c.requires.low c.requires.high in
    let two : 2 ≤ n = c.requires.two in
    let whole : h + 1 ≡ high_count n = omega (arith, c.requires.highs) in
    let none : 2 * high_count n ≡ n = omega (arith, c.requires.highs, c.requires.lows, c.if-last-low.false) in
    let middle : passed (high h) ≡ high h = passed_small (2 ^ 28) (high h) (omega arith) (c.requires.high h) in
    let even = passed_small (3 * 2 ^ 27) c.args.even (omega arith) (below_same (3 * 2 ^ 27) _ _ c.requires.even (small h)) ∙ c.requires.even in
    let mirror : h ≡ min (h + 1) (low_count n - 1) = omega arith in
    let odd = predict_inverse_at (2 ^ 28) (3 * 2 ^ 27) n h (high h) evens _ _ _ _ (omega arith) (omega arith) (c.requires.high h) small middle even (even ∙ ap evens mirror) c.predict_inverse-else-last-low.ensures in
    let line = c.args.line.now in
    let first = set line (2 * h) (passed c.args.even) in
    let second = set first (2 * h + 1) (passed c.predict_inverse-else-last-low.result) in
    let size : length second ≡ n = length-set first (2 * h + 1) (passed c.predict_inverse-else-last-low.result) ∙ length-set line (2 * h) (passed c.args.even) in
    let pairs : ShowsPairs second (h + 1) evens odds = pair_more line h evens odds _ _ (omega arith) even odd c.requires.pairs in
    row_of_pairs n low high second size (rw whole at pairs) (λ more. absurd (omega arith))
