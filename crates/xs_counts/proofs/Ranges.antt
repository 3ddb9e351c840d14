-- Ranges of code groups, cut at a significance group.
use Rattle.std.proofs.Common.{◌≡◌, ℕ, zero, suc, ◌+◌, ◌-◌, ◌*◌, ◌<◌, min, ◌++◌, refl, ap, ◌∙◌, arith}
use Rattle.std.specs.List.{range_with_len}
use Rattle.xs_lists.proofs.Ranges.{range_cut}

-- where an empty range begins is of no matter
same_start : (a b n : ℕ) → (0 < n → a ≡ b) → range_with_len a n ≡ range_with_len b n
same_start a b zero same = refl
same_start a b (suc n) same = let e : a ≡ b = same (omega arith) in ap (λ k. range_with_len k (suc n)) e

-- the code groups from a significance group on: its own, and those from the next on
pub members_first : (groups s : ℕ) → 8 * s < groups
    → range_with_len (8 * s) (groups - 8 * s) ≡ range_with_len (8 * s) (min 8 (groups - 8 * s)) ++ range_with_len (8 * (s + 1)) (groups - 8 * (s + 1))
members_first groups s inside =
    let m : ℕ = min 8 (groups - 8 * s) in
    let n : ℕ = groups - 8 * (s + 1) in
    let size : groups - 8 * s ≡ m + n = omega (arith, inside) in
    ap (range_with_len (8 * s)) size ∙ range_cut (8 * s) m n
    ∙ ap (λ l. range_with_len (8 * s) m ++ l) (same_start (8 * s + m) (8 * (s + 1)) n (λ some. omega (arith, some, inside)))
