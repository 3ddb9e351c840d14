-- The signs of a line that stand apart, from a column on.
use Rattle.std.proofs.Common.{◌≡◌, ℕ, ◌+◌, ◌-◌, ◌<◌, List, [], ◌∷◌, ◌++◌, map, refl, sym, ap, ◌∙◌, append_assoc}
use Rattle.std.specs.Prelude.{Bool, true, false, cond, nat_lt, if◌then◌else◌, unsigned_abs}
use Rattle.std.specs.Int.{is_negative}
use Rattle.std.specs.List.{range_with_len, filter}
use Rattle.xs_lists.specs.Bits.{bit_of}
use Rattle.xs_spelling.specs.Counts.{Line}
use Rattle.xs_lists.proofs.Ranges.{range_first}

abbrev pub signs_from : Line → ℕ → ℕ → List ℕ
signs_from line end column = map (λ column. bit_of (is_negative (line.value column))) (filter (λ column. nat_lt 0 (unsigned_abs (line.value column))) (range_with_len column (end - column)))

pub signs_first : (line : Line) (end k : ℕ) (some : Bool) → k < end → nat_lt 0 (unsigned_abs (line.value k)) ≡ some
    → signs_from line end k ≡ (if some then bit_of (is_negative (line.value k)) ∷ [] else []) ++ signs_from line end (k + 1)
signs_first line end k some less e = ap (λ l. map bit (filter test l)) (range_first k end less) ∙ ap (λ t. map bit (cond t (k ∷ filter test rest) (filter test rest))) e ∙ cases some
  where
    bit : ℕ → ℕ
    bit column = bit_of (is_negative (line.value column))

    test : ℕ → Bool
    test column = nat_lt 0 (unsigned_abs (line.value column))

    rest : List ℕ
    rest = range_with_len (k + 1) (end - (k + 1))

    cases : (t : Bool) → map bit (cond t (k ∷ filter test rest) (filter test rest)) ≡ (if t then bit k ∷ [] else []) ++ map bit (filter test rest)
    cases true = refl
    cases false = refl

pub signs_more : (line : Line) (end k : ℕ) (some : Bool) (out new whole : List ℕ) → k < end → nat_lt 0 (unsigned_abs (line.value k)) ≡ some
    → whole ≡ out ++ signs_from line end k → new ≡ out ++ (if some then bit_of (is_negative (line.value k)) ∷ [] else []) → whole ≡ new ++ signs_from line end (k + 1)
signs_more line end k some out new whole less e before put =
    before ∙ ap (λ l. out ++ l) (signs_first line end k some less e) ∙ sym (append_assoc out (if some then bit_of (is_negative (line.value k)) ∷ [] else []) (signs_from line end (k + 1)))
    ∙ ap (λ l. l ++ signs_from line end (k + 1)) (sym put)
