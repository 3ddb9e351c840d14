-- The first mode with the fewest bits.
use Rattle.std.proofs.Common.{◌≡◌, ℕ, zero, suc, ◌<◌, ◌≤◌, arith, Bool, true, false, refl, sym, ◌∙◌}
use Rattle.std.specs.Prelude.{if◌then◌else◌, nat_le, unwrap_or, Some, None}
use Rattle.std.proofs.Common.{inl, inr}
use Rattle.std.proofs.lemmas.Bool.{cases_lt, and_from, le-leb, false≢true}
use Rattle.xs_rate.specs.Modes.{is_least, fewest, mode_size, IsFirstFewest, FewestIsFirst}

least_of : (bits : ℕ → ℕ) (m : ℕ) → is_least bits m ≡ true → (d : ℕ) → d < 4 → bits m ≤ bits d
least_of bits m e zero inside = grind (arith, e)
least_of bits m e (suc zero) inside = grind (arith, e)
least_of bits m e (suc (suc zero)) inside = grind (arith, e)
least_of bits m e (suc (suc (suc zero))) inside = grind (arith, e)
least_of bits m e (suc (suc (suc (suc d)))) inside = absurd (omega arith)

-- one with more bits than some other is not among the fewest
more_than : (bits : ℕ → ℕ) (m d : ℕ) → is_least bits d ≡ false → ((e : ℕ) → e < 4 → bits m ≤ bits e) → bits m < bits d
more_than bits m d e least =
    let a = least 0 (omega arith) in
    let b = least 1 (omega arith) in
    let c = least 2 (omega arith) in
    let f = least 3 (omega arith) in
    grind (arith, e)

-- the last has fewer than one that is no more than the first three and yet not among the fewest
last_less : (bits : ℕ → ℕ) (m : ℕ) → is_least bits m ≡ false → bits m ≤ bits 0 → bits m ≤ bits 1 → bits m ≤ bits 2 → bits 3 < bits m
last_less bits m e a b c = grind (arith, e)

-- the last has the fewest where none before it has
last_below : (bits : ℕ → ℕ) → is_least bits 0 ≡ false → is_least bits 1 ≡ false → is_least bits 2 ≡ false → (bits 3 < bits 0) × (bits 3 < bits 1) × (bits 3 < bits 2)
last_below bits a b c =
    elim (cases_lt (bits 1) (bits 0)) [
      | inl one ↦ elim (cases_lt (bits 2) (bits 1)) [
        | inl two ↦ let h = last_less bits 2 c (omega arith) (omega arith) (omega arith) in (omega arith, omega arith, h)
        | inr two ↦ let h = last_less bits 1 b (omega arith) (omega arith) two in (omega arith, h, omega arith)
      ]
      | inr one ↦ elim (cases_lt (bits 2) (bits 0)) [
        | inl two ↦ let h = last_less bits 2 c (omega arith) (omega arith) (omega arith) in (omega arith, omega arith, h)
        | inr two ↦ let h = last_less bits 0 a (omega arith) one two in (h, omega arith, omega arith)
      ]
    ]

last_least : (bits : ℕ → ℕ) → is_least bits 0 ≡ false → is_least bits 1 ≡ false → is_least bits 2 ≡ false → (d : ℕ) → d < 4 → bits 3 ≤ bits d
last_least bits a b c zero inside = let h = (last_below bits a b c).0 in omega arith
last_least bits a b c (suc zero) inside = let h = (last_below bits a b c).1 in omega arith
last_least bits a b c (suc (suc zero)) inside = let h = (last_below bits a b c).2 in omega arith
last_least bits a b c (suc (suc (suc zero))) inside = omega arith
last_least bits a b c (suc (suc (suc (suc d)))) inside = absurd (omega arith)

-- so it passes the test
last_passes : (bits : ℕ → ℕ) → is_least bits 0 ≡ false → is_least bits 1 ≡ false → is_least bits 2 ≡ false → is_least bits 3 ≡ true
last_passes bits a b c =
    let h = last_below bits a b c in
    and_from (nat_le (bits 3) (bits 0)) _ (le-leb (bits 3) (bits 0) (omega (arith, h.0)))
    (and_from (nat_le (bits 3) (bits 1)) _ (le-leb (bits 3) (bits 1) (omega (arith, h.1)))
    (and_from (nat_le (bits 3) (bits 2)) _ (le-leb (bits 3) (bits 2) (omega (arith, h.2)))
    (and_from (nat_le (bits 3) (bits 3)) true (le-leb (bits 3) (bits 3) (omega arith)) refl)))

-- the first of the modes by the results of the tests
abbrev first_mode : Bool → Bool → Bool → Bool → ℕ
first_mode s t u v = unwrap_or (if s then Some 0 else (if t then Some 1 else (if u then Some 2 else (if v then Some 3 else None)))) 0

by_tests : (bits : ℕ → ℕ) (s t u v : Bool) → is_least bits 0 ≡ s → is_least bits 1 ≡ t → is_least bits 2 ≡ u → is_least bits 3 ≡ v → IsFirstFewest bits (first_mode s t u v)
by_tests bits true t u v a b c d = record { is_mode = omega arith; least = least_of bits 0 a; first = λ d less. absurd (omega arith) }
by_tests bits false true u v a b c d = record { is_mode = omega arith; least = least_of bits 1 b; first = before }
  where
    before : (d : ℕ) → d < 1 → bits 1 < bits d
    before zero less = more_than bits 1 0 a (least_of bits 1 b)
    before (suc d) less = absurd (omega arith)
by_tests bits false false true v a b c d = record { is_mode = omega arith; least = least_of bits 2 c; first = before }
  where
    before : (d : ℕ) → d < 2 → bits 2 < bits d
    before zero less = more_than bits 2 0 a (least_of bits 2 c)
    before (suc zero) less = more_than bits 2 1 b (least_of bits 2 c)
    before (suc (suc d)) less = absurd (omega arith)
by_tests bits false false false false a b c d = absurd (false≢true (sym d ∙ last_passes bits a b c))
by_tests bits false false false true a b c d = record { is_mode = omega arith; least = last_least bits a b c; first = before }
  where
    before : (d : ℕ) → d < 3 → bits 3 < bits d
    before zero less = more_than bits 3 0 a (last_least bits a b c)
    before (suc zero) less = more_than bits 3 1 b (last_least bits a b c)
    before (suc (suc zero)) less = more_than bits 3 2 c (last_least bits a b c)
    before (suc (suc (suc d))) less = absurd (omega arith)

pub first_fewest : (bits : ℕ → ℕ) → IsFirstFewest bits (fewest bits)
first_fewest bits = by_tests bits (is_least bits 0) (is_least bits 1) (is_least bits 2) (is_least bits 3) refl refl refl refl

pub fewest_is_first : FewestIsFirst
fewest_is_first h content precinct band = first_fewest (mode_size h content precinct band)
