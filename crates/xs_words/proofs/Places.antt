-- The first place that passes a test.
use Rattle.std.proofs.Common.{◌≡◌, ℕ, zero, suc, ◌+◌, ◌-◌, ◌<◌, ◌≤◌, inl, inr, Bool, true, false, cond, List, [], ◌∷◌, ◌++◌, Option, Some, None, map, refl, ap, ◌∙◌, subst, arith}
use Rattle.std.specs.Prelude.{IfSome}
use Rattle.std.specs.List.{find, range_with_len}
use Rattle.std.proofs.lemmas.Bool.Decides.{eqb_tells}
use Rattle.xs_lists.specs.First.{first_of}

abbrev pub or_end : Bool → ℕ → Option ℕ → Option ℕ
or_end test end None = cond test (Some end) None
or_end test end (Some place) = Some place

or_end-step : (last : Bool) (end : ℕ) (test : Bool) (place : ℕ) (rest : Option ℕ) → cond test (Some place) (or_end last end rest) ≡ or_end last end (cond test (Some place) rest)
or_end-step last end true place rest = refl
or_end-step last end false place rest = refl

-- the first of the places, and then of the end
pub first_place : (last : Bool) (end : ℕ) (test : ℕ → Bool) (places : List ℕ)
    → first_of (map (λ place. (test place, place)) places ++ (last, end) ∷ []) ≡ or_end last end (find test places)
first_place last end test [] = refl
first_place last end test (place ∷ places) =
    ap (λ rest. cond (test place) (Some place) rest) (first_place last end test places) ∙ or_end-step last end (test place) place (find test places)

pub record IsFound (test : ℕ → Bool) (low high place : ℕ) : Type 0 where
  pub from : low ≤ place
  pub below : place < high
  pub passes : test place ≡ true

found-more : (test : ℕ → Bool) (low high : ℕ) (found : Option ℕ) → IfSome found (IsFound test (low + 1) high) → IfSome found (IsFound test low high)
found-more test low high None h = h
found-more test low high (Some place) h = record { from = omega (arith, h.from); below = h.below; passes = h.passes }

found-step : (test : ℕ → Bool) (low n : ℕ) (b : Bool) → test low ≡ b → (rest : Option ℕ) → IfSome rest (IsFound test (low + 1) (low + 1 + n)) → IfSome (cond b (Some low) rest) (IsFound test low (low + suc n))
found-step test low n true e rest h = record { from = omega arith; below = omega arith; passes = e }
found-step test low n false e None h = h
found-step test low n false e (Some place) h = record { from = omega (arith, h.from); below = omega (arith, h.below); passes = h.passes }

pub found_in : (test : ℕ → Bool) (low n : ℕ) → IfSome (find test (range_with_len low n)) (IsFound test low (low + n))
found_in test low zero = tt
found_in test low (suc n) = found-step test low n (test low) refl (find test (range_with_len (low + 1) n)) (found_in test (low + 1) n)

below_of : (test : ℕ → Bool) (low n : ℕ) (found : Option ℕ) → IfSome found (IsFound test low n) → IfSome found (λ place. place < n)
below_of test low n None h = h
below_of test low n (Some place) h = h.below

pub found_below : (test : ℕ → Bool) (n : ℕ) → IfSome (find test (range_with_len 0 n)) (λ place. place < n)
found_below test n =
    let same : 0 + n ≡ n = omega arith in
    below_of test 0 n (find test (range_with_len 0 n)) (subst (λ m. IfSome (find test (range_with_len 0 n)) (IsFound test 0 m)) same (found_in test 0 n))

-- where a search ends
abbrev pub stop : ℕ → Option ℕ → ℕ
stop high None = high
stop high (Some place) = place

stop-step : (test : ℕ → Bool) (low n : ℕ) (b : Bool) → test low ≡ b → (rest : Option ℕ)
    → ((k : ℕ) → low + 1 ≤ k → k < stop (low + 1 + n) rest → test k ≡ false)
    → (k : ℕ) → low ≤ k → k < stop (low + suc n) (cond b (Some low) rest) → test k ≡ false
stop-step test low n true e rest after k from below = absurd (omega arith)
stop-step test low n false e rest after k from below =
    let same : low + suc n ≡ low + 1 + n = omega arith in
    elim (eqb_tells low k) [
      | inl here ↦ subst (λ place. test place ≡ false) here.1 e
      | inr apart ↦ after k (omega (arith, apart.1)) (subst (λ high. k < stop high rest) same below)
    ]

-- what is before fails
pub fails_before : (test : ℕ → Bool) (low n k : ℕ) → low ≤ k → k < stop (low + n) (find test (range_with_len low n)) → test k ≡ false
fails_before test low zero k from below = absurd (omega arith)
fails_before test low (suc n) k from below =
    stop-step test low n (test low) refl (find test (range_with_len (low + 1) n)) (fails_before test (low + 1) n) k from below

pub stop-or_end : (last : Bool) (end : ℕ) (found : Option ℕ) → stop end (or_end last end found) ≡ stop end found
stop-or_end true end None = refl
stop-or_end false end None = refl
stop-or_end last end (Some place) = refl

pub or_end-none : (last : Bool) (end : ℕ) (found : Option ℕ) → or_end last end found ≡ None → last ≡ false
or_end-none true end None e = cc
or_end-none false end None e = refl
or_end-none last end (Some place) e = cc

pub stop-shift : (k high : ℕ) (found : Option ℕ) → 1 ≤ k → k < stop high found → k < stop (1 + (high - 1)) found
stop-shift k high None from below = omega arith
stop-shift k high (Some place) from below = below
