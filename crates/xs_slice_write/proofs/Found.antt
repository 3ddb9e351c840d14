-- The first candidate that fits, one candidate after the other, and the choice.
use Rattle.std.proofs.Common.{◌≡◌, ℕ, ◌+◌, ◌<◌, ◌≤◌, List, length, drop, get_or, refl, sym, ap, ◌∙◌, arith}
use Rattle.std.specs.Prelude.{Bool, true, false, find, Some, Option, Ok, Err, Result, nat_le, nat_lt, ◌&&◌, unwrap_or, if◌then◌else◌}
use Rattle.std.proofs.lemmas.Bool.{leb-true, lt-ltb, ltb-true}
use Rattle.std.proofs.lemmas.List.{drop_more}
use Rattle.xs_layout.specs.declared.Candidate.{Candidate}
use Rattle.xs_params.specs.declared.header.Header.{Header}
use Rattle.xs_params.specs.Rows.{Rows}
use Rattle.xs_faults.specs.declared.Budget.{Budget}
use Rattle.xs_rate.specs.Choice.{choice_of}
use Rattle.xs_rate.specs.Chosen.{candidates, chosen_candidate, coarsest, fields_fit_at, fits_at, size_at}

pub find_more : {A : Type 0} (test : A → Bool) (xs : List A) (k : ℕ) (d : A) → k < length xs → test (get_or xs k d) ≡ false → find test (drop k xs) ≡ find test (drop (k + 1) xs)
find_more test xs k d inside e = ap (find test) (drop_more xs k d inside) ∙ ap (λ (b : Bool). if b then Some (get_or xs k d) else find test (drop (k + 1) xs)) e

pub find_here : {A : Type 0} (test : A → Bool) (xs : List A) (k : ℕ) (d : A) → k < length xs → test (get_or xs k d) ≡ true → find test (drop k xs) ≡ Some (get_or xs k d)
find_here test xs k d inside e = ap (find test) (drop_more xs k d inside) ∙ ap (λ (b : Bool). if b then Some (get_or xs k d) else find test (drop (k + 1) xs)) e

abbrev chosen_by : Bool → ℕ → ℕ → ℕ → Candidate → Result Candidate Budget
chosen_by over slice size share candidate = if over then Err (record { slice = slice; size = size; share = share }) else Ok candidate

-- over the share at the coarsest
pub over_choice : (h : Header) (rows : Rows) (share slice size : ℕ) → size ≡ size_at h rows slice (coarsest h) → share < size → chosen_by true slice size share (coarsest h) ≡ choice_of h rows share slice
over_choice h rows share slice size e over =
    let test : nat_lt share (size_at h rows slice (coarsest h)) ≡ true = lt-ltb share (size_at h rows slice (coarsest h)) (omega (arith, over, e)) in
    ap (λ n. chosen_by true slice n share (chosen_candidate h rows share slice)) e ∙ ap (λ b. chosen_by b slice (size_at h rows slice (coarsest h)) share (chosen_candidate h rows share slice)) (sym test)

-- within it there
pub within_choice : (h : Header) (rows : Rows) (share slice size : ℕ) (found : Option Candidate) (last : Candidate) → size ≡ size_at h rows slice (coarsest h) → size ≤ share → last ≡ coarsest h
    → found ≡ find (fits_at h rows share slice) (candidates h) → chosen_by false slice size share (unwrap_or found last) ≡ choice_of h rows share slice
within_choice h rows share slice size found last e within is first =
    ap (λ o. chosen_by false slice size share (unwrap_or o last)) first ∙ ap (λ c. chosen_by false slice size share (unwrap_or (find (fits_at h rows share slice) (candidates h)) c)) is
    ∙ ap (λ b. chosen_by b slice (size_at h rows slice (coarsest h)) share (chosen_candidate h rows share slice)) (sym (none (nat_lt share (size_at h rows slice (coarsest h))) refl))
  where
    none : (test : Bool) → nat_lt share (size_at h rows slice (coarsest h)) ≡ test → test ≡ false
    none true t = absurd (omega (arith, ltb-true share (size_at h rows slice (coarsest h)) t, e, within))
    none false t = refl

-- a slice that is over its share does not fit
pub over_fits : (h : Header) (rows : Rows) (share slice size : ℕ) (candidate : Candidate) → size ≡ size_at h rows slice candidate → share < size → fits_at h rows share slice candidate ≡ false
over_fits h rows share slice size candidate e over = cases (nat_le (size_at h rows slice candidate) share) refl
  where
    cases : (test : Bool) → nat_le (size_at h rows slice candidate) share ≡ test → fits_at h rows share slice candidate ≡ false
    cases true t = absurd (omega (arith, leb-true (size_at h rows slice candidate) share t, e, over))
    cases false t = ap (λ b. b && fields_fit_at h rows slice candidate) t
