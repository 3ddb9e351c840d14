-- The first slice that is over its share.
use Rattle.std.proofs.Common.{◌≡◌, ◌↔◌, ℕ, zero, suc, ◌+◌, ◌<◌, ◌≤◌, ◌∷◌, map, refl, sym, ap, subst, ◌∙◌, arith, inl, inr}
use Rattle.std.specs.Prelude.{Bool, true, false, Option, Some, None, Result, Ok, Err, ◌⊎◌}
use Rattle.std.specs.List.{range_with_len}
use Rattle.std.proofs.lemmas.Bool.{ltb-true, ltb-false, cases_order, cases_eq}
use Rattle.xs_lists.specs.First.{when, first_some}
use Rattle.xs_params.specs.declared.header.Header.{Header}
use Rattle.xs_params.specs.Headers.{header_of}
use Rattle.xs_params.specs.Stream.{Stream}
use Rattle.xs_faults.specs.declared.Budget.{Budget}
use Rattle.xs_params.specs.Geometry.{slice_count}
use Rattle.xs_rate.specs.Coefficients.{Rows, rows_of_picture}
use Rattle.xs_rate.specs.Chosen.{coarsest, size_at, is_over}
use Rattle.xs_rate.specs.Encoding.{encoding_of_rows, encoding_of}
use Rattle.xs_rate.specs.Encoded.{chosen_stream, NoneOver, IsFirstOver, FirstOver}

-- the answers of a test along a range
abbrev answers : {A : Type 0} → (ℕ → Bool) → (ℕ → A) → ℕ → ℕ → Option A
answers test answer first n = first_some (map (λ i. when (test i) (answer i)) (range_with_len first n))

-- either no test of a range holds, or there is a first that does
pub record FirstIs {A : Type 0} (test : ℕ → Bool) (answer : ℕ → A) (first n place : ℕ) : Type 0 where
  pub least : first ≤ place
  pub most : place < first + n
  pub before : (i : ℕ) → first ≤ i → i < place → test i ≡ false
  pub holds : test place ≡ true
  pub gives : answers test answer first n ≡ Some (answer place)

pub record NoneIs {A : Type 0} (test : ℕ → Bool) (answer : ℕ → A) (first n : ℕ) : Type 0 where
  pub none : (i : ℕ) → first ≤ i → i < first + n → test i ≡ false
  pub gives : answers test answer first n ≡ None

pub first_answer : {A : Type 0} (test : ℕ → Bool) (answer : ℕ → A) (first n : ℕ) → NoneIs test answer first n ⊎ ((place : ℕ) × FirstIs test answer first n place)
first_answer test answer first zero = inl (record { none = λ i low high. absurd (omega (arith, low, high)); gives = refl })
first_answer {A} test answer first (suc n) = cases (test first) refl (first_answer test answer (first + 1) n)
  where
    rest : Option A
    rest = answers test answer (first + 1) n

    cases : (t : Bool) → test first ≡ t → NoneIs test answer (first + 1) n ⊎ ((place : ℕ) × FirstIs test answer (first + 1) n place) → NoneIs test answer first (suc n) ⊎ ((place : ℕ) × FirstIs test answer first (suc n) place)
    cases true is later = inr (
      first,
      record {
        least = omega arith;
        most = omega arith;
        before = λ i low high. absurd (omega (arith, low, high));
        holds = is;
        gives = ap (λ t. first_some (when t (answer first) ∷ map (λ i. when (test i) (answer i)) (range_with_len (first + 1) n))) is;
      },
    )
    cases false is later =
        let skipped : answers test answer first (suc n) ≡ rest = ap (λ t. first_some (when t (answer first) ∷ map (λ i. when (test i) (answer i)) (range_with_len (first + 1) n))) is in
        elim later [
          | inl none ↦ inl (record {
            none = λ i low high. elim (cases_eq first i) [ inl same ↦ subst (λ k. test k ≡ false) same is | inr other ↦ none.none i (omega (arith, low, other)) (omega (arith, high)) ];
            gives = skipped ∙ none.gives;
          })
          | inr some ↦ inr (
            some.0,
            record {
              least = omega (arith, some.1.least);
              most = omega (arith, some.1.most);
              before = λ i low high. elim (cases_eq first i) [ inl same ↦ subst (λ k. test k ≡ false) same is | inr other ↦ some.1.before i (omega (arith, low, other)) high ];
              holds = some.1.holds;
              gives = skipped ∙ some.1.gives;
            },
          )
        ]

-- Slices over their share

abbrev pub budget_of : Header → Rows → ℕ → ℕ → Budget
budget_of h rows share slice = record { slice = slice; size = size_at h rows slice (coarsest h); share = share }

-- either no slice is over its share, and there is an encoding, or a first one is
pub cases_over : (h : Header) (rows : Rows) (share : ℕ) (fill : Bool)
    → (NoneOver h rows share × (encoding_of_rows h rows share fill ≡ Ok (chosen_stream h rows share fill)))
    ⊎ ((budget : Budget) × IsFirstOver h rows share budget × (encoding_of_rows h rows share fill ≡ Err budget))
cases_over h rows share fill = elim (first_answer (is_over h rows share) (budget_of h rows share) 0 (slice_count h)) [
  | inl none ↦ inl (
    (λ slice inside. ltb-false share (size_at h rows slice (coarsest h)) (none.none slice (omega arith) (omega (arith, inside)))),
    ap given none.gives,
  )
  | inr some ↦ inr (
    budget_of h rows share some.0,
    record {
      there = omega (arith, some.1.most);
      over = ltb-true share (size_at h rows some.0 (coarsest h)) some.1.holds;
      before = λ slice less. ltb-false share (size_at h rows slice (coarsest h)) (some.1.before slice (omega arith) less);
      size = refl;
      named = refl;
    },
    ap given some.1.gives,
  )
]
  where
    given : Option Budget → Result Stream Budget
    given answer = elim answer [ Some budget ↦ Err budget | None ↦ Ok (chosen_stream h rows share fill) ]

-- there is one first slice
one_first : (h : Header) (rows : Rows) (share : ℕ) (budget other : Budget) → IsFirstOver h rows share budget → IsFirstOver h rows share other → budget ≡ other
one_first h rows share budget other p q =
    let same : budget.slice ≡ other.slice = elim (cases_order budget.slice other.slice) [
      | inl same ↦ same
      | inr differs ↦ elim differs [
        | inl less ↦ absurd (omega (arith, p.over, q.before budget.slice less))
        | inr more ↦ absurd (omega (arith, q.over, p.before other.slice more))
      ]
    ] in
    ap (λ size. record { slice = budget.slice; size = size; share = budget.share }) p.size
    ∙ ap (λ named. record { slice = budget.slice; size = size_at h rows budget.slice (coarsest h); share = named }) p.named
    ∙ ap (budget_of h rows share) same
    ∙ sym (ap (λ size. record { slice = other.slice; size = size; share = other.share }) q.size
    ∙ ap (λ named. record { slice = other.slice; size = size_at h rows other.slice (coarsest h); share = named }) q.named)

pub same_budget : (x : Result Stream Budget) (a b : Budget) → x ≡ Err a → x ≡ Err b → a ≡ b
same_budget x a b p q = let e = sym p ∙ q in cc e

pub same_stream : (x : Result Stream Budget) (a b : Stream) → x ≡ Ok a → x ≡ Ok b → a ≡ b
same_stream x a b p q = let e = sym p ∙ q in cc e

pub no_both : (x : Result Stream Budget) (a : Stream) (b : Budget) → x ≡ Ok a → x ≡ Err b → ⊥
no_both x a b p q = let e = sym p ∙ q in absurd (cc e)

rows_refused : (h : Header) (rows : Rows) (share : ℕ) (fill : Bool) (budget : Budget) → (encoding_of_rows h rows share fill ≡ Err budget) ↔ IsFirstOver h rows share budget
rows_refused h rows share fill budget = elim (cases_over h rows share fill) [
  | inl none ↦ (
    (λ e. absurd (no_both (encoding_of_rows h rows share fill) (chosen_stream h rows share fill) budget none.1 e)),
    (λ p. absurd (omega (arith, p.over, none.0 budget.slice p.there))),
  )
  | inr some ↦ (
    (λ e. subst (IsFirstOver h rows share) (same_budget (encoding_of_rows h rows share fill) some.0 budget some.2 e) some.1),
    (λ p. some.2 ∙ ap Err (one_first h rows share some.0 budget some.1 p)),
  )
]

rows_encoded : (h : Header) (rows : Rows) (share : ℕ) (fill : Bool) → ((stream : Stream) × (encoding_of_rows h rows share fill ≡ Ok stream)) ↔ NoneOver h rows share
rows_encoded h rows share fill = elim (cases_over h rows share fill) [
  | inl none ↦ ((λ e. none.0), (λ p. (chosen_stream h rows share fill, none.1)))
  | inr some ↦ (
    (λ e. absurd (no_both (encoding_of_rows h rows share fill) e.0 some.0 e.1 some.2)),
    (λ p. absurd (omega (arith, some.1.over, p some.0.slice some.1.there))),
  )
]

rows_given : (h : Header) (rows : Rows) (share : ℕ) (fill : Bool) → NoneOver h rows share → encoding_of_rows h rows share fill ≡ Ok (chosen_stream h rows share fill)
rows_given h rows share fill p = elim (cases_over h rows share fill) [
  | inl none ↦ none.1
  | inr some ↦ absurd (omega (arith, some.1.over, p some.0.slice some.1.there))
]

pub first_over_law : FirstOver
unfolding encoding_of
first_over_law = record {
  refused = λ s picture budget. rows_refused (header_of s) (rows_of_picture (header_of s) picture) s.share s.fill budget;
  encoded = λ s picture. rows_encoded (header_of s) (rows_of_picture (header_of s) picture) s.share s.fill;
  given = λ s picture. rows_given (header_of s) (rows_of_picture (header_of s) picture) s.share s.fill;
}
