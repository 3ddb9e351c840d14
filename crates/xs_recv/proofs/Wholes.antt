-- Units that are whole, and those that are not.
use Rattle.std.proofs.Common.{◌≡◌, ℕ, ◌+◌, ◌<◌, inl, inr, List, [], ◌∷◌, ◌++◌, true, false, Option, Some, None, sym, ap, subst, ◌∙◌, arith, append-nil, length, get_or, length-append, Contains}
use Rattle.std.specs.Prelude.{IsSomeAnd, MatchOption, is_some}
use Rattle.std.specs.List.{flat_map}
use Rattle.std.proofs.lemmas.Bool.{cases_eq, cases_order}
use Rattle.std.specs.List.Sorted.{IsStrictlyIncreasing}
use Rattle.std.proofs.Math.Seq.{get_or-append_seam}
use Rattle.std.proofs.lemmas.List.{get_or_append_left}
use Rattle.std.proofs.lemmas.List.Elements.{Contains-append_left, Contains-get_or, Contains-push, Contains-push_cases}
use Rattle.std.proofs.lemmas.List.Concat.{flat_map-append}
use Rattle.xs_lists.specs.Spelling.{upto}
use Rattle.xs_lists.proofs.Each.{range-more}
use Rattle.xs_capture.specs.Selection.{AreMissing, HasBytes, Held, IsBounded, IsWholeUnit, bytes_at, unit_bytes}
use Rattle.xs_capture.proofs.Selections.{not_both, one_end}
use Rattle.xs_capture.proofs.Wholes.{StaysOpen, whole_or_not}

-- a unit is not whole where a place is not held and none before closes it
pub gap : (held : Held) (unit place : ℕ) → held unit place ≡ None → StaysOpen held unit place → ¬ IsWholeUnit held unit
gap held unit place none before whole = elim (cases_order whole.0 place) [
  | inl same ↦ subst (λ o. IsSomeAnd o (λ p. p.last ≡ true)) (ap (held unit) same ∙ none) whole.1.closes
  | inr other ↦ elim other [
    | inl early ↦ not_both (held unit whole.0) whole.1.closes (before whole.0 early)
    | inr late ↦ subst (λ o. IsSomeAnd o (λ p. p.last ≡ false)) none (whole.1.before place late)
  ]
]

-- one place more does not close it
pub stays_open : (held : Held) (unit place : ℕ) → StaysOpen held unit place → IsSomeAnd (held unit place) (λ p. p.last ≡ false) → StaysOpen held unit (place + 1)
stays_open held unit place before here at below = elim (cases_eq at place) [
  | inl same ↦ subst (λ k. IsSomeAnd (held unit k) (λ p. p.last ≡ false)) (sym same) here
  | inr other ↦ before at (omega (arith, below, other))
]

-- the bytes of one place more
pub joined_more : (held : Held) (unit place : ℕ) → flat_map (bytes_at held unit) (upto (place + 1)) ≡ flat_map (bytes_at held unit) (upto place) ++ bytes_at held unit place
joined_more held unit place =
    let here : 0 + place ≡ place = omega arith in
    ap (flat_map (bytes_at held unit)) (range-more 0 place ∙ ap (λ k. upto place ++ k ∷ []) here) ∙ flat_map-append (bytes_at held unit) (upto place) (place ∷ [])
    ∙ ap (λ l. flat_map (bytes_at held unit) (upto place) ++ l) (append-nil (bytes_at held unit place))

-- The slices whose units are not whole

left_of : (xs ys : List ℕ) (i d : ℕ) → i < length xs → get_or (xs ++ ys) i d ≡ get_or xs i d
left_of xs ys i d below = get_or_append_left xs ys d i below

-- a number over all others at the end
increasing_push : (xs : List ℕ) (n : ℕ) → IsStrictlyIncreasing xs → ((m : ℕ) → Contains xs m → m < n) → IsStrictlyIncreasing (xs ++ n ∷ [])
increasing_push xs n rising below k bound =
    let size : length (xs ++ n ∷ []) ≡ length xs + 1 = length-append xs (n ∷ []) in
    let first : k < length xs = omega (arith, bound, size) in
    let at : get_or (xs ++ n ∷ []) k 0 ≡ get_or xs k 0 = left_of xs (n ∷ []) k 0 first in
    elim (cases_eq (k + 1) (length xs)) [
      | inl end ↦
          let small : get_or xs k 0 < n = below (get_or xs k 0) (Contains-get_or xs k 0 first) in
          let last : get_or (xs ++ n ∷ []) (k + 1) 0 ≡ n = ap (λ i. get_or (xs ++ n ∷ []) i 0) end ∙ get_or-append_seam xs n [] 0 in
          omega (arith, at, small, last)
      | inr other ↦
          let inside : k + 1 < length xs = omega (arith, bound, size, other) in
          let next : get_or (xs ++ n ∷ []) (k + 1) 0 ≡ get_or xs (k + 1) 0 = left_of xs (n ∷ []) (k + 1) 0 inside in
          let more : get_or xs k 0 < get_or xs (k + 1) 0 = rising k inside in
          omega (arith, at, next, more)
    ]

-- one slice more that is not whole
pub missing_more : (held : Held) (n : ℕ) (list : List ℕ) → AreMissing held n list → ¬ IsWholeUnit held (n + 1) → AreMissing held (n + 1) (list ++ n ∷ [])
missing_more held n list listed fails = record {
  ascending = increasing_push list n listed.ascending (λ m has. ((listed.those m).0 has).0);
  those = λ m. (
    (λ has. elim (Contains-push_cases list n m has) [
      | inl before ↦ let p = (listed.those m).0 before in let below : m < n + 1 = omega (arith, p.0) in (below, p.1)
      | inr same ↦ let below : m < n + 1 = omega (arith, same) in (below, subst (λ k. ¬ IsWholeUnit held (k + 1)) same fails)
    ]),
    (λ p. elim (cases_eq m n) [
      | inl same ↦ subst (Contains (list ++ n ∷ [])) (sym same) (Contains-push list n)
      | inr other ↦ Contains-append_left list (n ∷ []) m ((listed.those m).1 (omega (arith, p.0, other), p.1))
    ]),
  );
}

-- and one that is
pub missing_same : (held : Held) (n : ℕ) (list : List ℕ) → AreMissing held n list → IsWholeUnit held (n + 1) → AreMissing held (n + 1) list
missing_same held n list listed whole = record {
  ascending = listed.ascending;
  those = λ m. (
    (λ has. let p = (listed.those m).0 has in let below : m < n + 1 = omega (arith, p.0) in (below, p.1)),
    (λ p. elim (cases_eq m n) [
      | inl same ↦ absurd (p.1 (subst (λ k. IsWholeUnit held (k + 1)) (sym same) whole))
      | inr other ↦ (listed.those m).1 (omega (arith, p.0, other), p.1)
    ]),
  );
}

pub none_missing : (held : Held) (list : List ℕ) → list ≡ [] → AreMissing held 0 list
none_missing held list none = subst (AreMissing held 0) (sym none) (record {
  ascending = λ k bound. absurd (omega (arith, bound));
  those = λ m. ((λ has. absurd (omega (arith, has.1))), (λ p. absurd (omega (arith, p.0))));
})

-- no slice is missing from an empty list
pub all_whole : (held : Held) (count : ℕ) → IsBounded held → AreMissing held count [] → (slice : ℕ) → slice < count → IsWholeUnit held (slice + 1)
all_whole held count bounded missing slice there = elim (whole_or_not held bounded (slice + 1)) [
  | inl whole ↦ whole
  | inr not_whole ↦ let has = (missing.those slice).1 (there, not_whole) in absurd (omega (arith, has.1))
]

-- the answers of a search
pub not_ended : (o : Option ℕ) (P : Type 0) (Q : ℕ → Type 0) → is_some o ≡ false → MatchOption o P Q → P
not_ended None P Q e p = p
not_ended (Some n) P Q e p = absurd (cc e)

pub ended : (o : Option ℕ) (P : Type 0) (Q : ℕ → Type 0) → is_some o ≡ true → MatchOption o P Q → (n : ℕ) × Q n
ended None P Q e p = absurd (cc e)
ended (Some n) P Q e p = (n, p)

-- a unit has one list of bytes
pub one_unit : (held : Held) (unit : ℕ) (a b : List ℕ) → HasBytes held unit a → HasBytes held unit b → a ≡ b
one_unit held unit a b p q = p.2 ∙ ap (unit_bytes held unit) (one_end held unit p.0 q.0 p.1 q.1) ∙ sym q.2
