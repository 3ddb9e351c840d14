-- The slices whose units are not whole, one after the other.
use Rattle.std.proofs.Common.{◌≡◌, ℕ, ◌+◌, ◌<◌, inl, inr, List, [], ◌∷◌, ◌++◌, sym, ap, subst, ◌∙◌, arith, length, get_or, length-append, Contains}
use Rattle.std.proofs.lemmas.Bool.{cases_eq}
use Rattle.std.specs.List.Sorted.{IsStrictlyIncreasing}
use Rattle.std.proofs.Math.Seq.{get_or-append_seam}
use Rattle.std.proofs.lemmas.List.{get_or_append_left}
use Rattle.std.proofs.lemmas.List.Elements.{Contains-append_left, Contains-get_or, Contains-push, Contains-push_cases}
use Rattle.xs_capture.specs.Selection.{AreMissing, Held, IsWholeUnit}

left_of : (xs ys : List ℕ) (i d : ℕ) → i < length xs → get_or (xs ++ ys) i d ≡ get_or xs i d
left_of xs ys i d below = get_or_append_left xs ys d i below

-- a number over all others at the end
increasing_push : (xs : List ℕ) (n : ℕ) → IsStrictlyIncreasing xs → ((m : ℕ) → Contains xs m → m < n) → IsStrictlyIncreasing (xs ++ n ∷ [])
increasing_push xs n rising below k bound =
    let size : length (xs ++ n ∷ []) ≡ length xs + 1 = length-append xs (n ∷ []) in
    let first : k < length xs = omega (arith, bound, size) in
    let at : get_or (xs ++ n ∷ []) k 0 ≡ get_or xs k 0 = left_of xs (n ∷ []) k 0 first in
    elim (cases_eq (k + 1) (length xs)) [
      | inl end ↦
          let small : get_or xs k 0 < n = below (get_or xs k 0) (Contains-get_or xs k 0 first) in
          let last : get_or (xs ++ n ∷ []) (k + 1) 0 ≡ n = ap (λ i. get_or (xs ++ n ∷ []) i 0) end ∙ get_or-append_seam xs n [] 0 in
          omega (arith, at, small, last)
      | inr other ↦
          let inside : k + 1 < length xs = omega (arith, bound, size, other) in
          let next : get_or (xs ++ n ∷ []) (k + 1) 0 ≡ get_or xs (k + 1) 0 = left_of xs (n ∷ []) (k + 1) 0 inside in
          let more : get_or xs k 0 < get_or xs (k + 1) 0 = rising k inside in
          omega (arith, at, next, more)
    ]

-- one slice more that is not whole
pub missing_more : (held : Held) (n : ℕ) (list : List ℕ) → AreMissing held n list → ¬ IsWholeUnit held (n + 1) → AreMissing held (n + 1) (list ++ n ∷ [])
missing_more held n list listed fails = record {
  ascending = increasing_push list n listed.ascending (λ m has. ((listed.those m).0 has).0);
  those = λ m. (
    (λ has. elim (Contains-push_cases list n m has) [
      | inl before ↦ let p = (listed.those m).0 before in let below : m < n + 1 = omega (arith, p.0) in (below, p.1)
      | inr same ↦ let below : m < n + 1 = omega (arith, same) in (below, subst (λ k. ¬ IsWholeUnit held (k + 1)) same fails)
    ]),
    (λ p. elim (cases_eq m n) [
      | inl same ↦ subst (Contains (list ++ n ∷ [])) (sym same) (Contains-push list n)
      | inr other ↦ Contains-append_left list (n ∷ []) m ((listed.those m).1 (omega (arith, p.0, other), p.1))
    ]),
  );
}

-- and one that is
pub missing_same : (held : Held) (n : ℕ) (list : List ℕ) → AreMissing held n list → IsWholeUnit held (n + 1) → AreMissing held (n + 1) list
missing_same held n list listed whole = record {
  ascending = listed.ascending;
  those = λ m. (
    (λ has. let p = (listed.those m).0 has in let below : m < n + 1 = omega (arith, p.0) in (below, p.1)),
    (λ p. elim (cases_eq m n) [
      | inl same ↦ absurd (p.1 (subst (λ k. IsWholeUnit held (k + 1)) (sym same) whole))
      | inr other ↦ (listed.those m).1 (omega (arith, p.0, other), p.1)
    ]),
  );
}

pub none_missing : (held : Held) (list : List ℕ) → list ≡ [] → AreMissing held 0 list
none_missing held list none = subst (AreMissing held 0) (sym none) (record {
  ascending = λ k bound. absurd (omega (arith, bound));
  those = λ m. ((λ has. absurd (omega (arith, has.1))), (λ p. absurd (omega (arith, p.0))));
})
