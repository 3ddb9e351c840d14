-- A list that was lent as a slice, as it comes back.
use Rattle.std.proofs.Common.{◌≡◌, inl, inr, ℕ, ◌<◌, ◌≤◌, length, List, ◌++◌, get_or, take, drop, sym, ◌∙◌, subst, arith}
use Rattle.std.proofs.lemmas.Bool.{cases_lt}
use Rattle.std.proofs.lemmas.List.{get_or-take, get_or_append_left, get_or_default, get_or_past, length-append, length-drop, length-take-le}

module _ {A : Type 0} (old new : List A) (n : ℕ) (size : n ≡ length old) where
  abbrev pub back : List A
  back = take n (new ++ drop (length new) old)

  pub length_back : length back ≡ length old
  length_back =
      let all = length-append new (drop (length new) old) in
      let rest = length-drop (length new) old in
      let enough : n ≤ length (new ++ drop (length new) old) = omega (arith, all, rest, size) in
      length-take-le n (new ++ drop (length new) old) enough ∙ size

  -- what holds of each element and of what a call made of it
  pub each_back : (P : A → A → Type 0) → ((i : ℕ) (d : A) → i < length old → P (get_or old i d) (get_or new i d)) → (i : ℕ) (d : A) → i < length old → P (get_or old i d) (get_or back i d)
  each_back P made i d there = elim (cases_lt i (length new)) [
    | inl inside ↦ subst (P (get_or old i d)) (sym (taken d ∙ get_or_append_left new (drop (length new) old) d i inside)) (made i d there)
    | inr past ↦
        let same = get_or_default old i (get_or back i d) d there in
        let gone = get_or_past new i (get_or back i d) (omega (arith, past)) in
        subst (λ a. P a (get_or back i d)) same (subst (P (get_or old i (get_or back i d))) gone (made i (get_or back i d) there))
  ]
    where
      taken : (d : A) → get_or back i d ≡ get_or (new ++ drop (length new) old) i d
      taken d = get_or-take n (new ++ drop (length new) old) i d (omega (arith, there, size))
