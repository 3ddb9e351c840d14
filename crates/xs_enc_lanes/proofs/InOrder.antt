-- The slices of a picture, each at its place.
use Rattle.std.proofs.Common.{◌≡◌, ◌⊎◌, inl, inr, ℕ, ◌<◌, Bool, Option, Some, None, List, [], ◌∷◌, ◌++◌, All, length, get_or, set, refl, sym, ap, ◌∙◌, subst, arith}
use Rattle.std.specs.Prelude.{IsSome, IfSome}
use Rattle.std.specs.List.{Contains}
use Rattle.std.proofs.lemmas.Bool.{cases_eq, cases_lt}
use Rattle.std.proofs.lemmas.List.{get_or-set_same, get_or-set_other, length-set}
use Rattle.std.proofs.lemmas.List.Elements.{All-contains, Contains-append_left, Contains-push, Contains-push_cases}
use Rattle.xs_params.specs.declared.header.Header.{Header}
use Rattle.xs_params.specs.Geometry.{slice_count}
use Rattle.xs_params.specs.Rows.{Rows}
use Rattle.xs_enc_lanes.specs.declared.activity.CodedSlice.{CodedSlice}
use Rattle.xs_enc_lanes.specs.Coded.{HasSlice, IsCodedOutcome}
use Rattle.xs_enc_lanes.specs.Answered.{AreAllThere, AreInOrder, AreRight, AreSliced}

abbrev IsSliceAt : List CodedSlice → ℕ → Option CodedSlice → Type 0
IsSliceAt kept slice place = IfSome place (λ (c : CodedSlice). Contains kept c × (c.slice ≡ slice))

pub order_none : (count : ℕ) (places : List (Option CodedSlice)) → length places ≡ count → All (λ (o : Option CodedSlice). o ≡ None) places → AreInOrder [] count places
order_none count places size none = record {
  size = size;
  each = λ slice below has. absurd (let c = has.1 in let lt = c.1 in omega (arith, lt));
  from = λ slice below. subst (IsSliceAt [] slice) (sym (none slice None (omega (arith, below, size)))) tt;
}

some_at : (o : Option CodedSlice) (c : CodedSlice) → o ≡ Some c → IsSome o
some_at o c e = subst (λ (p : Option CodedSlice). IsSome p) (sym e) refl

slice_still : (kept : List CodedSlice) (c : CodedSlice) (slice : ℕ) (o : Option CodedSlice) → IsSliceAt kept slice o → IsSliceAt (kept ++ c ∷ []) slice o
slice_still kept c slice None h = tt
slice_still kept c slice (Some x) h = (Contains-append_left kept (c ∷ []) x h.0, h.1)

has_or : (kept : List CodedSlice) (c : CodedSlice) (slice : ℕ) → HasSlice (kept ++ c ∷ []) slice → HasSlice kept slice ⊎ (c.slice ≡ slice)
has_or kept c slice (x, has, same) = elim (Contains-push_cases kept c x has) [ inl there ↦ inl (x, there, same) | inr is ↦ inr (ap (λ (z : CodedSlice). z.slice) is ∙ same) ]

module _ (kept : List CodedSlice) (count : ℕ) (places : List (Option CodedSlice)) (c : CodedSlice) (so : AreInOrder kept count places) where
  order_past : (c.slice < length places → ⊥) → AreInOrder (kept ++ c ∷ []) count places
  order_past past = record {
    size = so.size;
    each = λ slice below has. elim (has_or kept c slice has) [
      | inl there ↦ so.each slice below there
      | inr same ↦ let size = so.size in absurd (past (omega (arith, below, same, size)))
    ];
    from = λ slice below. slice_still kept c slice (get_or places slice None) (so.from slice below);
  }

  order_inside : c.slice < length places → AreInOrder (kept ++ c ∷ []) count (set places c.slice (Some c))
  order_inside inside = record {
    size = length-set places c.slice (Some c) ∙ so.size;
    each = λ slice below has. elim (cases_eq slice c.slice) [
      | inl same ↦ some_at (get_or (set places c.slice (Some c)) slice None) c (here slice same)
      | inr other ↦ elim (has_or kept c slice has) [
        | inl there ↦ subst (λ (o : Option CodedSlice). IsSome o) (sym (get_or-set_other places c.slice slice (Some c) None other)) (so.each slice below there)
        | inr same ↦ absurd (other (sym same))
      ]
    ];
    from = λ slice below. elim (cases_eq slice c.slice) [
      | inl same ↦ subst (IsSliceAt (kept ++ c ∷ []) slice) (sym (here slice same)) (Contains-push kept c, sym same)
      | inr other ↦ subst (IsSliceAt (kept ++ c ∷ []) slice) (sym (get_or-set_other places c.slice slice (Some c) None other)) (slice_still kept c slice (get_or places slice None) (so.from slice below))
    ];
  }
    where
      here : (slice : ℕ) → slice ≡ c.slice → get_or (set places c.slice (Some c)) slice None ≡ Some c
      here slice same = ap (λ k. get_or (set places c.slice (Some c)) k None) same ∙ get_or-set_same places c.slice (Some c) None inside

  pub order_more : (now : List (Option CodedSlice)) → (c.slice < length places → now ≡ set places c.slice (Some c)) → ((c.slice < length places → ⊥) → now ≡ places) → AreInOrder (kept ++ c ∷ []) count now
  order_more now placed past = elim (cases_lt c.slice (length places)) [
    | inl below ↦ subst (AreInOrder (kept ++ c ∷ []) count) (sym (placed below)) (order_inside below)
    | inr beyond ↦ subst (AreInOrder (kept ++ c ∷ []) count) (sym (past (λ lt. omega (arith, lt, beyond)))) (order_past (λ lt. omega (arith, lt, beyond)))
  ]

-- All slices are there, and each is right

right_at : (h : Header) (rows : Rows) (share : ℕ) (fill : Bool) (kept : List CodedSlice) (slice : ℕ) (o : Option CodedSlice) → All (λ (c : CodedSlice). IsCodedOutcome h rows share fill c.slice c.outcome) kept → IsSliceAt kept slice o
    → IfSome o (λ (c : CodedSlice). IsCodedOutcome h rows share fill slice c.outcome)
right_at h rows share fill kept slice None all at = tt
right_at h rows share fill kept slice (Some c) all at = subst (λ k. IsCodedOutcome h rows share fill k c.outcome) at.1 (All-contains (λ (x : CodedSlice). IsCodedOutcome h rows share fill x.slice x.outcome) kept c all at.0)

module _ (h : Header) (rows : Rows) (share : ℕ) (fill : Bool) (kept : List CodedSlice) (places : List (Option CodedSlice)) (sliced : AreSliced h rows share fill kept) (order : AreInOrder kept (slice_count h) places) where
  pub all_right : AreRight h rows share fill places
  all_right = record { size = order.size; right = λ slice below. right_at h rows share fill kept slice (get_or places slice None) sliced.right (order.from slice below) }

  pub all_there : AreAllThere places
  all_there slice inside = let below : slice < slice_count h = let size = order.size in omega (arith, inside, size) in order.each slice below (sliced.each slice below)
