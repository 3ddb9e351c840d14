-- The copies of slices, each at its place.
use Rattle.std.proofs.Common.{◌≡◌, ◌⊎◌, inl, inr, ℕ, ◌+◌, ◌<◌, ◌≤◌, Bool, true, Option, Some, None, List, [], ◌∷◌, ◌++◌, All, length, get_or, set, refl, sym, ap, ◌∙◌, subst, arith}
use Rattle.std.specs.Prelude.{IsSome, IfSome}
use Rattle.std.specs.List.{Contains}
use Rattle.std.proofs.lemmas.Bool.{cases_eq, cases_lt}
use Rattle.std.proofs.lemmas.List.{get_or-set_same, get_or-set_other, length-set}
use Rattle.std.proofs.lemmas.List.Elements.{All-contains, Contains-append_left, Contains-push, Contains-push_cases}
use Rattle.xs_params.specs.declared.header.Header.{Header}
use Rattle.xs_params.specs.Geometry.{slice_count}
use Rattle.xs_lane_core.specs.Machine.{Actor}
use Rattle.xs_capture.specs.Selection.{HasBytes, Held}
use Rattle.xs_handover.specs.Blocks.{Carried}
use Rattle.xs_recv.specs.declared.activity.SliceCopy.{SliceCopy}
use Rattle.xs_recv.specs.Activities.{HasCopy, IsReadBy}
use Rattle.xs_recv.specs.Reading.{AreInOrder, AreReadable}

abbrev IsCopyAt : List SliceCopy → ℕ → Option SliceCopy → Type 0
IsCopyAt copies slice place = IfSome place (λ (c : SliceCopy). Contains copies c × (c.slice ≡ slice))

pub order_none : (count : ℕ) (places : List (Option SliceCopy)) → length places ≡ count → All (λ (o : Option SliceCopy). o ≡ None) places → AreInOrder [] count places
order_none count places size none = record {
  size = size;
  each = λ slice below has. absurd (let c = has.1 in let lt = c.1 in omega (arith, lt));
  from = λ slice below. subst (IsCopyAt [] slice) (sym (none slice None (omega (arith, below, size)))) tt;
}

some_at : (o : Option SliceCopy) (c : SliceCopy) → o ≡ Some c → IsSome o
some_at o c e = subst (λ (p : Option SliceCopy). IsSome p) (sym e) refl

copy_still : (copies : List SliceCopy) (c : SliceCopy) (slice : ℕ) (o : Option SliceCopy) → IsCopyAt copies slice o → IsCopyAt (copies ++ c ∷ []) slice o
copy_still copies c slice None h = tt
copy_still copies c slice (Some x) h = (Contains-append_left copies (c ∷ []) x h.0, h.1)

has_or : (copies : List SliceCopy) (c : SliceCopy) (slice : ℕ) → HasCopy (copies ++ c ∷ []) slice → HasCopy copies slice ⊎ (c.slice ≡ slice)
has_or copies c slice (x, has, same) = elim (Contains-push_cases copies c x has) [
  | inl there ↦ inl (x, there, same)
  | inr is ↦ inr (ap (λ (z : SliceCopy). z.slice) is ∙ same)
]

module _ (copies : List SliceCopy) (count : ℕ) (places : List (Option SliceCopy)) (c : SliceCopy) (so : AreInOrder copies count places) where
  order_past : (c.slice < length places → ⊥) → AreInOrder (copies ++ c ∷ []) count places
  order_past past = record {
    size = so.size;
    each = λ slice below has. elim (has_or copies c slice has) [
      | inl there ↦ so.each slice below there
      | inr same ↦ let size = so.size in absurd (past (omega (arith, below, same, size)))
    ];
    from = λ slice below. copy_still copies c slice (get_or places slice None) (so.from slice below);
  }

  order_inside : c.slice < length places → AreInOrder (copies ++ c ∷ []) count (set places c.slice (Some c))
  order_inside inside = record {
    size = length-set places c.slice (Some c) ∙ so.size;
    each = λ slice below has. elim (cases_eq slice c.slice) [
      | inl same ↦ some_at (get_or (set places c.slice (Some c)) slice None) c (here slice same)
      | inr other ↦ elim (has_or copies c slice has) [
        | inl there ↦ subst (λ (o : Option SliceCopy). IsSome o) (sym (get_or-set_other places c.slice slice (Some c) None other)) (so.each slice below there)
        | inr same ↦ absurd (other (sym same))
      ]
    ];
    from = λ slice below. elim (cases_eq slice c.slice) [
      | inl same ↦ subst (IsCopyAt (copies ++ c ∷ []) slice) (sym (here slice same)) (Contains-push copies c, sym same)
      | inr other ↦ subst (IsCopyAt (copies ++ c ∷ []) slice) (sym (get_or-set_other places c.slice slice (Some c) None other)) (copy_still copies c slice (get_or places slice None) (so.from slice below))
    ];
  }
    where
      here : (slice : ℕ) → slice ≡ c.slice → get_or (set places c.slice (Some c)) slice None ≡ Some c
      here slice same = ap (λ k. get_or (set places c.slice (Some c)) k None) same ∙ get_or-set_same places c.slice (Some c) None inside

  pub order_more : (now : List (Option SliceCopy)) → (c.slice < length places → now ≡ set places c.slice (Some c)) → ((c.slice < length places → ⊥) → now ≡ places) → AreInOrder (copies ++ c ∷ []) count now
  order_more now placed past = elim (cases_lt c.slice (length places)) [
    | inl below ↦ subst (AreInOrder (copies ++ c ∷ []) count) (sym (placed below)) (order_inside below)
    | inr beyond ↦ subst (AreInOrder (copies ++ c ∷ []) count) (sym (past (λ lt. omega (arith, lt, beyond)))) (order_past (λ lt. omega (arith, lt, beyond)))
  ]

-- Each slice of the header has its copy

abbrev pub IsReadableAt : Held → Header → Actor Carried → Bool → ℕ → Option SliceCopy → Type 0
IsReadableAt held h v trusted slice place = IfSome place (λ (c : SliceCopy). (c.slice ≡ slice) × HasBytes held (slice + 1) c.bytes × (trusted ≡ true → IsReadBy h v c.slice c.bytes c.reading))

readable_at : (held : Held) (h : Header) (v : Actor Carried) (trusted : Bool) (copies : List SliceCopy) (slice : ℕ) (o : Option SliceCopy) → All (λ (c : SliceCopy). HasBytes held (c.slice + 1) c.bytes) copies
    → (trusted ≡ true → All (λ (c : SliceCopy). IsReadBy h v c.slice c.bytes c.reading) copies) → IsCopyAt copies slice o → IsReadableAt held h v trusted slice o
readable_at held h v trusted copies slice None bytes read at = tt
readable_at held h v trusted copies slice (Some c) bytes read at = (
  at.1,
  subst (λ k. HasBytes held (k + 1) c.bytes) at.1 (All-contains (λ (x : SliceCopy). HasBytes held (x.slice + 1) x.bytes) copies c bytes at.0),
  λ t. All-contains (λ (x : SliceCopy). IsReadBy h v x.slice x.bytes x.reading) copies c (read t) at.0,
)

pub readable : (held : Held) (h : Header) (v : Actor Carried) (trusted : Bool) (copies : List SliceCopy) (places : List (Option SliceCopy)) → All (λ (c : SliceCopy). HasBytes held (c.slice + 1) c.bytes) copies
    → ((slice : ℕ) → slice < slice_count h → HasCopy copies slice) → (trusted ≡ true → All (λ (c : SliceCopy). IsReadBy h v c.slice c.bytes c.reading) copies) → AreInOrder copies (slice_count h) places → AreReadable held h v trusted places
readable held h v trusted copies places bytes each read order = record {
  count = order.size;
  there = λ slice below. order.each slice below (each slice below);
  slice = λ slice below. readable_at held h v trusted copies slice (get_or places slice None) bytes read (order.from slice below);
}

-- What is taken of a place

pub taken : (held : Held) (h : Header) (v : Actor Carried) (trusted : Bool) (places list : List (Option SliceCopy)) (slice : ℕ) (o : Option SliceCopy) → AreReadable held h v trusted places → slice < slice_count h
    → ((k : ℕ) → slice ≤ k → get_or list k None ≡ get_or places k None) → o ≡ get_or list slice None → IsSome o × IsReadableAt held h v trusted slice o
taken held h v trusted places list slice o readable below left is =
    let e : o ≡ get_or places slice None = is ∙ left slice (omega arith) in
    (subst (λ (p : Option SliceCopy). IsSome p) (sym e) (readable.there slice below), subst (IsReadableAt held h v trusted slice) (sym e) (readable.slice slice below))

-- the places past it are as before
pub left_more : (places list now : List (Option SliceCopy)) (slice : ℕ) → now ≡ set list slice None → ((k : ℕ) → slice ≤ k → get_or list k None ≡ get_or places k None) → (k : ℕ) → slice + 1 ≤ k → get_or now k None ≡ get_or places k None
left_more places list now slice e left k past =
    ap (λ (l : List (Option SliceCopy)). get_or l k None) e ∙ get_or-set_other list slice k None None (λ same. omega (arith, past, same)) ∙ left k (omega (arith, past))
