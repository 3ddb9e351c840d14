-- Packets sorted by their timestamps.
use Rattle.std.proofs.Common.{◌≡◌, ◌≢◌, ℕ, ◌<◌, ◌≤◌, List, [], ◌∷◌, ◌++◌, length, map, set, get_or, sym, ap, ◌∙◌, arith, Contains, Err}
use mathlib.Core.Logic.{inl, inr}
use Rattle.std.specs.Prelude.{nat_eq, if◌then◌else◌}
use Rattle.std.specs.List.{dedup}
use Rattle.std.specs.List.Sorted.{IsStrictlyIncreasing, IsPermutation, IsSorted, IsBinarySearchResult}
use Rattle.std.specs.Ordering.{nat_cmp}
use Rattle.std.proofs.Math.Dec.{eqb}
use Rattle.std.proofs.lemmas.Bool.{cases_order, cases_lt, eqb-true, eq-eqb}
use Rattle.std.proofs.lemmas.List.{get_or-map, get_or_default, length-map}
use Rattle.std.proofs.lemmas.List.Elements.{filter-append}
use Rattle.std.proofs.lemmas.List.Kept.{AllPairs-from_increasing, Contains-dedup_nat, Contains-from_dedup}
use Rattle.std.proofs.lemmas.List.Sorted.{Contains-permutation, IsPermutation-sym, searched}
use Rattle.std.proofs.lemmas.Map.Keys.{IsStrictlyIncreasing-dedup}
use Rattle.xs_lists.specs.Ascending.{ListsAscending}
use Rattle.xs_capture.specs.Offer.{Offer}
use Rattle.xs_capture.specs.Offers.{offers_at}
use Rattle.xs_capture.proofs.Edits.{chosen, passed, map_but}

-- The list of timestamps

-- what a sort and the removal of repeats leave
pub listed : (all sorted : List ℕ) → IsPermutation all sorted → IsSorted nat_cmp sorted → ListsAscending (Contains all) (dedup eqb sorted)
listed all sorted moved rise = record {
  ascending = IsStrictlyIncreasing-dedup sorted rise;
  those = λ n. (
    (λ has. Contains-permutation sorted all n (IsPermutation-sym all sorted moved) (Contains-from_dedup eqb sorted n has)),
    (λ has. Contains-dedup_nat sorted n (Contains-permutation all sorted n moved has)),
  );
}

rises : (xs : List ℕ) → IsStrictlyIncreasing xs → (i j : ℕ) → i < j → j < length xs → get_or xs i 0 < get_or xs j 0
rises xs rise i j less inside = AllPairs-from_increasing xs rise i j 0 less inside

never_falls : (xs : List ℕ) → IsStrictlyIncreasing xs → (i j : ℕ) → i ≤ j → j < length xs → get_or xs i 0 ≤ get_or xs j 0
never_falls xs rise i j most inside = elim (cases_order i j) [
  | inl same ↦ let e : get_or xs i 0 ≡ get_or xs j 0 = ap (λ k. get_or xs k 0) same in omega (arith, e)
  | inr other ↦ elim other [
    | inl less ↦ let e = rises xs rise i j less inside in omega (arith, e)
    | inr more ↦ absurd (omega (arith, most, more))
  ]
]

-- a search for what is there does not fail
pub is_found : (xs : List ℕ) (x i : ℕ) → IsStrictlyIncreasing xs → Contains xs x → IsBinarySearchResult (λ y. nat_cmp y x) xs (Err i) → ⊥
is_found xs x i rise has position =
    let found = searched xs x (Err i) position (never_falls xs rise) in
    let here : get_or xs has.0 0 ≡ x = get_or_default xs has.0 0 x has.1 ∙ has.2 in
    elim (cases_lt has.0 i) [
      | inl before ↦ let e : get_or xs has.0 0 < x = found.1 has.0 before in omega (arith, e, here)
      | inr after ↦ let e : x < get_or xs has.0 0 = found.2 has.0 after has.1 in omega (arith, e, here)
    ]

-- The packets of each timestamp

-- one packet more
at_more : (timestamp : ℕ) (offers : List Offer) (p : Offer) → offers_at timestamp (offers ++ p ∷ []) ≡ offers_at timestamp offers ++ (if nat_eq p.timestamp timestamp then p ∷ [] else [])
at_more timestamp offers p = filter-append (λ (q : Offer). nat_eq q.timestamp timestamp) offers (p ∷ [])

pub filed_more : (timestamps : List ℕ) (offers : List Offer) (p : Offer) (k : ℕ) → IsStrictlyIncreasing timestamps → k < length timestamps → get_or timestamps k 0 ≡ p.timestamp
    → map (λ t. offers_at t (offers ++ p ∷ [])) timestamps ≡ set (map (λ t. offers_at t offers) timestamps) k (get_or (map (λ t. offers_at t offers) timestamps) k [] ++ p ∷ [])
filed_more timestamps offers p k rise inside here =
    let this : offers_at (get_or timestamps k 0) (offers ++ p ∷ []) ≡ offers_at (get_or timestamps k 0) offers ++ p ∷ [] =
    at_more (get_or timestamps k 0) offers p ∙ chosen (nat_eq p.timestamp (get_or timestamps k 0)) (offers_at (get_or timestamps k 0) offers) p (eq-eqb p.timestamp (get_or timestamps k 0) (sym here)) in
    let old : get_or (map (λ t. offers_at t offers) timestamps) k [] ≡ offers_at (get_or timestamps k 0) offers = get_or-map (λ t. offers_at t offers) timestamps k 0 [] inside in
    map_but (λ t. offers_at t offers) (λ t. offers_at t (offers ++ p ∷ [])) timestamps k 0 inside others
    ∙ ap (λ l. set (map (λ t. offers_at t offers) timestamps) k l) (this ∙ ap (λ l. l ++ p ∷ []) (sym old))
  where
    others : (j : ℕ) → j < length timestamps → j ≢ k → offers_at (get_or timestamps j 0) (offers ++ p ∷ []) ≡ offers_at (get_or timestamps j 0) offers
    others j below apart =
        at_more (get_or timestamps j 0) offers p
        ∙ passed (nat_eq p.timestamp (get_or timestamps j 0)) (offers_at (get_or timestamps j 0) offers) p
        (λ so. let same : p.timestamp ≡ get_or timestamps j 0 = eqb-true p.timestamp (get_or timestamps j 0) so in elim (cases_order j k) [
          | inl e ↦ apart e
          | inr other ↦ elim other [
            | inl less ↦ let e = rises timestamps rise j k less inside in omega (arith, e, same, here)
            | inr more ↦ let e = rises timestamps rise k j more below in omega (arith, e, same, here)
          ]
        ])

-- each packet's timestamp is listed
pub its_timestamp : (offers : List Offer) (i : ℕ) (p : Offer) → i < length offers → p ≡ get_or offers i p → Contains (map (λ (q : Offer). q.timestamp) offers) p.timestamp
its_timestamp offers i p inside item =
    let below : i < length (map (λ (q : Offer). q.timestamp) offers) = simp length-map (inside) in
    (i, below, get_or-map (λ (q : Offer). q.timestamp) offers i p p.timestamp inside ∙ ap (λ (q : Offer). q.timestamp) (sym item))
