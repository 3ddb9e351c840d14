-- The timestamps of offers are listed, each once, ascending.
use Rattle.std.proofs.Common.{ℕ, ◌+◌, ◌<◌, List, [], ◌∷◌, subst, arith, Contains}
use mathlib.Core.Logic.{◌⊎◌, inl, inr}
use Rattle.std.specs.Prelude.{map}
use Rattle.std.proofs.lemmas.Bool.{cases_order}
use Rattle.xs_lists.proofs.Listing.{listing}
use Rattle.xs_capture.specs.Offer.{Offer}
use Rattle.xs_capture.specs.Offers.{offers_of}
use Rattle.xs_capture.specs.Pictures.{AreTimestamps}
use Rattle.xs_capture.specs.Laws.{TimestampsExist}
use Rattle.xs_capture.proofs.Firsts.{here, there, cons_cases}

contains_or_not : (xs : List ℕ) (t : ℕ) → Contains xs t ⊎ ¬ Contains xs t
contains_or_not [] t = inr (λ has. absurd (omega (arith, has.1)))
contains_or_not (x ∷ xs) t = elim (cases_order x t) [
  | inl same ↦ inl (subst (Contains (x ∷ xs)) same (here x xs))
  | inr other ↦ elim (contains_or_not xs t) [
    | inl has ↦ inl (there x t xs has)
    | inr none ↦ inr (λ has. elim (cons_cases x t xs has) [
      | inl same ↦ elim other [ inl less ↦ absurd (omega (arith, same, less)) | inr more ↦ absurd (omega (arith, same, more)) ]
      | inr later ↦ none later
    ])
  ]
]

-- a number above all elements
above : (xs : List ℕ) → (bound : ℕ) × ((t : ℕ) → Contains xs t → t < bound)
above [] = (0, λ t has. absurd (omega (arith, has.1)))
above (x ∷ xs) =
    let rest = above xs in (
      x + 1 + rest.0,
      λ t has. elim (cons_cases x t xs has) [
        | inl same ↦ omega (arith, same)
        | inr later ↦ let less : t < rest.0 = rest.1 t later in omega (arith, less)
      ],
    )

pub timestamps_listed : (offers : List Offer) → (timestamps : List ℕ) × AreTimestamps offers timestamps
timestamps_listed offers =
    let all = map (λ (p : Offer). p.timestamp) offers in
    let bound = above all in
    let listed = listing (Contains all) (contains_or_not all) bound.0 in (
      listed.0,
      record {
        ascending = listed.1.ascending;
        those = λ t. ((λ has. ((listed.1.those t).0 has).1), (λ has. (listed.1.those t).1 (bound.1 t has, has)));
      },
    )

pub timestamps_exist : TimestampsExist
timestamps_exist packets = timestamps_listed (offers_of packets)
