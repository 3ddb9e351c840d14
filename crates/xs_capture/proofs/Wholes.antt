-- A unit is whole or it is not, where no packet is held past the last place.
use Rattle.std.proofs.Common.{◌≡◌, ℕ, zero, suc, ◌+◌, ◌<◌, ◌≤◌, Bool, true, false, Option, Some, None, refl, sym, ap, subst, ◌∙◌, arith}
use mathlib.Core.Logic.{◌⊎◌, inl, inr}
use Rattle.std.specs.Prelude.{IsSomeAnd}
use Rattle.std.proofs.lemmas.Bool.{cases_order}
use Rattle.xs_capture.specs.Offer.{Offer}
use Rattle.xs_capture.specs.Offer.{unit_places}
use Rattle.xs_capture.specs.Selection.{Held, IsBounded, IsWholeUnit}
use Rattle.xs_capture.proofs.Selections.{not_both}

-- the unit_places before one are held, and do not close the unit
abbrev pub StaysOpen : Held → ℕ → ℕ → Type 0
StaysOpen held unit place = (before : ℕ) → before < place → IsSomeAnd (held unit before) (λ p. p.last ≡ false)

-- a unit is not whole where a place is not held and none before closes it
gap : (held : Held) (unit place : ℕ) → held unit place ≡ None → StaysOpen held unit place → ¬ IsWholeUnit held unit
gap held unit place none before whole = elim (cases_order whole.0 place) [
  | inl same ↦ subst (λ o. IsSomeAnd o (λ p. p.last ≡ true)) (ap (held unit) same ∙ none) whole.1.closes
  | inr other ↦ elim other [
    | inl early ↦ not_both (held unit whole.0) whole.1.closes (before whole.0 early)
    | inr late ↦ subst (λ o. IsSomeAnd o (λ p. p.last ≡ false)) none (whole.1.before place late)
  ]
]

-- what is held at a place: nothing, a packet that closes the unit, or another
at_place : (o : Option Offer) → (o ≡ None) ⊎ (IsSomeAnd o (λ p. p.last ≡ true) ⊎ IsSomeAnd o (λ p. p.last ≡ false))
at_place None = inl refl
at_place (Some p) = inr (closing p.last)
  where
    closing : (b : Bool) → (b ≡ true) ⊎ (b ≡ false)
    closing true = inl refl
    closing false = inr refl

one_more : (held : Held) (unit place : ℕ) → StaysOpen held unit place → IsSomeAnd (held unit place) (λ p. p.last ≡ false) → StaysOpen held unit (suc place)
one_more held unit place before here at below = elim (cases_order at place) [
  | inl same ↦ subst (λ k. IsSomeAnd (held unit k) (λ p. p.last ≡ false)) (sym same) here
  | inr other ↦ elim other [ inl early ↦ before at early | inr late ↦ absurd (omega (arith, below, late)) ]
]

scan : (held : Held) → IsBounded held → (unit more place : ℕ) → place + more ≡ unit_places → StaysOpen held unit place → IsWholeUnit held unit ⊎ ¬ IsWholeUnit held unit
scan held bounded unit zero place sum before =
    let past : unit_places ≤ place = omega (arith, sum) in
    inr (gap held unit place (bounded unit place past) before)
scan held bounded unit (suc more) place sum before =
    let next : suc place + more ≡ unit_places = omega (arith, sum) in
    elim (at_place (held unit place)) [
      | inl none ↦ inr (gap held unit place none before)
      | inr some ↦ elim some [
        | inl closes ↦ inl (place, record { closes = closes; before = before })
        | inr stays ↦ scan held bounded unit more (suc place) next (one_more held unit place before stays)
      ]
    ]

pub whole_or_not : (held : Held) → IsBounded held → (unit : ℕ) → IsWholeUnit held unit ⊎ ¬ IsWholeUnit held unit
whole_or_not held bounded unit = scan held bounded unit 512 0 refl (λ before below. absurd (omega (arith, below)))
