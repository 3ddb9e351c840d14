-- A lane is whole exactly where its unit is.
use Rattle.std.proofs.Common.{◌≡◌, ◌↔◌, ◌⊎◌, inl, inr, ℕ, zero, suc, ◌<◌, ◌≤◌, Bool, true, false, Option, Some, None, List, sum_by, sym, refl, ap, subst, ◌∙◌, arith}
use Rattle.std.specs.Prelude.{IsSomeAnd}
use Rattle.std.specs.List.{Contains}
use Rattle.std.proofs.lemmas.Bool.{cases_eq}
use Rattle.std.proofs.lemmas.List.Sums.{get_or-le-sum_by}
use Rattle.std.proofs.lemmas.List.Elements.{All-contains}
use Rattle.xs_lane_core.specs.Places.{places}
use Rattle.xs_lane_core.specs.Machine.{Actor}
use Rattle.xs_lane_core.specs.Sound.{at, closes_at}
use Rattle.xs_lane_core.proofs.Placed.{at_here, closes_here, is_closing}
use Rattle.xs_lane_core.proofs.Finds.{some_element}
use Rattle.xs_lanes.specs.Knowing.{IsChoice, IsWhole, stored_at}
use Rattle.xs_capture.specs.Offer.{Offer, unit_places}
use Rattle.xs_capture.specs.Selection.{EndsAt, Held, IsWholeUnit}
use Rattle.xs_capture.proofs.Selections.{not_both}
use Rattle.xs_capture.proofs.Wholes.{StaysOpen}
use Rattle.xs_stored.specs.Stored.{packets, held_in, AreIn}
use Rattle.xs_stored.specs.Laws.{WholeLanesAreUnits, NothingIsPast}
use Rattle.xs_stored.proofs.Found.{counted_is_held, held_from, held_is, some_of}

counts : (f : Offer → ℕ) (xs : List Offer) (x : Offer) → Contains xs x → f x ≤ sum_by f xs
counts f xs x c = let h = get_or-le-sum_by f xs c.0 x c.1 in let e = ap f c.2 in omega arith

-- one place more that is held and does not close the unit
pub opens_more : (held : Held) (unit place : ℕ) → StaysOpen held unit place → IsSomeAnd (held unit place) (λ p. p.last ≡ false) → StaysOpen held unit (suc place)
opens_more held unit place before here at below = elim (cases_eq at place) [
  | inl same ↦ subst (λ k. IsSomeAnd (held unit k) (λ p. p.last ≡ false)) (sym same) here
  | inr other ↦ before at (omega (arith, below, other))
]

-- a packet that is held closes the unit or does not
closing_or_not : (o : Option Offer) (x : Offer) → o ≡ Some x → IsSomeAnd o (λ p. p.last ≡ true) ⊎ IsSomeAnd o (λ p. p.last ≡ false)
closing_or_not o x e = by_last x.last refl
  where
    by_last : (b : Bool) → x.last ≡ b → IsSomeAnd o (λ p. p.last ≡ true) ⊎ IsSomeAnd o (λ p. p.last ≡ false)
    by_last true l = inl (subst (λ (q : Option Offer). IsSomeAnd q (λ p. p.last ≡ true)) (sym e) l)
    by_last false l = inr (subst (λ (q : Option Offer). IsSomeAnd q (λ p. p.last ≡ false)) (sym e) l)

-- where so many places are held, one of them closes the unit first, or none does
first_end : (held : Held) (unit n : ℕ) → ((place : ℕ) → place < n → (x : Offer) × (held unit place ≡ Some x)) → IsWholeUnit held unit ⊎ StaysOpen held unit n
first_end held unit zero all = inr (λ before below. absurd (omega (arith, below)))
first_end held unit (suc n) all = elim (first_end held unit n (λ place below. all place (omega (arith, below)))) [
  | inl whole ↦ inl whole
  | inr opens ↦
      let there = all n (omega arith) in
      elim (closing_or_not (held unit n) there.0 there.1) [
        | inl closes ↦ inl (n, record { closes = closes; before = opens })
        | inr stays ↦ inr (opens_more held unit n opens stays)
      ]
]

unit_of_lane : (v : Actor Offer) (unit : ℕ) → IsChoice packets v → IsWhole packets unit v → IsWholeUnit (held_in v.stored) unit
unit_of_lane v unit choice whole =
    let end : ℕ = whole.0 in
    let r = some_element (closes_at packets unit end) v.stored whole.2 in
    let is = is_closing packets unit end r.0 r.1 in
    let own = held_is v.stored r.0 r.2 (choice.one r.0.unit r.0.place) in
    let closing : held_in v.stored unit end ≡ Some r.0 = subst (λ p. held_in v.stored unit p ≡ Some r.0) is.2 (subst (λ u. held_in v.stored u r.0.place ≡ Some r.0) is.1 own) in
    let all : (place : ℕ) → place < suc end → (x : Offer) × (held_in v.stored unit place ≡ Some x) = λ place below. elim (cases_eq place end) [
      | inl same ↦ (r.0, subst (λ p. held_in v.stored unit p ≡ Some r.0) (sym same) closing)
      | inr other ↦ counted_is_held v choice unit place (whole.3 place (omega (arith, below, other)))
    ] in
    elim (first_end (held_in v.stored) unit (suc end) all) [
      | inl there ↦ there
      | inr opens ↦ absurd (not_both (held_in v.stored unit end) (subst (λ (o : Option Offer). IsSomeAnd o (λ p. p.last ≡ true)) (sym closing) is.0) (opens end (omega arith)))
    ]

lane_of_unit : (v : Actor Offer) (units unit : ℕ) → AreIn units v.stored → IsWholeUnit (held_in v.stored) unit → IsWhole packets unit v
lane_of_unit v units unit low whole =
    let end : ℕ = whole.0 in
    let last = some_of (λ p. p.last ≡ true) (held_in v.stored unit end) whole.1.closes in
    let found = held_from v.stored unit end last.0 last.1 in
    let small = All-contains (λ (p : Offer). (p.unit < units) × (p.place < unit_places)) v.stored last.0 low found.0 in
    let at_end = found.2 in
    let one = closes_here packets unit end last.0 last.2 found.1 found.2 in
    let sum = counts (closes_at packets unit end) v.stored last.0 found.0 in (
      end,
      omega (arith, small.1, at_end),
      omega (arith, one, sum),
      λ place below.
          let held = some_of (λ p. p.last ≡ false) (held_in v.stored unit place) (whole.1.before place below) in
          let there = held_from v.stored unit place held.0 held.1 in
          let own = at_here packets unit place held.0 there.1 there.2 in
          let total = counts (at packets unit place) v.stored held.0 there.0 in
          omega (arith, own, total),
    )

pub whole_lanes_are_units : WholeLanesAreUnits
whole_lanes_are_units v units unit choice low = (unit_of_lane v unit choice, lane_of_unit v units unit low)

none_past : (o : Option Offer) → ((p : Offer) → o ≡ Some p → ⊥) → o ≡ None
none_past None nothing = refl
none_past (Some p) nothing = absurd (nothing p refl)

pub nothing_is_past : NothingIsPast
nothing_is_past = record {
  unit = λ stored units unit low past whole.
      let last = some_of (λ p. p.last ≡ true) (held_in stored unit whole.0) whole.1.closes in
      let found = held_from stored unit whole.0 last.0 last.1 in
      let small = All-contains (λ (p : Offer). (p.unit < units) × (p.place < unit_places)) stored last.0 low found.0 in
      let same = found.1 in
      omega (arith, small.0, same, past);
  place = λ stored units low unit place past. none_past (held_in stored unit place) (λ p e.
      let found = held_from stored unit place p e in
      let small = All-contains (λ (q : Offer). (q.unit < units) × (q.place < unit_places)) stored p low found.0 in
      let same = found.2 in
      omega (arith, small.1, same, past));
}
