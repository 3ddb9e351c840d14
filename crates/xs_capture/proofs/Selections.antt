-- A unit ends at one place, and offers that agree have one selection.
use Rattle.std.proofs.Common.{◌≡◌, ℕ, List, Bool, true, false, Option, Some, None, refl, sym, ap, subst, ◌∙◌, Contains}
use mathlib.Core.Logic.{inl, inr}
use Rattle.std.specs.Prelude.{IsSome, IfSome, IsSomeAnd}
use Rattle.std.proofs.lemmas.Bool.{cases_order}
use Rattle.xs_capture.specs.Offer.{Offer}
use Rattle.xs_capture.specs.Offers.{Agree, AllAgree}
use Rattle.xs_capture.specs.Selection.{Held, IsSelection}
use Rattle.xs_capture.specs.Laws.{OneEnd, OneSelection, SelectionOfSet}

-- no packet closes its unit and does not
pub not_both : (held : Option Offer) → IsSomeAnd held (λ p. p.last ≡ true) → IsSomeAnd held (λ p. p.last ≡ false) → ⊥
not_both None closes stays = closes
not_both (Some p) closes stays = cc (closes, stays)

pub one_end : OneEnd
one_end held unit a b p q = elim (cases_order a b) [
  | inl same ↦ same
  | inr other ↦ elim other [
    | inl below ↦ absurd (not_both (held unit a) p.closes (q.before a below))
    | inr above ↦ absurd (not_both (held unit b) q.closes (p.before b above))
  ]
]

abbrev packet_with : ℕ → ℕ → ℕ → Bool → List ℕ → Offer
packet_with timestamp unit place last bytes = record { timestamp = timestamp; unit = unit; place = place; last = last; bytes = bytes }

-- packets are equal where all that they say is
same_packet : (p q : Offer) → p.timestamp ≡ q.timestamp → p.unit ≡ q.unit → p.place ≡ q.place → Agree p q → p ≡ q
same_packet p q time unit place agree =
    ap (λ t. packet_with t p.unit p.place p.last p.bytes) time
    ∙ ap (λ u. packet_with q.timestamp u p.place p.last p.bytes) unit
    ∙ ap (λ m. packet_with q.timestamp q.unit m p.last p.bytes) place
    ∙ ap (λ l. packet_with q.timestamp q.unit q.place l p.bytes) agree.last
    ∙ ap (λ b. packet_with q.timestamp q.unit q.place q.last b) agree.bytes

-- a place with an offer is filled
fills : (offers : List Offer) (held : Held) → IsSelection offers held → (unit place : ℕ) (p : Offer) → Contains offers p × (p.unit ≡ unit) × (p.place ≡ place) → IsSome (held unit place)
fills offers held selection unit place p offered =
    subst (λ m. IsSome (held unit m)) offered.2 (subst (λ u. IsSome (held u p.place)) offered.1 (selection.filled p offered.0))

-- two packets or none
same_held : (offers : List Offer) (timestamp : ℕ) → ((p : Offer) → Contains offers p → p.timestamp ≡ timestamp) → AllAgree offers → (unit place : ℕ) (a b : Option Offer)
    → IfSome a (λ p. Contains offers p × (p.unit ≡ unit) × (p.place ≡ place)) → IfSome b (λ p. Contains offers p × (p.unit ≡ unit) × (p.place ≡ place))
    → ((p : Offer) → Contains offers p × (p.unit ≡ unit) × (p.place ≡ place) → IsSome a) → ((p : Offer) → Contains offers p × (p.unit ≡ unit) × (p.place ≡ place) → IsSome b) → a ≡ b
same_held offers timestamp times agree unit place None None x y in_a in_b = refl
same_held offers timestamp times agree unit place None (Some q) x y in_a in_b = let filled : IsSome {T = Offer} None = in_a q y in absurd (cc filled)
same_held offers timestamp times agree unit place (Some p) None x y in_a in_b = let filled : IsSome {T = Offer} None = in_b p x in absurd (cc filled)
same_held offers timestamp times agree unit place (Some p) (Some q) x y in_a in_b =
    let time = times p x.0 ∙ sym (times q y.0) in
    let one_unit = x.1 ∙ sym y.1 in
    let one_place = x.2 ∙ sym y.2 in
    ap Some (same_packet p q time one_unit one_place (agree p q x.0 y.0 time one_unit one_place))

pub one_selection : OneSelection
one_selection offers timestamp times agree a b p q unit place =
    same_held offers timestamp times agree unit place (a unit place) (b unit place) (p.offered unit place) (q.offered unit place)
    (fills offers a p unit place) (fills offers b q unit place)

-- the same offers
pub selection_of_set : SelectionOfSet
selection_of_set offers others held same selection = record {
  offered = λ unit place. moved unit place (held unit place) (selection.offered unit place);
  filled = λ p has. selection.filled p ((same p).1 has);
}
  where
    moved : (unit place : ℕ) (o : Option Offer) → IfSome o (λ p. Contains offers p × (p.unit ≡ unit) × (p.place ≡ place)) → IfSome o (λ p. Contains others p × (p.unit ≡ unit) × (p.place ≡ place))
    moved unit place None p = tt
    moved unit place (Some q) p = ((same q).0 p.0, p.1, p.2)
