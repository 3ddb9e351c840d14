-- A selection of offers has no more bytes than they.
use Rattle.std.proofs.Common.{◌≡◌, ◌⊎◌, inl, inr, ℕ, zero, suc, ◌<◌, ◌≤◌, ◌^◌, ◌&&◌, if◌then◌else◌, nat_eq, eq-eqb, ne_eqb, Option, Some, None, List, [], ◌∷◌, length, refl, sym, ap, ◌∙◌, subst, arith}
use Rattle.std.specs.Prelude.{IfSome}
use Rattle.std.specs.Option.{option_or}
use Rattle.std.specs.List.{Contains}
use Rattle.std.proofs.lemmas.Bool.{cases_eq}
use Rattle.std.proofs.lemmas.List.Sums.{sum_by-cons}
use Rattle.xs_capture.specs.Offer.{Offer}
use Rattle.xs_capture.specs.Selection.{Held, IsBounded, IsSelection}
use Rattle.xs_recv.specs.Filed.{IsReceivable, held_size}
use Rattle.xs_recv.specs.Received.{offered_bytes}
use Rattle.xs_recv.proofs.Filing.{all_grow, none_of_all, same_slot}

-- what is held at a unit and place is one of the offers, of that unit and place
abbrev IsFrom : List Offer → ℕ → ℕ → Option Offer → Type 0
IsFrom offers unit place held = IfSome held (λ (p : Offer). Contains offers p × (p.unit ≡ unit) × (p.place ≡ place))

-- the same without the slot of the offer
abbrev clear : Offer → Held → Held
clear o held unit place = if nat_eq unit o.unit && nat_eq place o.place then None else held unit place

clear_here : (o : Offer) (held : Held) → clear o held o.unit o.place ≡ None
clear_here o held = rw (eq-eqb o.unit o.unit refl, eq-eqb o.place o.place refl) refl

clear_else : (o : Offer) (held : Held) (unit place : ℕ) → ((unit ≡ o.unit) × (place ≡ o.place) → ⊥) → clear o held unit place ≡ held unit place
clear_else o held unit place other = elim (cases_eq unit o.unit) [
  | inr unlike ↦ rw (ne_eqb unit o.unit unlike) refl
  | inl same ↦ elim (cases_eq place o.place) [
    | inl both ↦ absurd (other (same, both))
    | inr unlike ↦ rw (eq-eqb unit o.unit same, ne_eqb place o.place unlike) refl
  ]
]

none_from : (unit place : ℕ) (o : Option Offer) → IsFrom [] unit place o → o ≡ None
none_from unit place None h = refl
none_from unit place (Some p) h = absurd (let c = h.0 in let lt = c.1 in omega (arith, lt))

-- what is held elsewhere is one of the other offers
rest_from : (o : Offer) (rest : List Offer) (unit place : ℕ) (x : Option Offer) → ((unit ≡ o.unit) × (place ≡ o.place) → ⊥) → IsFrom (o ∷ rest) unit place x → IsFrom rest unit place x
rest_from o rest unit place None other h = tt
rest_from o rest unit place (Some p) other ((zero, lt, e), u, q) = absurd (other (sym u ∙ ap (λ (z : Offer). z.unit) (sym e), sym q ∙ ap (λ (z : Offer). z.place) (sym e)))
rest_from o rest unit place (Some p) other ((suc i, lt, e), u, q) = ((i, omega (arith, lt), e), u, q)

clear_from : (o : Offer) (rest : List Offer) (held : Held) → ((unit place : ℕ) → IsFrom (o ∷ rest) unit place (held unit place)) → (unit place : ℕ) → IsFrom rest unit place (clear o held unit place)
clear_from o rest held from unit place = elim (same_slot o unit place) [
  | inl same ↦ subst (IsFrom rest unit place) (sym (ap (λ u. clear o held u place) same.0 ∙ ap (λ p. clear o held o.unit p) same.1 ∙ clear_here o held)) tt
  | inr other ↦ subst (IsFrom rest unit place) (sym (clear_else o held unit place other)) (rest_from o rest unit place (held unit place) other (from unit place))
]

-- at the slot of the first offer that offer is held, or one of the others, or nothing
at_first : (o : Offer) (rest : List Offer) (x : Option Offer) → IsFrom (o ∷ rest) o.unit o.place x → (x ≡ Some o) ⊎ IsFrom rest o.unit o.place x
at_first o rest None h = inr tt
at_first o rest (Some p) ((zero, lt, e), u, q) = inl (ap (λ (z : Offer). Some z) (sym e))
at_first o rest (Some p) ((suc i, lt, e), u, q) = inr ((i, omega (arith, lt), e), u, q)

pub selected_size : (offers : List Offer) (held : Held) → ((unit place : ℕ) → IsFrom offers unit place (held unit place)) → held_size held ≤ offered_bytes offers
selected_size [] held from = let none = none_of_all held (λ unit place. none_from unit place (held unit place) (from unit place)) in omega (arith, none)
selected_size (o ∷ rest) held from = elim (at_first o rest (held o.unit o.place) (from o.unit o.place)) [
  | inl first ↦
      let grows = all_grow o (clear o held) held (first ∙ ap (λ x. option_or x (Some o)) (sym (clear_here o held))) (λ unit place unlike. sym (clear_else o held unit place unlike)) in
      let less = selected_size rest (clear o held) (clear_from o rest held from) in
      let sum = sum_by-cons (λ (p : Offer). length p.bytes) o rest in
      omega (arith, grows, less, sum)
  | inr other ↦
      let less = selected_size rest held (λ unit place. elim (same_slot o unit place) [
        | inl same ↦ subst (λ u. IsFrom rest u place (held u place)) (sym same.0) (subst (λ p. IsFrom rest o.unit p (held o.unit p)) (sym same.1) other)
        | inr unlike ↦ rest_from o rest unit place (held unit place) unlike (from unit place)
      ]) in
      let sum = sum_by-cons (λ (p : Offer). length p.bytes) o rest in
      omega (arith, less, sum)
]

pub receivable : (offers : List Offer) (held : Held) → offered_bytes offers < 2 ^ 32 → IsBounded held → IsSelection offers held → IsReceivable held
receivable offers held small bounded selection = record { bounded = bounded; size = let most = selected_size offers held selection.offered in omega (arith, most, small) }
