-- What was stored is a selection of what was offered.
use Rattle.std.proofs.Common.{◌≡◌, ◌⊎◌, inl, inr, ℕ, ◌<◌, Option, Some, None, List, All, sym, refl, subst, arith}
use Rattle.std.specs.Prelude.{IsSome, IfSome}
use Rattle.std.specs.List.{Contains}
use Rattle.std.proofs.lemmas.List.Elements.{All-contains}
use Rattle.xs_lane_core.specs.Machine.{Actor}
use Rattle.xs_lanes.specs.Knowing.{IsChoice, stored_at}
use Rattle.xs_capture.specs.Offer.{Offer}
use Rattle.xs_capture.specs.Selection.{IsSelection}
use Rattle.xs_stored.specs.Stored.{packets, held_in, IsFiled}
use Rattle.xs_stored.specs.Laws.{StoredIsSelection}
use Rattle.xs_stored.proofs.Found.{counted_is_held, held_from, held_is}

is_some_of : (o : Option Offer) (x : Offer) → o ≡ Some x → IsSome o
is_some_of o x e = subst (λ (p : Option Offer). IsSome p) (sym e) refl

offered_at : (offers : List Offer) (v : Actor Offer) → All (Contains offers) v.stored → (unit place : ℕ) (o : Option Offer) → held_in v.stored unit place ≡ o → IfSome o (λ p. Contains offers p × (p.unit ≡ unit) × (p.place ≡ place))
offered_at offers v only unit place None e = tt
offered_at offers v only unit place (Some p) e = let h = held_from v.stored unit place p e in (All-contains (Contains offers) v.stored p only h.0, h.1, h.2)

filled_at : (v : Actor Offer) → IsChoice packets v → (p : Offer) → IsFiled v p → IsSome (held_in v.stored p.unit p.place)
filled_at v choice p (inl stored) = is_some_of (held_in v.stored p.unit p.place) p (held_is v.stored p stored (choice.one p.unit p.place))
filled_at v choice p (inr repeated) =
    let one : stored_at packets p.unit p.place v ≡ 1 = All-contains (λ (z : ℕ × ℕ). stored_at packets z.0 z.1 v ≡ 1) v.repeated (p.unit, p.place) choice.repeated repeated in
    let some : 0 < stored_at packets p.unit p.place v = omega arith in
    let h = counted_is_held v choice p.unit p.place some in
    is_some_of (held_in v.stored p.unit p.place) h.0 h.1

pub stored_is_selection : StoredIsSelection
stored_is_selection offers v choice each only = record {
  offered = λ unit place. offered_at offers v only unit place (held_in v.stored unit place) refl;
  filled = λ p has. filled_at v choice p (All-contains (IsFiled v) offers p each has);
}
