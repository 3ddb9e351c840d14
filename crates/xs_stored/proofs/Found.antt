-- What is found at a unit and place among packets of which no two are of one place.
use Rattle.std.proofs.Common.{◌≡◌, ℕ, zero, suc, ◌<◌, ◌≤◌, Bool, true, false, ◌&&◌, if◌then◌else◌, nat_eq, eq-eqb, cond, Option, Some, None, List, [], ◌∷◌, length, get_or, sum_by, sym, refl, ap, ◌∙◌, subst, arith}
use Rattle.std.specs.Prelude.{IsSomeAnd}
use Rattle.std.specs.List.{Contains}
use Rattle.std.proofs.lemmas.List.Sums.{sum_by-cons, get_or-le-sum_by}
use Rattle.xs_lane_core.specs.Machine.{Actor}
use Rattle.xs_lane_core.specs.Sound.{at}
use Rattle.xs_lane_core.proofs.Placed.{is_at}
use Rattle.xs_lane_core.proofs.Finds.{some_element}
use Rattle.xs_lanes.specs.Knowing.{IsChoice, stored_at}
use Rattle.xs_capture.specs.Offer.{Offer}
use Rattle.xs_stored.specs.Stored.{packets, held_in}

here : (x : Offer) → at packets x.unit x.place x ≡ 1
here x = rw (eq-eqb x.unit x.unit refl, eq-eqb x.place x.place refl) refl

-- what stands once at its place is what is held there
pub held_is : (xs : List Offer) (x : Offer) → Contains xs x → sum_by (at packets x.unit x.place) xs ≤ 1 → held_in xs x.unit x.place ≡ Some x
held_is [] x c le = absurd (let d = c.1 in omega arith)
held_is (y ∷ xs) x (zero, lt, e) le = subst (λ (z : Offer). held_in (y ∷ xs) z.unit z.place ≡ Some z) e (rw (eq-eqb y.unit y.unit refl, eq-eqb y.place y.place refl) refl)
held_is (y ∷ xs) x (suc i, lt, e) le = by_test (λ le'. held_is xs x (i, below, e) le') (nat_eq y.unit x.unit && nat_eq y.place x.place) refl
  where
    below : i < length xs
    below = omega arith

    f : Offer → ℕ
    f = at packets x.unit x.place

    by_test : (sum_by f xs ≤ 1 → held_in xs x.unit x.place ≡ Some x) → (b : Bool) → (nat_eq y.unit x.unit && nat_eq y.place x.place) ≡ b → (if b then Some y else held_in xs x.unit x.place) ≡ Some x
    by_test more true t = let c = sum_by-cons f y xs in let one : f y ≡ 1 = ap (λ b. cond {A = ℕ} b 1 0) t in let there : f (get_or xs i x) ≡ 1 = ap f e ∙ here x in let s = get_or-le-sum_by f xs i x below in absurd (omega arith)
    by_test more false t = let c = sum_by-cons f y xs in more (omega arith)

-- the packet is among these, and of this unit and place
abbrev pub IsFound : List Offer → ℕ → ℕ → Offer → Type 0
IsFound xs unit place x = Contains xs x × (x.unit ≡ unit) × (x.place ≡ place)

found_later : (y : Offer) (xs : List Offer) (unit place : ℕ) (x : Offer) → IsFound xs unit place x → IsFound (y ∷ xs) unit place x
found_later y xs unit place x h = let c = h.0 in let lt = c.1 in let below : suc c.0 < length (y ∷ xs) = omega arith in ((suc c.0, below, c.2), h.1, h.2)

-- what is held is one of the packets, and of its unit and place
pub held_from : (xs : List Offer) (unit place : ℕ) (x : Offer) → held_in xs unit place ≡ Some x → IsFound xs unit place x
held_from [] unit place x e = absurd (cc e)
held_from (y ∷ xs) unit place x e = by_test (held_from xs unit place x) (nat_eq y.unit unit && nat_eq y.place place) refl e
  where
    by_test : (held_in xs unit place ≡ Some x → IsFound xs unit place x) → (b : Bool) → (nat_eq y.unit unit && nat_eq y.place place) ≡ b → (if b then Some y else held_in xs unit place) ≡ Some x → IsFound (y ∷ xs) unit place x
    by_test more true t e' =
        let same : y ≡ x = cc e' in
        let one : at packets unit place y ≡ 1 = ap (λ b. cond {A = ℕ} b 1 0) t in
        let there = is_at packets unit place y (omega arith) in
        subst (IsFound (y ∷ xs) unit place) same ((0, omega arith, refl), there.0, there.1)
    by_test more false t e' = found_later y xs unit place x (more e')

-- a value that is counted at a place is held there
pub counted_is_held : (v : Actor Offer) → IsChoice packets v → (unit place : ℕ) → 0 < stored_at packets unit place v → (x : Offer) × (held_in v.stored unit place ≡ Some x)
counted_is_held v choice unit place some =
    let r = some_element (at packets unit place) v.stored some in
    let there = is_at packets unit place r.0 r.1 in
    let held = held_is v.stored r.0 r.2 (choice.one r.0.unit r.0.place) in
    (r.0, subst (λ p. held_in v.stored unit p ≡ Some r.0) there.1 (subst (λ u. held_in v.stored u r.0.place ≡ Some r.0) there.0 held))

pub some_of : (P : Offer → Type 0) (o : Option Offer) → IsSomeAnd o P → (x : Offer) × (o ≡ Some x) × P x
some_of P None h = absurd h
some_of P (Some x) h = (x, refl, h)
