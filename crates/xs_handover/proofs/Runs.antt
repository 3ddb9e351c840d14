-- Which pieces stand where among the blocks that were got of a stripe.
use Rattle.std.proofs.Common.{◌≡◌, ℕ, suc, ◌+◌, ◌-◌, ◌<◌, ◌≤◌, inl, inr, List, [], ◌∷◌, length, refl, sym, ap, subst, ◌∙◌, arith}
use Rattle.std.specs.Prelude.{Bool, false, if◌then◌else◌, Some, None, IfSome}
use Rattle.std.proofs.lemmas.Bool.{cases_lt, le-ltb, lt-ltb, ne_eqb}
use Rattle.xs_params.specs.declared.header.Header.{Header}
use Rattle.xs_params.specs.Geometry.{slice_count}
use Rattle.xs_lanes.specs.Claiming.{IsRun}
use Rattle.xs_stripe.specs.Edges.{EdgeRows}
use Rattle.xs_geometry.specs.SliceLines.{BandLines}
use Rattle.xs_handover.specs.declared.piece.Piece.{Piece}
use Rattle.xs_handover.specs.declared.piece.Piece.TheVariants.{Body, Up, Down}
use Rattle.xs_handover.specs.Blocks.{Block, Carried, Carries, HasPiece, block_place, blocks, closes_stripe, is_last_for, place_for, stripe_for, stripe_of}
use Rattle.xs_handover.specs.Decoded.{IsDecoded, IsDecodedIf}
use Rattle.xs_handover.specs.Sources.{AreOf, place_below, value_at}
use Rattle.xs_handover.proofs.Layouts.{same_layout}
use Rattle.xs_handover.proofs.Shown.{at_place, block}

-- a block of this header
abbrev pub IsBy : Header → Carried → Type 0
IsBy h v = IfSome v (λ (b : Block). b.header ≡ h)

-- the value is of the stripe and at the place
record StandsAt (slice place : ℕ) (v : Carried) : Type 0 where
  stripe : stripe_of v ≡ slice
  place_is : block_place v ≡ place

has_piece : (h : Header) (slice : ℕ) (piece : Piece) (b : Block) → b.header ≡ h → b.slice ≡ slice → b.piece ≡ piece → HasPiece h slice piece b
has_piece h slice piece b by s p = record { layout = same_layout b.header h by; slice_is = s; piece_is = p }

-- the place of an edge that goes up is 1 or 2
up_place : (s : ℕ) (edge : EdgeRows) → (1 < s → place_for s (Up edge) ≡ 2) × (s ≤ 1 → place_for s (Up edge) ≡ 1)
up_place s edge = (λ more. ap (λ (t : Bool). if t then 2 else 1) (lt-ltb 1 s more), λ few. ap (λ (t : Bool). if t then 2 else 1) (le-ltb 1 s few))

-- at the first place stand the stripe's own rows
first_is : (h : Header) (slice : ℕ) (v : Carried) → StandsAt slice 0 v → IsBy h v → (body : List BandLines) × Carries h slice (Body body) v
first_is h slice None at by = let e : 4294967295 ≡ 0 = at.place_is in absurd (omega (arith, e))
first_is h slice (Some b) at by = is b.piece refl at.stripe at.place_is
  where
    is : (p : Piece) → b.piece ≡ p → stripe_for b.slice p ≡ slice → place_for b.slice p ≡ 0 → (body : List BandLines) × Carries h slice (Body body) (Some b)
    is (Body body) e s q = (body, has_piece h slice (Body body) b by s e)
    is (Up edge) e s q = absurd (elim (cases_lt 1 b.slice) [
      | inl more ↦ let z : 0 ≡ 2 = sym q ∙ (up_place b.slice edge).0 more in omega (arith, z)
      | inr few ↦ let z : 0 ≡ 1 = sym q ∙ (up_place b.slice edge).1 few in omega (arith, z)
    ])
    is (Down edge) e s q = let z : 1 ≡ 0 = q in absurd (omega (arith, z))

-- at the second place of another stripe than the first stands the edge from above
second_is : (h : Header) (slice : ℕ) (v : Carried) → 0 < slice → StandsAt slice 1 v → IsBy h v → (edge : EdgeRows) × Carries h (slice - 1) (Down edge) v
second_is h slice None some at by = let e : 4294967295 ≡ 1 = at.place_is in absurd (omega (arith, e))
second_is h slice (Some b) some at by = is b.piece refl at.stripe at.place_is
  where
    is : (p : Piece) → b.piece ≡ p → stripe_for b.slice p ≡ slice → place_for b.slice p ≡ 1 → (edge : EdgeRows) × Carries h (slice - 1) (Down edge) (Some b)
    is (Body body) e s q = let z : 0 ≡ 1 = q in absurd (omega (arith, z))
    is (Up edge) e s q = absurd (elim (cases_lt 1 b.slice) [
      | inl more ↦ let z : 1 ≡ 2 = sym q ∙ (up_place b.slice edge).0 more in omega (arith, z)
      | inr few ↦ let z : b.slice - 1 ≡ slice = s in omega (arith, z, some, few)
    ])
    is (Down edge) e s q = let z : b.slice + 1 ≡ slice = s in let own : b.slice ≡ slice - 1 = omega (arith, z) in (edge, has_piece h (slice - 1) (Down edge) b by own e)

-- the edge from below has place 2 or 1
place_is_below : (slice : ℕ) → (0 < slice → place_below slice ≡ 2) × (slice ≤ 0 → place_below slice ≡ 1)
place_is_below slice = (λ more. ap (λ (t : Bool). if t then 2 else 1) (lt-ltb 0 slice more), λ few. ap (λ (t : Bool). if t then 2 else 1) (le-ltb 0 slice few))

-- an edge that goes up is not of the first slice
goes_up : (h : Header) (slice : ℕ) (bytes : List ℕ) (piece : Piece) (edge : EdgeRows) → piece ≡ Up edge → IsDecoded (block h slice bytes piece) → 0 < slice
goes_up h slice bytes piece edge e d = (subst (λ p. IsDecoded (block h slice bytes p)) e d).piece_of.0

-- at the second place of the first stripe, and at the third of another, stands the edge from below
last_is : (h : Header) (slice : ℕ) (v : Carried) → StandsAt slice (place_below slice) v → IsBy h v → IsDecodedIf v → (edge : EdgeRows) × Carries h (slice + 1) (Up edge) v
last_is h slice None at by d = absurd (elim (cases_lt 0 slice) [
  | inl more ↦ let z : 4294967295 ≡ 2 = at.place_is ∙ (place_is_below slice).0 more in omega (arith, z)
  | inr few ↦ let z : 4294967295 ≡ 1 = at.place_is ∙ (place_is_below slice).1 few in omega (arith, z)
])
last_is h slice (Some b) at by d = is b.piece refl at.stripe at.place_is
  where
    is : (p : Piece) → b.piece ≡ p → stripe_for b.slice p ≡ slice → place_for b.slice p ≡ place_below slice → (edge : EdgeRows) × Carries h (slice + 1) (Up edge) (Some b)
    is (Body body) e s q = absurd (elim (cases_lt 0 slice) [
      | inl more ↦ let z : 0 ≡ 2 = q ∙ (place_is_below slice).0 more in omega (arith, z)
      | inr few ↦ let z : 0 ≡ 1 = q ∙ (place_is_below slice).1 few in omega (arith, z)
    ])
    is (Down edge) e s q = absurd (elim (cases_lt 0 slice) [
      | inl more ↦ let z : 1 ≡ 2 = q ∙ (place_is_below slice).0 more in omega (arith, z)
      | inr few ↦ let z : b.slice + 1 ≡ slice = s in omega (arith, z, few)
    ])
    is (Up edge) e s q =
        let some = goes_up b.header b.slice b.bytes b.piece edge e d in
        let z : b.slice - 1 ≡ slice = s in
        let own : b.slice ≡ slice + 1 = omega (arith, z, some) in
        (edge, has_piece h (slice + 1) (Up edge) b by own e)

-- what does not close is followed by the next
next_in : (slice place : ℕ) (x : Carried) (xs : List Carried) → IsRun blocks slice place (x ∷ xs) → closes_stripe x ≡ false → IsRun blocks slice (suc place) xs
next_in slice place x xs run going = run.3 going

head_at : (slice place : ℕ) (values : List Carried) → IsRun blocks slice place values → (0 < length values) × StandsAt slice place (value_at values 0)
head_at slice place [] run = absurd run
head_at slice place (x ∷ xs) run = (omega arith, record { stripe = run.0; place_is = run.1 })

-- the stripe's own rows do not close it where there is another slice, nor does the edge from above where there is a slice after
body_open : (h : Header) (slice : ℕ) (v : Carried) (body : List BandLines) → 1 < slice_count h → IsBy h v → Carries h slice (Body body) v → closes_stripe v ≡ false
body_open h slice None body more by has = absurd has
body_open h slice (Some b) body more by has =
    ap (λ p. is_last_for (slice_count b.header) b.slice p) has.piece_is ∙ ne_eqb (slice_count b.header) 1 (λ one. let same : slice_count b.header ≡ slice_count h = ap slice_count by in omega (arith, one, same, more))

above_open : (h : Header) (slice : ℕ) (v : Carried) (edge : EdgeRows) → 0 < slice → slice + 1 < slice_count h → IsBy h v → Carries h (slice - 1) (Down edge) v → closes_stripe v ≡ false
above_open h slice None edge some more by has = absurd has
above_open h slice (Some b) edge some more by has =
    ap (λ p. is_last_for (slice_count b.header) b.slice p) has.piece_is ∙ ne_eqb (b.slice + 2) (slice_count b.header) (λ last. let same : slice_count b.header ≡ slice_count h = ap slice_count by in let s : b.slice ≡ slice - 1 = has.slice_is in omega (arith, last, same, more, s, some))

-- no blocks are those of a stripe
pub none_of : (h : Header) (slice : ℕ) (values : List Carried) → length values ≡ 0 → AreOf h slice values → ⊥
none_of h slice values none of = let some = (head_at slice 0 values of.0).0 in omega (arith, none, some)

-- the first is the stripe's own rows
pub body_of : (h : Header) (slice : ℕ) (values : List Carried) → AreOf h slice values → (body : List BandLines) × Carries h slice (Body body) (value_at values 0)
body_of h slice values of = first_is h slice (value_at values 0) (head_at slice 0 values of.0).1 (at_place (λ b. b.header ≡ h) values 0 of.1)

-- after the first comes another, where there is another slice
second_in : (h : Header) (slice : ℕ) (values : List Carried) → 1 < slice_count h → AreOf h slice values → (x : Carried) × (xs : List Carried) × (values ≡ x ∷ xs) × IsRun blocks slice 1 xs
second_in h slice [] more of = absurd of.0
second_in h slice (x ∷ xs) more of =
    let body = body_of h slice (x ∷ xs) of in (x, xs, refl, next_in slice 0 x xs of.0 (body_open h slice x body.0 more (at_place (λ b. b.header ≡ h) (x ∷ xs) 0 of.1) body.1))

-- then it stands at the second place
second_at : (h : Header) (slice : ℕ) (values : List Carried) → 1 < slice_count h → AreOf h slice values → (1 < length values) × StandsAt slice 1 (value_at values 1)
second_at h slice values more of = let s = second_in h slice values more of in let at = head_at slice 1 s.1 s.3 in
    (let long = ap length s.2 in let some = at.0 in omega (arith, long, some), subst (λ l. StandsAt slice 1 (value_at l 1)) (sym s.2) at.1)

-- in another stripe than the first it is the edge from above
pub above_of : (h : Header) (slice : ℕ) (values : List Carried) → 0 < slice → slice < slice_count h → AreOf h slice values → (1 < length values) × ((edge : EdgeRows) × Carries h (slice - 1) (Down edge) (value_at values 1))
above_of h slice values some there of = let at = second_at h slice values (omega (arith, some, there)) of in
    (at.0, second_is h slice (value_at values 1) some at.1 (at_place (λ b. b.header ≡ h) values 1 of.1))

third_at : (h : Header) (slice : ℕ) (values : List Carried) → 0 < slice → slice + 1 < slice_count h → AreOf h slice values → (2 < length values) × StandsAt slice 2 (value_at values 2)
third_at h slice values some more of = of_tail s.1 s.2 s.3
  where
    s : (x : Carried) × (xs : List Carried) × (values ≡ x ∷ xs) × IsRun blocks slice 1 xs
    s = second_in h slice values (omega (arith, some, more)) of

    above : (edge : EdgeRows) × Carries h (slice - 1) (Down edge) (value_at values 1)
    above = (above_of h slice values some (omega (arith, more)) of).1

    of_tail : (xs : List Carried) → values ≡ s.0 ∷ xs → IsRun blocks slice 1 xs → (2 < length values) × StandsAt slice 2 (value_at values 2)
    of_tail [] e run = absurd run
    of_tail (y ∷ ys) e run =
        let same : value_at values 1 ≡ y = ap (λ l. value_at l 1) e in
        let going = above_open h slice y above.0 some more (subst (IsBy h) same (at_place (λ b. b.header ≡ h) values 1 of.1)) (subst (Carries h (slice - 1) (Down above.0)) same above.1) in
        let at = head_at slice 2 ys (next_in slice 1 y ys run going) in
        (let long = ap length e in let rest = at.0 in omega (arith, long, rest), subst (λ l. StandsAt slice 2 (value_at l 2)) (sym e) at.1)

below_at : (h : Header) (slice : ℕ) (values : List Carried) → slice + 1 < slice_count h → AreOf h slice values → (place_below slice < length values) × StandsAt slice (place_below slice) (value_at values (place_below slice))
below_at h slice values more of = elim (cases_lt 0 slice) [
  | inl some ↦ let place : 2 ≡ place_below slice = sym (ap (λ (t : Bool). if t then 2 else 1) (lt-ltb 0 slice some)) in
      subst (λ p. (p < length values) × StandsAt slice p (value_at values p)) place (third_at h slice values some more of)
  | inr none ↦ let place : 1 ≡ place_below slice = sym (ap (λ (t : Bool). if t then 2 else 1) (le-ltb 0 slice none)) in
      subst (λ p. (p < length values) × StandsAt slice p (value_at values p)) place (second_at h slice values (omega (arith, more)) of)
]

-- where there is a slice after, the last is the edge from below
pub below_of : (h : Header) (slice : ℕ) (values : List Carried) → slice + 1 < slice_count h → AreOf h slice values
    → (place_below slice < length values) × (IsDecodedIf (value_at values (place_below slice)) → (edge : EdgeRows) × Carries h (slice + 1) (Up edge) (value_at values (place_below slice)))
below_of h slice values more of = let at = below_at h slice values more of in
    (at.0, λ d. last_is h slice (value_at values (place_below slice)) at.1 (at_place (λ b. b.header ≡ h) values (place_below slice) of.1) d)
