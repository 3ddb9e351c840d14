-- Blocks that are filed, and the stripes that they make whole.
use Rattle.std.proofs.Common.{◌≡◌, ◌⊎◌, inl, inr, ℕ, ◌+◌, ◌-◌, ◌<◌, ◌≤◌, Bool, true, Some, None, List, All, sum_by, eq-eqb, refl, sym, ap, subst, ◌∙◌, arith}
use Rattle.std.specs.Prelude.{if◌then◌else◌}
use Rattle.std.specs.List.{Contains}
use Rattle.std.proofs.lemmas.Bool.{cases_lt, le-ltb, lt-ltb}
use Rattle.std.proofs.lemmas.List.Elements.{All-contains}
use Rattle.std.proofs.lemmas.List.Sums.{get_or-le-sum_by}
use Rattle.xs_params.specs.declared.header.Header.{Header}
use Rattle.xs_params.specs.Geometry.{slice_count}
use Rattle.xs_reading.specs.Slice.{slice_unit_fault}
use Rattle.xs_grammar.specs.Precinct.{Content}
use Rattle.xs_grammar.specs.Slice.{IsSliceUnit}
use Rattle.xs_lane_core.specs.Machine.{Actor}
use Rattle.xs_lane_core.specs.Sound.{at, closes_at}
use Rattle.xs_lane_core.proofs.Finds.{some_element}
use Rattle.xs_lane_core.proofs.Placed.{at_here, closes_here, is_at}
use Rattle.xs_lanes.specs.Knowing.{IsChoice, IsWhole, stored_at}
use Rattle.xs_capture.specs.Selection.{HasBytes, Held}
use Rattle.xs_stripe.specs.Edges.{EdgeRows}
use Rattle.xs_handover.specs.declared.piece.Piece.{Piece}
use Rattle.xs_handover.specs.declared.piece.Piece.TheVariants.{Body, Up, Down}
use Rattle.xs_handover.specs.Blocks.{Carried, blocks, block_of, closes_stripe, is_last_for, place_for, block_place, stripe_for, stripe_of}
use Rattle.xs_handover.specs.Decoded.{IsDecodedBlock}
use Rattle.xs_handover.specs.Handing.{IsFiled, source_of}
use Rattle.xs_recv.specs.Handed.{AreHanded, IsBlockIn}
use Rattle.xs_recv.specs.Finishing.{IsWholeIfChosen}
use Rattle.xs_recv.proofs.Wholes.{one_unit}

-- Places

counts : (f : Carried → ℕ) (list : List Carried) (x : Carried) → Contains list x → f x ≤ sum_by f list
counts f list x has = let le = get_or-le-sum_by f list has.0 x has.1 in let same = ap f has.2 in omega (arith, le, same)

-- where a value is filed, one is stored
filled : (v : Actor Carried) (x : Carried) → IsChoice blocks v → IsFiled v x → 0 < stored_at blocks (stripe_of x) (block_place x) v
filled v x choice (inl has) =
    let one = at_here blocks (stripe_of x) (block_place x) x refl refl in
    let more = counts (at blocks (stripe_of x) (block_place x)) v.stored x has in
    omega (arith, one, more)
filled v x choice (inr again) =
    let one = All-contains (λ (z : ℕ × ℕ). stored_at blocks z.0 z.1 v ≡ 1) v.repeated (stripe_of x, block_place x) choice.repeated again in
    omega (arith, one)

-- where one is stored, there is a value
stored_there : (v : Actor Carried) (stripe place : ℕ) → 0 < stored_at blocks stripe place v → (x : Carried) × Contains v.stored x × (stripe_of x ≡ stripe) × (block_place x ≡ place)
stored_there v stripe place some =
    let r = some_element (at blocks stripe place) v.stored some in
    let there = is_at blocks stripe place r.0 r.1 in
    (r.0, r.2, there.0, there.1)

-- the place of an edge that goes up is 1 or 2
up_place : (s : ℕ) (edge : EdgeRows) → (1 < s → place_for s (Up edge) ≡ 2) × (s ≤ 1 → place_for s (Up edge) ≡ 1)
up_place s edge = (λ more. ap (λ (t : Bool). if t then 2 else 1) (lt-ltb 1 s more), λ few. ap (λ (t : Bool). if t then 2 else 1) (le-ltb 1 s few))

-- The last block of a stripe closes it

-- the stripe has its last block at this place
abbrev IsLast : ℕ → ℕ → ℕ → Type 0
IsLast slices stripe place = ((slices ≡ 1) × (place ≡ 0)) ⊎ (((stripe + 1 < slices) × (1 ≤ place) × (0 < stripe → place ≡ 2)) ⊎ ((0 < stripe) × (stripe + 1 ≡ slices) × (place ≡ 1)))

closes_by : (slices slice stripe place : ℕ) (piece : Piece) → IsLast slices stripe place → stripe_for slice piece ≡ stripe → place_for slice piece ≡ place → is_last_for slices slice piece ≡ true
closes_by slices slice stripe place (Body body) (inl one) s p = eq-eqb slices 1 one.0
closes_by slices slice stripe place (Body body) (inr (inl more)) s p = let e : 0 ≡ place = p in absurd (omega (arith, e, more.1))
closes_by slices slice stripe place (Body body) (inr (inr end)) s p = let e : 0 ≡ place = p in absurd (omega (arith, e, end.2))
closes_by slices slice stripe place (Up edge) last s p = refl
closes_by slices slice stripe place (Down edge) (inl one) s p = let e : 1 ≡ place = p in absurd (omega (arith, e, one.1))
closes_by slices slice stripe place (Down edge) (inr (inl more)) s p =
    let e : 1 ≡ place = p in
    let t : slice + 1 ≡ stripe = s in
    let two = more.2 (omega (arith, t)) in
    absurd (omega (arith, e, two))
closes_by slices slice stripe place (Down edge) (inr (inr end)) s p = let t : slice + 1 ≡ stripe = s in eq-eqb (slice + 2) slices (omega (arith, t, end.1))

closes_last : (h : Header) (stripe place : ℕ) (x : Carried) → IsLast (slice_count h) stripe place → (held : Held) → IsBlockIn held h x → stripe_of x ≡ stripe → block_place x ≡ place → closes_stripe x ≡ true
closes_last h stripe place None last held from s p = absurd from
closes_last h stripe place (Some b) last held from s p = closes_by (slice_count b.header) b.slice stripe place b.piece (subst (λ k. IsLast (slice_count k) stripe place) (sym from.0) last) s p

-- A stripe is whole

-- all that a stripe needs is filed, by a header of so many slices
pub record AreFiled (slices stripe : ℕ) (v : Actor Carried) : Type 0 where
  pub body : (x : Carried) × IsFiled v x × (stripe_of x ≡ stripe) × (block_place x ≡ 0)
  pub above : 0 < stripe → (x : Carried) × IsFiled v x × (stripe_of x ≡ stripe) × (block_place x ≡ 1)
  pub below : stripe + 1 < slices → (x : Carried) × IsFiled v x × (stripe_of x ≡ stripe) × (0 < stripe → block_place x ≡ 2) × (stripe ≤ 0 → block_place x ≡ 1)

stored_of : (v : Actor Carried) (stripe place : ℕ) (x : Carried) → IsChoice blocks v → IsFiled v x → stripe_of x ≡ stripe → block_place x ≡ place → 0 < stored_at blocks stripe place v
stored_of v stripe place x choice has s p = subst (λ n. 0 < stored_at blocks stripe n v) p (subst (λ n. 0 < stored_at blocks n (block_place x) v) s (filled v x choice has))

-- the places up to the last one are stored
whole_at : (held : Held) (h : Header) (v : Actor Carried) (stripe place : ℕ) → place < 512 → IsLast (slice_count h) stripe place → All (IsBlockIn held h) v.stored → ((p : ℕ) → p < place + 1 → 0 < stored_at blocks stripe p v)
    → IsWhole blocks stripe v
whole_at held h v stripe place low last from all =
    let x = stored_there v stripe place (all place (omega arith)) in
    let closes = closes_last h stripe place x.0 last held (All-contains (IsBlockIn held h) v.stored x.0 from x.1) x.2 x.3 in
    let one = closes_here blocks stripe place x.0 closes x.2 x.3 in
    let some = counts (closes_at blocks stripe place) v.stored x.0 x.1 in
    (place, low, omega (arith, one, some), λ p below. all p (omega (arith, below)))

pub whole_stripe : (held : Held) (h : Header) (v : Actor Carried) (stripe : ℕ) → stripe < slice_count h → All (IsBlockIn held h) v.stored → AreFiled (slice_count h) stripe v → IsWholeIfChosen stripe v
whole_stripe held h v stripe there from filed choice = elim (cases_lt (stripe + 1) (slice_count h)) [
  | inl more ↦ elim (cases_lt 0 stripe) [
    | inl some ↦ whole_at held h v stripe 2 (omega arith) (inr (inl (more, omega arith, λ s. refl))) from (three more some)
    | inr first ↦ whole_at held h v stripe 1 (omega arith) (inr (inl (more, omega arith, λ s. absurd (omega (arith, s, first))))) from (two more first)
  ]
  | inr end ↦ elim (cases_lt 0 stripe) [
    | inl some ↦ whole_at held h v stripe 1 (omega arith) (inr (inr (some, omega (arith, end, there), refl))) from (pair some)
    | inr first ↦ whole_at held h v stripe 0 (omega arith) (inl (omega (arith, end, first, there), refl)) from alone
  ]
]
  where
    own : (p : ℕ) → p < 1 → 0 < stored_at blocks stripe p v
    own p low = let b = filed.body in let zero_is : 0 ≡ p = omega (arith, low) in stored_of v stripe p b.0 choice b.1 b.2 (b.3 ∙ zero_is)

    alone : (p : ℕ) → p < 0 + 1 → 0 < stored_at blocks stripe p v
    alone p low = own p (omega (arith, low))

    next : 0 < stripe → (p : ℕ) → 1 ≡ p → 0 < stored_at blocks stripe p v
    next some p is = let b = filed.above some in stored_of v stripe p b.0 choice b.1 b.2 (b.3 ∙ is)

    pair : 0 < stripe → (p : ℕ) → p < 1 + 1 → 0 < stored_at blocks stripe p v
    pair some p low = elim (cases_lt p 1) [ inl zero_is ↦ own p zero_is | inr one ↦ next some p (omega (arith, one, low)) ]

    two : stripe + 1 < slice_count h → stripe ≤ 0 → (p : ℕ) → p < 1 + 1 → 0 < stored_at blocks stripe p v
    two more first p low = elim (cases_lt p 1) [
      | inl zero_is ↦ own p zero_is
      | inr one ↦ let b = filed.below more in let is : 1 ≡ p = omega (arith, one, low) in stored_of v stripe p b.0 choice b.1 b.2 (b.4 first ∙ is)
    ]

    three : stripe + 1 < slice_count h → 0 < stripe → (p : ℕ) → p < 2 + 1 → 0 < stored_at blocks stripe p v
    three more some p low = elim (cases_lt p 2) [
      | inl less ↦ pair some p (omega (arith, less))
      | inr last ↦ let b = filed.below more in let is : 2 ≡ p = omega (arith, last, low) in stored_of v stripe p b.0 choice b.1 b.2 (b.3 some ∙ is)
    ]

-- what is handed of the slice and of those beside it is what its stripe needs
pub filed_of : (h : Header) (v : Actor Carried) (slice : ℕ) → ((k : ℕ) → k < slice_count h → (bytes : List ℕ) × AreHanded h k bytes v) → slice < slice_count h → AreFiled (slice_count h) slice v
filed_of h v slice handed there = record {
  body = let b = (handed slice there).1.body in (_, b.1, refl, refl);
  above = λ some.
      let before : slice - 1 < slice_count h = omega (arith, there) in
      let more : slice - 1 + 1 < slice_count h = omega (arith, there, some) in
      let here : slice - 1 + 1 ≡ slice = omega (arith, some) in
      let b = (handed (slice - 1) before).1.down more in (_, b.1, here, refl);
  below = λ more.
      let some : 0 < slice + 1 = omega arith in
      let here : slice + 1 - 1 ≡ slice = omega arith in
      let b = (handed (slice + 1) more).1.up some in
      (_, b.1, here, λ far. (up_place (slice + 1) b.0).0 (omega (arith, far)), λ first. (up_place (slice + 1) b.0).1 (omega (arith, first)));
}

-- A unit whose rows are handed is sound

-- at the first place stand the stripe's own rows
own_rows : (slice : ℕ) (piece : Piece) (stripe : ℕ) → stripe_for slice piece ≡ stripe → place_for slice piece ≡ 0 → slice ≡ stripe
own_rows slice (Body body) stripe s p = s
own_rows slice (Up edge) stripe s p = absurd (elim (cases_lt 1 slice) [
  | inl more ↦ let z : 0 ≡ 2 = sym p ∙ (up_place slice edge).0 more in omega (arith, z)
  | inr few ↦ let z : 0 ≡ 1 = sym p ∙ (up_place slice edge).1 few in omega (arith, z)
])
own_rows slice (Down edge) stripe s p = let z : 1 ≡ 0 = p in absurd (omega (arith, z))

abbrev pub IsSoundUnit : Header → ℕ → List ℕ → Type 0
IsSoundUnit h slice bytes = (slice_unit_fault h slice bytes ≡ None) × ((content : Content) × IsSliceUnit h content slice bytes)

sound_block : (held : Held) (h : Header) (slice : ℕ) (bytes : List ℕ) (x : Carried) → HasBytes held (slice + 1) bytes → IsBlockIn held h x → IsDecodedBlock x → stripe_of x ≡ slice → block_place x ≡ 0 → IsSoundUnit h slice bytes
sound_block held h slice bytes None whole from d s p = absurd from
sound_block held h slice bytes (Some b) whole from d s p =
    let own : b.slice ≡ slice = own_rows b.slice b.piece slice s p in
    let same : b.bytes ≡ bytes = one_unit held (slice + 1) b.bytes bytes (subst (λ k. HasBytes held (k + 1) b.bytes) own from.1) whole in
    subst (λ l. IsSoundUnit h slice l) same (subst (λ k. IsSoundUnit h k b.bytes) own (subst (λ k. IsSoundUnit k b.slice b.bytes) from.0 (d.no_fault, (d.content, d.spelled))))

pub sound_unit : (held : Held) (h : Header) (v : Actor Carried) (slice : ℕ) (bytes : List ℕ) → IsChoice blocks v → All (IsBlockIn held h) v.stored → All IsDecodedBlock v.stored → HasBytes held (slice + 1) bytes → AreHanded h slice bytes v
    → IsSoundUnit h slice bytes
sound_unit held h v slice bytes choice from decoded whole handed =
    let x = stored_there v slice 0 (filled v (Some (block_of (source_of h slice bytes) (Body handed.body.0))) choice handed.body.1) in
    sound_block held h slice bytes x.0 whole (All-contains (IsBlockIn held h) v.stored x.0 from x.1) (All-contains IsDecodedBlock v.stored x.0 decoded x.1) x.2 x.3
