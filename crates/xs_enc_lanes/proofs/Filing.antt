-- What a pass files.
use Rattle.std.proofs.Common.{◌≡◌, ◌⊎◌, inl, inr, ℕ, ◌<◌, ◌≤◌, Some, None, [], ◌∷◌, ◌++◌, All, sum_by, refl, sym, ap, ◌∙◌, subst, arith}
use Rattle.std.specs.List.{Contains}
use Rattle.std.proofs.lemmas.List.Elements.{Contains-append_left, Contains-push, All-push}
use Rattle.std.proofs.lemmas.List.Sums.{sum_by_push}
use Rattle.xs_layout.specs.declared.Format.{Format}
use Rattle.xs_layout.specs.declared.Format.TheVariants.{Mono, C422, C444}
use Rattle.xs_layout.specs.Geometry.{components_of}
use Rattle.xs_params.specs.declared.header.Header.{Header}
use Rattle.xs_params.specs.Geometry.{slice_count}
use Rattle.xs_params.specs.Rows.{Rows}
use Rattle.xs_lane_core.specs.Places.{places}
use Rattle.xs_lane_core.specs.Machine.{Actor}
use Rattle.xs_lane_core.specs.Sound.{at}
use Rattle.xs_lane_core.proofs.Placed.{at_here}
use Rattle.xs_lanes.specs.declared.lanes.Put.{Put}
use Rattle.xs_lanes.specs.declared.lanes.Put.TheVariants.{Stored, Made, Repeat}
use Rattle.xs_lanes.specs.Answers.{Answers}
use Rattle.xs_enc_lanes.specs.declared.activity.Job.{Job}
use Rattle.xs_enc_lanes.specs.Coded.{rows_of_job}
use Rattle.xs_enc_lanes.specs.Rows.{Carried, CarriesRows, component_in, parts, slice_of}
use Rattle.xs_enc_lanes.specs.Working.{IsFiled, StoresRows}

-- the value was stored, or its place is repeated
abbrev pub Puts : Carried → Actor Carried → Actor Carried → Type 0
Puts x v w = ((w.stored ≡ v.stored ++ x ∷ []) × (w.repeated ≡ v.repeated)) ⊎ ((w.stored ≡ v.stored) × (w.repeated ≡ v.repeated ++ (slice_of x, component_in x) ∷ []))

pub puts_is : (v : Actor Carried) (x : Carried) (w : Actor Carried) (r : Put Carried) → Answers parts v x w r → Puts x v w × (w.got ≡ v.got)
puts_is v x w Stored (inl (before, has, debt, view)) = (inl (ap (λ (z : Actor Carried). z.stored) view, ap (λ (z : Actor Carried). z.repeated) view), ap (λ (z : Actor Carried). z.got) view)
puts_is v x w Stored (inr (before, summary, sum, rest)) = (inl (ap (λ (z : Actor Carried). z.stored) sum.view, ap (λ (z : Actor Carried). z.repeated) sum.view), ap (λ (z : Actor Carried). z.got) sum.view)
puts_is v x w Made (before, summary, sum, part, made) = (inl (ap (λ (z : Actor Carried). z.stored) sum.view, ap (λ (z : Actor Carried). z.repeated) sum.view), ap (λ (z : Actor Carried). z.got) sum.view)
puts_is v x w (Repeat y) (same, view, alone) = (inr (ap (λ (z : Actor Carried). z.stored) view, ap (λ (z : Actor Carried). z.repeated) view), ap (λ (z : Actor Carried). z.got) view)

pub stores_more : (job : Job) (v w : Actor Carried) (x : Carried) → Puts x v w → CarriesRows job.header.now (rows_of_job job) x → StoresRows job v → StoresRows job w
stores_more job v w x (inl p) carries all = subst (All (CarriesRows job.header.now (rows_of_job job))) (sym p.0) (All-push (CarriesRows job.header.now (rows_of_job job)) v.stored x all carries)
stores_more job v w x (inr p) carries all = subst (All (CarriesRows job.header.now (rows_of_job job))) (sym p.0) all

pub filed_here : (v w : Actor Carried) (x : Carried) → Puts x v w → IsFiled w (slice_of x) (component_in x)
filed_here v w x (inl p) =
    let one = at_here parts (slice_of x) (component_in x) x refl refl in
    let sum = ap (sum_by (at parts (slice_of x) (component_in x))) p.0 ∙ sum_by_push (at parts (slice_of x) (component_in x)) v.stored x in
    inl (omega (arith, one, sum))
filed_here v w x (inr p) = inr (subst (λ l. Contains l (slice_of x, component_in x)) (sym p.1) (Contains-push v.repeated (slice_of x, component_in x)))

pub filed_still : (v w : Actor Carried) (x : Carried) (slice component : ℕ) → Puts x v w → IsFiled v slice component → IsFiled w slice component
filed_still v w x slice component (inl p) (inl some) =
    let sum = ap (sum_by (at parts slice component)) p.0 ∙ sum_by_push (at parts slice component) v.stored x in
    inl (omega (arith, some, sum))
filed_still v w x slice component (inl p) (inr c) = inr (subst (λ l. Contains l (slice, component)) (sym p.1) c)
filed_still v w x slice component (inr p) (inl some) = inl (subst (λ l. 0 < sum_by (at parts slice component) l) (sym p.0) some)
filed_still v w x slice component (inr p) (inr c) = inr (subst (λ l. Contains l (slice, component)) (sym p.1) (Contains-append_left v.repeated ((slice_of x, component_in x) ∷ []) (slice, component) c))

-- Where rows of the picture stand

few_components : (f : Format) → components_of f ≤ 3
few_components Mono = omega arith
few_components C422 = omega arith
few_components C444 = omega arith

pub carried_lane : (h : Header) (rows : Rows) (v : Carried) → CarriesRows h rows v → slice_of v < slice_count h
carried_lane h rows None c = absurd c
carried_lane h rows (Some x) c = c.slice

pub carried_place : (h : Header) (rows : Rows) (v : Carried) → CarriesRows h rows v → component_in v < places
carried_place h rows None c = absurd c
carried_place h rows (Some x) c = let few = few_components h.shape.format in let there = c.component in omega (arith, few, there)
