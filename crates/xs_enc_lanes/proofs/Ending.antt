-- What stands at the end: each slice of the picture was filed, got and coded once.
use Rattle.std.proofs.Common.{◌≡◌, ◌≢◌, ◌⊎◌, inl, inr, ℕ, suc, ◌+◌, ◌-◌, ◌<◌, ◌≤◌, true, false, Some, None, List, [], ◌∷◌, All, sum_by, refl, sym, ◌∙◌, subst, arith}
use Rattle.std.specs.Prelude.{nat_eq}
use Rattle.std.specs.List.{Contains}
use Rattle.std.proofs.lemmas.Bool.{cases_eq, eq-eqb, ne_eqb}
use Rattle.std.proofs.lemmas.List.Elements.{All-contains, All-contains_itself, All-weaker, All-head, All-tail}
use Rattle.std.proofs.lemmas.List.Sums.{get_or-le-sum_by}
use Rattle.xs_layout.specs.declared.Format.{Format}
use Rattle.xs_layout.specs.declared.Format.TheVariants.{Mono, C422, C444}
use Rattle.xs_layout.specs.Geometry.{components_of}
use Rattle.xs_params.specs.declared.header.Header.{Header}
use Rattle.xs_params.specs.Geometry.{slice_count}
use Rattle.xs_params.specs.Rows.{Rows}
use Rattle.xs_lane_core.specs.Machine.{Actor}
use Rattle.xs_lane_core.specs.Sound.{IsAlone, at, closes_at, in_lane}
use Rattle.xs_lane_core.proofs.Finds.{some_element}
use Rattle.xs_lane_core.proofs.Placed.{at_here, closes_here, in_lane_other, is_at}
use Rattle.xs_lanes.specs.Claiming.{IsRun}
use Rattle.xs_lanes.specs.Knowing.{IsWhole, stored_at}
use Rattle.xs_lanes.specs.Passes.{view}
use Rattle.xs_lanes.specs.Settled.{IsDone}
use Rattle.xs_enc_lanes.specs.declared.activity.Activity.{Activity}
use Rattle.xs_enc_lanes.specs.declared.activity.CodedSlice.{CodedSlice}
use Rattle.xs_enc_lanes.specs.declared.activity.Job.{Job}
use Rattle.xs_enc_lanes.specs.Answered.{AreSliced}
use Rattle.xs_enc_lanes.specs.Coded.{ArePadded, HasSlice, IsCodedOf, IsCodedOutcome, rows_of_job}
use Rattle.xs_enc_lanes.specs.Finished.{GotEachOnce, StoresPicture}
use Rattle.xs_enc_lanes.specs.Placed.{AllCarry, CarriesIn}
use Rattle.xs_enc_lanes.specs.Rows.{Carried, CarriesRows, HasComponent, component_in, is_last, parts, slice_of}
use Rattle.xs_enc_lanes.specs.Working.{FilesNothing, Goes, HasAllFiled, HasSwept, IsFiled, SweepsTo}
use Rattle.xs_enc_lanes.proofs.Claiming.{alone_still}
use Rattle.xs_enc_lanes.proofs.Keeping.{run_lane}

-- Values

counts : {A : Type 0} (f : A → ℕ) (xs : List A) (x : A) → Contains xs x → f x ≤ sum_by f xs
counts f xs x (i, lt, e) = subst (λ y. f y ≤ sum_by f xs) e (get_or-le-sum_by f xs i x lt)

pub carries_in : (h : Header) (rows : Rows) (slice : ℕ) (v : Carried) → CarriesRows h rows v → slice_of v ≡ slice → CarriesIn h slice v rows
carries_in h rows slice None c e = c
carries_in h rows slice (Some x) c e = (c, e)

-- the last component closes the lane, and no other does
closes_of : (h : Header) (rows : Rows) (v : Carried) → CarriesRows h rows v → is_last v ≡ nat_eq (component_in v + 1) (components_of h.shape.format)
closes_of h rows None c = absurd c
closes_of h rows (Some x) c = c.last

few_components : (f : Format) → (1 ≤ components_of f) × (components_of f ≤ 3)
few_components Mono = (omega arith, omega arith)
few_components C422 = (omega arith, omega arith)
few_components C444 = (omega arith, omega arith)

-- a run of values of the picture has each component
covers_from : (h : Header) (rows : Rows) (slice place : ℕ) (values : List Carried) → IsRun parts slice place values → All (CarriesRows h rows) values → (component : ℕ) → place ≤ component → component < components_of h.shape.format
    → HasComponent values component
covers_from h rows slice place [] run all component from below = absurd run
covers_from h rows slice place (v ∷ vs) run all component from below =
    by (cases_eq component place) (λ other. covers_from h rows slice (suc place) vs (run.3 (open_still other)) (All-tail (CarriesRows h rows) v vs all) component (omega (arith, from, other)) below)
  where
    here : component_in v ≡ place
    here = run.1

    open_still : component ≢ place → is_last v ≡ false
    open_still other =
        let apart : component_in v + 1 ≢ components_of h.shape.format = λ e. omega (arith, e, here, from, below, other) in
        closes_of h rows v (All-head (CarriesRows h rows) v vs all) ∙ ne_eqb (component_in v + 1) (components_of h.shape.format) apart

    by : (component ≡ place) ⊎ (component ≢ place) → (component ≢ place → HasComponent vs component) → HasComponent (v ∷ vs) component
    by (inl same) rest = (v, (0, omega arith, refl), here ∙ sym same)
    by (inr other) rest =
        let r = rest other in
        let has = r.1 in
        (r.0, (suc has.0, (let lt = has.1 in omega (arith, lt)), has.2), r.2)

pub run_covers : (h : Header) (rows : Rows) (slice : ℕ) (values : List Carried) → IsRun parts slice 0 values → All (CarriesRows h rows) values → (component : ℕ) → component < components_of h.shape.format → HasComponent values component
run_covers h rows slice values run all component below = covers_from h rows slice 0 values run all component (omega arith) below

-- The sweep

filed_same : (v w : Actor Carried) (slice component : ℕ) → FilesNothing v w → IsFiled v slice component → IsFiled w slice component
filed_same v w slice component files (inl some) = inl (subst (λ l. 0 < sum_by (at parts slice component) l) (sym files.stored) some)
filed_same v w slice component files (inr has) = inr (subst (λ l. Contains l (slice, component)) (sym files.repeated) has)

pub swept_of : (job : Job) (a b : Activity) → HasAllFiled job a → IsAlone (view a.pass) → Goes job a b → SweepsTo (slice_count job.header.now) a b → b.starved ≡ false → HasSwept job b
swept_of job a b all alone goes sweeps sated = record {
  ready = goes.ready;
  alone = alone_still (view a.pass) (view b.pass) goes.share alone;
  sated = sated;
  stored = subst (All (CarriesRows job.header.now (rows_of_job job))) (sym goes.files.stored) all.stored;
  files = λ c below slice there. filed_same (view a.pass) (view b.pass) slice c goes.files (all.files (goes.starved sated) c below slice there);
  got = sweeps alone sated;
}

-- The end

module _ (job : Job) (a : Activity) (swept : HasSwept job a) (done : IsDone parts (view a.pass)) (padded : ArePadded job.header.now (rows_of_job job)) where
  abbrev pub h : Header
  h = job.header.now

  abbrev pub rows : Rows
  rows = rows_of_job job

  abbrev pub v : Actor Carried
  v = view a.pass

  abbrev pub comps : ℕ
  comps = components_of h.shape.format

  stored_once : (slice component : ℕ) → slice < slice_count h → component < comps → stored_at parts slice component v ≡ 1
  stored_once slice component there below = by (swept.files component below slice there)
    where
      by : IsFiled v slice component → stored_at parts slice component v ≡ 1
      by (inl some) = let most = done.choice.one slice component in omega (arith, some, most)
      by (inr has) = All-contains (λ z. stored_at parts z.0 z.1 v ≡ 1) v.repeated (slice, component) done.choice.repeated has

  pub stores_picture : StoresPicture h job.picture.now v
  stores_picture = record { rows = swept.stored; one = stored_once }

  -- the lane of each slice is whole
  lane_whole : (slice : ℕ) → slice < slice_count h → IsWhole parts slice v
  lane_whole slice there = (comps - 1, omega (arith, few), closing, λ p below. let one = stored_once slice p there (omega (arith, below)) in omega (arith, one))
    where
      few : (1 ≤ comps) × (comps ≤ 3)
      few = few_components h.shape.format

      last : comps - 1 < comps
      last = omega (arith, few)

      closing : 0 < sum_by (closes_at parts slice (comps - 1)) v.stored
      closing =
          let one = stored_once slice (comps - 1) there last in
          let found = some_element (at parts slice (comps - 1)) v.stored (omega (arith, one)) in
          let x : Carried = found.0 in
          let place = is_at parts slice (comps - 1) x found.1 in
          let next : component_in x + 1 ≡ comps = omega (arith, place.1, few) in
          let closes : is_last x ≡ true = closes_of h rows x (All-contains (CarriesRows h rows) v.stored x swept.stored found.2) ∙ eq-eqb (component_in x + 1) comps next in
          let here = closes_here parts slice (comps - 1) x closes place.0 place.1 in
          let most = counts (closes_at parts slice (comps - 1)) v.stored x found.2 in
          omega (arith, here, most)

  -- so it was got, and its slice is kept
  slice_kept : (slice : ℕ) → slice < slice_count h → HasSlice a.kept.items slice
  slice_kept slice there =
      let found = some_element (in_lane parts slice) v.got (swept.got slice there (lane_whole slice there)) in
      let x : Carried = found.0 in
      let kept = All-contains (λ (y : Carried). HasSlice a.kept.items (slice_of y)) v.got x (swept.ready.keeps.each swept.sated) found.2 in
      subst (HasSlice a.kept.items) (of_lane x found.1) kept
    where
      of_lane : (x : Carried) → 0 < in_lane parts slice x → slice_of x ≡ slice
      of_lane x some = elim (cases_eq (slice_of x) slice) [
        | inl same ↦ same
        | inr other ↦ let none = in_lane_other parts slice x other in absurd (omega (arith, none, some))
      ]

  -- what was got are rows of the picture
  got_carries : (x : Carried) → Contains v.got x → CarriesRows h rows x
  got_carries x has = All-contains (CarriesRows h rows) v.stored x swept.stored (All-contains (Contains v.stored) v.got x done.got has)

  values_carry : (values : List Carried) → All (Contains v.got) values → All (CarriesRows h rows) values
  values_carry values from = All-weaker (Contains v.got) (CarriesRows h rows) got_carries values from

  all_carry : (slice : ℕ) (values : List Carried) → IsRun parts slice 0 values → All (Contains v.got) values → AllCarry h slice values rows
  all_carry slice values run from =
      All-weaker (Contains values) (λ (x : Carried). CarriesIn h slice x rows)
      (λ x has. carries_in h rows slice x (All-contains (CarriesRows h rows) values x (values_carry values from) has) (All-contains (λ (y : Carried). slice_of y ≡ slice) values x (run_lane parts slice 0 values run) has)) values (All-contains_itself values)

  outcome_right : (c : CodedSlice) → IsCodedOf job v.got c → IsCodedOutcome h rows job.share job.fill c.slice c.outcome
  outcome_right c is = is.coded rows padded (all_carry c.slice is.values is.run is.from) (run_covers h rows c.slice is.values is.run (values_carry is.values is.from))

  pub are_sliced : AreSliced h rows job.share job.fill a.kept.items
  are_sliced = record { each = slice_kept; right = All-weaker (IsCodedOf job v.got) (λ (c : CodedSlice). IsCodedOutcome h rows job.share job.fill c.slice c.outcome) outcome_right a.kept.items swept.ready.keeps.coded }

  pub got_once : GotEachOnce h v
  got_once slice component there below =
      let kept = slice_kept slice there in
      let c : CodedSlice = kept.0 in
      let is : IsCodedOf job v.got c = All-contains (IsCodedOf job v.got) a.kept.items c swept.ready.keeps.coded kept.1 in
      let found = run_covers h rows c.slice is.values is.run (values_carry is.values is.from) component below in
      let x : Carried = found.0 in
      let lane : slice_of x ≡ slice = All-contains (λ (y : Carried). slice_of y ≡ c.slice) is.values x (run_lane parts c.slice 0 is.values is.run) found.1 ∙ kept.2 in
      let one = at_here parts slice component x lane found.2 in
      let most = counts (at parts slice component) v.got x (All-contains (Contains v.got) is.values x is.from found.1) in
      let once = done.once slice component in
      omega (arith, one, most, once)
