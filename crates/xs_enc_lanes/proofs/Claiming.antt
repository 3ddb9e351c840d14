-- What a claim tells, and what a pass with the whole share gets by it.
use Rattle.std.proofs.Common.{◌≡◌, ◌≢◌, inl, inr, ℕ, ◌+◌, ◌^◌, ◌<◌, List, [], ◌∷◌, ◌++◌, sum_by, append_assoc, append-nil, refl, sym, ap, ◌∙◌, subst, arith}
use Rattle.std.proofs.lemmas.Bool.{cases_eq}
use Rattle.std.proofs.lemmas.List.Sums.{sum_by-append, get_or-le-sum_by}
use Rattle.xs_lane_core.specs.Places.{every_word, places}
use Rattle.xs_lane_core.specs.Machine.{Actor, sees}
use Rattle.xs_lane_core.specs.Sound.{IsAlone, at, closes_at, in_lane}
use Rattle.xs_lane_core.proofs.Placed.{in_lane_here}
use Rattle.xs_lanes.specs.Knowing.{FindsSummary, IsWhole, SameShare}
use Rattle.xs_lanes.specs.Claiming.{HasFoundGone, HasGot, HasSeenPart, IsRun, got_in}
use Rattle.xs_lanes.specs.Plays.{stand_seen}
use Rattle.xs_lanes.specs.Passes.{view}
use Rattle.xs_lanes.proofs.Wholes.{whole_summary}
use Rattle.xs_enc_lanes.specs.declared.activity.Activity.{Activity}
use Rattle.xs_enc_lanes.specs.declared.activity.Job.{Job}
use Rattle.xs_enc_lanes.specs.declared.claim.Tried.{Tried}
use Rattle.xs_enc_lanes.specs.declared.claim.Tried.TheVariants.{Got, NotWhole, Gone, Starved}
use Rattle.xs_enc_lanes.specs.Claimed.{Tells}
use Rattle.xs_enc_lanes.specs.Rows.{Carried, parts}
use Rattle.xs_enc_lanes.specs.Working.{FilesNothing, GetsMore, Goes, GotIfWhole, IsReadyToCode, Sweeps, SweepsTo}

-- What was got

pub got_values : (v w : Actor Carried) (slice : ℕ) (values : List Carried) → HasGot parts v slice values w → w.got ≡ v.got ++ values
got_values v w slice values h = ap (λ (z : Actor Carried). z.got) h.view

pub part_got : (v w : Actor Carried) (slice set : ℕ) → HasSeenPart parts v slice set w → w.got ≡ v.got
part_got v w slice set h = ap (λ (z : Actor Carried). z.got) h.view

pub gone_got : (v w : Actor Carried) (slice : ℕ) → HasFoundGone parts v slice w → w.got ≡ v.got
gone_got v w slice h = ap (λ (z : Actor Carried). z.got) h.view

pub more_none : (v w : Actor Carried) → w.got ≡ v.got → GetsMore v w
more_none v w e = ([], e ∙ sym (append-nil v.got))

pub tells_more : (v w : Actor Carried) (slice : ℕ) (tried : Tried) (values : List Carried) → Tells v slice tried values w → GetsMore v w
tells_more v w slice Got values h = (values, got_values v w slice values h)
tells_more v w slice NotWhole values (set, h) = more_none v w (part_got v w slice set h)
tells_more v w slice Gone values h = more_none v w (gone_got v w slice h)
tells_more v w slice Starved values h = absurd h

pub tells_files : (v w : Actor Carried) (slice : ℕ) (tried : Tried) (values : List Carried) → Tells v slice tried values w → FilesNothing v w
tells_files v w slice Got values h = record { stored = ap (λ (z : Actor Carried). z.stored) h.view; repeated = ap (λ (z : Actor Carried). z.repeated) h.view }
tells_files v w slice NotWhole values (set, h) = record { stored = ap (λ (z : Actor Carried). z.stored) h.view; repeated = ap (λ (z : Actor Carried). z.repeated) h.view }
tells_files v w slice Gone values h = record { stored = ap (λ (z : Actor Carried). z.stored) h.view; repeated = ap (λ (z : Actor Carried). z.repeated) h.view }
tells_files v w slice Starved values h = absurd h

-- where the slice was not got, nothing was
pub told_nothing : (v w : Actor Carried) (slice : ℕ) (tried : Tried) (values : List Carried) → tried ≢ Got → Tells v slice tried values w → w.got ≡ v.got
told_nothing v w slice Got values not h = absurd (not refl)
told_nothing v w slice NotWhole values not (set, h) = part_got v w slice set h
told_nothing v w slice Gone values not h = gone_got v w slice h
told_nothing v w slice Starved values not h = absurd h

-- Sweeping

run_counts : (slice : ℕ) (values : List Carried) → IsRun parts slice 0 values → 0 < sum_by (in_lane parts slice) values
run_counts slice [] run = absurd run
run_counts slice (x ∷ xs) run =
    let one = in_lane_here parts slice x run.0 in
    let some = get_or-le-sum_by (in_lane parts slice) (x ∷ xs) 0 x (omega arith) in
    omega (arith, one, some)

pub got_more : (slice : ℕ) (got more : List Carried) → sum_by (in_lane parts slice) (got ++ more) ≡ sum_by (in_lane parts slice) got + sum_by (in_lane parts slice) more
got_more slice got more = sum_by-append (in_lane parts slice) got more

got_swept : (v w : Actor Carried) (slice : ℕ) (values : List Carried) → HasGot parts v slice values w → GotIfWhole w slice
got_swept v w slice values h whole =
    let sum = ap (sum_by (in_lane parts slice)) (got_values v w slice values h) ∙ got_more slice v.got values in
    let some = run_counts slice values h.run in
    omega (arith, sum, some)

part_swept : (v w : Actor Carried) (slice set : ℕ) → IsAlone v → HasSeenPart parts v slice set w → GotIfWhole w slice
part_swept v w slice set alone h whole =
    let there : IsWhole parts slice v = subst (IsWhole parts slice) h.view whole in
    absurd (h.part ((whole_summary parts slice set v h.found.low (h.found.alone alone)).1 there))

gone_swept : (v w : Actor Carried) (slice : ℕ) → IsAlone v → HasFoundGone parts v slice w → GotIfWhole w slice
gone_swept v w slice alone h whole = subst (λ (z : Actor Carried). 0 < got_in parts slice z) (sym h.view) (h.alone alone)

pub tells_swept : (v w : Actor Carried) (slice : ℕ) (tried : Tried) (values : List Carried) → IsAlone v → Tells v slice tried values w → GotIfWhole w slice
tells_swept v w slice Got values alone h = got_swept v w slice values h
tells_swept v w slice NotWhole values alone (set, h) = part_swept v w slice set alone h
tells_swept v w slice Gone values alone h = gone_swept v w slice alone h
tells_swept v w slice Starved values alone h = absurd h

-- a look that finds that a lane is not whole
pub look_swept : (v w : Actor Carried) (slice set : ℕ) → IsAlone v → (set ≡ every_word → ⊥) → FindsSummary parts v slice set → w ≡ sees (stand_seen slice set) slice set v → GotIfWhole w slice
look_swept v w slice set alone part found is whole =
    let there : IsWhole parts slice v = subst (IsWhole parts slice) is whole in
    absurd (part ((whole_summary parts slice set v found.low (found.alone alone)).1 there))

-- Later

pub more_again : (u v w : Actor Carried) → GetsMore u v → GetsMore v w → GetsMore u w
more_again u v w a b = (a.0 ++ b.0, b.1 ∙ ap (λ l. l ++ b.0) a.1 ∙ append_assoc u.got a.0 b.0)

abbrev IsWholeIn : ℕ → List Carried → Type 0
IsWholeIn slice stored = (c : ℕ) × (c < places) × (0 < sum_by (closes_at parts slice c) stored) × ((p : ℕ) → p < c → 0 < sum_by (at parts slice p) stored)

pub got_still : (v w : Actor Carried) (slice : ℕ) → FilesNothing v w → GetsMore v w → GotIfWhole v slice → GotIfWhole w slice
got_still v w slice files more got whole =
    let there : IsWhole parts slice v = subst (IsWholeIn slice) files.stored whole in
    let some = got there in
    let sum = ap (sum_by (in_lane parts slice)) more.1 ∙ got_more slice v.got more.0 in
    omega (arith, some, sum)

pub alone_still : (v w : Actor Carried) → SameShare v w → IsAlone v → IsAlone w
alone_still v w s alone = s.0 ∙ alone ∙ ap (λ n. 2 ^ n) (sym s.1)

-- What an activity does

pub goes_none : (job : Job) (a : Activity) → IsReadyToCode job a → Goes job a a
goes_none job a ready = record { ready = ready; share = (refl, refl); files = record { stored = refl; repeated = refl }; grows = more_none (view a.pass) (view a.pass) refl; role = refl; starved = λ sated. sated }

pub goes_on : (job : Job) (a b c : Activity) → Goes job a b → Goes job b c → Goes job a c
goes_on job a b c f g = record {
  ready = g.ready;
  share = (g.share.0 ∙ f.share.0, g.share.1 ∙ f.share.1);
  files = record { stored = g.files.stored ∙ f.files.stored; repeated = g.files.repeated ∙ f.files.repeated };
  grows = more_again (view a.pass) (view b.pass) (view c.pass) f.grows g.grows;
  role = g.role ∙ f.role;
  starved = λ sated. f.starved (g.starved sated);
}

pub sweeps_none : (old new : Activity) → SweepsTo 0 old new
sweeps_none old new alone sated slice below = absurd (omega (arith, below))

pub sweeps_more : (job : Job) (slices : ℕ) (old mid now : Activity) → SweepsTo slices old mid → Goes job old mid → Goes job mid now → Sweeps slices mid now → SweepsTo (slices + 1) old now
sweeps_more job slices old mid now all first goes last alone sated slice below = elim (cases_eq slice slices) [
  | inl same ↦ subst (GotIfWhole (view now.pass)) (sym same) (last (alone_still (view old.pass) (view mid.pass) first.share alone) sated)
  | inr other ↦ got_still (view mid.pass) (view now.pass) slice goes.files goes.grows (all alone (goes.starved sated) slice (omega (arith, below, other)))
]

pub sweeps_after : (job : Job) (slice : ℕ) (old mid now : Activity) → Goes job old mid → Sweeps slice mid now → Sweeps slice old now
sweeps_after job slice old mid now first last alone sated = last (alone_still (view old.pass) (view mid.pass) first.share alone) sated
