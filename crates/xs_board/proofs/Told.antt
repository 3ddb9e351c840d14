-- The units of a closed board that are whole.
use Rattle.std.proofs.Common.{ℕ, ◌≤◌, Bool, true, false, sym, subst}
use Rattle.std.specs.Prelude.{MatchBool, nat_lt}
use Rattle.std.proofs.lemmas.Bool.{le-ltb}
use Rattle.xs_lane_core.specs.Machine.{Actor}
use Rattle.xs_lanes.specs.Knowing.{IsWhole}
use Rattle.xs_lanes.specs.Settled.{IsDone}
use Rattle.xs_capture.specs.Offer.{Offer}
use Rattle.xs_capture.specs.Selection.{IsWholeUnit}
use Rattle.xs_stored.specs.Stored.{packets, held_in, AreIn}
use Rattle.xs_stored.proofs.WholeUnits.{whole_lanes_are_units, nothing_is_past}

-- whether the unit is whole, or not
abbrev pub IsTold : Actor Offer → ℕ → Bool → Type 0
IsTold v unit told = MatchBool told (IsWholeUnit (held_in v.stored) unit) (¬ IsWholeUnit (held_in v.stored) unit)

pub told_by_lane : (v : Actor Offer) (units unit : ℕ) (told : Bool) → IsDone packets v → AreIn units v.stored → MatchBool told (IsWhole packets unit v) (¬ IsWhole packets unit v) → IsTold v unit told
told_by_lane v units unit true done low h = (whole_lanes_are_units v units unit done.choice low).0 h
told_by_lane v units unit false done low h = λ whole. h ((whole_lanes_are_units v units unit done.choice low).1 whole)

pub told_past : (v : Actor Offer) (units unit : ℕ) → AreIn units v.stored → units ≤ unit → IsTold v unit (nat_lt unit units)
told_past v units unit low past = subst (IsTold v unit) (sym (le-ltb unit units past)) (nothing_is_past.unit v.stored units unit low past)
