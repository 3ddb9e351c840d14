-- A step that is told in the machine's words keeps the machine sound, and refuses exactly.
use Rattle.std.proofs.Common.{◌≡◌, ◌↔◌, false, Result, Ok, Err, IfOk, OnErr, sym, ap, subst}
use Rattle.xs_lane_core.specs.declared.values.Numbered.{Numbered}
use Rattle.xs_lane_core.specs.declared.values.Event.{Event}
use Rattle.xs_lane_core.specs.declared.values.Outcome.{Outcome}
use Rattle.xs_lane_core.specs.declared.values.Outcome.TheVariants.{Refused}
use Rattle.xs_lane_core.specs.Machine.{Machine}
use Rattle.xs_lane_core.specs.Sound.{IsSound}
use Rattle.xs_lane_core.specs.LaneStep.{numbered, lane_step, allows}
use Rattle.xs_lane_core.proofs.Keeps.{step_keeps}
use Rattle.xs_lane_core.proofs.Refusals.{step_exactly}

module _ {E : Type 0} where
  pub left_sound : (r : Result Outcome E) (old new : Machine Numbered) (e : Event) → IfOk r (λ o. (new, o) ≡ lane_step old e) → OnErr r (new ≡ old) → IsSound numbered old → IsSound numbered new
  left_sound (Ok o) old new e told err s = subst (IsSound numbered) (sym (ap (λ z. z.0) told)) (step_keeps old e s)
  left_sound (Err x) old new e told err s = subst (IsSound numbered) (sym err) s

  pub told_exactly : (r : Result Outcome E) (old new : Machine Numbered) (e : Event) → IfOk r (λ o. (new, o) ≡ lane_step old e) → IsSound numbered old → IfOk r (λ o. (o ≡ Refused) ↔ (allows old e ≡ false))
  told_exactly (Ok o) old new e told s = subst (λ (x : Outcome). (x ≡ Refused) ↔ (allows old e ≡ false)) (sym (ap (λ z. z.1) told)) (step_exactly old e s)
  told_exactly (Err x) old new e told s = tt
