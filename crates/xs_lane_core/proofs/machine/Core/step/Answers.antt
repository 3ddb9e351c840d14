use Rattle.std.proofs.Common.{◌≡◌, ◌↔◌, false, IfOk, subst}
use Rattle.xs_lane_core.specs.declared.values.Numbered.{Numbered}
use Rattle.xs_lane_core.specs.declared.values.Outcome.TheVariants.{Refused}
use Rattle.xs_lane_core.specs.Machine.{Machine}
use Rattle.xs_lane_core.specs.LaneStep.{allows}
use Rattle.xs_lane_core.proofs.Told.{left_sound, told_exactly}
use Rattle.xs_lane_core.proofs.machine.Core.step.Goals as goal

pub invariant_of-self : goal.invariant_of-self
invariant_of-self c = left_sound c.step.result c.self.inside.state c.step.new.self c.args.event c.step.ensures.step c.step.ensures.err c.self.invariant

pub returns-clause-refused : goal.returns-clause-refused
returns-clause-refused c = subst (λ (m : Machine Numbered). IfOk c.step.result (λ outcome. (outcome ≡ Refused) ↔ (allows m c.args.event ≡ false))) c.self.view_is
    (told_exactly c.step.result c.self.inside.state c.step.new.self c.args.event c.step.ensures.step c.self.invariant)

pub returns-clause-sound : goal.returns-clause-sound
returns-clause-sound c = left_sound c.step.result c.self.inside.state c.step.new.self c.args.event c.step.ensures.step c.step.ensures.err c.self.invariant
