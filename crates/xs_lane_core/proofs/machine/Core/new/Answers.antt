use Rattle.std.proofs.Common.{sym, subst}
use Rattle.xs_lane_core.specs.Sound.{IsSound}
use Rattle.xs_lane_core.specs.LaneStep.{numbered}
use Rattle.xs_lane_core.proofs.Keeps.{start_sound}
use Rattle.xs_lane_core.proofs.machine.Core.new.Goals as goal

pub invariant_of-result : goal.invariant_of-result
invariant_of-result c = subst (IsSound numbered) (sym c.in_ok-state.ensures) (start_sound numbered c.args.lanes)

pub returns-clause-sound : goal.returns-clause-sound
returns-clause-sound c = subst (IsSound numbered) (sym c.in_ok-state.ensures) (start_sound numbered c.args.lanes)
