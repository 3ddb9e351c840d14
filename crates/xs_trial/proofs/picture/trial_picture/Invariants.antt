use Rattle.std.proofs.Common.{◌≡◌}
use Rattle.xs_trial.specs.Generator.{state_past}
use Rattle.xs_trial.specs.Steps.{planes_places, with_drawn}
use Rattle.xs_trial.proofs.picture.trial_picture.Given as goal

abbrev pub invariant-components : goal.invariant-components
invariant-components l = record {
  drawn : l.planes ≡ with_drawn l.initial.planes 0 (planes_places l.shape l.component) l.seed;
  state : l.state ≡ state_past (planes_places l.shape l.component) l.seed;
}
