use Rattle.std.proofs.Common.{arith}
use Rattle.xs_trial.specs.Generator.{next_state}
use Rattle.xs_trial.proofs.generator.next_state.Goals as goal

pub returns : goal.returns
unfolding next_state
returns c = omega arith
