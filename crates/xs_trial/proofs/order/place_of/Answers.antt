use Rattle.std.proofs.Common.{refl}
use Rattle.xs_trial.specs.Generator.{place_of}
use Rattle.xs_trial.proofs.order.place_of.Goals as goal

pub returns-clause-place : goal.returns-clause-place
unfolding place_of
returns-clause-place c = refl
