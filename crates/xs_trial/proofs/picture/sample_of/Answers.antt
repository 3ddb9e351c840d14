use Rattle.std.proofs.Common.{◌+◌, ◌/◌, ◌%◌, ap}
use Rattle.xs_trial.specs.Generator.{sample_of}
use Rattle.xs_trial.proofs.picture.sample_of.Goals as goal

pub returns-clause-sample : goal.returns-clause-sample
unfolding sample_of
returns-clause-sample c = ap (λ n. ((c.args.column + c.args.row) % 256 + c.args.state / 1152921504606846976) % n) c.range_of.ensures.range
