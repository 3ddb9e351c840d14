use Rattle.xs_enc_lanes.specs.Working.{Goes}
use Rattle.xs_enc_lanes.proofs.activity.Activity.rest.Given as goal

abbrev pub invariant-looking : goal.invariant-looking
invariant-looking l = Goes l.job l.initial.self l.self
