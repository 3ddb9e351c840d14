use Rattle.std.proofs.Common.{ap, arith}
use Rattle.xs_trial.specs.declared.comparison.Comparison.{Comparison}
use Rattle.xs_trial.proofs.Comparing.{picture_sum}
use Rattle.xs_trial.proofs.comparison.compare.Goals as goal

pub compare_planes-found-requires-clause-small : goal.compare_planes-found-requires-clause-small
compare_planes-found-requires-clause-small c =
    let total = ap (λ (found : Comparison). found.sum) c.components.invariant.rest in
    let small = picture_sum c.args.other.now c.known_picture-2.ensures in
    omega (arith, total, small)
