use Rattle.std.proofs.Common.{List, subst, sym}
use Rattle.xs_layout.specs.declared.Weight.{Weight}
use Rattle.xs_params.specs.declared.settings.Settings.{Settings}
use Rattle.xs_params.specs.Check.{AreWeights, bands_of_settings}
use Rattle.xs_params.specs.Headers.{header_of}
use Rattle.xs_params.proofs.Accepted.{accepted_as, header_accepted}
use Rattle.xs_params.proofs.HeaderWeights.{header_weights}
use Rattle.xs_params.proofs.check.Checked.header.Goals as goal

pub returns-clause-weights : goal.returns-clause-weights
returns-clause-weights c =
    let settings = c.self.inside.settings in
    let chosen = header_weights settings c.self.invariant.1 in
    let here : AreWeights (bands_of_settings settings) c.in_ok-weights.weights = subst (λ (w : List Weight). AreWeights (bands_of_settings settings) w) (sym c.in_ok-weights.ensures) chosen in
    subst (λ (s : Settings). AreWeights (bands_of_settings s) c.in_ok-weights.weights) c.self.view_is here

pub returns-clause-accepted : goal.returns-clause-accepted
returns-clause-accepted c =
    let s = c.self.inside.settings in
    accepted_as (header_of s) c.fq_of.result c.in_ok-weights.weights (header_accepted s 0 c.self.invariant.1) c.fq_of.ensures c.in_ok-weights.ensures
