use Rattle.std.proofs.Common.{◌≡◌, ◌+◌, length, sym, ap, ◌∙◌}
use Rattle.xs_layout.specs.declared.Candidate.{Candidate}
use Rattle.xs_weights.proofs.Rows.{last_candidate}
use Rattle.xs_weights.proofs.coarsest.Goals as goal

pub returns : goal.returns
returns c = ap (λ n. record { q = 15 + n; r = 0 }) c.greatest_gain.ensures.greatest ∙ sym (last_candidate (length c.args.weights.now) c.args.weights.now c.requires.some)
