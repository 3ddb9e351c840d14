use Rattle.std.proofs.Common.{◌≡◌, ◌+◌, ◌*◌, length, sym, ap, ◌∙◌, arith}
use Rattle.xs_layout.specs.Candidates.{greatest_gain as most_gain}
use Rattle.xs_weights.proofs.Rows.{length-candidates}
use Rattle.xs_weights.proofs.candidate_count.Goals as goal

pub returns-clause-count : goal.returns-clause-count
returns-clause-count c =
    ap (λ n. 1 + (15 + n) * length c.as_slice.result.now) c.greatest_gain.ensures.greatest ∙ ap (λ n. 1 + (15 + most_gain c.args.weights.now) * n) (ap length c.as_slice.ensures.items)
    ∙ sym (length-candidates (length c.args.weights.now) c.args.weights.now)
