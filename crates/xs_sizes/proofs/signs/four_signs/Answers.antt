use Rattle.std.proofs.Common.{◌≡◌, ◌∙◌, arith}
use Rattle.std.specs.Prelude.{count_by, nat_lt}
use Rattle.std.proofs.lemmas.List.{length-set}
use Rattle.xs_sizes.proofs.Sets.{done_more}
use Rattle.xs_sizes.proofs.signs.four_signs.Goals as goal

pub cuts-preserved : goal.cuts-preserved
cuts-preserved c =
    record { size = length-set c.cuts.signs c.cuts.t c.count_over.result ∙ c.cuts.invariant.size; done = done_more (λ j signs. signs ≡ count_by (λ end. nat_lt j end) c.args.ends) c.cuts.signs c.cuts.t c.count_over.result (omega (arith, c.cuts-test.true, c.cuts.invariant.size)) c.cuts.invariant.done c.count_over.ensures }
