use Rattle.std.proofs.Common.{◌≡◌, ◌∙◌, arith}
use Rattle.std.proofs.lemmas.List.{length-set}
use Rattle.xs_sizes.specs.Lengths.{length_of}
use Rattle.xs_sizes.proofs.Sets.{done_more}
use Rattle.xs_sizes.proofs.lengths.lengths.Goals as goal

pub cuts-preserved : goal.cuts-preserved
cuts-preserved c =
    record { size = length-set c.cuts.bits c.cuts.t c.length_at.result ∙ c.cuts.invariant.size; done = done_more (λ j bits. bits ≡ length_of c.args.above c.args.planes j) c.cuts.bits c.cuts.t c.length_at.result (omega (arith, c.cuts-test.true, c.cuts.invariant.size)) c.cuts.invariant.done c.length_at.ensures.length }
