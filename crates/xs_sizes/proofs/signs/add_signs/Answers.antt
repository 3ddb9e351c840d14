use Rattle.std.proofs.Common.{◌+◌, slice_index_or, ap, ◌∙◌, arith}
use Rattle.xs_sizes.proofs.signs.add_signs.Goals as goal

pub returns : goal.returns
returns c t le = c.cuts.invariant.done t (omega (arith, le, c.cuts-test.false)) ∙ ap (λ n. slice_index_or c.args.sizes.now t 0 + n) (c.four_signs-signs.ensures t le)
