use Rattle.std.proofs.Common.{◌+◌, slice_index_or, ap, ◌∙◌, arith}
use Rattle.xs_sizes.proofs.lengths.added.Goals as goal

pub plus-requires : goal.plus-requires
plus-requires c t le = omega (arith, c.requires.room t le, c.widened.ensures t le)

pub plus-requires-2 : goal.plus-requires-2
plus-requires-2 c t le = grind (arith, c.requires.room_kept t le, c.widened-2.ensures t le, c.bits_but.ensures t le)

pub returns-clause-all : goal.returns-clause-all
returns-clause-all c t le = c.plus.ensures t le ∙ ap (λ n. slice_index_or c.args.sizes.all t 0 + n) (c.widened.ensures t le)

pub returns-clause-kept : goal.returns-clause-kept
returns-clause-kept c t le = c.plus-2.ensures t le ∙ ap (λ n. slice_index_or c.args.sizes.kept t 0 + n) (c.widened-2.ensures t le ∙ c.bits_but.ensures t le)
