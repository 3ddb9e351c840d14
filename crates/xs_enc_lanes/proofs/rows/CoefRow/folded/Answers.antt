use Rattle.std.proofs.Common.{sym, subst, ◌∙◌}
use Rattle.xs_signal.specs.Lines.{entries_of}
use Rattle.xs_rate.specs.Laws.{IsSmallRow}
use Rattle.xs_enc_lanes.proofs.Folded.{folded_small}
use Rattle.xs_enc_lanes.proofs.rows.CoefRow.folded.Goals as goal

pub narrowed-requires : goal.narrowed-requires
narrowed-requires c = subst (λ l. IsSmallRow (entries_of l)) (sym (c.as_slice.ensures.value ∙ c.in_ok-fold_into.ensures)) (folded_small c.args.fraction c.args.numbers.now)

pub invariant_of-result : goal.invariant_of-result
invariant_of-result c = subst (λ l. IsSmallRow (entries_of l)) (sym (c.in_ok-numbers.ensures ∙ c.as_slice.ensures.value ∙ c.in_ok-fold_into.ensures)) (folded_small c.args.fraction c.args.numbers.now)
