use Rattle.std.proofs.Common.{◌≡◌}
use Rattle.std.specs.Prelude.{pos, slice_index_or}
use Rattle.xs_lists.proofs.Puts.{put_to}
use Rattle.xs_signal.specs.Fold.{fold as fold_of}
use Rattle.xs_quant.proofs.rows.fold_row.Given as goal

abbrev pub invariant-columns : goal.invariant-columns
invariant-columns l = l.row ≡ put_to (λ column. fold_of l.fq (slice_index_or l.values column (pos 0))) l.initial.row l.column
