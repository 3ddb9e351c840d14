use Rattle.std.proofs.Common.{◌<◌, refl, length, ◌∙◌, arith}
use Rattle.std.specs.Prelude.{pos, slice_index_or}
use Rattle.xs_lists.proofs.Puts.{put_more, put_end}
use Rattle.xs_signal.specs.Fold.{fold as fold_of}
use Rattle.xs_quant.proofs.rows.fold_row.Goals as goal

pub columns-preserved : goal.columns-preserved
columns-preserved c =
    let inside : c.columns.column < length c.args.row.now = omega (arith, c.columns-test.true, c.requires.width) in
    c.fold_at.ensures ∙ put_more (λ column. fold_of c.args.fq (slice_index_or c.args.values.now column (pos 0))) c.args.row.now c.columns.row c.columns.column _ inside c.columns.invariant refl

pub returns : goal.returns
returns c =
    record { folded = put_end (λ column. fold_of c.args.fq (slice_index_or c.args.values.now column (pos 0))) c.args.row.now c.columns.row c.columns.column (length c.args.values.now) c.requires.width (omega (arith, c.columns-test.false, c.columns.auto.column-end)) c.columns.invariant }
