use Rattle.std.proofs.Common.{◌≡◌, length, ◌∙◌, arith}
use Rattle.xs_enc_lanes.proofs.Copies.{copy_all, copy_more}
use Rattle.xs_enc_lanes.proofs.short.widen_row.Goals as goal

pub columns-preserved : goal.columns-preserved
columns-preserved c =
    c.widen_at.ensures ∙ copy_more c.args.numbers.now c.args.row.now c.columns.row c.columns.column (omega (arith, c.columns-test.true, c.columns.auto.column-end)) c.requires c.columns.invariant

pub returns : goal.returns
returns c =
    let end : c.columns.column ≡ length c.args.numbers.now = omega (arith, c.columns-test.false, c.columns.auto.column-end) in
    copy_all c.args.numbers.now c.args.row.now c.columns.row c.columns.column end c.requires c.columns.invariant
