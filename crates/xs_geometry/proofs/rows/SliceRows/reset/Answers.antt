use Rattle.std.proofs.Common.{length, pos, ap, ◌∙◌}
use Rattle.std.proofs.lemmas.List.{length-replicate}
use Rattle.xs_geometry.proofs.BlockRows.{lines_blank, zeros_blank}
use Rattle.xs_geometry.proofs.rows.SliceRows.reset.Goals as goal

pub returns-clause-lines : goal.returns-clause-lines
returns-clause-lines c =
    let total = c.of-table.result.numbers in
    lines_blank c.args.geometry.now c.args.slice total _ _ c.of-table.ensures.blocks (ap length c.in_ok-set_zeros.ensures.zeros ∙ length-replicate total (pos 0))

pub returns-clause-zeros : goal.returns-clause-zeros
returns-clause-zeros c =
    let total = c.of-table.result.numbers in
    zeros_blank c.args.geometry.now c.args.slice total _ _ c.of-table.ensures.blocks (ap length c.in_ok-set_zeros.ensures.zeros ∙ length-replicate total (pos 0)) c.in_ok-set_zeros.ensures.zeros
