use Rattle.std.proofs.Common.{◌*◌, ap, arith}
use Rattle.xs_params.proofs.Areas.{row_end, count_most}
use Rattle.xs_params.proofs.planes.row_start.Goals as goal

pub overflow_add-result : goal.overflow_add-result
overflow_add-result c =
    let shape = c.args.shape.now in
    let rows = ap (λ n. c.args.row * n) c.component_width.ensures.width in
    omega (arith, row_end shape c.args.component c.args.row c.requires.row, count_most shape c.requires.shape, c.plane_start.ensures, rows)

pub returns-clause-end : goal.returns-clause-end
returns-clause-end c =
    let shape = c.args.shape.now in
    let rows = ap (λ n. c.args.row * n) c.component_width.ensures.width in
    omega (arith, row_end shape c.args.component c.args.row c.requires.row, c.plane_start.ensures, rows)
