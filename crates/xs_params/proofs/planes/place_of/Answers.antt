use Rattle.std.proofs.Common.{arith}
use Rattle.xs_params.proofs.Areas.{count_most}
use Rattle.xs_params.proofs.planes.place_of.Goals as goal

pub overflow_add-result : goal.overflow_add-result
overflow_add-result c =
    let shape = c.args.shape.now in
    omega (arith, c.row_start.ensures, c.requires.place.column_there, count_most shape c.requires.shape)
