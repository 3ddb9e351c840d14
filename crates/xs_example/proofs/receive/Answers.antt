use Rattle.std.proofs.Common.{arith}
use Rattle.xs_capture.specs.Pictures.{offers_in}
use Rattle.xs_example.proofs.Small.{small_at, small_parts}
use Rattle.xs_example.proofs.receive.Goals as goal

pub receive_picture-requires-clause-bytes : goal.receive_picture-requires-clause-bytes
receive_picture-requires-clause-bytes g c κs within =
    small_parts c.in-Ok-parts.parts 1 (offers_in c.in-Ok.sorted 0) c.in-Ok-parts.ensures.dealt (omega arith)
    (small_at c.args.capture.now c.in-Ok.sorted (omega (arith, c.if-capture.false)) c.in-Ok.ensures.sorted 0 (omega (arith, c.count.ensures, c.if-count-eq0.false)))
