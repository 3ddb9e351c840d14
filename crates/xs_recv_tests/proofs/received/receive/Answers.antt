use Rattle.std.proofs.Common.{arith}
use Rattle.xs_capture.specs.Pictures.{offers_in}
use Rattle.xs_recv_tests.proofs.Small.{few_parts, small_at, small_parts}
use Rattle.xs_recv_tests.proofs.received.receive.Goals as goal

pub receive_picture-requires-clause-parts : goal.receive_picture-requires-clause-parts
receive_picture-requires-clause-parts g c κs within =
    few_parts c.in-Ok-parts.parts c.args.crew.0 (offers_in c.in-Ok.sorted 0) c.in-Ok-parts.ensures.dealt (omega (arith, c.if-feeders-eq0.false)) (omega (arith, c.if-feeders-gt8.false))

pub receive_picture-requires-clause-bytes : goal.receive_picture-requires-clause-bytes
receive_picture-requires-clause-bytes g c κs within =
    small_parts c.in-Ok-parts.parts c.args.crew.0 (offers_in c.in-Ok.sorted 0) c.in-Ok-parts.ensures.dealt (omega (arith, c.if-feeders-eq0.false))
    (small_at c.args.capture.now c.in-Ok.sorted (omega (arith, c.if-capture.false)) c.in-Ok.ensures.sorted 0 (omega (arith, c.count.ensures, c.if-count-eq0.false)))
