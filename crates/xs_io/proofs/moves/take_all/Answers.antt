use Rattle.std.proofs.Common.{◌≤◌, ◌+◌, ◌≡◌, length, arith}
use Rattle.std.proofs.lemmas.List.{length-take}
use Rattle.xs_io.proofs.Steps.{consumes_at_most, consumes_just}
use Rattle.xs_io.proofs.moves.take_all.Goals as goal

pub returns-then-count-spare-clause-over : goal.returns-then-count-spare-clause-over
returns-then-count-spare-clause-over g c _ =
    let within : c.in_ok-count.count ≤ length c.take.new.into = omega (arith, c.in_ok-count.ensures.bound) in
    let total : length c.taking.list + c.in_ok-count.count ≡ c.args.limit + 1 = omega (arith, within, c.taking.invariant.spare, c.if-count-spare.true, c.min.ensures, c.take.auto.into, length-take (c.min.result + 1) c.taking.buffer) in
    consumes_just _ _ _ _ _ _ _ within total c.taking.invariant.taken c.in_ok-count.ensures.bytes.0

pub returns-in_err-extend-clause-memory : goal.returns-in_err-extend-clause-memory
returns-in_err-extend-clause-memory g c _ =
    let within : c.in_ok-count.count ≤ length c.take.new.into = omega (arith, c.in_ok-count.ensures.bound) in
    let small : length c.taking.list + c.in_ok-count.count ≤ c.args.limit = omega (arith, c.taking.invariant.spare, c.if-count-spare.false) in
    consumes_at_most _ _ _ _ _ _ _ within small c.taking.invariant.taken c.in_ok-count.ensures.bytes.0
