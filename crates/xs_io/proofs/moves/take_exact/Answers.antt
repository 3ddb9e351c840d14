use Rattle.std.proofs.Common.{◌≤◌, ◌+◌, length, arith}
use Rattle.std.proofs.lemmas.List.{length-take}
use Rattle.xs_io.proofs.Steps.{consumes_at_most, on_err_always}
use Rattle.xs_io.proofs.moves.take_exact.Goals as goal

pub returns-in_err-extend-clause-refused : goal.returns-in_err-extend-clause-refused
returns-in_err-extend-clause-refused g c =
    let within : c.in_ok-count.count ≤ length c.take.new.into = omega (arith, c.in_ok-count.ensures.bound) in
    let small : length c.taking.list + c.in_ok-count.count ≤ c.args.want = omega (arith, within, c.taking.invariant.within, c.taking-test.true, c.len-in-taking.ensures, c.min-room.ensures, c.take.auto.into, length-take c.min-room.result c.taking.buffer) in
    on_err_always _ (consumes_at_most _ _ _ _ _ _ _ within small c.taking.invariant.taken c.in_ok-count.ensures.bytes.0)
