use Rattle.std.proofs.Common.{arith, ◌≡◌, length}
use Rattle.xs_recv.proofs.InOrder.{order_none}
use Rattle.xs_recv.proofs.slices.no_copies.Goals as goal

pub returns : goal.returns
returns c =
    let size : length c.making.places.items ≡ c.args.count = let i = c.making.invariant in omega (arith, i.0, c.making-test.false, c.making.auto.counter-end) in
    order_none c.args.count c.making.places.items size c.making.invariant.1
