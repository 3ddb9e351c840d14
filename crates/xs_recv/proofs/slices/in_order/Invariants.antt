use Rattle.xs_recv.specs.Reading.{AreInOrder}
use Rattle.xs_recv.proofs.slices.in_order.Given as goal

abbrev pub invariant-placing : goal.invariant-placing
invariant-placing l = AreInOrder l.yielded l.count l.places.items
