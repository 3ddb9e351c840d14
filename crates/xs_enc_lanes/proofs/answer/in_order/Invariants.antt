use Rattle.xs_enc_lanes.specs.Answered.{AreInOrder}
use Rattle.xs_enc_lanes.proofs.answer.in_order.Given as goal

abbrev pub invariant-placing : goal.invariant-placing
invariant-placing l = AreInOrder l.yielded l.count l.places.items
