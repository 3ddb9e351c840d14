use Rattle.std.proofs.Common.{◌≡◌, sym, subst, ◌∙◌}
use Rattle.std.proofs.lemmas.List.{map-id}
use Rattle.std.proofs.lemmas.Iterator.Adapters.{YieldsList-from_vec}
use Rattle.std.proofs.lemmas.Iterator.Consumers.{YieldsList-end}
use Rattle.xs_recv.specs.Reading.{AreInOrder}
use Rattle.xs_recv.proofs.InOrder.{order_more}
use Rattle.xs_recv.proofs.slices.in_order.Goals as goal

pub placing-preserved : goal.placing-preserved
placing-preserved c =
    order_more c.placing.yielded c.args.count c.placing.places.items c.in-Some.copy c.placing.invariant c.put_copy.new.places.items c.put_copy.ensures.placed c.put_copy.ensures.past

pub returns : goal.returns
returns c =
    let gives = c.into_iter-copy-iterator.ensures.into_iter_gives in
    let end = YieldsList-end (YieldsList-from_vec {s = c.into_iter-copy-iterator.result} c.args.copies.items gives.0 (gives.1 ∙ c.args.copies.ok.0)) c.placing.yielded c.placing.copy-iterator c.placing.yielded_by
    c.next.result c.next.new.self c.in-None.is c.next.ensures.steps in
    let all : c.placing.yielded ≡ c.args.copies.items = sym (map-id c.placing.yielded) ∙ end.0 in
    subst (λ l. AreInOrder l c.args.count c.placing.places.items) all c.placing.invariant
