use Rattle.std.proofs.Common.{ap, subst, ◌∙◌}
use Rattle.xs_params.specs.Geometry.{slice_count}
use Rattle.xs_recv.specs.Reading.{AreInOrder}
use Rattle.xs_recv.proofs.Finished.{started}
use Rattle.xs_recv.proofs.finishing.Finishing.start.Goals as goal

pub returns-clause-started : goal.returns-clause-started
returns-clause-started c held kept =
    let count = c.slices-slices.ensures.count ∙ ap slice_count c.of.ensures in
    let s = started held c.args.header.now c.args.self.now c.renew_unless.new.self c.args.copies.items c.args.trusted c.in_ok-list.list.items kept
    (subst (λ n. AreInOrder c.args.copies.items n c.in_ok-list.list.items) count c.in_ok-list.ensures) c.renew_unless.ensures.trusted (λ f. c.in_ok-renew_unless.ensures.renewed f) (λ f. c.in_ok-renew_unless.ensures.room f ∙ count) in
    record { readable = s.readable; stripes = s.stripes; room = s.room }
