use Rattle.std.proofs.Common.{rules, ◌≡◌, ◌∙◌, ◌<◌, ◌≤◌, Err, length, get_or, ap, refl, arith}
use Rattle.xs_capture.specs.Pictures.{Sorting, without_offers}
use Rattle.xs_recv.specs.Received.{offered_bytes}
use Rattle.xs_cli.specs.Captured.{with_stepped}
use Rattle.xs_cli.proofs.CapturedKnown.{all_answered, as_many, small_at}
use Rattle.xs_cli.proofs.CapturedSaid.{all_said, more_cut, none_more, offers_here, one_more, stepped_cut, stepped_given}
use Rattle.xs_cli.proofs.receiving.Receiver.pictures.Goals as goal

pub returns-in_err-tell_stepped : goal.returns-in_err-tell_stepped
returns-in_err-tell_stepped g c =
    let s = with_stepped c.args.sorted c.args.stepped in
    let all = all_answered c.requires.sorted.capture c.args.sorted c.requires.sorted.bytes c.requires.sorted.sorts in
    let many = as_many c.requires.sorted.capture c.args.sorted c.requires.sorted.sorts in
    let e : c.from_residual.result ≡ Err c.in_err-tell_stepped.field-0.0 = search rules in
    rw e (stepped_cut s all many (g.W.Sink.held c.args.output.now) (g.N.Sink.held c.args.notes.now) (g.N.Sink.held c.tell_stepped.new.notes) (g.W.Sink.faults c.args.output.now) (g.N.Sink.faults c.args.notes.now) (g.N.Sink.faults c.tell_stepped.new.notes) c.in_err-tell_stepped.field-0.0 c.in_err-tell_stepped.ensures)

pub pictures-init : goal.pictures-init
pictures-init g c =
    let s = with_stepped c.args.sorted c.args.stepped in
    let all = all_answered c.requires.sorted.capture c.args.sorted c.requires.sorted.bytes c.requires.sorted.sorts in
    let many = as_many c.requires.sorted.capture c.args.sorted c.requires.sorted.sorts in
    stepped_given s all many c.args.sorted refl refl (g.W.Sink.held c.args.output.now) (g.N.Sink.held c.args.notes.now) (g.N.Sink.held c.tell_stepped.new.notes) (g.W.Sink.faults c.args.output.now) (g.N.Sink.faults c.args.notes.now) (g.N.Sink.faults c.tell_stepped.new.notes) _ c.in_ok-tell_stepped.ensures

pub picture-requires-clause-small : goal.picture-requires-clause-small
picture-requires-clause-small g c κs within =
    let s = with_stepped c.args.sorted c.args.stepped in
    let all = all_answered c.requires.sorted.capture c.args.sorted c.requires.sorted.bytes c.requires.sorted.sorts in
    let many = as_many c.requires.sorted.capture c.args.sorted c.requires.sorted.sorts in
    let below : c.pictures.number < length c.args.sorted.timestamps = omega (arith, c.count-number-end.ensures, c.pictures-test.true, c.pictures.auto.number-end) in
    let here = offers_here s all many (g.W.Sink.held c.args.output.now) (g.W.Sink.held c.pictures.output) (g.W.Sink.held c.pictures.output) (g.W.Sink.faults c.args.output.now) (g.W.Sink.faults c.pictures.output) (g.W.Sink.faults c.pictures.output) (g.N.Sink.held c.args.notes.now) (g.N.Sink.held c.pictures.notes) (g.N.Sink.held c.pictures.notes) (g.N.Sink.faults c.args.notes.now) (g.N.Sink.faults c.pictures.notes) (g.N.Sink.faults c.pictures.notes) c.pictures.sorted c.pictures.number c.pictures.status c.pictures.invariant below in
    let small = small_at c.requires.sorted.capture c.args.sorted c.requires.sorted.short c.requires.sorted.sorts c.pictures.number below in
    omega (arith, ap offered_bytes here, small)

pub returns-in_err-received : goal.returns-in_err-received
returns-in_err-received g c =
    let s = with_stepped c.args.sorted c.args.stepped in
    let all = all_answered c.requires.sorted.capture c.args.sorted c.requires.sorted.bytes c.requires.sorted.sorts in
    let many = as_many c.requires.sorted.capture c.args.sorted c.requires.sorted.sorts in
    let e : c.from_residual-in_err-received.result ≡ Err c.in_err-received.field-0.0 = search rules in
    rw (e, c.in_err-received.ensures.memory) (none_more s all many (g.W.Sink.held c.args.output.now) (g.W.Sink.held c.pictures.output) (g.W.Sink.held c.pictures.output) (g.W.Sink.faults c.args.output.now) (g.W.Sink.faults c.pictures.output) (g.W.Sink.faults c.pictures.output) (g.N.Sink.held c.args.notes.now) (g.N.Sink.held c.pictures.notes) (g.N.Sink.held c.pictures.notes) (g.N.Sink.faults c.args.notes.now) (g.N.Sink.faults c.pictures.notes) (g.N.Sink.faults c.pictures.notes) c.pictures.sorted c.pictures.number c.pictures.status c.pictures.invariant)

pub returns-in_err-more : goal.returns-in_err-more
returns-in_err-more g c =
    let s = with_stepped c.args.sorted c.args.stepped in
    let all = all_answered c.requires.sorted.capture c.args.sorted c.requires.sorted.bytes c.requires.sorted.sorts in
    let many = as_many c.requires.sorted.capture c.args.sorted c.requires.sorted.sorts in
    let below : c.pictures.number < length c.args.sorted.timestamps = omega (arith, c.count-number-end.ensures, c.pictures-test.true, c.pictures.auto.number-end) in
    let left : c.picture.new.sorted ≡ without_offers c.pictures.sorted c.pictures.number = c.in_ok-received.ensures.left in
    let named : c.timestamp.result ≡ get_or c.args.sorted.timestamps c.pictures.number 0 =
    c.timestamp.ensures ∙ ap (λ (x : Sorting). get_or x.timestamps c.pictures.number 0) left ∙ ap (λ l. get_or l c.pictures.number 0) c.pictures.invariant.names in
    let e : c.from_residual-in_err-more.result ≡ Err c.in_err-more.field-0.0 = search rules in
    rw e (more_cut s all many (g.W.Sink.held c.args.output.now) (g.W.Sink.held c.pictures.output) (g.W.Sink.held c.say.new.output) (g.W.Sink.faults c.args.output.now) (g.W.Sink.faults c.pictures.output) (g.W.Sink.faults c.say.new.output) (g.N.Sink.held c.args.notes.now) (g.N.Sink.held c.pictures.notes) (g.N.Sink.held c.say.new.notes) (g.N.Sink.faults c.args.notes.now) (g.N.Sink.faults c.pictures.notes) (g.N.Sink.faults c.say.new.notes) c.pictures.sorted c.pictures.number c.pictures.status c.pictures.invariant c.timestamp.result c.in_ok-received.received c.in_err-more.field-0.0 below named c.in_ok-received.ensures.received c.in_err-more.ensures)

pub pictures-preserved : goal.pictures-preserved
pictures-preserved g c =
    let s = with_stepped c.args.sorted c.args.stepped in
    let all = all_answered c.requires.sorted.capture c.args.sorted c.requires.sorted.bytes c.requires.sorted.sorts in
    let many = as_many c.requires.sorted.capture c.args.sorted c.requires.sorted.sorts in
    let below : c.pictures.number < length c.args.sorted.timestamps = omega (arith, c.count-number-end.ensures, c.pictures-test.true, c.pictures.auto.number-end) in
    let left : c.picture.new.sorted ≡ without_offers c.pictures.sorted c.pictures.number = c.in_ok-received.ensures.left in
    let named : c.timestamp.result ≡ get_or c.args.sorted.timestamps c.pictures.number 0 =
    c.timestamp.ensures ∙ ap (λ (x : Sorting). get_or x.timestamps c.pictures.number 0) left ∙ ap (λ l. get_or l c.pictures.number 0) c.pictures.invariant.names in
    let more = one_more s all many (g.W.Sink.held c.args.output.now) (g.W.Sink.held c.pictures.output) (g.W.Sink.held c.say.new.output) (g.W.Sink.faults c.args.output.now) (g.W.Sink.faults c.pictures.output) (g.W.Sink.faults c.say.new.output) (g.N.Sink.held c.args.notes.now) (g.N.Sink.held c.pictures.notes) (g.N.Sink.held c.say.new.notes) (g.N.Sink.faults c.args.notes.now) (g.N.Sink.faults c.pictures.notes) (g.N.Sink.faults c.say.new.notes) c.pictures.sorted c.pictures.number c.pictures.status c.pictures.invariant c.timestamp.result c.in_ok-received.received c.in_ok-more.more below named c.in_ok-received.ensures.received c.in_ok-more.ensures in
    rw (left, c.first_status-status.ensures) more

pub returns : goal.returns
returns g c =
    let s = with_stepped c.args.sorted c.args.stepped in
    let all = all_answered c.requires.sorted.capture c.args.sorted c.requires.sorted.bytes c.requires.sorted.sorts in
    let many = as_many c.requires.sorted.capture c.args.sorted c.requires.sorted.sorts in
    let end : length c.args.sorted.timestamps ≤ c.pictures.number = omega (arith, c.count-number-end.ensures, c.pictures-test.false) in
    all_said s all many (g.W.Sink.held c.args.output.now) (g.W.Sink.held c.pictures.output) (g.W.Sink.held c.pictures.output) (g.W.Sink.faults c.args.output.now) (g.W.Sink.faults c.pictures.output) (g.W.Sink.faults c.pictures.output) (g.N.Sink.held c.args.notes.now) (g.N.Sink.held c.pictures.notes) (g.N.Sink.held c.pictures.notes) (g.N.Sink.faults c.args.notes.now) (g.N.Sink.faults c.pictures.notes) (g.N.Sink.faults c.pictures.notes) c.pictures.sorted c.pictures.number c.pictures.status c.pictures.invariant end
