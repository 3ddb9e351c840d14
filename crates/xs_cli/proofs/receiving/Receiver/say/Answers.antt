use Rattle.std.proofs.Common.{◌≡◌, true, false, subst}
use Rattle.xs_notes.specs.declared.note.Note.TheVariants as note
use Rattle.xs_endings.specs.Ends.{change_of}
use Rattle.xs_recv.specs.declared.received.Received.TheVariants as received
use Rattle.xs_cli.specs.Receiving.{IsNamed}
use Rattle.xs_cli.proofs.CapturedSaid.{saying_one, saying_slices}
use Rattle.xs_cli.proofs.receiving.Receiver.say.Goals as goal

pub returns-in-Missing-true-default : goal.returns-in-Missing-true-default
returns-in-Missing-true-default g c =
    let e : c.args.received.now ≡ received.Missing true c.in-Missing-true-default.slices = cc (c.in-Missing-true-default.is, c.in-Missing-true-default.header-is) in
    rw e (saying_one (g.W.Sink.held c.args.output.now) (g.W.Sink.faults c.args.output.now)
    (change_of (g.N.Sink.held c.args.notes.now) (g.N.Sink.held c.tell_one.new.notes) (g.N.Sink.faults c.args.notes.now) (g.N.Sink.faults c.tell_one.new.notes))
    (note.MissingHeader c.args.timestamp) c.tell_one.result c.tell_one.ensures.given c.tell_one.ensures.status)

pub returns-in-Missing-false-default : goal.returns-in-Missing-false-default
returns-in-Missing-false-default g c =
    let e : c.args.received.now ≡ received.Missing false c.in-Missing-false-default.slices = cc (c.in-Missing-false-default.is, c.in-Missing-false-default.header-is) in
    let some = subst IsNamed e c.requires in
    rw e (saying_slices (g.W.Sink.held c.args.output.now) (g.W.Sink.faults c.args.output.now)
    (change_of (g.N.Sink.held c.args.notes.now) (g.N.Sink.held c.tell_slices.new.notes) (g.N.Sink.faults c.args.notes.now) (g.N.Sink.faults c.tell_slices.new.notes))
    c.args.timestamp c.in-Missing-false-default.slices c.tell_slices.result some c.tell_slices.ensures.given c.tell_slices.ensures.status)

pub returns-in-Damaged : goal.returns-in-Damaged
returns-in-Damaged g c =
    let e : c.args.received.now ≡ received.Damaged c.in-Damaged.damage = c.in-Damaged.is in
    rw (e, ← c.damage_note.ensures) (saying_one (g.W.Sink.held c.args.output.now) (g.W.Sink.faults c.args.output.now)
    (change_of (g.N.Sink.held c.args.notes.now) (g.N.Sink.held c.tell_one-in-Damaged.new.notes) (g.N.Sink.faults c.args.notes.now) (g.N.Sink.faults c.tell_one-in-Damaged.new.notes))
    c.damage_note.result c.tell_one-in-Damaged.result c.tell_one-in-Damaged.ensures.given c.tell_one-in-Damaged.ensures.status)
