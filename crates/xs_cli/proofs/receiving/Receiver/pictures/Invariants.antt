use Rattle.xs_endings.specs.Ends.{change_of}
use Rattle.xs_cli.specs.Captured.{with_stepped}
use Rattle.xs_cli.proofs.CapturedSaid.{HasSaidTo}
use Rattle.xs_cli.proofs.receiving.Receiver.pictures.Given as goal

abbrev pub invariant-pictures : goal.invariant-pictures
invariant-pictures g l =
    HasSaidTo (with_stepped l.fn.sorted l.fn.stepped) l.sorted l.number l.status
    (change_of (g.W.Sink.held l.fn.output) (g.W.Sink.held l.output) (g.W.Sink.faults l.fn.output) (g.W.Sink.faults l.output))
    (change_of (g.N.Sink.held l.fn.notes) (g.N.Sink.held l.notes) (g.N.Sink.faults l.fn.notes) (g.N.Sink.faults l.notes))
