use Rattle.std.proofs.Common.{drop}
use Rattle.xs_notes.specs.declared.note.Note.TheVariants as note
use Rattle.xs_endings.specs.Ends.{change_of}
use Rattle.xs_cli.proofs.CapturedTold.{HasGiven, lines_on}
use Rattle.xs_cli.proofs.receiving.tell_slices.Given as goal

abbrev pub invariant-telling : goal.invariant-telling
invariant-telling g l =
    HasGiven (change_of (g.N.Sink.held l.fn.notes) (g.N.Sink.held l.notes) (g.N.Sink.faults l.fn.notes) (g.N.Sink.faults l.notes))
    (lines_on (note.MissingSlice l.fn.timestamp) l.fn.slices) (lines_on (note.MissingSlice l.fn.timestamp) (drop l.slice-index l.slice-items))
