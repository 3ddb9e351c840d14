use Rattle.std.proofs.Common.{rules, ◌≡◌, ◌<◌, ◌+◌, Err, length, drop, get_or, subst, arith}
use Rattle.xs_notes.specs.declared.note.Note.TheVariants as note
use Rattle.xs_notes.specs.Lines.{note_line}
use Rattle.xs_endings.specs.Ends.{change_of}
use Rattle.xs_cli.proofs.CapturedTold.{HasGiven, given_cut, given_more, line_next, lines_on}
use Rattle.xs_cli.proofs.receiving.tell_slices.Goals as goal

pub returns-in_err-tell-clause-given : goal.returns-in_err-tell-clause-given
returns-in_err-tell-clause-given g c =
    let e : c.from_residual.result ≡ Err c.in_err-tell.field-0.0 = search rules in
    let a = g.N.Sink.held c.args.notes.now in
    let b = g.N.Sink.held c.telling.notes in
    let f = g.N.Sink.faults c.args.notes.now in
    let h = g.N.Sink.faults c.telling.notes in
    let items = c.as_slice-slice-items.result.now in
    let all = lines_on (note.MissingSlice c.args.timestamp) c.args.slices.now in
    let below : c.telling.slice-index < length c.as_slice-slice-items.result.now = omega (arith, c.telling-test.true, c.telling.auto.slice-index-end) in
    let before = subst (HasGiven (change_of (g.N.Sink.held c.args.notes.now) (g.N.Sink.held c.telling.notes) (g.N.Sink.faults c.args.notes.now) (g.N.Sink.faults c.telling.notes)) (lines_on (note.MissingSlice c.args.timestamp) c.args.slices.now))
    (line_next (note.MissingSlice c.args.timestamp) items c.telling.slice-index below) c.telling.invariant in
    rw e (given_cut a b (g.N.Sink.held c.tell.new.notes) f h (g.N.Sink.faults c.tell.new.notes) all (note_line (note.MissingSlice c.args.timestamp (get_or items c.telling.slice-index 0)))
    (lines_on (note.MissingSlice c.args.timestamp) (drop (c.telling.slice-index + 1) items)) before c.in_err-tell.field-0.0 c.in_err-tell.ensures)

pub telling-preserved : goal.telling-preserved
telling-preserved g c =
    let a = g.N.Sink.held c.args.notes.now in
    let b = g.N.Sink.held c.telling.notes in
    let f = g.N.Sink.faults c.args.notes.now in
    let h = g.N.Sink.faults c.telling.notes in
    let items = c.as_slice-slice-items.result.now in
    let all = lines_on (note.MissingSlice c.args.timestamp) c.args.slices.now in
    let below : c.telling.slice-index < length c.as_slice-slice-items.result.now = omega (arith, c.telling-test.true, c.telling.auto.slice-index-end) in
    let before = subst (HasGiven (change_of (g.N.Sink.held c.args.notes.now) (g.N.Sink.held c.telling.notes) (g.N.Sink.faults c.args.notes.now) (g.N.Sink.faults c.telling.notes)) (lines_on (note.MissingSlice c.args.timestamp) c.args.slices.now))
    (line_next (note.MissingSlice c.args.timestamp) items c.telling.slice-index below) c.telling.invariant in
    given_more a b (g.N.Sink.held c.tell.new.notes) f h (g.N.Sink.faults c.tell.new.notes) all (note_line (note.MissingSlice c.args.timestamp (get_or items c.telling.slice-index 0)))
    (lines_on (note.MissingSlice c.args.timestamp) (drop (c.telling.slice-index + 1) items)) before _ c.in_ok-tell.ensures
