use Rattle.std.proofs.Common.{ℕ, List, Err, ◌<◌, ◌+◌, subst, arith}
use Rattle.std.proofs.lemmas.List.Elements.{recursion_from_All}
use Rattle.xs_capture.specs.Pictures.{IsSorted}
use Rattle.xs_endings.specs.Ends.{change_of}
use Rattle.xs_cli.specs.Captured.{with_stepped}
use Rattle.xs_cli.proofs.CapturedSaid.{IsSaidAll}
use Rattle.xs_cli.proofs.CapturedHalts.{pictures_halt, pictures_stop, refusal_halts, refusal_stops}
use Rattle.xs_cli.proofs.Unwrapping.{sorting_few}
use Rattle.xs_cli.proofs.receiving.Receiver.receive.Goals as goal

pub overflow_add-stepped : goal.overflow_add-stepped
overflow_add-stepped g c =
    let sorted = rw c.as_slice.ensures.items at c.in-Ok.ensures.sorted in
    let few = sorting_few c.args.bytes c.in-Ok.sorted sorted in
    omega (arith, few, c.stepped.ensures, c.requires.short)

pub pictures-requires-clause-sorted : goal.pictures-requires-clause-sorted
pictures-requires-clause-sorted g c κs within = record {
  capture = c.args.bytes;
  bytes = recursion_from_All (λ (item : ℕ). item < 256) c.args.bytes c.as_slice.ensures.bytes;
  short = omega (arith, c.requires.short);
  sorts = rw c.as_slice.ensures.items at c.in-Ok.ensures.sorted;
}

pub returns-in-Ok-clause-received : goal.returns-in-Ok-clause-received
returns-in-Ok-clause-received g c =
    let output = change_of (g.W.Sink.held c.args.output.now) (g.W.Sink.held c.pictures.new.output) (g.W.Sink.faults c.args.output.now) (g.W.Sink.faults c.pictures.new.output) in
    let notes = change_of (g.N.Sink.held c.args.notes.now) (g.N.Sink.held c.pictures.new.notes) (g.N.Sink.faults c.args.notes.now) (g.N.Sink.faults c.pictures.new.notes) in
    pictures_halt c.args.records c.args.bytes c.in-Ok.sorted output notes c.pictures.result (rw c.as_slice.ensures.items at c.in-Ok.ensures.sorted)
    (subst (λ n. IsSaidAll (with_stepped c.in-Ok.sorted (n + c.args.records)) output notes c.pictures.result) c.stepped.ensures c.pictures.ensures)

pub returns-in-Ok-clause-stop : goal.returns-in-Ok-clause-stop
returns-in-Ok-clause-stop g c = pictures_stop _ (change_of (g.W.Sink.held c.args.output.now) (g.W.Sink.held c.pictures.new.output) (g.W.Sink.faults c.args.output.now) (g.W.Sink.faults c.pictures.new.output)) (change_of (g.N.Sink.held c.args.notes.now) (g.N.Sink.held c.pictures.new.notes) (g.N.Sink.faults c.args.notes.now) (g.N.Sink.faults c.pictures.new.notes)) c.pictures.result c.pictures.ensures

pub returns-in-Err-clause-received : goal.returns-in-Err-clause-received
returns-in-Err-clause-received g c =
    let sorted = subst (λ (l : List ℕ). IsSorted l (Err c.in-Err.fault)) c.as_slice.ensures.items c.in-Err.ensures.sorted in
    rw c.refusal.ensures (refusal_halts c.args.records c.args.bytes (g.W.Sink.held c.args.output.now) (g.N.Sink.held c.args.notes.now) (g.W.Sink.faults c.args.output.now) (g.N.Sink.faults c.args.notes.now) c.in-Err.fault
    (recursion_from_All (λ (item : ℕ). item < 256) c.args.bytes c.as_slice.ensures.bytes) sorted)

pub returns-in-Err-clause-stop : goal.returns-in-Err-clause-stop
returns-in-Err-clause-stop g c = rw c.refusal.ensures (refusal_stops c.in-Err.fault)
