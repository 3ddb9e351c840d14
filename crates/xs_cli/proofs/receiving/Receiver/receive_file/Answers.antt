use Rattle.std.proofs.Common.{ℕ, ◌<◌, arith}
use Rattle.std.proofs.lemmas.List.Elements.{recursion_from_All}
use Rattle.xs_endings.specs.Ends.{change_of}
use Rattle.xs_cli.proofs.FileHalts.{file_halt, refused_file, refused_file_stops}
use Rattle.xs_cli.proofs.Unwrapping.{capture_parts}
use Rattle.xs_cli.proofs.receiving.Receiver.receive_file.Goals as goal

pub receive-requires-clause-short : goal.receive-requires-clause-short
receive-requires-clause-short g c κs within =
    let parts = capture_parts c.args.bytes c.args.port c.in-Ok.field-0 (recursion_from_All (λ (item : ℕ). item < 256) c.args.bytes c.as_slice.ensures.bytes) (rw c.as_slice.ensures.items at c.in-Ok.ensures.unwrapped) in
    omega (arith, parts.1, c.requires.short)

pub returns-in-Ok-clause-received : goal.returns-in-Ok-clause-received
returns-in-Ok-clause-received g c =
    let output = change_of (g.W.Sink.held c.args.output.now) (g.W.Sink.held c.receive.new.output) (g.W.Sink.faults c.args.output.now) (g.W.Sink.faults c.receive.new.output) in
    let notes = change_of (g.N.Sink.held c.args.notes.now) (g.N.Sink.held c.receive.new.notes) (g.N.Sink.faults c.args.notes.now) (g.N.Sink.faults c.receive.new.notes) in
    file_halt c.args.port c.args.bytes c.in-Ok.field-0 output notes c.receive.result (rw c.as_slice.ensures.items at c.in-Ok.ensures.unwrapped)
    c.receive.ensures.received

pub returns-in-Err-clause-received : goal.returns-in-Err-clause-received
returns-in-Err-clause-received g c =
    rw c.file_refusal.ensures (refused_file c.args.port c.args.bytes (g.W.Sink.held c.args.output.now) (g.N.Sink.held c.args.notes.now) (g.W.Sink.faults c.args.output.now) (g.N.Sink.faults c.args.notes.now) c.in-Err.fault
    (recursion_from_All (λ (item : ℕ). item < 256) c.args.bytes c.as_slice.ensures.bytes) (rw c.as_slice.ensures.items at c.in-Err.ensures.unwrapped))

pub returns-in-Err-clause-stop : goal.returns-in-Err-clause-stop
returns-in-Err-clause-stop g c = rw c.file_refusal.ensures (refused_file_stops c.in-Err.fault)
