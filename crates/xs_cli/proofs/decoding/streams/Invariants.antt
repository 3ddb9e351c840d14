use Rattle.std.proofs.Common.{◌≤◌, length}
use Rattle.xs_endings.specs.Ends.{change_of}
use Rattle.xs_cli.proofs.Streams.{HasDecoded}
use Rattle.xs_cli.proofs.decoding.streams.Given as goal

abbrev pub invariant-streams : goal.invariant-streams
invariant-streams g l = record {
  within : l.place ≤ length l.bytes;
  decoded : HasDecoded l.bytes (change_of (g.W.Sink.held l.initial.output) (g.W.Sink.held l.output) (g.W.Sink.faults l.initial.output) (g.W.Sink.faults l.output))
      (record { pictures = l.picture; bytes = l.place; sequence = 0 });
}
