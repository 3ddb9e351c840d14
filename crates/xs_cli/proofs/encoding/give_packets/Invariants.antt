use Rattle.std.proofs.Common.{drop}
use Rattle.std.specs.List.{flat_map}
use Rattle.xs_cli.specs.Encoded.{enveloped}
use Rattle.xs_endings.specs.Ends.{change_of}
use Rattle.xs_cli.proofs.CapturedTold.{HasGiven}
use Rattle.xs_cli.proofs.encoding.give_packets.Given as goal

abbrev pub invariant-giving : goal.invariant-giving
invariant-giving g l =
    HasGiven (change_of (g.W.Sink.held l.fn.output) (g.W.Sink.held l.output) (g.W.Sink.faults l.fn.output) (g.W.Sink.faults l.output))
    (flat_map (enveloped l.fn.envelope) l.fn.packets) (flat_map (enveloped l.fn.envelope) (drop l.number l.fn.packets))
