use Rattle.std.proofs.Common.{rules, ◌≡◌, ◌<◌, ◌+◌, Err, [], length, drop, get_or, subst, arith}
use Rattle.std.specs.List.{flat_map}
use Rattle.xs_cli.specs.Encoded.{enveloped}
use Rattle.xs_endings.specs.Ends.{change_of}
use Rattle.xs_cli.proofs.CapturedTold.{HasGiven, given_cut, given_more}
use Rattle.xs_cli.proofs.Packed.{frame_next}
use Rattle.xs_cli.proofs.encoding.give_packets.Goals as goal

pub returns-in_err-give_packet : goal.returns-in_err-give_packet
returns-in_err-give_packet g c =
    let e : c.from_residual.result ≡ Err c.in_err-give_packet.field-0.0 = search rules in
    let below : c.giving.number < length c.args.packets.now = omega (arith, c.len-number-end.ensures, c.giving-test.true, c.giving.auto.number-end) in
    let before = subst (HasGiven (change_of (g.W.Sink.held c.args.output.now) (g.W.Sink.held c.giving.output) (g.W.Sink.faults c.args.output.now) (g.W.Sink.faults c.giving.output)) (flat_map (enveloped c.args.envelope) c.args.packets.now))
    (frame_next c.args.envelope c.args.packets.now c.giving.number below) c.giving.invariant in
    let given = rw c.get.ensures at c.in_err-give_packet.ensures in
    rw e (given_cut (g.W.Sink.held c.args.output.now) (g.W.Sink.held c.giving.output) (g.W.Sink.held c.give_packet.new.output) (g.W.Sink.faults c.args.output.now) (g.W.Sink.faults c.giving.output) (g.W.Sink.faults c.give_packet.new.output)
    (flat_map (enveloped c.args.envelope) c.args.packets.now) (enveloped c.args.envelope (get_or c.args.packets.now c.giving.number [])) (flat_map (enveloped c.args.envelope) (drop (c.giving.number + 1) c.args.packets.now)) before c.in_err-give_packet.field-0.0 given)

pub giving-preserved : goal.giving-preserved
giving-preserved g c =
    let below : c.giving.number < length c.args.packets.now = omega (arith, c.len-number-end.ensures, c.giving-test.true, c.giving.auto.number-end) in
    let before = subst (HasGiven (change_of (g.W.Sink.held c.args.output.now) (g.W.Sink.held c.giving.output) (g.W.Sink.faults c.args.output.now) (g.W.Sink.faults c.giving.output)) (flat_map (enveloped c.args.envelope) c.args.packets.now))
    (frame_next c.args.envelope c.args.packets.now c.giving.number below) c.giving.invariant in
    let given = rw c.get.ensures at c.in_ok-give_packet.ensures in
    given_more (g.W.Sink.held c.args.output.now) (g.W.Sink.held c.giving.output) (g.W.Sink.held c.give_packet.new.output) (g.W.Sink.faults c.args.output.now) (g.W.Sink.faults c.giving.output) (g.W.Sink.faults c.give_packet.new.output)
    (flat_map (enveloped c.args.envelope) c.args.packets.now) (enveloped c.args.envelope (get_or c.args.packets.now c.giving.number [])) (flat_map (enveloped c.args.envelope) (drop (c.giving.number + 1) c.args.packets.now)) before _ given
