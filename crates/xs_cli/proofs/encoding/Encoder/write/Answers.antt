use Rattle.std.proofs.Common.{ℕ, subst}
use Rattle.xs_params.specs.Picture.{raw_size}
use Rattle.xs_endings.specs.Ends.{change_of}
use Rattle.xs_endings.specs.Turns.{IsTaken}
use Rattle.xs_cli.specs.declared.encoding.Envelope.TheVariants.{Record}
use Rattle.xs_cli.specs.Encoded.{packets_sent, written_in}
use Rattle.xs_cli.specs.Places.{before_of}
use Rattle.xs_cli.proofs.encoding.Encoder.write.Goals as goal

pub returns-in-Xs-clause-taken : goal.returns-in-Xs-clause-taken
returns-in-Xs-clause-taken g c = rw c.in-Xs.is (c.write_stream.ensures.taken (raw_size c.args.self.now.settings.now.shape))

pub returns-in-Rtp-clause-taken : goal.returns-in-Rtp-clause-taken
returns-in-Rtp-clause-taken g c = rw c.in-Rtp.is c.write_packets.ensures.taken

pub returns-in-Pcap-clause-taken : goal.returns-in-Pcap-clause-taken
returns-in-Pcap-clause-taken g c =
    let s = c.args.self.now.settings.now in
    let output = change_of (g.W.Sink.held c.args.output.now) (g.W.Sink.held c.write_packets-in-Pcap.new.output) (g.W.Sink.faults c.args.output.now) (g.W.Sink.faults c.write_packets-in-Pcap.new.output) in
    let taken = subst (λ (timestamp : ℕ). IsTaken output (written_in s (Record timestamp c.in-Pcap.port) (packets_sent s (before_of c.args.place) c.args.stream.now)) c.write_packets-in-Pcap.result)
    c.timestamp_of-timestamp.ensures c.write_packets-in-Pcap.ensures.taken in
    rw c.in-Pcap.is taken
