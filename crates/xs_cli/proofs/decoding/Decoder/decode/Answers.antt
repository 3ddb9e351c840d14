use Rattle.std.proofs.Common.{ℕ, List, subst}
use Rattle.std.specs.Prelude.{IsErrOf}
use Rattle.xs_io.specs.declared.traits.TakeFault.TheVariants as take_fault
use Rattle.xs_endings.specs.Ends.{change_of}
use Rattle.xs_cli.specs.Steps.{AreStreamsDecoded}
use Rattle.xs_cli.proofs.Done.{capture_done, file_done, input_failed, no_room, over_limit, streams_done}
use Rattle.xs_cli.proofs.decoding.Decoder.decode.Goals as goal

pub returns-in-Xs : goal.returns-in-Xs
returns-in-Xs g c =
    let output = change_of (g.W.Sink.held c.args.output.now) (g.W.Sink.held c.streams.new.output) (g.W.Sink.faults c.args.output.now) (g.W.Sink.faults c.streams.new.output) in
    let decoded = subst (λ (l : List ℕ). AreStreamsDecoded l output c.streams.result) c.as_slice.ensures.items c.streams.ensures.decoded in
    rw c.in-Xs.is (streams_done c.args.self.now.receiver.crew.workers c.args.self.now.receiver.crew.feeders (g.R.Source.left c.args.input.now) (g.R.Source.left c.take_all.new.source) (g.R.Source.faults c.args.input.now) (g.R.Source.faults c.take_all.new.source)
    (g.N.Sink.held c.args.notes.now) (g.N.Sink.faults c.args.notes.now) c.in-Ok.bytes output c.streams.result c.in-Ok.ensures.most c.known_bytes.ensures c.in-Ok.ensures.taken c.in-Ok.ensures.end c.streams.ensures.stop decoded)

pub returns-in-Rtp : goal.returns-in-Rtp
returns-in-Rtp g c =
    let output = change_of (g.W.Sink.held c.args.output.now) (g.W.Sink.held c.receive.new.output) (g.W.Sink.faults c.args.output.now) (g.W.Sink.faults c.receive.new.output) in
    let notes = change_of (g.N.Sink.held c.args.notes.now) (g.N.Sink.held c.receive.new.notes) (g.N.Sink.faults c.args.notes.now) (g.N.Sink.faults c.receive.new.notes) in
    rw c.in-Rtp.is (capture_done c.args.self.now.receiver.crew.workers c.args.self.now.receiver.crew.feeders (g.R.Source.left c.args.input.now) (g.R.Source.left c.take_all.new.source) (g.R.Source.faults c.args.input.now) (g.R.Source.faults c.take_all.new.source)
    c.in-Ok.bytes output notes c.receive.result c.in-Ok.ensures.most c.known_bytes.ensures c.in-Ok.ensures.taken c.in-Ok.ensures.end c.receive.ensures.stop c.receive.ensures.notes_later c.receive.ensures.received)

pub returns-in-Pcap : goal.returns-in-Pcap
returns-in-Pcap g c =
    let output = change_of (g.W.Sink.held c.args.output.now) (g.W.Sink.held c.receive_file.new.output) (g.W.Sink.faults c.args.output.now) (g.W.Sink.faults c.receive_file.new.output) in
    let notes = change_of (g.N.Sink.held c.args.notes.now) (g.N.Sink.held c.receive_file.new.notes) (g.N.Sink.faults c.args.notes.now) (g.N.Sink.faults c.receive_file.new.notes) in
    rw c.in-Pcap.is (file_done c.in-Pcap.port c.args.self.now.receiver.crew.workers c.args.self.now.receiver.crew.feeders (g.R.Source.left c.args.input.now) (g.R.Source.left c.take_all.new.source) (g.R.Source.faults c.args.input.now) (g.R.Source.faults c.take_all.new.source)
    c.in-Ok.bytes output notes c.receive_file.result c.in-Ok.ensures.most c.known_bytes.ensures c.in-Ok.ensures.taken c.in-Ok.ensures.end c.receive_file.ensures.stop c.receive_file.ensures.notes_later c.receive_file.ensures.received)

pub returns-in-Err-Limit : goal.returns-in-Err-Limit
returns-in-Err-Limit g c =
    let limit : IsErrOf c.take_all.result take_fault.Limit = cc in
    let front = c.take_all.ensures.over limit in
    over_limit c.args.self.now.form c.args.self.now.receiver.crew.workers c.args.self.now.receiver.crew.feeders (g.R.Source.left c.args.input.now) (g.R.Source.left c.take_all.new.source) (g.W.Sink.held c.args.output.now) (g.R.Source.faults c.args.input.now) (g.R.Source.faults c.take_all.new.source) (g.W.Sink.faults c.args.output.now)
    (g.N.Sink.held c.args.notes.now) (g.N.Sink.faults c.args.notes.now) front.0 front.1 front.2

pub returns-in-Err-Failed : goal.returns-in-Err-Failed
returns-in-Err-Failed g c =
    let failed : IsErrOf c.take_all.result take_fault.Failed = cc in
    let front = c.take_all.ensures.failed failed in
    input_failed c.args.self.now.form c.args.self.now.receiver.crew.workers c.args.self.now.receiver.crew.feeders (g.R.Source.left c.args.input.now) (g.R.Source.left c.take_all.new.source) (g.W.Sink.held c.args.output.now) (g.R.Source.faults c.args.input.now) (g.R.Source.faults c.take_all.new.source) (g.W.Sink.faults c.args.output.now)
    (g.N.Sink.held c.args.notes.now) (g.N.Sink.faults c.args.notes.now) front.0 front.1 front.2 (c.take_all.ensures.cause.failed failed)

pub returns-in-Err-Memory : goal.returns-in-Err-Memory
returns-in-Err-Memory g c =
    let memory : IsErrOf c.take_all.result take_fault.Memory = cc in
    let front = c.take_all.ensures.memory memory in
    no_room c.args.self.now.form c.args.self.now.receiver.crew.workers c.args.self.now.receiver.crew.feeders (g.R.Source.left c.args.input.now) (g.R.Source.left c.take_all.new.source) (g.W.Sink.held c.args.output.now) (g.R.Source.faults c.args.input.now) (g.R.Source.faults c.take_all.new.source) (g.W.Sink.faults c.args.output.now)
    (g.N.Sink.held c.args.notes.now) (g.N.Sink.faults c.args.notes.now) front.0 front.1 front.2
