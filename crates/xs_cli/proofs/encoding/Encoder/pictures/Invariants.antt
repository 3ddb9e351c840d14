use Rattle.std.proofs.Common.{◌*◌}
use Rattle.xs_params.specs.Picture.{raw_size}
use Rattle.xs_endings.specs.Ends.{change_of}
use Rattle.xs_cli.proofs.Written.{HasWritten}
use Rattle.xs_cli.proofs.encoding.Encoder.pictures.Given as goal

abbrev pub invariant-pictures : goal.invariant-pictures
invariant-pictures g l =
    HasWritten l.self.settings.now l.self.form
    (change_of (g.R.Source.left l.initial.input) (g.R.Source.left l.input) (g.R.Source.faults l.initial.input) (g.R.Source.faults l.input))
    (change_of (g.W.Sink.held l.initial.output) (g.W.Sink.held l.output) (g.W.Sink.faults l.initial.output) (g.W.Sink.faults l.output))
    (record { pictures = l.picture; bytes = l.picture * raw_size l.self.settings.now.shape; sequence = l.sequence })
