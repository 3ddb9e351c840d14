use Rattle.std.proofs.Common.{rules, ◌≡◌, Err}
use Rattle.xs_endings.specs.Ends.{change_of}
use Rattle.xs_cli.proofs.Begun.{not_begun, pictures_after}
use Rattle.xs_cli.proofs.encoding.Encoder.run.Goals as goal

pub returns-in_err-begin : goal.returns-in_err-begin
returns-in_err-begin g c = λ held faults.
    let e : c.from_residual.result ≡ Err c.in_err-begin.field-0.0 = search rules in
    rw e (not_begun c.args.self.now.settings.now c.args.self.now.form (g.R.Source.left c.args.input.now) (g.W.Sink.held c.args.output.now) (g.W.Sink.held c.begin.new.output) (g.R.Source.faults c.args.input.now) (g.W.Sink.faults c.args.output.now) (g.W.Sink.faults c.begin.new.output) held faults c.in_err-begin.field-0.0 c.in_err-begin.ensures)

pub returns : goal.returns
returns g c = λ held faults.
    let source = change_of (g.R.Source.left c.args.input.now) (g.R.Source.left c.pictures.new.input) (g.R.Source.faults c.args.input.now) (g.R.Source.faults c.pictures.new.input) in
    pictures_after c.args.self.now.settings.now c.args.self.now.form source (g.W.Sink.held c.args.output.now) (g.W.Sink.held c.begin.new.output) (g.W.Sink.held c.pictures.new.output) (g.W.Sink.faults c.args.output.now) (g.W.Sink.faults c.begin.new.output) (g.W.Sink.faults c.pictures.new.output)
    held faults c.in_ok-begin.ensures.whole c.in_ok-begin.ensures.later c.pictures.result (c.pictures.ensures held faults)
