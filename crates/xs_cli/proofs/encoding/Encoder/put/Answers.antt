use Rattle.std.proofs.Common.{◌≡◌, Err, rules, subst, sym}
use Rattle.xs_endings.specs.Ends.{change_of}
use Rattle.xs_endings.specs.Turns.{IsTaken}
use Rattle.xs_cli.specs.Places.{before_of}
use Rattle.xs_cli.proofs.Written.{untaken}
use Rattle.xs_cli.proofs.encoding.Encoder.put.Goals as goal

pub returns-in_err-stream-clause-taken : goal.returns-in_err-stream-clause-taken
returns-in_err-stream-clause-taken g c = λ bytes is.
    let e : c.from_residual.result ≡ Err c.in_err-stream.field-0.0 = search rules in
    rw e (untaken c.args.self.now.settings.now c.args.self.now.form (before_of c.args.place) bytes _ (c.in_err-stream.ensures.stream bytes is) (g.W.Sink.held c.args.output.now) (g.W.Sink.faults c.args.output.now))

pub returns-clause-taken : goal.returns-clause-taken
returns-clause-taken g c = λ bytes is.
    subst (λ turn. IsTaken (change_of (g.W.Sink.held c.args.output.now) (g.W.Sink.held c.write.new.output) (g.W.Sink.faults c.args.output.now) (g.W.Sink.faults c.write.new.output)) turn c.write.result)
    (sym (c.in_ok-stream.ensures.stream bytes is c.args.self.now.form)) c.write.ensures.taken
