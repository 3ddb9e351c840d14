use Rattle.std.proofs.Common.{rules, ◌≡◌, Err}
use Rattle.xs_cli.proofs.TrialSaid.{untold}
use Rattle.xs_cli.proofs.trial.Trial.run.Goals as goal

pub returns-in_err-lines : goal.returns-in_err-lines
returns-in_err-lines g c =
    let e : c.from_residual.result ≡ Err c.in_err-lines.field-0.0 = search rules in
    rw e (untold c.args.self.now.settings.now c.args.seed (g.W.Sink.held c.args.output.now) (g.W.Sink.faults c.args.output.now) c.in_err-lines.field-0.0 c.known_range.ensures c.in_err-lines.ensures)
