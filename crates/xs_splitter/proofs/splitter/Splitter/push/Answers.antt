use Rattle.std.proofs.Common.{sym, subst}
use Rattle.xs_signal.specs.Lines.{Shows}
use Rattle.xs_splitter.proofs.splitter.Splitter.push.Goals as goal

pub returns-clause-holds : goal.returns-clause-holds
returns-clause-holds c p from held shown = c.in_ok-carry.ensures.holds p from held (subst (λ r. Shows r (p c.args.self.now.taken)) (sym c.in_ok-row.ensures) shown)
