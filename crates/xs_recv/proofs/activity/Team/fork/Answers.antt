use Rattle.xs_recv.specs.Filing.{fed}
use Rattle.xs_recv.proofs.Teams.{then_ok}
use Rattle.xs_recv.proofs.activity.Team.fork.Goals as goal

pub returns-clause-forked : goal.returns-clause-forked
returns-clause-forked c = then_ok _ _ c.add_workers.result (λ all. all (fed c.args.feeds.items) c.in_ok-add_feeders.ensures.forked) c.add_workers.ensures.forked
