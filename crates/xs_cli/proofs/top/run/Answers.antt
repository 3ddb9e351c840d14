use Rattle.xs_cli.proofs.Runs.{low, names_stop, ran}
use Rattle.xs_cli.proofs.top.run.Goals as goal

pub close-requires : goal.close-requires
close-requires g c = names_stop _ (low _ _ c.execute-done.ensures.stop)

pub returns : goal.returns
returns g c = ran _ _ _ _ _ _ _ _ _ _ _ c.execute-done.ensures c.close.ensures
