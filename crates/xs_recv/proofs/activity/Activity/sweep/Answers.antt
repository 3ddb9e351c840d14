use Rattle.xs_board.specs.Passes.{unit_count}
use Rattle.xs_recv.proofs.Swept.{sweeps_all}
use Rattle.xs_recv.proofs.activity.Activity.sweep.Goals as goal

pub returns-clause-all : goal.returns-clause-all
returns-clause-all c =
    sweeps_all (unit_count c.args.exchange.now.board) c.args.self.now c.try_header.new.self c.sweep_slices.new.self c.try_header.ensures.swept c.try_header.ensures.share c.sweep_slices.ensures.files c.sweep_slices.ensures.grows
    c.sweep_slices.ensures.starved c.sweep_slices.ensures.all
