use Rattle.xs_board.specs.Passes.{actor}
use Rattle.xs_recv.proofs.Feeding.{puts_is}
use Rattle.xs_recv.proofs.feed.file.Goals as goal

pub returns-clause-got : goal.returns-clause-got
returns-clause-got c = (puts_is (actor c.args.pass.now) c.args.packet (actor c.file.new.pass) c.file.result c.file.ensures.answer).1

pub returns-clause-puts : goal.returns-clause-puts
returns-clause-puts c = (puts_is (actor c.args.pass.now) c.args.packet (actor c.file.new.pass) c.file.result c.file.ensures.answer).0
