use Rattle.xs_recv.proofs.Teams.{forked_none, hands_none}
use Rattle.xs_recv.proofs.activity.Team.new.Goals as goal

pub returns-clause-forked : goal.returns-clause-forked
returns-clause-forked c = forked_none c.args.exchange.now.board c.args.passes.pass c.new.result.items c.requires.pass c.requires.first c.new.ensures.items

pub returns-clause-hands : goal.returns-clause-hands
returns-clause-hands c = hands_none c.args.exchange.now.handover c.args.passes.hand c.new.result.items c.requires.hand c.requires.fresh c.new.ensures.items
