use Rattle.std.proofs.Common.{rules}
use Rattle.xs_lanes.specs.declared.claim.Claim.TheVariants.{Got, Gone}
use Rattle.xs_lanes.specs.Filing.{placing}
use Rattle.xs_lanes.proofs.ClaimsExactly.{claim_exactly}
use Rattle.xs_lanes.proofs.table.Lanes.claim.Goals as goal

pub returns-then-not-win-clause-exact : goal.returns-then-not-win-clause-exact
returns-then-not-win-clause-exact g c = claim_exactly (placing g.T.Placed.lane_of g.T.Placed.slot_of g.T.Placed.closes_of) _ c.args.pass.now.me.0 c.args.lane Gone c.args.into.now.items c.win.new.pass.me.0 c.requires.pass.2 c.requires.lane (search rules)

pub returns-clause-exact : goal.returns-clause-exact
returns-clause-exact g c = claim_exactly (placing g.T.Placed.lane_of g.T.Placed.slot_of g.T.Placed.closes_of) _ c.args.pass.now.me.0 c.args.lane Got c.pull_all.new.into.items c.pull_all.new.pass.me.0 c.requires.pass.2 c.requires.lane (search rules)
