use Rattle.std.proofs.Common.{sym, ap, subst}
use Rattle.xs_lane_core.specs.Machine.{Actor}
use Rattle.xs_lanes.specs.Filing.{placing}
use Rattle.xs_lanes.specs.Claiming.{HasDrawn}
use Rattle.xs_lanes.specs.Passes.{view}
use Rattle.xs_lanes.proofs.Runs.{owes_slot}
use Rattle.xs_lanes.proofs.table.Lanes.pull.Goals as goal

pub give_back-requires-clause-owes : goal.give_back-requires-clause-owes
give_back-requires-clause-owes g c = λ _ _. let t = c.draw-value.ensures.drawn c.requires.pulling.0 c.requires.pulling.1 in owes_slot (placing g.T.Placed.lane_of g.T.Placed.slot_of g.T.Placed.closes_of) (view c.args.pass.now) c.args.lane c.requires.pulling.0 c.draw-value.result c.draw-value.new.pass.me t.0 t.1

pub returns-clause-drawn : goal.returns-clause-drawn
returns-clause-drawn g c = λ j stand. subst (λ (w : Actor g.row.T.Denot). HasDrawn (placing g.T.Placed.lane_of g.T.Placed.slot_of g.T.Placed.closes_of) (view c.args.pass.now) c.args.lane j c.draw-value.result w) (sym (ap (λ m. m.0) c.give_back.ensures.same.1)) (c.draw-value.ensures.drawn j stand).0
