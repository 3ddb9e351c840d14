use Rattle.xs_lanes.specs.Knowing.{SameShare}
use Rattle.xs_lanes.specs.Passes.{IsPassOf, view}
use Rattle.xs_lane_tests.proofs.two_threads.Worker.put_all.Given as goal

abbrev pub invariant-putting : goal.invariant-putting
invariant-putting l = IsPassOf l.lanes l.self.pass × SameShare (view l.initial.self.pass) (view l.self.pass)
