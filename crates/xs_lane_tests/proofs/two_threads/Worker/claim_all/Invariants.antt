use Rattle.xs_lanes.specs.Knowing.{SameShare}
use Rattle.xs_lanes.specs.Passes.{IsPassOf, view}
use Rattle.xs_lane_tests.proofs.two_threads.Worker.claim_all.Given as goal

abbrev pub invariant-claiming : goal.invariant-claiming
invariant-claiming l = IsPassOf l.lanes l.self.pass × SameShare (view l.initial.self.pass) (view l.self.pass)
