use Rattle.xs_lanes.specs.Knowing.{SameShare}
use Rattle.xs_lanes.specs.Passes.{IsPassOf, view}
use Rattle.xs_lane_tests.proofs.two_threads.Worker.feed.Given as goal

abbrev pub invariant-feeding : goal.invariant-feeding
invariant-feeding l = IsPassOf l.lanes l.self.pass × SameShare (view l.initial.self.pass) (view l.self.pass)
