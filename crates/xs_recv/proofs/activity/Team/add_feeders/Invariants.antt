use Rattle.std.proofs.Common.{◌≡◌, ◌++◌, List, length}
use Rattle.xs_board.specs.Passes.{unit_count}
use Rattle.xs_recv.specs.declared.activity.Feed.{Feed}
use Rattle.xs_recv.specs.Filing.{AreForked, AreOfUnits, HandsForked, fed}
use Rattle.xs_recv.proofs.activity.Team.add_feeders.Given as goal

abbrev pub invariant-feeding : goal.invariant-feeding
invariant-feeding l = AreOfUnits (unit_count l.exchange.board) l.feeds.items × (done : List Feed) × (l.initial.feeds.items ≡ l.feeds.items ++ done) × AreForked l.exchange.board (fed done) l.self.pass l.self.others.items × HandsForked l.exchange.handover l.self.hand l.self.others.items

abbrev pub decreases-feeding : goal.decreases-feeding
decreases-feeding l = length l.feeds.items
