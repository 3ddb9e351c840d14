use Rattle.std.proofs.Common.{length}
use Rattle.xs_recv.proofs.Filled.{AreFilled}
use Rattle.xs_recv.proofs.picture.fill_picture.Given as goal

abbrev pub invariant-filling : goal.invariant-filling
invariant-filling l = AreFilled l.header l.fn.made.items l.stripes.items l.picture

abbrev pub decreases-filling : goal.decreases-filling
decreases-filling l = length l.stripes.items
