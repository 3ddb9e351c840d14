use Rattle.std.proofs.Common.{◌∙◌, ap}
use Rattle.xs_lane_core.specs.Share.{parts_of}
use Rattle.xs_lane_core.proofs.Kept.{one_raised}
use Rattle.xs_lane_core.proofs.share.add_raised.Goals as goal

pub adding-preserved : goal.adding-preserved
adding-preserved c = ap parts_of c.in_ok-keep.ensures.ok ∙ one_raised c.adding.into.items c.args.powers.now c.args.by c.adding.power-index c.in_ok-higher.higher 0 (parts_of c.args.into.now.items) c.adding-test.true c.in_ok-higher.ensures c.adding.invariant
