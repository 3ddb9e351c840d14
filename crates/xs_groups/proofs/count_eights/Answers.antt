use Rattle.std.proofs.Common.{◌+◌, ◌*◌, ◌≤◌, length, arith}
use Rattle.xs_signal.specs.Lines.{entries_of}
use Rattle.xs_rate.specs.Content.{planes_of}
use Rattle.xs_groups.proofs.Planes.{eight_more}
use Rattle.xs_groups.proofs.count_eights.Goals as goal

pub eights-preserved : goal.eights-preserved
eights-preserved c =
    let below : 8 * c.eights.eight + 8 ≤ length c.eights.planes = omega (arith, c.eights.auto.planes, c.eights-test.true, c.requires.there) in
    record { done = eight_more c.eights.planes c.put_eight.new.planes c.eight_planes.result (planes_of (entries_of c.args.row.now)) c.eights.eight below c.eights.invariant.done c.eight_planes.ensures c.put_eight.ensures }
