use Rattle.std.proofs.Common.{◌≡◌, ◌+◌, ◌-◌, arith}
use Rattle.xs_lists.proofs.Ranges.{sum_first}
use Rattle.xs_counts.specs.Known.{counted_line, residual_size}
use Rattle.xs_counts.proofs.write.residual_bits.Goals as goal

pub groups-preserved : goal.groups-preserved
groups-preserved c =
    let line = counted_line c.args.counts.now c.args.predictor.now c.args.mode in
    record {
      size = omega (arith, sum_first (residual_size line) c.groups.group c.members-first.result.1 c.groups-test.true, c.residual_ones.ensures.ones, c.from.ensures, c.groups.invariant.size);
      few = omega (arith, c.groups.invariant.few, c.groups.invariant.from, c.residual_ones.ensures.few, c.from.ensures);
      from = omega (arith, c.groups.invariant.from);
    }
