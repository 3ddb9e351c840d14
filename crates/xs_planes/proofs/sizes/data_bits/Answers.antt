use Rattle.std.proofs.Common.{[], length, ap, ◌∙◌, arith}
use Rattle.std.specs.Prelude.{slice_index_or}
use Rattle.xs_spelling.specs.Sizes.{group_size, numbered}
use Rattle.xs_planes.specs.Numbers.{size_by_count}
use Rattle.xs_lists.proofs.Ranges.{sum_first}
use Rattle.xs_planes.proofs.sizes.data_bits.Goals as goal

pub groups-preserved : goal.groups-preserved
groups-preserved c =
    let one = c.group_bits-bits.ensures.size ∙ ap (λ counts. size_by_count c.args.signs_apart c.args.t (slice_index_or counts c.groups.group 0)) c.as_slice-items.ensures.items in
    let more = sum_first (group_size c.args.signs_apart (numbered c.args.t c.args.counts.now [])) c.groups.group (length c.args.counts.now) (omega (arith, c.groups-test.true, ap length c.as_slice-items.ensures.items)) in
    record {
      size = omega (arith, one, more, c.groups.invariant.size);
      few = omega (arith, c.group_bits-bits.ensures.few, c.groups.invariant.few);
    }
