use Rattle.std.proofs.Common.{◌≡◌, ◌*◌, ◌/◌}
use Rattle.xs_lists.proofs.Puts.{put_to}
use Rattle.xs_signal.specs.Lines.{entries_of}
use Rattle.xs_signal.specs.Quantiser.{sent}
use Rattle.xs_rate.specs.Content.{planes_of}
use Rattle.xs_precinct_write.proofs.write.row.quantise_row.Given as goal

abbrev pub invariant-groups : goal.invariant-groups
invariant-groups l = record {
  done : l.values ≡ put_to (λ column. sent l.kind (planes_of (entries_of l.row) (column / 4)) l.t (entries_of l.row column)) l.initial.values (4 * l.group);
}
