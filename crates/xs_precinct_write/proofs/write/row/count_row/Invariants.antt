use Rattle.std.proofs.Common.{◌≡◌, length, map}
use Rattle.std.specs.Prelude.{max}
use Rattle.xs_lists.specs.Spelling.{upto}
use Rattle.xs_lists.proofs.Puts.{put_to}
use Rattle.xs_signal.specs.Lines.{entries_of}
use Rattle.xs_rate.specs.Content.{planes_of}
use Rattle.xs_precinct_write.proofs.write.row.count_row.Given as goal

abbrev pub invariant-groups : goal.invariant-groups
invariant-groups l = record {
  done : l.counts ≡ put_to (λ group. max (planes_of (entries_of l.row) group) l.t) (map (planes_of (entries_of l.row)) (upto (length l.initial.counts))) l.group;
}
