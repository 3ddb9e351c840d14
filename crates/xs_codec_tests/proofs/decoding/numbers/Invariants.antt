use Rattle.std.proofs.Common.{◌≡◌, length}
use Rattle.xs_signal.specs.Lines.{entries_of}
use Rattle.xs_rate.specs.Laws.{IsSmallRow}
use Rattle.xs_codec_tests.proofs.decoding.numbers.Given as goal

abbrev pub invariant-loop-column : goal.invariant-loop-column
invariant-loop-column l = record {
  count : length l.list.items ≡ l.column;
  small : IsSmallRow (entries_of l.list.items);
}
