use Rattle.xs_slice_write.specs.Coded.{HasSliceRoom}
use Rattle.xs_choice_bench.proofs.write.Given as goal

abbrev pub invariant-times : goal.invariant-times
invariant-times l = record {
  room : HasSliceRoom l.header l.scratch;
}
