use Rattle.xs_slice_write.specs.Coded.{HasSliceRoom}
use Rattle.xs_enc_lanes.specs.Working.{Goes, SweepsTo}
use Rattle.xs_enc_lanes.proofs.activity.Activity.sweep.Given as goal

abbrev pub invariant-sweeping : goal.invariant-sweeping
invariant-sweeping l = record {
  goes : Goes l.job l.initial.self l.self;
  room : HasSliceRoom l.job.header.now l.room.scratch;
  all : SweepsTo l.slice l.initial.self l.self;
}
