use Rattle.xs_slice_write.specs.Coded.{HasSliceRoom}
use Rattle.xs_enc_lanes.specs.Working.{Goes}
use Rattle.xs_enc_lanes.proofs.activity.Activity.scan.Given as goal

abbrev pub invariant-scanning : goal.invariant-scanning
invariant-scanning g l = record {
  goes : Goes l.job l.initial.self l.self;
  room : HasSliceRoom l.job.header.now l.coder.room.scratch;
}
