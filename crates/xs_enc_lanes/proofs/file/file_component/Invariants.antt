use Rattle.std.proofs.Common.{◌≡◌}
use Rattle.xs_lanes.specs.Knowing.{SameShare}
use Rattle.xs_lanes.specs.Passes.{IsPassOf, view}
use Rattle.xs_enc_lanes.specs.Transformed.{IsUnderWay, KeepsFrom}
use Rattle.xs_enc_lanes.specs.Working.{AreFiledTo, StoresRows}
use Rattle.xs_enc_lanes.proofs.file.file_component.Given as goal

abbrev pub invariant-slices : goal.invariant-slices
invariant-slices l = record {
  pass : IsPassOf l.job.lanes.now l.pass;
  share : SameShare (view l.initial.pass) (view l.pass);
  got : (view l.pass).got ≡ (view l.initial.pass).got;
  stored : StoresRows l.job (view l.initial.pass) → StoresRows l.job (view l.pass);
  filed : AreFiledTo l.slice l.fn.number (view l.pass);
  kept : KeepsFrom l.slice l.transform;
  state : IsUnderWay (record { picture = l.job.picture; header = l.job.header; number = l.fn.number }) l.transform;
}
