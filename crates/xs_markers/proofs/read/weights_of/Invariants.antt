use Rattle.std.proofs.Common.{◌≡◌, length, take}
use Rattle.xs_markers.specs.Reading.{weights_of}
use Rattle.xs_markers.proofs.read.weights_of.Given as goal

abbrev pub invariant-bands : goal.invariant-bands
invariant-bands l = record {
  room : length l.weights ≡ 30;
  same : take l.band l.weights ≡ take l.band (weights_of l.body);
}
