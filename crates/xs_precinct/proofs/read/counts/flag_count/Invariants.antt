use Rattle.std.proofs.Common.{◌≡◌, ◌*◌, ◌≤◌, take, sum_by}
use Rattle.std.specs.List.{AllByRecursion}
use Rattle.xs_precinct.specs.Bands.{IsBand, flags_of}
use Rattle.xs_precinct.proofs.read.counts.flag_count.Given as goal

abbrev pub invariant-bands : goal.invariant-bands
invariant-bands l = record {
  count : l.count ≡ sum_by flags_of (take l.k l.bands);
  few : l.count ≤ 256 * l.k;
  ranges : AllByRecursion IsBand (take l.k l.bands);
}
