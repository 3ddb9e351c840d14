use Rattle.std.proofs.Common.{◌≡◌, List, take, drop}
use Rattle.std.specs.Prelude.{false}
use Rattle.std.specs.List.{AllByRecursion}
use Rattle.xs_bits.specs.Reading.{left}
use Rattle.xs_lists.specs.Bits.{bits_of_bytes}
use Rattle.xs_spelling.specs.Counts.{Line}
use Rattle.xs_precinct.specs.Bands.{EachOf, HoldsNumbers, NumbersOf, SameCoded}
use Rattle.xs_precinct.proofs.Numbered.{SignsSoFar}
use Rattle.xs_precinct.proofs.read.data.read_signs.Given as goal

abbrev pub invariant-bands : goal.invariant-bands
invariant-bands l = record {
  later : drop l.k l.bands ≡ drop l.k l.initial.bands;
  coded : EachOf SameCoded (take l.k l.initial.bands) (take l.k l.bands);
  filled : AllByRecursion (HoldsNumbers false) (take l.k l.bands);
  read : (lines : List Line) → EachOf NumbersOf l.initial.bands lines → SignsSoFar lines l.bands (bits_of_bytes l.bytes) (left l.input) l.k;
}
