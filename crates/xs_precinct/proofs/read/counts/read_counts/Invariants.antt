use Rattle.std.proofs.Common.{◌≡◌, ◌≤◌, [], List, length, take, drop, sum_by}
use Rattle.std.specs.Prelude.{true, false}
use Rattle.xs_bits.specs.Reading.{left}
use Rattle.xs_lists.specs.Bits.{bits_of_bytes}
use Rattle.xs_spelling.specs.Counts.{Line}
use Rattle.xs_precinct.specs.Bands.{EachOf, Follows, Knows, flags_of}
use Rattle.xs_precinct.proofs.Coded.{CountsSoFar}
use Rattle.xs_precinct.proofs.read.counts.read_counts.Given as goal

abbrev pub invariant-bands : goal.invariant-bands
invariant-bands l = record {
  later : drop l.k l.bands ≡ drop l.k l.initial.bands;
  follow : EachOf Follows (take l.k l.initial.bands) (take l.k l.bands);
  raw : l.form.raw ≡ true → left l.flags ≡ [];
  there : l.form.raw ≡ false → sum_by flags_of (drop l.k l.initial.bands) ≤ length (left l.flags);
  read : (lines : List Line) → EachOf Knows l.initial.bands lines → CountsSoFar l.form.raw l.form.run_mode lines l.bands (bits_of_bytes l.significance) (bits_of_bytes l.counts) (left l.flags) (left l.input) l.k;
}
