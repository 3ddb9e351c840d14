use Rattle.std.proofs.Common.{◌≡◌, ℕ, ◌+◌, ◌*◌, ◌<◌, length, drop, get_or}
use Rattle.xs_bits.specs.Reading.{left}
use Rattle.xs_lists.specs.Bits.{bits_of_bytes}
use Rattle.xs_layout.specs.Geometry.{groups_of}
use Rattle.xs_layout.specs.Weighting.{truncation_of}
use Rattle.xs_params.specs.Geometry.{band_width_of}
use Rattle.xs_grammar.specs.Precinct.{weight_of}
use Rattle.xs_reading.specs.Precinct.{mode_at}
use Rattle.xs_precinct.specs.Bands.{IsBegun, no_band}
use Rattle.xs_precinct.proofs.read.precinct.begin.Given as goal

abbrev pub invariant-bands : goal.invariant-bands
invariant-bands l = record {
  place : l.input.place ≡ 40 + 2 * l.k;
  bits : l.input.bits ≡ bits_of_bytes l.head;
  room : length (left l.input) + (40 + 2 * l.k) ≡ 8 * length l.head;
  later : drop l.k l.bands ≡ drop l.k l.initial.bands;
  begun : (band : ℕ) → band < l.k
      → IsBegun (get_or l.initial.bands band no_band) (get_or l.bands band no_band) (groups_of (band_width_of l.place.header.now band)) (mode_at l.head band) (truncation_of l.q l.r (weight_of l.place.header.now band));
}
