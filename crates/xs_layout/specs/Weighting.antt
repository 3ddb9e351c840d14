-- How finely each band is quantised: the truncation of 'Truncation, data and signs' and the default weights of 'Rate choice'.
use Rattle.std.specs.Prelude.{ℕ, ◌+◌, ◌-◌, ◌/◌, min, Bool, nat_lt, if◌then◌else◌, List, map}
use Rattle.xs_lists.specs.Bits.{bit_of}
use Rattle.xs_lists.specs.Spelling.{upto}
use Rattle.xs_layout.specs.declared.Weight.{Weight}
use Rattle.xs_layout.specs.Geometry.{BandType, type_of_band, band_count_of}

-- The truncation of a band: the precinct's quantisation less the band's gain, one less where the refinement reaches the band's priority,
-- kept in 0 .. 15
abbrev pub truncation_of : ℕ → ℕ → Weight → ℕ
truncation_of q r weight = min (q - (weight.gain + bit_of (nat_lt weight.priority r))) 15

-- how many steps of a direction are low-pass on the way to a band: its level, or one less where it is high there
abbrev pub low_steps : ℕ → Bool → ℕ
low_steps level high = if high then level - 1 else level

-- the gain of a band type where no weights are given: half of its low-pass steps across and down, rounded down
abbrev pub default_gain : BandType → ℕ
default_gain type = (low_steps type.across type.high_across + low_steps type.down type.high_down) / 2

-- the weights where none are given; the priority of a band is its number
abbrev pub default_weights_of : ℕ → ℕ → ℕ → List Weight
default_weights_of nlx nly components =
    map (λ band. record { gain = default_gain (type_of_band nlx nly components band); priority = band }) (upto (band_count_of nlx nly components))
