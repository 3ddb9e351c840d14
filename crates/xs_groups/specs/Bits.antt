-- The bits of a code group's magnitudes.
use Rattle.std.specs.Prelude.{ℕ, ℤ, ◌+◌, ◌*◌, unsigned_abs}
use Rattle.std.specs.Int.Bits.{bit_or}

-- those that any of its four magnitudes has
abbrev pub bits_in : (ℕ → ℤ) → ℕ → ℕ
bits_in row group = bit_or (bit_or (unsigned_abs (row (4 * group))) (unsigned_abs (row (4 * group + 1)))) (bit_or (unsigned_abs (row (4 * group + 2))) (unsigned_abs (row (4 * group + 3))))
