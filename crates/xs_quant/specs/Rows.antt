-- A row of numbers that are sent for a band's line, and the coefficients that stand for them: 'Quantisers'.
use Rattle.std.specs.Prelude.{ℕ, ◌+◌, ◌-◌, ◌*◌, ◌/◌, ◌^◌, ◌<◌, ◌≤◌, ℤ, pos, neg_ℤ, ◌*ℤ◌, unsigned_abs, List, length, slice_index_or, nat_lt, if◌then◌else◌}
use Rattle.std.specs.Int.{is_negative}
use Rattle.xs_signal.specs.Quantiser.{dequantised, shift_sum}
use Rattle.xs_quant.specs.declared.rows.Raise.{Raise}

-- there is a count for each four numbers, and each has room in its planes
pub record AreSent (cut : ℕ) (counts : List ℕ) (values : List ℤ) : Type 0 where
  pub most : cut ≤ 15
  pub range : (group : ℕ) → group < length counts → slice_index_or counts group 0 ≤ 15
  pub size : length values ≤ 4 * length counts
  pub small : (column : ℕ) → column < length values → unsigned_abs (slice_index_or values column (pos 0)) < 2 ^ (slice_index_or counts (column / 4) 0 - cut)

-- the coefficient at a column
abbrev pub raised : Raise → List ℕ → List ℤ → ℕ → ℤ
raised by counts values column = dequantised by.kind (slice_index_or counts (column / 4) 0) by.t (slice_index_or values column (pos 0)) *ℤ pos (2 ^ by.fq)

-- what is put for a number by a factor in 2 ^ 16: its product, rounded down, shifted, and with its sign
abbrev pub signed_step : ℕ → ℕ → ℤ → ℤ
signed_step factor fq z = let m = unsigned_abs z * factor / 2 ^ 16 * 2 ^ fq in if is_negative z then neg_ℤ (pos m) else pos m

-- what a number of so many planes, of which some are cut, stands for is it times this, in 2 ^ 16; nothing where all are cut
abbrev pub factor_of : ℕ → ℕ → ℕ
factor_of cut count = if nat_lt cut count then shift_sum (count - cut + 1) (cut + 17) (2 ^ (cut + 16)) else 0
