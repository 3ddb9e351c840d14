-- A line is split into a low and a high part and put together again; a plane is split level by level: '5/3 wavelet'.
use Rattle.std.specs.Prelude.{◌≡◌, ℕ, zero, suc, ◌+◌, ◌-◌, ◌*◌, ◌/◌, ◌%◌, ◌<◌, ◌≤◌, min, ℤ, pos, ◌+ℤ◌, ◌-ℤ◌, if◌then◌else◌, nat_eq, nat_lt}
use Rattle.std.specs.Int.{int_shr}
use Rattle.xs_layout.specs.Geometry.{BandType, low_size, high_size}
use Rattle.xs_signal.specs.Lines.{column_of}

-- how many of n samples have an even place: the length of the low part
abbrev pub low_count : ℕ → ℕ
low_count n = (n + 1) / 2

-- how many of n samples have an odd place: the length of the high part
abbrev pub high_count : ℕ → ℕ
high_count n = n / 2

-- What the even samples say of the odd sample k: half the sum of its two neighbours, rounded down. The line is mirrored
-- at its end: the even sample after the last is the last.
abbrev pub predicted_sample : ℕ → (ℕ → ℤ) → ℕ → ℤ
predicted_sample n even k = int_shr (even k +ℤ even (min (k + 1) (low_count n - 1))) 1

-- What the high part adds to the even sample k: a quarter of its two neighbours and 2, rounded down. The line is mirrored
-- at both ends: the entry before the first is the first, the one after the last is the last.
abbrev pub updated : ℕ → (ℕ → ℤ) → ℕ → ℤ
updated n high k = int_shr (high (k - 1) +ℤ high (min k (high_count n - 1)) +ℤ pos 2) 2

-- the samples at even places
abbrev pub evens_of : (ℕ → ℤ) → ℕ → ℤ
evens_of line k = line (2 * k)

-- the high part of a line of n samples: each odd sample less what the even ones say of it
abbrev pub high_of : ℕ → (ℕ → ℤ) → ℕ → ℤ
high_of n line k = line (2 * k + 1) -ℤ predicted_sample n (evens_of line) k

-- the low part of a line of n samples: each even sample and what the high part adds
abbrev pub low_of : ℕ → (ℕ → ℤ) → ℕ → ℤ
low_of n line k = line (2 * k) +ℤ updated n (high_of n line) k

-- the even samples of the line with this low and high part
abbrev pub even_of : ℕ → (ℕ → ℤ) → (ℕ → ℤ) → ℕ → ℤ
even_of n low high k = low k -ℤ updated n high k

-- its odd samples
abbrev pub odd_of : ℕ → (ℕ → ℤ) → (ℕ → ℤ) → ℕ → ℤ
odd_of n low high k = high k +ℤ predicted_sample n (even_of n low high) k

-- the line of n samples with this low and high part
abbrev pub inverse_line : ℕ → (ℕ → ℤ) → (ℕ → ℤ) → ℕ → ℤ
inverse_line n low high k = if nat_eq (k % 2) 0 then even_of n low high (k / 2) else odd_of n low high (k / 2)

-- ---- planes

-- the number of columns and rows of a plane, and how many levels it is split across and down
pub record Split : Type 0 where
  pub width : ℕ
  pub height : ℕ
  pub across : ℕ
  pub down : ℕ

-- how many low entries are left of n samples after so many levels
abbrev pub low_count_at : ℕ → ℕ → ℕ
low_count_at n zero = n
low_count_at n (suc level) = low_count (low_count_at n level)

-- The bands of a plane. Of the three at each level HL is high across, LH is high down, HH is both. A level past the last
-- that is split down has HL alone.
pub record Bands : Type 0 where
  pub ll : ℕ → ℕ → ℤ
  pub hl : ℕ → ℕ → ℕ → ℤ
  pub lh : ℕ → ℕ → ℕ → ℤ
  pub hh : ℕ → ℕ → ℕ → ℤ

-- the plane of the band of a type, by its sides and its level
abbrev pub band_plane : Bands → BandType → ℕ → ℕ → ℤ
band_plane b type =
    if type.high_down then (if type.high_across then b.hh type.across else b.lh type.across)
    else (if type.high_across then b.hl type.across else b.ll)

-- each row split across, at the step from `level` to the next
abbrev pub rows_low : Split → ℕ → (ℕ → ℕ → ℤ) → ℕ → ℕ → ℤ
rows_low s level p row = low_of (low_count_at s.width level) (p row)

abbrev pub rows_high : Split → ℕ → (ℕ → ℕ → ℤ) → ℕ → ℕ → ℤ
rows_high s level p row = high_of (low_count_at s.width level) (p row)

-- each column split down
abbrev pub columns_low : Split → ℕ → (ℕ → ℕ → ℤ) → ℕ → ℕ → ℤ
columns_low s level p row column = low_of (low_count_at s.height level) (column_of p column) row

abbrev pub columns_high : Split → ℕ → (ℕ → ℕ → ℤ) → ℕ → ℕ → ℤ
columns_high s level p row column = high_of (low_count_at s.height level) (column_of p column) row

-- the low half of the columns where the step splits down too, else all
abbrev pub columns_kept : Split → ℕ → (ℕ → ℕ → ℤ) → ℕ → ℕ → ℤ
columns_kept s level p = if nat_lt level s.down then columns_low s level p else p

-- what is low in both directions after so many levels: columns are split before rows
abbrev pub low_part : Split → (ℕ → ℕ → ℤ) → ℕ → ℕ → ℕ → ℤ
low_part s p zero = p
low_part s p (suc level) = rows_low s level (columns_kept s level (low_part s p level))

-- all bands of a plane
abbrev pub bands_of_plane : Split → (ℕ → ℕ → ℤ) → Bands
bands_of_plane s p = record {
  ll = low_part s p s.across;
  hl = λ level. rows_high s (level - 1) (columns_kept s (level - 1) (low_part s p (level - 1)));
  lh = λ level. rows_low s (level - 1) (columns_high s (level - 1) (low_part s p (level - 1)));
  hh = λ level. rows_high s (level - 1) (columns_high s (level - 1) (low_part s p (level - 1)));
}

-- the rows with these low and high parts, at the step back to `level`
abbrev pub rows_joined : Split → ℕ → (ℕ → ℕ → ℤ) → (ℕ → ℕ → ℤ) → ℕ → ℕ → ℤ
rows_joined s level low high row = inverse_line (low_count_at s.width level) (low row) (high row)

-- the columns with these low and high parts
abbrev pub columns_joined : Split → ℕ → (ℕ → ℕ → ℤ) → (ℕ → ℕ → ℤ) → ℕ → ℕ → ℤ
columns_joined s level low high row column = inverse_line (low_count_at s.height level) (column_of low column) (column_of high column) row

-- one step back to `level`, from the low part of the level after it: rows are joined before columns
abbrev pub joined : Split → Bands → ℕ → (ℕ → ℕ → ℤ) → ℕ → ℕ → ℤ
joined s b level p =
    if nat_lt level s.down then columns_joined s level (rows_joined s level p (b.hl (level + 1))) (rows_joined s level (b.lh (level + 1)) (b.hh (level + 1)))
    else rows_joined s level p (b.hl (level + 1))

-- the low part that is known after so many steps back: that of level `across - steps`
abbrev pub restored : Split → Bands → ℕ → ℕ → ℕ → ℤ
restored s b zero = b.ll
restored s b (suc steps) = joined s b (s.across - suc steps) (restored s b steps)

-- the plane with these bands
abbrev pub inverse_plane : Split → Bands → ℕ → ℕ → ℤ
inverse_plane s b = restored s b s.across

-- ---- laws: for every number of samples, at every place

-- splitting a line and joining its parts gives the line, and joining parts and splitting gives the parts
pub record LineUndone : Type 0 where
  pub back : (n : ℕ) (line : ℕ → ℤ) (k : ℕ) → inverse_line n (low_of n line) (high_of n line) k ≡ line k
  pub forth_low : (n : ℕ) (low high : ℕ → ℤ) (k : ℕ) → low_of n (inverse_line n low high) k ≡ low k
  pub forth_high : (n : ℕ) (low high : ℕ → ℤ) (k : ℕ) → high_of n (inverse_line n low high) k ≡ high k

-- the line of n samples mirrored at its last sample
abbrev pub mirrored : ℕ → (ℕ → ℤ) → ℕ → ℤ
mirrored n line k = if nat_lt k n then line k else line (2 * (n - 1) - k)

-- The high part in the words of the mirrored line: the even sample after the last is the one as far before the end.
abbrev pub HighOfMirrored : Type 0
HighOfMirrored = (n : ℕ) (line : ℕ → ℤ) (k : ℕ) → 2 * k + 1 < n → high_of n line k ≡ line (2 * k + 1) -ℤ int_shr (line (2 * k) +ℤ mirrored n line (2 * k + 2)) 1

-- A stretch of a line looks no further than this: the samples 2 a to 2 b follow from the low entries a to b and the high
-- entries a - 1 to b, as many as there are. So the rows 2 a to 2 b of a level come from the rows a to b of the level after
-- it, with one high-pass row above them.
abbrev pub LineNear : Type 0
LineNear = (n a b : ℕ) (low low' high high' : ℕ → ℤ) → 2 ≤ n → ((j : ℕ) → a ≤ j → j ≤ b → j < low_count n → low j ≡ low' j)
    → ((j : ℕ) → a ≤ j + 1 → j ≤ b → j < high_count n → high j ≡ high' j)
    → (k : ℕ) → 2 * a ≤ k → k ≤ 2 * b → k < n → inverse_line n low high k ≡ inverse_line n low' high' k

-- the bands that a plane split so has are the same
pub record SameBands (s : Split) (a b : Bands) : Type 0 where
  pub ll : (row column : ℕ) → a.ll row column ≡ b.ll row column
  pub hl : (level row column : ℕ) → 1 ≤ level → level ≤ s.across → a.hl level row column ≡ b.hl level row column
  pub lh : (level row column : ℕ) → 1 ≤ level → level ≤ s.down → a.lh level row column ≡ b.lh level row column
  pub hh : (level row column : ℕ) → 1 ≤ level → level ≤ s.down → a.hh level row column ≡ b.hh level row column

-- splitting a plane and joining its bands gives the plane, and joining bands and splitting gives the bands
pub record PlaneUndone : Type 0 where
  pub back : (s : Split) (p : ℕ → ℕ → ℤ) (row column : ℕ) → inverse_plane s (bands_of_plane s p) row column ≡ p row column
  pub forth : (s : Split) (b : Bands) → s.down ≤ s.across → SameBands s (bands_of_plane s (inverse_plane s b)) b

-- the sizes of the parts are those of the band geometry
pub record SizesAgree : Type 0 where
  pub low : (n level : ℕ) → low_count_at n level ≡ low_size n level
  pub high : (n level : ℕ) → high_count (low_count_at n level) ≡ high_size n (level + 1)
