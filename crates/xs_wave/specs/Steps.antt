-- One level of a component's split, and what is known after some of them: '5/3 wavelet'.
use Rattle.std.specs.Prelude.{◌≡◌, ℕ, suc, ◌+◌, ◌-◌, ◌*◌, min, ◌^◌, ◌<◌, ◌≤◌, List, [], length, slice_index_or, ℤ}
use Rattle.xs_signal.specs.Lines.{column_of}
use Rattle.xs_signal.specs.Wavelet.{Split, bands_of_plane, low_count, high_count, low_count_at, low_of, high_of, low_part, inverse_line, joined, restored}
use Rattle.xs_signal.specs.Stripe.{rows_at}
use Rattle.xs_wave.specs.Within.{SameWithin}
use Rattle.xs_wave.specs.Planes.{plane_of, HasSize, IsSmall}
use Rattle.xs_wave.specs.Bands.{band_count, HasBandSize, ShowsBand, first_number, level_bands, bands_in}

-- A plane p of this size is split both ways, columns before rows: what is low both ways is left in q, and the others are in
-- planes of their own.
pub record AreQuarters (width height : ℕ) (p q : ℕ → ℕ → ℤ) (hls lhs hhs : List (List ℤ)) : Type 0 where
  pub hl_size : HasSize (high_count width) (low_count height) hls
  pub lh_size : HasSize (low_count width) (high_count height) lhs
  pub hh_size : HasSize (high_count width) (high_count height) hhs
  pub ll : SameWithin (low_count width) (low_count height) q (λ row. low_of width (λ column. low_of height (column_of p column) row))
  pub hl : SameWithin (high_count width) (low_count height) (plane_of hls) (λ row. high_of width (λ column. low_of height (column_of p column) row))
  pub lh : SameWithin (low_count width) (high_count height) (plane_of lhs) (λ row. low_of width (λ column. high_of height (column_of p column) row))
  pub hh : SameWithin (high_count width) (high_count height) (plane_of hhs) (λ row. high_of width (λ column. high_of height (column_of p column) row))

-- A part p is split at a level: the next part is its low part, and the planes of the level's bands are among the new ones.
pub record IsLevelSplit (s : Split) (level : ℕ) (p : ℕ → ℕ → ℤ) (next : List (List ℤ)) (old new : List (List (List ℤ))) : Type 0 where
  pub size : HasSize (low_count_at s.width (suc level)) (rows_at s (suc level)) next
  pub low : SameWithin (low_count_at s.width (suc level)) (rows_at s (suc level)) (plane_of next) (level_bands s level p).ll
  pub as_many : length new ≡ length old
  pub sizes : (number : ℕ) → first_number s (suc level) ≤ number → number < first_number s level → HasBandSize s new number
  pub shown : (number : ℕ) → first_number s (suc level) ≤ number → number < first_number s level → ShowsBand s new (level_bands s level p) number
  pub others : (number : ℕ) → first_number s level ≤ number → slice_index_or new number [] ≡ slice_index_or old number []

-- The plane p is split down to a level: what is left is its low part, and the planes of the bands of the levels before are there.
pub record IsSplitTo (s : Split) (p : ℕ → ℕ → ℤ) (level : ℕ) (part : List (List ℤ)) (planes : List (List (List ℤ))) : Type 0 where
  pub size : HasSize (low_count_at s.width level) (rows_at s level) part
  pub low : SameWithin (low_count_at s.width level) (rows_at s level) (plane_of part) (low_part s p level)
  pub small : IsSmall (2 ^ (40 + 2 * level)) part
  pub as_many : length planes ≡ band_count s
  pub sizes : (number : ℕ) → first_number s level ≤ number → number < band_count s → HasBandSize s planes number
  pub shown : (number : ℕ) → first_number s level ≤ number → number < band_count s → ShowsBand s planes (bands_of_plane s p) number

-- the plane of this size with these four parts: rows are joined before columns
abbrev pub four_joined : ℕ → ℕ → (ℕ → ℕ → ℤ) → (ℕ → ℕ → ℤ) → (ℕ → ℕ → ℤ) → (ℕ → ℕ → ℤ) → ℕ → ℕ → ℤ
four_joined width height ll hl lh hh row column =
    inverse_line height (λ k. inverse_line width (ll k) (hl k) column) (λ k. inverse_line width (lh k) (hh k) column) row

-- a part p and the bands of a level among the planes are joined to the part of the level before
pub record IsLevelJoined (s : Split) (level : ℕ) (p : ℕ → ℕ → ℤ) (planes : List (List (List ℤ))) (rows : List (List ℤ)) : Type 0 where
  pub size : HasSize (low_count_at s.width level) (rows_at s level) rows
  pub same : SameWithin (low_count_at s.width level) (rows_at s level) (plane_of rows) (joined s (bands_in s planes) level p)

-- The bound of what comes of numbers below 2 ^ 40 after so many steps of an inverse: each step adds less than 3 halves.
abbrev pub half_reach : ℕ → ℕ
half_reach steps = 5 ^ steps * 2 ^ (39 - steps)

-- the steps back from the last level to this one
abbrev pub steps_to : Split → ℕ → ℕ
steps_to s level = s.across - level + (s.down - min level s.down)

-- the bands among the planes are joined back to a level
pub record IsJoinedTo (s : Split) (planes : List (List (List ℤ))) (level : ℕ) (part : List (List ℤ)) : Type 0 where
  pub size : HasSize (low_count_at s.width level) (rows_at s level) part
  pub same : SameWithin (low_count_at s.width level) (rows_at s level) (plane_of part) (restored s (bands_in s planes) (s.across - level))
  pub small : IsSmall (2 * half_reach (steps_to s level)) part
