-- A transform looks at no entry outside its plane or its bands: laws of '5/3 wavelet'.
use Rattle.std.specs.Prelude.{◌≡◌, ℕ, ◌+◌, ◌<◌, ℤ}
use Rattle.xs_signal.specs.Wavelet.{Split, Bands, low_count, high_count, low_count_at, bands_of_plane, inverse_plane}
use Rattle.xs_signal.specs.Stripe.{IsSplit, rows_at}

-- the planes are the same in so many columns and rows
abbrev pub SameWithin : ℕ → ℕ → (ℕ → ℕ → ℤ) → (ℕ → ℕ → ℤ) → Type 0
SameWithin width height p q = (row column : ℕ) → row < height → column < width → p row column ≡ q row column

-- the bands are the same in the columns and rows that they have
pub record SameBandsWithin (s : Split) (x y : Bands) : Type 0 where
  pub ll : SameWithin (low_count_at s.width s.across) (rows_at s s.across) x.ll y.ll
  pub hl : (level : ℕ) → level < s.across → SameWithin (high_count (low_count_at s.width level)) (rows_at s (level + 1)) (x.hl (level + 1)) (y.hl (level + 1))
  pub lh : (level : ℕ) → level < s.down → SameWithin (low_count (low_count_at s.width level)) (high_count (low_count_at s.height level)) (x.lh (level + 1)) (y.lh (level + 1))
  pub hh : (level : ℕ) → level < s.down → SameWithin (high_count (low_count_at s.width level)) (high_count (low_count_at s.height level)) (x.hh (level + 1)) (y.hh (level + 1))

-- planes that are the same have the same bands, and bands that are the same have the same plane
pub record TransformsWithin : Type 0 where
  pub split : (s : Split) (p q : ℕ → ℕ → ℤ) → IsSplit s → SameWithin s.width s.height p q → SameBandsWithin s (bands_of_plane s p) (bands_of_plane s q)
  pub joined : (s : Split) (x y : Bands) → IsSplit s → SameBandsWithin s x y → SameWithin s.width s.height (inverse_plane s x) (inverse_plane s y)
