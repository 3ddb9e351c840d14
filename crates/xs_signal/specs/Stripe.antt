-- How far a stripe of rows looks: what a stripe must know so that its rows are the plane's. A law of '5/3 wavelet'.
use Rattle.std.specs.Prelude.{◌≡◌, ℕ, ◌+◌, ◌-◌, ◌*◌, ◌^◌, ◌<◌, ◌≤◌, min, ℤ}
use Rattle.xs_signal.specs.Wavelet.{Split, Bands, low_count, high_count, low_count_at, inverse_plane}

-- the planes are the same at the rows from a - lead to b, as many of its rows and columns as each has
abbrev pub SameRows : ℕ → ℕ → ℕ → ℕ → ℕ → (ℕ → ℕ → ℤ) → (ℕ → ℕ → ℤ) → Type 0
SameRows lead a b height width p q = (row column : ℕ) → a ≤ row + lead → row ≤ b → row < height → column < width → p row column ≡ q row column

-- how many rows are left after so many levels
abbrev pub rows_at : Split → ℕ → ℕ
rows_at s level = low_count_at s.height (min level s.down)

-- each step splits lines of two samples or more, and none splits down that does not split across
pub record IsSplit (s : Split) : Type 0 where
  pub wide : (level : ℕ) → level < s.across → 2 ≤ low_count_at s.width level
  pub high : (level : ℕ) → level < s.down → 2 ≤ low_count_at s.height level
  pub deep : s.down ≤ s.across

-- How many rows a precinct has after so many levels: a precinct has one row of the lowest bands.
abbrev pub rows_each : Split → ℕ → ℕ
rows_each s level = 2 ^ (s.down - level)

-- The bands are the same at the rows of the precincts from a on and at the first row of precinct b. Of bands that are high
-- down they are the same at one row more, above.
pub record SameNear (s : Split) (a b : ℕ) (x y : Bands) : Type 0 where
  pub ll : SameRows 0 a b (rows_at s s.across) (low_count_at s.width s.across) x.ll y.ll
  pub hl : (level : ℕ) → level < s.across
      → SameRows 0 (rows_each s (level + 1) * a) (rows_each s (level + 1) * b) (rows_at s (level + 1)) (high_count (low_count_at s.width level)) (x.hl (level + 1)) (y.hl (level + 1))
  pub lh : (level : ℕ) → level < s.down
      → SameRows 1 (rows_each s (level + 1) * a) (rows_each s (level + 1) * b) (high_count (low_count_at s.height level)) (low_count (low_count_at s.width level)) (x.lh (level + 1)) (y.lh (level + 1))
  pub hh : (level : ℕ) → level < s.down
      → SameRows 1 (rows_each s (level + 1) * a) (rows_each s (level + 1) * b) (high_count (low_count_at s.height level)) (high_count (low_count_at s.width level)) (x.hh (level + 1)) (y.hh (level + 1))

-- Then the planes are the same at all picture rows of these precincts. So a stripe that knows its own rows, the last row
-- above of each band that is high down, and the first row below of each band, has the rows of the whole plane.
abbrev pub StripeNear : Type 0
StripeNear = (s : Split) (a b : ℕ) (x y : Bands) → IsSplit s → SameNear s a b x y → SameRows 0 (rows_each s 0 * a) (rows_each s 0 * b) s.height s.width (inverse_plane s x) (inverse_plane s y)

-- a plane with columns and rows for each level
abbrev pub SplitsWhereLarge : Type 0
SplitsWhereLarge = (s : Split) → 2 ^ s.across ≤ s.width → 2 ^ s.down ≤ s.height → s.down ≤ s.across → IsSplit s
