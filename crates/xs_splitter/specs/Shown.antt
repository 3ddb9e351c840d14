-- The rows that a splitter gives are the first rows of the bands of each plane that begins with the rows it was given:
-- '5/3 wavelet'.
use Rattle.std.specs.Prelude.{◌≡◌, ℕ, ◌+◌, ◌<◌, ◌≤◌, [], List, length, slice_index_or, ℤ}
use Rattle.xs_signal.specs.Wavelet.{Split, bands_of_plane, low_count, high_count, low_count_at}
use Rattle.xs_splitter.specs.Level.{ShowRows}
use Rattle.xs_splitter.specs.Chain.{rows_beside, AreChained, HaveAll, HoldPlane, HoldBands}
use Rattle.xs_splitter.specs.declared.level.Level.{Level}
use Rattle.xs_splitter.specs.declared.splitter.Splitter.{Splitter}

-- the rows of the three bands of a level
abbrev pub hl_rows : Level → List (List ℤ)
hl_rows l = l.hl.items

abbrev pub lh_rows : Level → List (List ℤ)
lh_rows l = l.lh.items

abbrev pub hh_rows : Level → List (List ℤ)
hh_rows l = l.hh.items

-- the band's row is known
abbrev pub KnowsRow : (Level → List (List ℤ)) → Splitter → ℕ → ℕ → Type 0
KnowsRow rows c level row = (other : Level) → row < length (rows (slice_index_or c.levels.items level other))

-- the numbers are those of the band's row
abbrev pub IsRow : (Level → List (List ℤ)) → Splitter → ℕ → ℕ → List ℤ → Type 0
IsRow rows c level row numbers = (other : Level) → numbers ≡ slice_index_or (rows (slice_index_or c.levels.items level other)) row []

-- Each level and the lowest band show the first rows of the bands of plane p, beside the lowest band's rows from one on.
-- The bands of the first level have the number 1.
pub record ShowBands (s : Split) (from : ℕ) (p : ℕ → ℕ → ℤ) (levels : List Level) (low : List (List ℤ)) : Type 0 where
  pub ll : ShowRows from (low_count_at s.width s.across) low (bands_of_plane s p).ll
  pub hl : (level : ℕ) (other : Level) → level < s.across → ShowRows (rows_beside s level from) (high_count (low_count_at s.width level)) (slice_index_or levels level other).hl.items ((bands_of_plane s p).hl (level + 1))
  pub lh : (level : ℕ) (other : Level) → level < s.down → ShowRows (rows_beside s level from) (low_count (low_count_at s.width level)) (slice_index_or levels level other).lh.items ((bands_of_plane s p).lh (level + 1))
  pub hh : (level : ℕ) (other : Level) → level < s.down → ShowRows (rows_beside s level from) (high_count (low_count_at s.width level)) (slice_index_or levels level other).hh.items ((bands_of_plane s p).hh (level + 1))

-- between two rows, and after the last
pub record BandsShown : Type 0 where
  pub between : (s : Split) (from : ℕ) (p : ℕ → ℕ → ℤ) (taken : ℕ) (levels : List Level) (low : List (List ℤ)) → AreChained s 0 taken levels low → HoldPlane s 0 from p levels low → ShowBands s from p levels low
  pub last : (s : Split) (from : ℕ) (p : ℕ → ℕ → ℤ) (levels : List Level) (low : List (List ℤ)) → s.down ≤ s.across → HaveAll s levels low → HoldBands s from p levels low → ShowBands s from p levels low
