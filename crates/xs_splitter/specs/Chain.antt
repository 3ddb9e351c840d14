-- The levels of a component's split, one after the other: '5/3 wavelet'.
use Rattle.std.specs.Prelude.{◌≡◌, ℕ, zero, suc, ◌+◌, ◌-◌, ◌*◌, ◌^◌, ◌<◌, ◌≤◌, min, List, length, slice_index_or, ℤ, nat_lt, if◌then◌else◌}
use Rattle.xs_signal.specs.Lines.{entries_of, AllBelow}
use Rattle.xs_signal.specs.Wavelet.{Split, low_count_at, low_part}
use Rattle.xs_signal.specs.Stripe.{IsSplit, rows_at}
use Rattle.xs_splitter.specs.Level.{IsLevel, HoldsRows, HoldsBands, HasAllRows, HasGivenUp, AreGivenUp, ShowRows, known_rows}
use Rattle.xs_splitter.specs.declared.level.Level.{Level}
use Rattle.xs_splitter.specs.declared.splitter.SplitShape.{SplitShape}
use Rattle.xs_splitter.specs.declared.splitter.Splitter.{Splitter}

-- how the component is split
abbrev pub split_by : SplitShape → Split
split_by shape = record { width = shape.width; height = shape.height; across = shape.across; down = shape.down }

abbrev pub split_of : Splitter → Split
split_of c = record { width = c.width; height = c.height; across = c.across; down = c.down }

-- how many rows each level from `first` on was given, where that one was given so many
abbrev pub taken_at : Split → ℕ → ℕ → ℕ → ℕ
taken_at s first taken zero = taken
taken_at s first taken (suc level) =
    if nat_lt level first then taken else (if nat_lt level s.down then known_rows (taken_at s first taken level) else taken_at s first taken level)

-- how many bits the numbers of a level's rows have: those of the samples, and one for each step
abbrev pub bits_at : Split → ℕ → ℕ
bits_at s level = 20 + level + min level s.down

-- a level of the split, between two rows
pub record IsLevelAt (s : Split) (level count : ℕ) (l : Level) : Type 0 where
  pub state : IsLevel l
  pub width : l.columns.width ≡ low_count_at s.width level
  pub height : l.columns.height ≡ rows_at s level
  pub bits : l.columns.bits ≡ bits_at s level
  pub deep : l.deep ≡ nat_lt level s.down
  pub taken : l.columns.taken ≡ count

-- what holds of each level from one on up to another
abbrev pub EachLevel : ℕ → ℕ → List Level → (ℕ → Level → Type 0) → Type 0
EachLevel first end levels P = (level : ℕ) (other : Level) → first ≤ level → level < end → P level (slice_index_or levels level other)

-- the levels from `first` on, which was given so many rows, and the rows that the last one gave
pub record AreChained (s : Split) (first taken : ℕ) (levels : List Level) (low : List (List ℤ)) : Type 0 where
  pub split : IsSplit s
  pub few : (s.across ≤ 5) × (s.down ≤ 2)
  pub many : length levels ≡ s.across
  pub each : EachLevel first s.across levels (λ level l. IsLevelAt s level (taken_at s first taken level) l)
  pub given : length low ≡ taken_at s first taken s.across

abbrev pub IsChain : ℕ → ℕ → Splitter → Type 0
IsChain first taken c = AreChained (split_of c) first taken c.levels.items c.low.items

-- how many rows of a level's bands stand beside so many of the lowest band
abbrev pub rows_beside : Split → ℕ → ℕ → ℕ
rows_beside s level count = count * 2 ^ (s.down - min (level + 1) s.down)

-- the levels from `first` on hold the rows of plane p beside those of the lowest band from `from` on, each those of the
-- part that it splits
pub record HoldPlane (s : Split) (first from : ℕ) (p : ℕ → ℕ → ℤ) (levels : List Level) (low : List (List ℤ)) : Type 0 where
  pub each : EachLevel first s.across levels (λ level l. HoldsRows (rows_beside s level from) (low_part s p level) l)
  pub lowest : ShowRows from (low_count_at s.width s.across) low (low_part s p s.across)

abbrev pub HoldsPlane : ℕ → ℕ → (ℕ → ℕ → ℤ) → Splitter → Type 0
HoldsPlane first from p c = HoldPlane (split_of c) first from p c.levels.items c.low.items

-- a splitter of the same component, whose levels before `first` are as they were
pub record IsSameBefore (first : ℕ) (old new : Splitter) : Type 0 where
  pub split : split_of new ≡ split_of old
  pub taken : new.taken ≡ old.taken
  pub before : (level : ℕ) (other : Level) → level < first → slice_index_or new.levels.items level other ≡ slice_index_or old.levels.items level other

-- the row that a level takes next
pub record IsNextRow (s : Split) (level : ℕ) (row : List ℤ) : Type 0 where
  pub wide : length row ≡ low_count_at s.width level
  pub small : AllBelow (2 ^ bits_at s level) (entries_of row)

-- a level that is split down, after its last row
pub record IsDoneAt (s : Split) (level : ℕ) (l : Level) : Type 0 where
  pub width : l.columns.width ≡ low_count_at s.width level
  pub height : l.columns.height ≡ rows_at s level
  pub deep : l.deep ≡ nat_lt level s.down
  pub all : HasAllRows l

-- all rows of all bands are known
pub record HaveAll (s : Split) (levels : List Level) (low : List (List ℤ)) : Type 0 where
  pub many : length levels ≡ s.across
  pub done : EachLevel 0 s.down levels (λ level l. IsDoneAt s level l)
  pub rest : EachLevel s.down s.across levels (λ level l. IsLevelAt s level (rows_at s level) l)
  pub given : length low ≡ rows_at s s.across

abbrev pub HasAll : Splitter → Type 0
HasAll c = HaveAll (split_of c) c.levels.items c.low.items

-- the levels hold the first rows of the bands of plane p, and the rows that are low in both directions at the last level,
-- of these those from `from` on
pub record HoldBands (s : Split) (from : ℕ) (p : ℕ → ℕ → ℤ) (levels : List Level) (low : List (List ℤ)) : Type 0 where
  pub each : EachLevel 0 s.across levels (λ level l. HoldsBands (rows_beside s level from) (low_part s p level) l)
  pub lowest : ShowRows from (low_count_at s.width s.across) low (low_part s p s.across)

-- the rows of the lowest band from one on up to another were given up, and those that stand beside them
pub record HasForgotten (first end : ℕ) (old new : Splitter) : Type 0 where
  pub many : length new.levels.items ≡ length old.levels.items
  pub each : (level : ℕ) (other : Level) → level < length old.levels.items
      → HasGivenUp (rows_beside (split_of old) level first) (rows_beside (split_of old) level end) (slice_index_or old.levels.items level other) (slice_index_or new.levels.items level other)
  pub lowest : AreGivenUp first end old.low.items new.low.items
