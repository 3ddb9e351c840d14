-- The levels of a component's inverse, one after the other: '5/3 wavelet'.
use Rattle.std.specs.Prelude.{◌≡◌, ℕ, suc, ◌+◌, ◌-◌, ◌*◌, ◌<◌, ◌≤◌, List, [], length, slice_index_or, ℤ, nat_lt}
use Rattle.xs_signal.specs.Lines.{entries_of, Shows}
use Rattle.xs_signal.specs.Wavelet.{Split, Bands, low_count, high_count, low_count_at, rows_joined, restored, inverse_plane}
use Rattle.xs_signal.specs.Stripe.{IsSplit, rows_at, rows_each}
use Rattle.xs_joiner.specs.Units.{BelowUnits, IsFresh}
use Rattle.xs_joiner.specs.Level.{IsLevel, HoldsRows}
use Rattle.xs_joiner.specs.Counts.{given_at}
use Rattle.xs_joiner.specs.declared.level.Level.{Level}
use Rattle.xs_joiner.specs.declared.source.Band.{Band}
use Rattle.xs_joiner.specs.declared.source.Band.TheVariants.{Lowest, Hl, Lh, Hh}
use Rattle.xs_joiner.specs.declared.joiner.JoinShape.{JoinShape}
use Rattle.xs_joiner.specs.declared.joiner.Joiner.{Joiner}

-- how the component is split
abbrev pub split_by : JoinShape → Split
split_by shape = record { width = shape.width; height = shape.height; across = shape.across; down = shape.down }

abbrev pub split_of : Joiner → Split
split_of c = record { width = c.width; height = c.height; across = c.across; down = c.down }

-- below how many units the numbers are that a level makes
abbrev pub reach_at : Split → ℕ → ℕ
reach_at s level = 4 + 6 * (s.across - level) + 15 * (s.down - level)

-- the part of the plane that a level makes, and of what joined rows it makes it
abbrev pub part_of : Split → Bands → ℕ → ℕ → ℕ → ℤ
part_of s b level = restored s b (s.across - level)

abbrev pub low_rows : Split → Bands → ℕ → ℕ → ℕ → ℤ
low_rows s b level = rows_joined s level (part_of s b (suc level)) (b.hl (level + 1))

abbrev pub high_rows : Split → Bands → ℕ → ℕ → ℕ → ℤ
high_rows s b level = rows_joined s level (b.lh (level + 1)) (b.hh (level + 1))

-- a level of the component, where the rows that come next have these numbers
pub record IsLevelAt (s : Split) (level row low : ℕ) (l : Level) : Type 0 where
  pub state : IsLevel l
  pub width : l.columns.width ≡ low_count_at s.width level
  pub height : l.columns.height ≡ rows_at s level
  pub reach : l.columns.reach ≡ reach_at s (suc level)
  pub deep : l.deep ≡ nat_lt level s.down
  pub given : l.given ≡ row
  pub taken : l.columns.taken ≡ low

-- what holds of each level from one on up to another
abbrev pub EachLevel : ℕ → ℕ → List Level → (ℕ → Level → Type 0) → Type 0
EachLevel first end levels P = (level : ℕ) (other : Level) → first ≤ level → level < end → P level (slice_index_or levels level other)

-- the rows that were given last have the widths of the levels
abbrev pub HaveWidths : Split → List (List ℤ) → Type 0
HaveWidths s lines = (level : ℕ) → level ≤ s.across → length (slice_index_or lines level []) ≡ low_count_at s.width level

-- the levels of a component that was begun at precinct `first`, before the line `given`
pub record AreChained (s : Split) (first given lowest : ℕ) (levels : List Level) (lines : List (List ℤ)) : Type 0 where
  pub split : IsSplit s
  pub some : 0 < s.width
  pub few : s.across ≤ 5
  pub two : s.down ≤ 2
  pub from : rows_each s 0 * first ≤ given
  pub to : given ≤ s.height
  pub many : length levels ≡ s.across
  pub each : EachLevel 0 s.across levels (λ level l. IsLevelAt s level (given_at s first given level) (given_at s first given (suc level)) l)
  pub lowest_is : lowest ≡ given_at s first given s.across
  pub line_count : length lines ≡ s.across + 1
  pub widths : HaveWidths s lines
  pub small : BelowUnits 64 (entries_of (slice_index_or lines 0 []))

abbrev pub IsChain : Joiner → Type 0
IsChain c = AreChained (split_of c) c.first c.given c.lowest c.levels.items c.lines.items

-- a joiner of the same component, begun at the same place
pub record IsSameJoiner (old new : Joiner) : Type 0 where
  pub split : split_of new ≡ split_of old
  pub first : new.first ≡ old.first

-- a level holds what it needs of these bands
abbrev pub HoldsLevel : Split → ℕ → Bands → ℕ → Level → Type 0
HoldsLevel s first b level l = HoldsRows (rows_each s (suc level) * first) (low_rows s b level) (high_rows s b level) l

-- The joiner holds what it needs of these bands, and the last line is one of the plane that they make.
pub record HoldPlane (s : Split) (first given : ℕ) (b : Bands) (levels : List Level) (lines : List (List ℤ)) : Type 0 where
  pub each : EachLevel 0 s.across levels (HoldsLevel s first b)
  pub line : rows_each s 0 * first < given → Shows (slice_index_or lines 0 []) (inverse_plane s b (given - 1))

abbrev pub HoldsBands : Bands → Joiner → Type 0
HoldsBands b c = HoldPlane (split_of c) c.first c.given b c.levels.items c.lines.items

-- the level takes the row with this number when the next line is made
abbrev pub IsTaken : Split → ℕ → ℕ → ℕ → ℕ → Type 0
IsTaken s first given level row = (row ≡ given_at s first given level) × (row < given_at s first (given + 1) level)

-- the rows that the next line makes necessary are there
pub record AreThere (s : Split) (first given : ℕ) (rows : Band → ℕ → List ℤ) : Type 0 where
  pub lowest : (row : ℕ) → IsTaken s first given s.across row → IsFresh (low_count_at s.width s.across) (rows Lowest row)
  pub hl : (level row : ℕ) → level < s.across → IsTaken s first given (suc level) row → IsFresh (high_count (low_count_at s.width level)) (rows (Hl level) row)
  pub lh : (level row : ℕ) → level < s.down → IsTaken s first given (suc level) row → row < high_count (low_count_at s.height level) → IsFresh (low_count (low_count_at s.width level)) (rows (Lh level) row)
  pub hh : (level row : ℕ) → level < s.down → IsTaken s first given (suc level) row → row < high_count (low_count_at s.height level) → IsFresh (high_count (low_count_at s.width level)) (rows (Hh level) row)

abbrev pub HaveNext : Joiner → (Band → ℕ → List ℤ) → Type 0
HaveNext c rows = AreThere (split_of c) c.first c.given rows

-- the last rows above a precinct are there, of the bands that are high down
pub record AreAbove (s : Split) (first : ℕ) (rows : Band → ℕ → List ℤ) : Type 0 where
  pub lh : (level row : ℕ) → level < s.down → row + 1 ≡ rows_each s (suc level) * first → IsFresh (low_count (low_count_at s.width level)) (rows (Lh level) row)
  pub hh : (level row : ℕ) → level < s.down → row + 1 ≡ rows_each s (suc level) * first → IsFresh (high_count (low_count_at s.width level)) (rows (Hh level) row)

abbrev pub HaveAbove : Joiner → ℕ → (Band → ℕ → List ℤ) → Type 0
HaveAbove c first rows = AreAbove (split_of c) first rows
