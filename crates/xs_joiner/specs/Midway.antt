-- A line on its way through the levels, from the last that takes a row up to the first: '5/3 wavelet'.
use Rattle.std.specs.Prelude.{◌≡◌, ℕ, suc, ◌+◌, ◌<◌, ◌≤◌, List, [], length, slice_index_or, ℤ}
use Rattle.xs_signal.specs.Lines.{entries_of, Shows}
use Rattle.xs_signal.specs.Wavelet.{Bands}
use Rattle.xs_joiner.specs.Units.{BelowUnits}
use Rattle.xs_joiner.specs.Source.{ShowBands}
use Rattle.xs_joiner.specs.Counts.{given_at}
use Rattle.xs_joiner.specs.Chain.{split_of, reach_at, part_of, IsLevelAt, EachLevel, HaveWidths, IsSameJoiner, HoldsBands, HoldsLevel}
use Rattle.xs_joiner.specs.declared.source.Band.{Band}
use Rattle.xs_joiner.specs.declared.joiner.Joiner.{Joiner}

-- so many levels take a row when the next line is made: those before this one, and the row is one that this level gives
pub record IsMovingDepth (c : Joiner) (depth : ℕ) : Type 0 where
  pub far : depth ≤ c.across
  pub moves : (level : ℕ) → level ≤ depth → given_at (split_of c) c.first (c.given + 1) level ≡ given_at (split_of c) c.first c.given level + 1
  pub rests : (level : ℕ) → depth < level → level ≤ c.across → given_at (split_of c) c.first (c.given + 1) level ≡ given_at (split_of c) c.first c.given level

-- the levels from this one on are ready for the line after the next, and the row that this level gave is there
pub record IsMidway (rows : Band → ℕ → List ℤ) (level : ℕ) (old now : Joiner) : Type 0 where
  pub to : level ≤ old.across
  pub same : IsSameJoiner old now
  pub given : now.given ≡ old.given
  pub lowest : now.lowest ≡ given_at (split_of old) old.first (old.given + 1) old.across
  pub many : length now.levels.items ≡ old.across
  pub lines : length now.lines.items ≡ old.across + 1
  pub widths : HaveWidths (split_of old) now.lines.items
  pub done : EachLevel level old.across now.levels.items (λ i l. IsLevelAt (split_of old) i (given_at (split_of old) old.first (old.given + 1) i) (given_at (split_of old) old.first (old.given + 1) (suc i)) l)
  pub rest : EachLevel 0 level now.levels.items (λ i l. IsLevelAt (split_of old) i (given_at (split_of old) old.first old.given i) (given_at (split_of old) old.first old.given (suc i)) l)
  pub moves : (i : ℕ) → i ≤ level → given_at (split_of old) old.first (old.given + 1) i ≡ given_at (split_of old) old.first old.given i + 1
  pub small : BelowUnits (reach_at (split_of old) level) (entries_of (slice_index_or now.lines.items level []))
  pub holds : (b : Bands) → HoldsBands b old → ShowBands rows b → EachLevel 0 old.across now.levels.items (HoldsLevel (split_of old) old.first b)
  pub shows : (b : Bands) → HoldsBands b old → ShowBands rows b → Shows (slice_index_or now.lines.items level []) (part_of (split_of old) b level (given_at (split_of old) old.first old.given level))
