-- From the truncations of one candidate to those of another, and what becomes of sizes.
use Rattle.std.specs.Prelude.{◌≡◌, ℕ, ◌+◌, ◌<◌, ◌≤◌, List, All, slice_index_or}
use Rattle.xs_layout.specs.declared.Candidate.{Candidate}
use Rattle.xs_layout.specs.declared.Weight.{Weight}
use Rattle.xs_geometry.specs.SliceLines.{BandLines}
use Rattle.xs_sizes.specs.Measured.{IsCodedAt}
use Rattle.xs_sizes.specs.declared.packets.Coding.{Coding}
use Rattle.xs_sizes.specs.declared.steps.Change.{Change}
use Rattle.xs_sizes.specs.declared.steps.Shift.{Shift}

-- of so many bands, those before a first one and those from an end on have the same truncations in two lists
abbrev pub AreAlike : List ℕ → List ℕ → ℕ → ℕ → ℕ → Type 0
AreAlike from to first end bands = (band : ℕ) → band < bands → (first ≤ band → end ≤ band) → slice_index_or from band 0 ≡ slice_index_or to band 0

pub record IsChange (change : Change) : Type 0 where
  pub alike : AreAlike change.from.now change.to.now change.first change.end 30
  pub from_few : All (λ t. t ≤ 15) change.from.now
  pub to_few : All (λ t. t ≤ 15) change.to.now

-- the rows of a slice are coded at one candidate before a step and at another one after it
pub record IsStep (slice : ℕ) (bands : List BandLines) (weights : List Weight) (old new : Candidate) (coding : Coding) (change : Change) : Type 0 where
  pub before : IsCodedAt slice bands weights old coding change.from.now
  pub after : IsCodedAt slice bands weights new coding change.to.now

-- taken from one size and added to it, bytes give another one
pub record IsShift (old new : ℕ) (shift : Shift) : Type 0 where
  pub balance : shift.removed + new ≡ shift.added + old
  pub least : shift.removed ≤ old
