-- Laws of the lines of a band: what is spelled is one, whatever follows it, and what is written is spelled.
use Rattle.std.specs.Prelude.{◌≡◌, ◌≢◌, ℕ, ◌*◌, ◌<◌, Bool, false, IsTrue, ℤ, pos, unsigned_abs, List, ◌++◌}
use Rattle.std.specs.Int.{is_negative}
use Rattle.xs_spelling.specs.Counts.{Line, SpellsResidual, SpellsCounts}
use Rattle.xs_spelling.specs.Data.{SpellsData}
use Rattle.xs_spelling.specs.Written.{written_flag, IsWritableCount, line_count_bits, line_data_bits, has_small_data}

-- a residual is of one count, and none begins another
abbrev pub OneResidual : Type 0
OneResidual = (m truncation count other : ℕ) (a b y z : List ℕ) → SpellsResidual m truncation count a → SpellsResidual m truncation other b → a ++ y ≡ b ++ z
    → (y ≡ z) × (count ≡ other)

-- two lines of which the same is known before their counts are read
pub record SameBefore (line other : Line) : Type 0 where
  pub groups : line.groups ≡ other.groups
  pub mode : line.mode ≡ other.mode
  pub truncation : line.truncation ≡ other.truncation
  pub prediction : (group : ℕ) → group < line.groups → line.prediction group ≡ other.prediction group

abbrev pub SameCounts : Line → Line → Type 0
SameCounts line other = (group : ℕ) → group < line.groups → line.count group ≡ other.count group

-- the bits of a line's counts are of one list of counts, by the flags and what is known before
abbrev pub OneCounts : Type 0
OneCounts = (run_mode : ℕ) (line other : Line) (flag : ℕ → ℕ) (a b y z : List ℕ) → SameBefore line other → SpellsCounts run_mode line flag a → SpellsCounts run_mode other flag b → a ++ y ≡ b ++ z
    → (y ≡ z) × SameCounts line other

-- two numbers have one sign, unless one of them is 0
abbrev pub SameSign : ℤ → ℤ → Type 0
SameSign v w = v ≢ pos 0 → w ≢ pos 0 → is_negative v ≡ is_negative w

-- two numbers that are spelled alike: of one magnitude, and the same where the signs do not stand apart
pub record SameNumber (apart : Bool) (v w : ℤ) : Type 0 where
  pub magnitude : unsigned_abs v ≡ unsigned_abs w
  pub number : apart ≡ false → v ≡ w

-- the bits of a line's numbers are of one list of numbers, by the counts; where the signs stand apart, of one list of magnitudes
abbrev pub OneData : Type 0
OneData = (apart : Bool) (line other : Line) (a b y z : List ℕ) → line.groups ≡ other.groups → line.truncation ≡ other.truncation → SameCounts line other
    → SpellsData apart line a → SpellsData apart other b → a ++ y ≡ b ++ z
    → (y ≡ z) × ((column : ℕ) → column < 4 * line.groups → SameNumber apart (line.value column) (other.value column))

-- what a writer gives of a line's counts, with its flags, spells them
abbrev pub WrittenCounts : Type 0
WrittenCounts = (line : Line) → ((group : ℕ) → group < line.groups → IsWritableCount line group) → SpellsCounts 0 line (written_flag line) (line_count_bits false line (written_flag line))

-- what a writer gives of a line's numbers spells them, where they have room in their planes
abbrev pub WrittenData : Type 0
WrittenData = (apart : Bool) (line : Line) → IsTrue (has_small_data line) → SpellsData apart line (line_data_bits apart line)
