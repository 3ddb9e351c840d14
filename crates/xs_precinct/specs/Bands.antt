-- What the reader keeps of a band, and the line that it is about to read: what is known of it, then its counts, then its numbers.
use Rattle.std.specs.Prelude.{◌≡◌, ℕ, ◌*◌, ◌/◌, ◌<◌, ◌≤◌, ⊤, Bool, true, false, ◌&&◌, if◌then◌else◌, ℤ, Option, None, Some, List, [], ◌∷◌, map, length, slice_index_or}
use Rattle.xs_lists.specs.Spelling.{upto}
use Rattle.xs_layout.specs.declared.Quant.{Quant}
use Rattle.xs_layout.specs.Geometry.{significance_groups_of}
use Rattle.xs_bits.specs.Counts.{AreCounts}
use Rattle.xs_signal.specs.Quantiser.{dequantised}
use Rattle.xs_spelling.specs.Counts.{Line, has_flags, predicted, predicts_above}
use Rattle.xs_spelling.specs.Sizes.{SameNumbers, numbered}
use Rattle.xs_planes.specs.Numbers.{AreMagnitudes, AreNumbers}
use Rattle.xs_precinct.specs.Held.{Last}

-- A band: the line that was read last in the slice, with the truncation that it was coded with; the mode and the truncation of the precinct in hand;
-- the numbers of the line in hand
pub record Band : Type 0 where
  pub there : Bool
  pub above_cut : ℕ
  pub counts : List ℕ
  pub mode : ℕ
  pub cut : ℕ
  pub values : List ℤ

abbrev pub no_band : Band
no_band = record { there = false; above_cut = 0; counts = []; mode = 0; cut = 0; values = [] }

-- the line that was read last
abbrev pub last_of : Band → Option Last
last_of band = if band.there then Some (record { counts = band.counts; truncation = band.above_cut }) else None

-- each number of it is in range
pub record IsBand (band : Band) : Type 0 where
  pub above : band.above_cut ≤ 15
  pub cut : band.cut ≤ 15
  pub mode : band.mode ≤ 3
  pub few : length band.counts ≤ 2048
  pub counts : AreCounts band.counts
  pub values : length band.values ≡ 4 * length band.counts

-- the room of a band: flags, counts and numbers of one line
pub record HasRoomFor (n : ℕ) (bits : List Bool) (items : List ℕ) (numbers : List ℤ) : Type 0 where
  pub few : n ≤ 2048
  pub flags : length bits ≡ significance_groups_of n
  pub line : length items ≡ n
  pub values : length numbers ≡ 4 * n

-- a band with the settings of a precinct has the same line above
pub record IsBegun (old new : Band) (n wanted least : ℕ) : Type 0 where
  pub last : last_of new ≡ last_of old
  pub groups : length new.counts ≡ n
  pub mode : new.mode ≡ wanted
  pub cut : new.cut ≡ least

-- a band after a line of the precinct was read: the line is now the one above
pub record Follows (old new : Band) : Type 0 where
  pub there : new.there ≡ true
  pub above : new.above_cut ≡ old.cut
  pub cut : new.cut ≡ old.cut
  pub mode : new.mode ≡ old.mode
  pub groups : length new.counts ≡ length old.counts

-- a band whose numbers alone may have changed
abbrev pub SameCoded : Band → Band → Type 0
SameCoded old new = new ≡ record old { values = new.values }

-- Lines

-- how many flags the next line has
abbrev pub flags_of : Band → ℕ
flags_of band = if has_flags band.mode then significance_groups_of (length band.counts) else 0

-- what the count of a code group of the next line is predicted to be
abbrev pub prediction_in : Band → ℕ → ℕ
prediction_in band group =
    if predicts_above band.mode && band.there then predicted (slice_index_or band.counts group 0) band.above_cut band.cut else band.cut

-- the band knows all of the next line but its counts and numbers
pub record Knows (band : Band) (line : Line) : Type 0 where
  pub groups : line.groups ≡ length band.counts
  pub mode : line.mode ≡ band.mode
  pub truncation : line.truncation ≡ band.cut
  pub prediction : (group : ℕ) → group < line.groups → line.prediction group ≡ prediction_in band group

-- it has the counts of a line
pub record CountsOf (band : Band) (line : Line) : Type 0 where
  pub groups : line.groups ≡ length band.counts
  pub truncation : line.truncation ≡ band.cut
  pub count : (group : ℕ) → line.count group ≡ slice_index_or band.counts group 0

-- and its numbers
abbrev pub NumbersOf : Band → Line → Type 0
NumbersOf band line = SameNumbers (numbered band.cut band.counts band.values) line

-- the numbers have room in their planes; where the signs stand apart they are magnitudes until the signs are read
abbrev pub HoldsNumbers : Bool → Band → Type 0
HoldsNumbers apart band = AreNumbers band.cut band.counts band.values × (apart ≡ true → AreMagnitudes band.values)

-- each of some bands stands so to the line at its place
abbrev pub EachOf : {A B : Type 0} → (A → B → Type 0) → List A → List B → Type 0
EachOf R [] [] = ⊤
EachOf R [] (y ∷ ys) = ⊥
EachOf R (x ∷ xs) [] = ⊥
EachOf R (x ∷ xs) (y ∷ ys) = R x y × EachOf R xs ys

-- the first coefficients that a line stands for
abbrev pub dequantised_row : Quant → Line → ℕ → List ℤ
dequantised_row kind line width = map (λ column. dequantised kind (line.count (column / 4)) line.truncation (line.value column)) (upto width)

-- those that the numbers of a band stand for
abbrev pub row_of : Quant → Band → ℕ → List ℤ
row_of kind band = dequantised_row kind (numbered band.cut band.counts band.values)
