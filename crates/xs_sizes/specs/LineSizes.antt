-- What a line has at each truncation, as it is held, and the sizes at one of them.
use Rattle.std.specs.Prelude.{◌≡◌, ℕ, ◌+◌, ◌-◌, ◌*◌, ◌^◌, ◌<◌, ◌≤◌, Bool, true, nat_eq, if◌then◌else◌, ℤ, List, [], ◌∷◌, ◌++◌, length, slice_index_or}
use Rattle.xs_bits.specs.Counts.{AreCounts}
use Rattle.xs_layout.specs.declared.Quant.{Quant}
use Rattle.xs_layout.specs.declared.Quant.TheVariants.{DeadZone, Uniform}
use Rattle.xs_spelling.specs.Sizes.{signs_size}
use Rattle.xs_sizes.specs.Cut.{CutSizes, sent_line}
use Rattle.xs_sizes.specs.Lengths.{AreCountSizes}
use Rattle.xs_sizes.specs.declared.line.LinePlanes.{LinePlanes}
use Rattle.xs_sizes.specs.declared.line.LineSizes.{LineSizes}

-- the bits of the counts at the next truncation; past the last one each count has one bit
abbrev pub next_of : LineSizes → ℕ → ℕ
next_of line t = if nat_eq t 15 then line.groups else slice_index_or line.plain.all (t + 1) 0

-- the sizes at a truncation: each count that is over it has four planes for each bit past the first, and four signs
abbrev pub cut_sizes_at : LineSizes → ℕ → CutSizes
cut_sizes_at line t = record {
  counts = slice_index_or line.plain.all t 0 ∷ slice_index_or line.predicted.all t 0 ∷ slice_index_or line.plain.kept t 0 ∷ slice_index_or line.predicted.kept t 0 ∷ [];
  data_in = 4 * (slice_index_or line.plain.all t 0 - line.groups) + 4 * (slice_index_or line.plain.all t 0 - next_of line t);
  data_apart = 4 * (slice_index_or line.plain.all t 0 - line.groups);
  dead_zone = slice_index_or line.dead_zone t 0;
  uniform = slice_index_or line.uniform t 0;
}

-- the signs of a row at each truncation
abbrev pub AreSignSizes : Quant → (ℕ → ℤ) → ℕ → List ℕ → Type 0
AreSignSizes kind row groups sizes = (t : ℕ) → t ≤ 15 → slice_index_or sizes t 0 ≡ signs_size (sent_line kind row groups t)

-- what a row has whose groups have these planes, under those planes
pub record AreLineSizes (above planes : List ℕ) (row : ℕ → ℤ) (with_signs : Bool) (line : LineSizes) : Type 0 where
  pub groups : line.groups ≡ length planes
  pub plain : AreCountSizes [] planes 0 line.plain.all
  pub plain_kept : AreCountSizes [] planes 2 line.plain.kept
  pub predicted : AreCountSizes above planes 0 line.predicted.all
  pub predicted_kept : AreCountSizes above planes 2 line.predicted.kept
  pub dead_zone : with_signs ≡ true → AreSignSizes DeadZone row (length planes) line.dead_zone
  pub uniform : with_signs ≡ true → AreSignSizes Uniform row (length planes) line.uniform

-- the planes of a line, and those above it
pub record ArePlanes (p : LinePlanes) : Type 0 where
  pub counts : AreCounts p.planes.now
  pub above_counts : AreCounts p.above.now
  pub above_size : length p.above.now ≡ length p.planes.now
  pub few : length p.planes.now ≤ 2048

-- at each truncation the counts have a bit for each code group at least, and no fewer than at the next one; and few
pub record AreRegular (line : LineSizes) : Type 0 where
  pub least : (t : ℕ) → t ≤ 15 → line.groups ≤ slice_index_or line.plain.all t 0
  pub falls : (t : ℕ) → t ≤ 14 → slice_index_or line.plain.all (t + 1) 0 ≤ slice_index_or line.plain.all t 0
  pub few : (t : ℕ) → t ≤ 15 → slice_index_or line.plain.all t 0 < 2 ^ 28

-- the sizes of a row were added behind others
pub record AreAdded (above planes : List ℕ) (row : ℕ → ℤ) (with_signs : Bool) (old new : List LineSizes) : Type 0 where
  pub line : LineSizes
  pub regular : AreRegular line
  pub sizes : AreLineSizes above planes row with_signs line
  pub added : new ≡ old ++ line ∷ []
