-- The rows of a slice at a candidate, and what its precincts are written from: 'Rate choice', and 'Slice, precinct and packet'.
use Rattle.std.specs.Prelude.{◌≡◌, ℕ, ◌<◌, false, List, length, slice_index_or}
use Rattle.std.specs.List.{Contains}
use Rattle.xs_params.specs.Accepted.{IsAccepted}
use Rattle.xs_params.specs.Geometry.{bands_of, geometry_of, precincts_of}
use Rattle.xs_geometry.specs.SliceLines.{AreLinesOf, rows_held}
use Rattle.xs_grammar.specs.Precinct.{Content}
use Rattle.xs_rate.specs.Chosen.{content_at, mode_of}
use Rattle.xs_rate.specs.Laws.{AreSmall}
use Rattle.xs_precinct_write.specs.Outgoing.{Outgoing, IsAlike, no_outgoing}
use Rattle.xs_precinct_write.specs.declared.write.slice.SliceAt.{SliceAt}

-- its content, and the modes of the bands in a precinct
abbrev pub content_in : SliceAt → Content
content_in s = content_at s.header.now (rows_held s.rows.now) s.candidate

abbrev pub modes_in : SliceAt → ℕ → ℕ → ℕ
modes_in s = mode_of s.header.now (content_in s)

-- the rows are those of a slice of the header's geometry
pub record IsSliceAt (slice : ℕ) (s : SliceAt) : Type 0 where
  pub accepted : IsAccepted s.header.now
  pub heads : s.header.now.long_heads ≡ false
  pub geometry : s.geometry.now ≡ geometry_of s.header.now
  pub lines : AreLinesOf s.header.now slice s.rows.now
  pub small : AreSmall (rows_held s.rows.now)

-- a precinct is one of the slice
pub record HasPrecinct (s : SliceAt) (precinct : ℕ) : Type 0 where
  pub slice : ℕ
  pub is_slice : IsSliceAt slice s
  pub there : Contains (precincts_of s.header.now slice) precinct

-- the modes of its bands in it
abbrev pub AreModesIn : SliceAt → ℕ → List ℕ → Type 0
AreModesIn s precinct modes = (band : ℕ) → band < bands_of s.header.now → slice_index_or modes band 0 ≡ modes_in s precinct band

-- lines of the same bands, in the same modes
pub record AreLinesAlike (old new : List Outgoing) : Type 0 where
  pub count : length new ≡ length old
  pub each : (band : ℕ) → IsAlike (slice_index_or old band no_outgoing) (slice_index_or new band no_outgoing)
