-- What is kept of a slice's rows to choose its candidate by, and what is then planned.
use Rattle.std.specs.Prelude.{◌≡◌, ℕ, ◌-◌, ◌<◌, ◌≤◌, Bool, false, if◌then◌else◌, Ok, List, length, All}
use Rattle.xs_layout.specs.declared.Weight.{Weight}
use Rattle.xs_params.specs.declared.header.Header.{Header}
use Rattle.xs_params.specs.Accepted.{IsAccepted}
use Rattle.xs_params.specs.Geometry.{bands_of, geometry_of, slice_count}
use Rattle.xs_params.specs.Rows.{Rows}
use Rattle.xs_geometry.specs.SliceLines.{BandLines, AreLinesOf, rows_held}
use Rattle.xs_rate.specs.Choice.{choice_of}
use Rattle.xs_rate.specs.Chosen.{size_at}
use Rattle.xs_rate.specs.Laws.{AreSmall}
use Rattle.xs_sizes.specs.Lengths.{AreLengths}
use Rattle.xs_sizes.specs.Counted.{AreCountsOf}
use Rattle.xs_sizes.specs.Measured.{AreKept}
use Rattle.xs_sizes.specs.declared.counts.SliceCounts.{SliceCounts}
use Rattle.xs_precinct_write.specs.Outgoing.{HaveRoom}
use Rattle.xs_slice_write.specs.declared.write.CountedSlice.{CountedSlice}
use Rattle.xs_slice_write.specs.declared.write.Plan.{Plan}
use Rattle.xs_slice_write.specs.declared.write.SliceScratch.{SliceScratch}
use Rattle.xs_slice_write.specs.declared.write.WantedSlice.{WantedSlice}

-- it is of these rows of a slice, by the geometry of a header
pub record AreKeptOf (h : Header) (slice : ℕ) (bands : List BandLines) (g : Header) (counts : SliceCounts) : Type 0 where
  pub heads : h.long_heads ≡ false
  pub geometry : g ≡ geometry_of h
  pub weights : length h.weights ≡ bands_of h
  pub kept : AreKept g counts h.signs_apart slice bands

-- the slice has its chosen candidate, and so much filler as it has less than its share where that is asked
pub record IsPlan (h : Header) (rows : Rows) (share : ℕ) (fill : Bool) (number : ℕ) (plan : Plan) : Type 0 where
  pub slice : plan.slice ≡ number
  pub chosen : choice_of h rows share number ≡ Ok plan.candidate
  pub filler : plan.filler ≡ (if fill then share - size_at h rows number plan.candidate else 0)

-- the bits of counts stand in their table, and there is a line for each band
pub record HasSliceRoom (h : Header) (scratch : SliceScratch) : Type 0 where
  pub table : AreLengths scratch.sizes.table.items
  pub lines : HaveRoom h scratch.lines.lines.items

-- the rows of a slice of a header, and what was counted of them
pub record IsCountedSlice (s : CountedSlice) (wanted : WantedSlice) : Type 0 where
  pub accepted : IsAccepted s.header.now
  pub heads : s.header.now.long_heads ≡ false
  pub slice : wanted.slice < slice_count s.header.now
  pub lines : AreLinesOf s.header.now wanted.slice wanted.rows.now
  pub gains : All (λ (weight : Weight). weight.gain ≤ 15) s.header.now.weights
  pub small : AreSmall (rows_held wanted.rows.now)
  pub geometry : s.geometry.now ≡ geometry_of s.header.now
  pub counts : AreCountsOf s.geometry.now wanted.rows.now s.counts.now
  pub signs : s.counts.now.signs ≡ s.header.now.signs_apart
