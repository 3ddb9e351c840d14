-- What is written of the rows of a slice is written of the coefficients that they show.
use Rattle.std.proofs.Common.{◌≡◌, ◌⊎◌, ℕ, ◌<◌, ◌≤◌, Bool, List, map, get_or, pos, sym, ap, ◌∙◌, arith, inl, inr}
use Rattle.std.specs.Prelude.{Err, if◌then◌else◌}
use Rattle.std.proofs.lemmas.Bool.{cases_lt, le-ltb}
use Rattle.std.proofs.lemmas.List.{get_or_past}
use Rattle.std.proofs.lemmas.List.FromFn.{length-map-range_with_len, get_or-map-range_with_len}
use Rattle.xs_lists.specs.Spelling.{upto}
use Rattle.xs_layout.specs.Geometry.{components_of}
use Rattle.xs_params.specs.declared.header.Header.{Header}
use Rattle.xs_params.specs.Accepted.{IsAccepted}
use Rattle.xs_params.specs.Geometry.{band_component, band_type_of, band_width_of, slice_count}
use Rattle.xs_params.specs.Picture.{Picture, sample_at}
use Rattle.xs_params.specs.Rows.{Rows}
use Rattle.xs_faults.specs.declared.Budget.{Budget}
use Rattle.xs_signal.specs.Picture.{coefficients_of}
use Rattle.xs_signal.specs.Wavelet.{band_plane}
use Rattle.xs_geometry.specs.SliceLines.{BandLines, row_at, rows_held}
use Rattle.xs_geometry.proofs.PacketLines.{slice_has_lines}
use Rattle.xs_rate.specs.Choice.{choice_of}
use Rattle.xs_rate.specs.Coefficients.{rows_of_picture, signal_of}
use Rattle.xs_slice_write.specs.Written.{IsWrittenSlice}
use Rattle.xs_picture.specs.Local.{IsWrittenAlike, SameInSlice}
use Rattle.xs_picture.proofs.Encoded.{written_alike}
use Rattle.xs_picture.proofs.Folded.{component_there}
use Rattle.xs_picture.proofs.Local.{slice_of_lines}
use Rattle.xs_enc_lanes.specs.Coded.{ArePadded}
use Rattle.xs_enc_lanes.specs.Placed.{AllCarry, AreGathered}
use Rattle.xs_enc_lanes.specs.Rows.{Carried, HasComponent}
use Rattle.xs_enc_lanes.proofs.Putting.{line_of}

pub picture_padded : (h : Header) (picture : Picture) → ArePadded h (rows_of_picture h picture)
picture_padded h picture band line column past =
    ap (λ (b : Bool). if b then band_plane (coefficients_of (signal_of h) (sample_at picture) (band_component h band)) (band_type_of h band) line column else pos 0) (le-ltb column (band_width_of h band) past)

module _ (h : Header) (slice : ℕ) (values : List Carried) (bands : List BandLines) (rows : Rows) (accepted : IsAccepted h) (there : slice < slice_count h) (gathered : AreGathered h slice values bands) (carry : AllCarry h slice values rows) (padded : ArePadded h rows) (each : (component : ℕ) → component < components_of h.shape.format → HasComponent values component) where
  same : SameInSlice h slice (rows_held bands) rows
  same band line inside above here = λ i column. entry column i
    where
      width : ℕ
      width = band_width_of h band

      row_is : row_at bands band line ≡ map (rows band line) (upto width)
      row_is =
          let has = (slice_has_lines h slice bands band line accepted.geometry.hsl gathered.lines).1 (inside, above, here) in
          gathered.theirs rows carry band line (line_of h slice bands band line gathered.lines has) (each (band_component h band) (component_there h band))

      entry : (column : ℕ) → rows_held bands band line column ≡ rows band line column
      entry column = ap (λ r. get_or r column (pos 0)) row_is ∙ by (cases_lt column width)
        where
          by : (column < width) ⊎ (width ≤ column) → get_or (map (rows band line) (upto width)) column (pos 0) ≡ rows band line column
          by (inl within) = get_or-map-range_with_len (rows band line) 0 width column column (pos 0) within (omega arith)
          by (inr past) = get_or_past (map (rows band line) (upto width)) column (pos 0) (omega (arith, past, length-map-range_with_len (rows band line) 0 width)) ∙ sym (padded band line column past)

  alike : IsWrittenAlike h slice (rows_held bands) rows
  alike = slice_of_lines h slice (rows_held bands) rows accepted.geometry there same

  pub coded_bytes : (share : ℕ) (fill : Bool) (bytes : List ℕ) → IsWrittenSlice h (rows_held bands) share fill slice bytes → IsWrittenSlice h rows share fill slice bytes
  coded_bytes share fill bytes written = written_alike h slice (rows_held bands) rows share fill bytes alike written

  pub coded_over : (share : ℕ) (budget : Budget) → choice_of h (rows_held bands) share slice ≡ Err budget → choice_of h rows share slice ≡ Err budget
  coded_over share budget over = sym (alike.choice share) ∙ over
