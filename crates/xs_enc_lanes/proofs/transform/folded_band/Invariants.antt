use Rattle.std.proofs.Common.{ℕ, [], get_or}
use Rattle.xs_geometry.specs.SliceLines.{first_line_of}
use Rattle.xs_picture.specs.Analysed.{folded_row}
use Rattle.xs_enc_lanes.specs.Transformed.{band_rows_of}
use Rattle.xs_enc_lanes.proofs.Folding.{AreRowsTo}
use Rattle.xs_enc_lanes.proofs.transform.folded_band.Given as goal

abbrev pub invariant-lines : goal.invariant-lines
invariant-lines l = AreRowsTo (λ (k : ℕ). folded_row l.header.fq (get_or (band_rows_of l.header l.splitter l.fn.place.1) k [])) (first_line_of l.header l.fn.place.0 l.fn.place.1) l.line l.rows
