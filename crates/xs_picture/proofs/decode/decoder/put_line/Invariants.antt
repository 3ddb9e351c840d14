use Rattle.std.proofs.Common.{◌≡◌, ◌≢◌, ℕ, ◌<◌}
use Rattle.xs_params.specs.Picture.{IsPlace, sample_at}
use Rattle.xs_decoding.specs.Decoded.{decoded_sample}
use Rattle.xs_rate.specs.Coefficients.{Rows}
use Rattle.xs_stripe.specs.Lines.{HoldRows}
use Rattle.xs_picture.proofs.decode.decoder.put_line.Given as goal

abbrev pub invariant-components : goal.invariant-components
invariant-components l = record {
  shape : l.picture.shape ≡ l.fn.picture.shape;
  written : (coefficients : Rows) → HoldRows coefficients l.lines → (k column : ℕ) → k < l.component → IsPlace l.fn.picture.shape k l.line column
      → sample_at l.picture k l.line column ≡ decoded_sample l.lines.header.now coefficients k l.line column;
  others : (k row column : ℕ) → IsPlace l.fn.picture.shape k row column → row ≢ l.line → sample_at l.picture k row column ≡ sample_at l.fn.picture k row column;
}
