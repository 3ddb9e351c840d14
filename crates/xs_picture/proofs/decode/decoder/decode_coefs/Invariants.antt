use Rattle.std.proofs.Common.{◌≡◌, ℕ, ◌<◌, length}
use Rattle.xs_params.specs.Picture.{IsPlace, sample_at}
use Rattle.xs_decoding.specs.Decoded.{decoded_sample}
use Rattle.xs_stripe.specs.Lines.{AreLines, HoldRows}
use Rattle.xs_picture.specs.Coefs.{rows_of_slices}
use Rattle.xs_picture.proofs.decode.decoder.decode_coefs.Given as goal

abbrev pub invariant-lines : goal.invariant-lines
invariant-lines l = record {
  state : AreLines l.lines;
  header : l.lines.header.now ≡ l.coefs.header;
  first : l.lines.first ≡ 0;
  given : l.lines.given ≡ l.line;
  holds : HoldRows (rows_of_slices l.coefs.header l.coefs.slices) l.lines;
  shape : l.picture.shape ≡ l.coefs.header.shape;
  width : length l.samples.items ≡ l.coefs.header.shape.width;
  written : (component row column : ℕ) → row < l.line → IsPlace l.coefs.header.shape component row column
      → sample_at l.picture component row column ≡ decoded_sample l.coefs.header (rows_of_slices l.coefs.header l.coefs.slices) component row column;
}
