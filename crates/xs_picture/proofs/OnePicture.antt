-- Bytes have one picture.
use Rattle.std.proofs.Common.{◌≡◌, take, drop, length, sym, ap, subst, ◌∙◌, arith, length-drop}
use Rattle.std.specs.List.{AllByRecursion}
use Rattle.std.proofs.lemmas.List.{take-append-drop}
use Rattle.xs_lists.specs.Spelling.{upto}
use Rattle.xs_params.specs.Geometry.{precincts_of, slice_count}
use Rattle.xs_grammar.specs.Laws.{SamePrecinct}
use Rattle.xs_grammar.proofs.OneStream.{one_codestream}
use Rattle.xs_decoding.specs.Decoded.{IsDecodingOf}
use Rattle.xs_reading.specs.Rows.{dequantised_rows}
use Rattle.xs_decoding.specs.Laws.{SameRowsWithin}
use Rattle.xs_decoding.proofs.OneContent.{within_one}
use Rattle.xs_decoding.proofs.Within.{decoded_within}
use Rattle.xs_picture.specs.OnePicture.{OnePicture}

pub one_picture : OnePicture
one_picture h other content contents bytes n m picture p q decoded = (
  lengths,
  one.1,
  subst (λ x. IsDecodingOf x contents picture) one.1 (record {
    whole = decoded.whole;
    shape = decoded.shape;
    samples = λ component row column place.
        decoded.samples component row column place ∙ decoded_within h (dequantised_rows h content) (dequantised_rows h contents) component row column p.1.headed.accepted same place;
  }),
)
  where
    one : (drop n bytes ≡ drop m bytes) × (h ≡ other) × AllByRecursion (λ slice. AllByRecursion (SamePrecinct h content contents) (precincts_of h slice)) (upto (slice_count h))
    one = one_codestream h other content contents (take n bytes) (take m bytes) (drop n bytes) (drop m bytes) p.1 q.1 (take-append-drop n bytes ∙ sym (take-append-drop m bytes))

    lengths : n ≡ m
    lengths = omega (arith, p.0, q.0, ap length one.0, length-drop n bytes, length-drop m bytes)

    same : SameRowsWithin h (dequantised_rows h content) (dequantised_rows h contents)
    same = within_one h content contents p.1.headed.accepted one.2
