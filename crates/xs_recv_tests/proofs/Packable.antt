-- An encoding can be packed: none of its units has too many pieces.
use Rattle.std.proofs.Common.{◌≡◌, ℕ, ◌+◌, ◌-◌, ◌*◌, ◌<◌, ◌≤◌, List, [], length, Ok, subst, arith}
use Rattle.std.specs.List.{sum_by}
use Rattle.xs_layout.specs.Geometry.{components_of}
use Rattle.xs_params.specs.declared.settings.Settings.{Settings}
use Rattle.xs_params.specs.Check.{AreInRange}
use Rattle.xs_params.specs.Geometry.{bands_of, slice_count}
use Rattle.xs_params.specs.Headers.{header_of}
use Rattle.xs_params.specs.Picture.{Picture}
use Rattle.xs_params.specs.Stream.{Stream}
use Rattle.xs_grammar.specs.Coded.{header_bytes}
use Rattle.xs_rate.specs.Chosen.{chosen_candidate}
use Rattle.xs_rate.specs.Coefficients.{rows_of_picture}
use Rattle.xs_rate.specs.Encoded.{chosen_stream}
use Rattle.xs_rate.specs.Encoding.{encoding_of, slices_at}
use Rattle.xs_rate.proofs.Encoded.{encoded_in_grammar}
use Rattle.xs_rate.proofs.FirstOver.{first_over_law, same_stream}
use Rattle.xs_rate.proofs.Headers.{components-few, few-bands, header-size}
use Rattle.xs_pack.specs.Datagrams.{IsPackable}
use Rattle.xs_pack.proofs.Cutting.{packable}

few_header : (s : Settings) (picture : Picture) (stream : Stream) → AreInRange s → encoding_of s picture ≡ Ok stream → length stream.header ≤ 108
few_header s picture stream range e =
    let h = header_of s in
    let rows = rows_of_picture h picture in
    let chosen = chosen_stream h rows s.share s.fill in
    let given = first_over_law.given s picture ((first_over_law.encoded s picture).0 (stream, e)) in
    subst (λ (t : Stream). length t.header ≤ 108) (same_stream (encoding_of s picture) chosen stream given e)
    (bound (length chosen.header) (header-size s range (length (header_bytes h) + sum_by length (slices_at h rows s.share s.fill (chosen_candidate h rows s.share)) + 2)) (components-few s.shape.format) (few-bands s range))
  where
    bound : (n : ℕ) → n ≡ 42 + 2 * components_of s.shape.format + 2 * bands_of (header_of s) → components_of s.shape.format ≤ 3 → bands_of (header_of s) ≤ 30 → n ≤ 108
    bound n p q r = omega (arith, p, q, r)

pub encoding_packable : (s : Settings) (picture : Picture) (stream : Stream) → AreInRange s → encoding_of s picture ≡ Ok stream → IsPackable s stream
encoding_packable s picture stream range e =
    let chunk : 64 ≤ s.chunk = range.chunk.0 in
    let share : s.share ≤ 512 * s.chunk - 2 = range.share.1 in
    let boxes : length s.boxes ≤ 2048 = range.few_boxes in
    let few : slice_count (header_of s) ≤ 2047 = range.slices in
    let is = encoded_in_grammar s picture stream range e in
    packable s stream (omega (arith, chunk)) (omega (arith, is.count, few)) (omega (arith, chunk, boxes, few_header s picture stream range e))
    (λ k inside. let within = (is.each k (omega (arith, inside, is.count))).within in omega (arith, within, share, chunk))
