-- The length of a codestream has room in its field.
use Rattle.std.proofs.Common.{◌≡◌, ℕ, ◌+◌, ◌*◌, ◌^◌, ◌<◌, ◌≤◌, List, [], ◌∷◌, ◌++◌, length, ap, ◌∙◌, arith, append_assoc, length-append}
use Rattle.std.specs.List.{sum_by, concat, AllByRecursion}
use Rattle.std.proofs.Math.Nat.{suc-mul}
use Rattle.std.proofs.lemmas.List.Elements.{recursion_from_All}
use Rattle.xs_layout.specs.Geometry.{components_of}
use Rattle.xs_params.specs.Headers.{header_of}
use Rattle.xs_params.specs.Stream.{Stream, stream_bytes}
use Rattle.xs_params.specs.Markers.{eoc}
use Rattle.xs_params.specs.Geometry.{bands_of, slice_count}
use Rattle.xs_grammar.specs.Coded.{header_bytes}
use Rattle.xs_rate.specs.Encoding.{stream_of}
use Rattle.xs_rate.specs.Encoded.{LengthFits}
use Rattle.xs_rate.proofs.Headers.{components-few, few-bands, header-size}

pub lengths-most : (share : ℕ) (slices : List (List ℕ)) → AllByRecursion (λ slice. length slice ≤ share) slices → length (concat slices) ≤ length slices * share
lengths-most share [] h = omega arith
lengths-most share (slice ∷ slices) h = omega (arith, length-append slice (concat slices), h.0, lengths-most share slices h.1, suc-mul (length slices) share)

-- the pieces of a codestream, grouped from the end
pub joined-stream : (stream : Stream) → stream_bytes stream ≡ stream.header ++ (concat stream.slices ++ eoc)
joined-stream stream = append_assoc stream.header (concat stream.slices) eoc

pub length-stream : (stream : Stream) → length (stream_bytes stream) ≡ length stream.header + length (concat stream.slices) + 2
length-stream stream =
    omega (arith, ap length (joined-stream stream), length-append stream.header (concat stream.slices ++ eoc), length-append (concat stream.slices) eoc)

pub length_fits : LengthFits
length_fits s slices range count within =
    let lcod = length (header_bytes (header_of s)) + sum_by length slices + 2 in
    let most = lengths-most s.share slices (recursion_from_All (λ slice. length slice ≤ s.share) slices within) in
    bound (length (stream_bytes (stream_of (header_of s) slices))) (length (concat slices)) (length slices * s.share)
    (length-stream (stream_of (header_of s) slices) ∙ ap (λ n. n + length (concat slices) + 2) (header-size s range lcod)) (components-few s.shape.format) (few-bands s range) most
    (ap (λ n. n * s.share) count) range.stream
  where
    bound : (size parts whole : ℕ) → size ≡ 42 + 2 * components_of s.shape.format + 2 * bands_of (header_of s) + parts + 2 → components_of s.shape.format ≤ 3 → bands_of (header_of s) ≤ 30 → parts ≤ whole
        → whole ≡ slice_count (header_of s) * s.share → slice_count (header_of s) * s.share + 4096 ≤ 2 ^ 32 → size < 2 ^ 32
    bound size parts whole p c q r t u = omega (arith, p, c, q, r, t, u)
