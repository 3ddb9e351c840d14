-- What is encoded is read.
use Rattle.std.proofs.Common.{◌≡◌, ℕ, ◌<◌, ◌^◌, List, ◌++◌, map, length, refl, sym, subst, ◌∙◌, arith, length-append}
use Rattle.std.specs.Prelude.{Bool, None}
use Rattle.std.specs.List.{concat}
use Rattle.std.proofs.lemmas.List.{take_at}
use Rattle.std.proofs.lemmas.List.Concat.{concat_is}
use Rattle.std.proofs.lemmas.List.Folds.{flat_map-map}
use Rattle.xs_lists.specs.Packing.{AreBytes}
use Rattle.xs_lists.specs.Spelling.{upto}
use Rattle.xs_lists.proofs.Walk.{all-append, all-of_flat}
use Rattle.xs_lists.proofs.Each.{range-all}
use Rattle.xs_layout.specs.declared.Candidate.{Candidate}
use Rattle.xs_params.specs.declared.header.Header.{Header}
use Rattle.xs_params.specs.Geometry.{slice_count}
use Rattle.xs_params.specs.Headers.{header_of}
use Rattle.xs_params.specs.Markers.{eoc}
use Rattle.xs_params.specs.Stream.{stream_bytes}
use Rattle.xs_grammar.specs.Codestream.{IsCodestream, IsCodestreamFront}
use Rattle.xs_grammar.proofs.Sizes.{header_are, slice_are}
use Rattle.xs_rate.specs.Coefficients.{Rows, rows_of_picture}
use Rattle.xs_rate.specs.Encoded.{chosen_content, chosen_stream, stated_header}
use Rattle.xs_rate.specs.Chosen.{chosen_candidate, content_at, mode_of}
use Rattle.xs_rate.specs.Choice.{filler_of, filled_slice_at}
use Rattle.xs_rate.specs.Encoding.{slices_at, stream_of}
use Rattle.xs_rate.proofs.Encoded.{encoded_in_grammar}
use Rattle.xs_rate.proofs.Fits.{joined-stream}
use Rattle.xs_rate.proofs.FirstOver.{first_over_law}
use Rattle.xs_markers.specs.Reading.{header_at}
use Rattle.xs_picture.specs.Faults.{stream_end, stream_fault}
use Rattle.xs_picture.proofs.Known.{streams_known}
use Rattle.xs_picture.specs.ReadAgain.{EncodedIsRead}

-- the slices of a codestream are bytes
slices_are : (h : Header) (rows : Rows) (share : ℕ) (fill : Bool) (candidate : ℕ → Candidate) → AreBytes (concat (slices_at h rows share fill candidate))
slices_are h rows share fill candidate =
    let one : ℕ → List ℕ = λ slice. filled_slice_at h rows share fill slice (candidate slice) in
    subst AreBytes (sym (concat_is (map one (upto (slice_count h))) ∙ flat_map-map (λ l. l) one (upto (slice_count h))))
    (all-of_flat (λ byte. byte < 2 ^ 8) one (upto (slice_count h))
    (range-all (λ slice. AreBytes (one slice)) 0 (slice_count h)
    (λ slice low high. slice_are h (content_at h rows (candidate slice)) (mode_of h (content_at h rows (candidate slice))) (filler_of h rows share fill slice (candidate slice)) slice)))

-- and so is all of it
stream_are : (h : Header) (slices : List (List ℕ)) → AreBytes (concat slices) → AreBytes (stream_bytes (stream_of h slices))
stream_are h slices are =
    subst AreBytes (sym (joined-stream (stream_of h slices)))
    (all-append (λ byte. byte < 2 ^ 8) (stream_of h slices).header (concat slices ++ eoc) (header_are _) (all-append (λ byte. byte < 2 ^ 8) (concat slices) eoc are (omega arith, (omega arith, tt))))

pub encoded_is_read : EncodedIsRead
encoded_is_read s picture stream rest range given are = record {
  no_fault = told.0;
  header = sym told.1;
  ends = sym told.2;
}
  where
    h : Header
    h = header_of s

    rows : Rows
    rows = rows_of_picture (header_of s) picture

    bytes : List ℕ
    bytes = stream_bytes stream

    same : stream ≡ chosen_stream (header_of s) rows s.share s.fill
    same = let both = sym given ∙ first_over_law.given s picture ((first_over_law.encoded s picture).0 (stream, given)) in cc both

    whole : IsCodestream (stated_header (header_of s) stream) (chosen_content (header_of s) rows s.share) bytes
    whole = (encoded_in_grammar s picture stream range given).whole

    front : IsCodestreamFront (stated_header (header_of s) stream) (chosen_content (header_of s) rows s.share) (bytes ++ rest) (length bytes)
    front = (omega (arith, length-append bytes rest), subst (IsCodestream (stated_header (header_of s) stream) (chosen_content (header_of s) rows s.share)) (sym (take_at bytes rest (length bytes) refl)) whole)

    told : (stream_fault (bytes ++ rest) ≡ None) × (stated_header (header_of s) stream ≡ header_at (bytes ++ rest)) × (length bytes ≡ stream_end (bytes ++ rest))
    told = (streams_known (bytes ++ rest) (all-append (λ byte. byte < 2 ^ 8) bytes rest
        (subst (λ x. AreBytes (stream_bytes x)) (sym same) (stream_are (header_of s) (slices_at (header_of s) rows s.share s.fill (chosen_candidate (header_of s) rows s.share)) (slices_are (header_of s) rows s.share s.fill (chosen_candidate (header_of s) rows s.share)))) are)).known
        (stated_header (header_of s) stream) (chosen_content (header_of s) rows s.share) (length bytes) front
