-- What an encoding is, and when a picture is refused: 'Rate choice' and 'Codestream layout'. A codestream whose slices are within their shares.
use Rattle.std.specs.Prelude.{◌≡◌, ◌↔◌, ℕ, ◌^◌, ◌<◌, ◌≤◌, Bool, IsTrue, Ok, Err, List, [], length, slice_index_or, All}
use Rattle.xs_params.specs.declared.header.Header.{Header}
use Rattle.xs_params.specs.declared.settings.Settings.{Settings}
use Rattle.xs_params.specs.Check.{AreInRange}
use Rattle.xs_params.specs.Headers.{header_of}
use Rattle.xs_params.specs.Picture.{Picture}
use Rattle.xs_params.specs.Stream.{Stream, stream_bytes}
use Rattle.xs_faults.specs.declared.Budget.{Budget}
use Rattle.xs_params.specs.Geometry.{slice_count}
use Rattle.xs_grammar.specs.Precinct.{Content}
use Rattle.xs_grammar.specs.Slice.{IsSlice}
use Rattle.xs_grammar.specs.Codestream.{IsCodestream}
use Rattle.xs_rate.specs.Coefficients.{Rows, rows_of_picture}
use Rattle.xs_rate.specs.Content.{content_of}
use Rattle.xs_rate.specs.Chosen.{chosen_candidate, coarsest, size_at}
use Rattle.xs_rate.specs.Encoding.{with_length, slices_at, stream_of, encoding_of}

-- the codestream of the slices at their chosen candidates
abbrev pub chosen_stream : Header → Rows → ℕ → Bool → Stream
chosen_stream h rows share fill = stream_of h (slices_at h rows share fill (chosen_candidate h rows share))

-- Refusals

-- no slice is over its share at the coarsest candidate
abbrev pub NoneOver : Header → Rows → ℕ → Type 0
NoneOver h rows share = (slice : ℕ) → slice < slice_count h → size_at h rows slice (coarsest h) ≤ share

-- the budget names the first slice that is over its share there, that size, and the share
pub record IsFirstOver (h : Header) (rows : Rows) (share : ℕ) (budget : Budget) : Type 0 where
  pub there : budget.slice < slice_count h
  pub over : share < size_at h rows budget.slice (coarsest h)
  pub before : (slice : ℕ) → slice < budget.slice → size_at h rows slice (coarsest h) ≤ share
  pub size : budget.size ≡ size_at h rows budget.slice (coarsest h)
  pub named : budget.share ≡ share

-- a picture is refused exactly where a slice is over its share, by the first such slice, and else it has an encoding: the codestream of
-- the slices at their chosen candidates
pub record FirstOver : Type 0 where
  pub refused : (s : Settings) (picture : Picture) (budget : Budget) → (encoding_of s picture ≡ Err budget) ↔ IsFirstOver (header_of s) (rows_of_picture (header_of s) picture) s.share budget
  pub encoded : (s : Settings) (picture : Picture) → ((stream : Stream) × (encoding_of s picture ≡ Ok stream)) ↔ NoneOver (header_of s) (rows_of_picture (header_of s) picture) s.share
  pub given : (s : Settings) (picture : Picture) → NoneOver (header_of s) (rows_of_picture (header_of s) picture) s.share
      → encoding_of s picture ≡ Ok (chosen_stream (header_of s) (rows_of_picture (header_of s) picture) s.share s.fill)

-- Encodings

-- what each slice holds at the candidate that is chosen for it
abbrev pub chosen_content : Header → Rows → ℕ → Content
chosen_content h rows share = content_of h rows (chosen_candidate h rows share)

-- a slice of an encoding is in the grammar and within its share, and has exactly its share where it is filled
pub record IsEncodedSlice (h : Header) (content : Content) (share : ℕ) (fill : Bool) (slice : ℕ) (bytes : List ℕ) : Type 0 where
  pub spelled : IsSlice h content slice bytes
  pub within : length bytes ≤ share
  pub filled : IsTrue fill → length bytes ≡ share

-- the header of the codestream, which states its length
abbrev pub stated_header : Header → Stream → Header
stated_header h stream = with_length h (length (stream_bytes stream))

-- an encoding is a codestream of the chosen content, and has all slices
pub record IsEncoding (h : Header) (rows : Rows) (share : ℕ) (fill : Bool) (stream : Stream) : Type 0 where
  pub whole : IsCodestream (stated_header h stream) (chosen_content h rows share) (stream_bytes stream)
  pub count : length stream.slices ≡ slice_count h
  pub each : (slice : ℕ) → slice < slice_count h → IsEncodedSlice (stated_header h stream) (chosen_content h rows share) share fill slice (slice_index_or stream.slices slice [])

-- so what is given for a picture is in the grammar
abbrev pub EncodedInGrammar : Type 0
EncodedInGrammar = (s : Settings) (picture : Picture) (stream : Stream) → AreInRange s → encoding_of s picture ≡ Ok stream
    → IsEncoding (header_of s) (rows_of_picture (header_of s) picture) s.share s.fill stream

-- the length of a codestream has room in its field, where each slice is within its share
abbrev pub LengthFits : Type 0
LengthFits = (s : Settings) (slices : List (List ℕ)) → AreInRange s → length slices ≡ slice_count (header_of s) → All (λ slice. length slice ≤ s.share) slices
    → length (stream_bytes (stream_of (header_of s) slices)) < 2 ^ 32
