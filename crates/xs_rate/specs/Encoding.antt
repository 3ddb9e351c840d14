-- The encoding of a picture: the codestream in which each slice is at its candidate and, where that is asked, filled up to its share.
-- 'Codestream layout' and 'Rate choice'.
use Rattle.std.specs.Prelude.{ℕ, ◌+◌, Bool, Option, None, Some, Result, Ok, Err, List, length, map, sum_by}
use Rattle.xs_lists.specs.Spelling.{upto}
use Rattle.xs_lists.specs.First.{when, first_some}
use Rattle.xs_layout.specs.declared.Candidate.{Candidate}
use Rattle.xs_params.specs.declared.header.Header.{Header}
use Rattle.xs_params.specs.declared.settings.Settings.{Settings}
use Rattle.xs_params.specs.Headers.{header_of}
use Rattle.xs_params.specs.Picture.{Picture}
use Rattle.xs_params.specs.Stream.{Stream}
use Rattle.xs_params.specs.Geometry.{slice_count}
use Rattle.xs_faults.specs.declared.Budget.{Budget}
use Rattle.xs_grammar.specs.Coded.{header_bytes}
use Rattle.xs_rate.specs.Coefficients.{Rows, rows_of_picture}
use Rattle.xs_rate.specs.Chosen.{size_at, coarsest, chosen_candidate, is_over}
use Rattle.xs_rate.specs.Choice.{filled_slice_at}

-- a header that states this length
abbrev pub with_length : Header → ℕ → Header
with_length h length = record {
  lcod = length;
  shape = h.shape;
  hsl = h.hsl;
  bw = h.bw;
  fq = h.fq;
  colour = h.colour;
  nlx = h.nlx;
  nly = h.nly;
  long_heads = h.long_heads;
  quant = h.quant;
  signs_apart = h.signs_apart;
  run_mode = h.run_mode;
  weights = h.weights;
}

-- the slices of a picture, each at its candidate
abbrev pub slices_at : Header → Rows → ℕ → Bool → (ℕ → Candidate) → List (List ℕ)
slices_at h rows share fill candidate = map (λ slice. filled_slice_at h rows share fill slice (candidate slice)) (upto (slice_count h))

-- the codestream of these slices; its header states the length: header, slices and the end marker
abbrev pub stream_of : Header → List (List ℕ) → Stream
stream_of h slices = record { header = header_bytes (with_length h (length (header_bytes h) + sum_by length slices + 2)); slices = slices }

-- the first slice that is over its share at the coarsest candidate, with its size there
abbrev pub first_over : Header → Rows → ℕ → Option Budget
first_over h rows share =
    first_some (map (λ slice. when (is_over h rows share slice) (record { slice = slice; size = size_at h rows slice (coarsest h); share = share })) (upto (slice_count h)))

-- the encoding of rows of coefficients: each slice at the candidate that is chosen for it
abbrev pub encoding_of_rows : Header → Rows → ℕ → Bool → Result Stream Budget
encoding_of_rows h rows share fill =
    elim (first_over h rows share) [ Some budget ↦ Err budget | None ↦ Ok (stream_of h (slices_at h rows share fill (chosen_candidate h rows share))) ]

-- the encoding of a picture
unfoldable pub encoding_of : Settings → Picture → Result Stream Budget
encoding_of settings picture = encoding_of_rows (header_of settings) (rows_of_picture (header_of settings) picture) settings.share settings.fill
