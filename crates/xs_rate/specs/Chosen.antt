-- The choice of a slice's candidate from the whole list, with the modes of the fewest bits: 'Rate choice'.
use Rattle.std.specs.Prelude.{ℕ, ◌-◌, Bool, nat_lt, nat_le, ◌&&◌, unwrap_or, List, length, find, slice_index_or}
use Rattle.xs_layout.specs.declared.Candidate.{Candidate}
use Rattle.xs_layout.specs.Candidates.{candidates_of, finest}
use Rattle.xs_params.specs.declared.header.Header.{Header}
use Rattle.xs_params.specs.Geometry.{bands_of}
use Rattle.xs_grammar.specs.Precinct.{Content}
use Rattle.xs_grammar.specs.Coded.{no_filler, slice_bytes, slice_fits}
use Rattle.xs_grammar.specs.Sizes.{slice_size}
use Rattle.xs_rate.specs.Coefficients.{Rows}
use Rattle.xs_rate.specs.Content.{content_of}
use Rattle.xs_rate.specs.Modes.{least_mode}

-- the candidates of a slice, and the modes of its bands
abbrev pub candidates : Header → List Candidate
candidates h = candidates_of (bands_of h) h.weights

abbrev pub mode_of : Header → Content → ℕ → ℕ → ℕ
mode_of h content precinct band = least_mode h content precinct band

-- the content with one candidate for every slice
abbrev pub content_at : Header → Rows → Candidate → Content
content_at h rows candidate = content_of h rows (λ _. candidate)

-- a slice at a candidate, which speaks of its own candidate alone, and its size
abbrev pub slice_at : Header → Rows → ℕ → Candidate → List ℕ
slice_at h rows slice candidate = slice_bytes h (content_at h rows candidate) (mode_of h (content_at h rows candidate)) no_filler slice

abbrev pub size_at : Header → Rows → ℕ → Candidate → ℕ
size_at h rows slice candidate = slice_size h (content_at h rows candidate) (mode_of h (content_at h rows candidate)) slice

-- each length in the slice at a candidate has room in its field
abbrev pub fields_fit_at : Header → Rows → ℕ → Candidate → Bool
fields_fit_at h rows slice candidate = slice_fits h (content_at h rows candidate) (mode_of h (content_at h rows candidate)) no_filler slice

-- the slice at a candidate is within its share, and its fields fit
abbrev pub fits_at : Header → Rows → ℕ → ℕ → Candidate → Bool
fits_at h rows share slice candidate = nat_le (size_at h rows slice candidate) share && fields_fit_at h rows slice candidate

-- the last candidate
abbrev pub coarsest : Header → Candidate
coarsest h = slice_index_or (candidates h) (length (candidates h) - 1) finest

-- whether a slice is over its share at the coarsest, so that no candidate is chosen for it
abbrev pub is_over : Header → Rows → ℕ → ℕ → Bool
is_over h rows share slice = nat_lt share (size_at h rows slice (coarsest h))

-- else the first candidate that fits; all fields fit at the coarsest
abbrev pub chosen_candidate : Header → Rows → ℕ → ℕ → Candidate
chosen_candidate h rows share slice = unwrap_or (find (fits_at h rows share slice) (candidates h)) (coarsest h)
