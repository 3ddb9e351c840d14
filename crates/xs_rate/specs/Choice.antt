-- The choice of a slice's candidate as one answer, and what it hangs on: 'Rate choice'.
use Rattle.std.specs.Prelude.{◌≡◌, ◌≢◌, ℕ, ◌+◌, ◌-◌, ◌*◌, ◌^◌, ◌<◌, ◌≤◌, min, Bool, true, false, nat_eq, ◌&&◌, if◌then◌else◌, ℤ, pos, unsigned_abs, Result, Ok, Err, List, length, slice_index_or}
use Rattle.std.specs.List.{sum_by, AllByRecursion, Contains}
use Rattle.xs_layout.specs.Geometry.{PacketPlace}
use Rattle.xs_layout.specs.declared.Candidate.{Candidate}
use Rattle.xs_layout.specs.declared.Weight.{Weight}
use Rattle.xs_layout.specs.Candidates.{candidates_of, finest}
use Rattle.xs_layout.specs.Weighting.{truncation_of}
use Rattle.xs_params.specs.declared.header.Header.{Header}
use Rattle.xs_faults.specs.declared.Budget.{Budget}
use Rattle.xs_grammar.specs.Coded.{no_filler, precinct_bytes, precinct_fits, slice_bytes}
use Rattle.xs_grammar.specs.Sizes.{packet_size, precinct_size}
use Rattle.xs_params.specs.Geometry.{bands_of, packets_of, precinct_count}
use Rattle.xs_params.specs.Accepted.{IsGeometry}
use Rattle.xs_rate.specs.Coefficients.{Rows}
use Rattle.xs_rate.specs.Chosen.{mode_of, content_at, slice_at, size_at, coarsest, chosen_candidate, is_over, fields_fit_at}
use Rattle.xs_rate.specs.Laws.{AreSmall, IsAllCut}

-- The size of a precinct at a candidate, and whether each length in it has room in its field

abbrev pub precinct_size_at : Header → Rows → Candidate → ℕ → ℕ
precinct_size_at h rows candidate precinct = precinct_size h (content_at h rows candidate) (mode_of h (content_at h rows candidate)) precinct

abbrev pub precinct_fits_at : Header → Rows → Candidate → ℕ → Bool
precinct_fits_at h rows candidate precinct = precinct_fits h (content_at h rows candidate) (mode_of h (content_at h rows candidate)) no_filler precinct

-- the bytes of a precinct at a candidate
abbrev pub precinct_bytes_at : Header → Rows → Candidate → ℕ → List ℕ
precinct_bytes_at h rows candidate precinct = precinct_bytes h (content_at h rows candidate) (mode_of h (content_at h rows candidate)) no_filler precinct

-- The bytes of a slice at a candidate, up to its share where that is asked: its last precinct ends in so many zero bytes as the slice has less than
-- the share.
abbrev pub filler_of : Header → Rows → ℕ → Bool → ℕ → Candidate → ℕ → ℕ
filler_of h rows share fill slice candidate precinct =
    if fill && nat_eq (precinct + 1) (min ((slice + 1) * h.hsl) (precinct_count h)) then share - size_at h rows slice candidate else 0

abbrev pub filled_slice_at : Header → Rows → ℕ → Bool → ℕ → Candidate → List ℕ
filled_slice_at h rows share fill slice candidate =
    slice_bytes h (content_at h rows candidate) (mode_of h (content_at h rows candidate)) (filler_of h rows share fill slice candidate) slice

-- so a slice has its share exactly; and without filling it is the slice at the candidate
pub record IsFilled (h : Header) (rows : Rows) (share slice : ℕ) (candidate : Candidate) : Type 0 where
  pub exact : size_at h rows slice candidate ≤ share → length (filled_slice_at h rows share true slice candidate) ≡ share
  pub plain : filled_slice_at h rows share false slice candidate ≡ slice_at h rows slice candidate

abbrev pub SlicesFilled : Type 0
SlicesFilled = (h : Header) (rows : Rows) (share slice : ℕ) (candidate : Candidate) → 1 ≤ h.hsl → slice * h.hsl < precinct_count h → IsFilled h rows share slice candidate

-- the candidate of a slice; or the budget that it is over at the coarsest
abbrev pub choice_of : Header → Rows → ℕ → ℕ → Result Candidate Budget
choice_of h rows share slice =
    if is_over h rows share slice then Err (record { slice = slice; size = size_at h rows slice (coarsest h); share = share })
    else Ok (chosen_candidate h rows share slice)

-- At the coarsest candidate every plane is cut off, whatever the rows
abbrev pub CoarsestCutsAll : Type 0
CoarsestCutsAll = (h : Header) (rows : Rows) → 1 ≤ bands_of h → AllByRecursion (λ (w : Weight). w.gain ≤ 15) h.weights → AreSmall rows → IsAllCut h (content_at h rows (coarsest h))

-- so at the candidate that is chosen each length has room in its field
abbrev pub ChosenFits : Type 0
ChosenFits = (h : Header) (rows : Rows) (share slice : ℕ) → IsGeometry h → h.long_heads ≡ false → AllByRecursion (λ (w : Weight). w.gain ≤ 15) h.weights → AreSmall rows
    → is_over h rows share slice ≡ false → fields_fit_at h rows slice (chosen_candidate h rows share slice) ≡ true

-- The bytes of a packet, and those of all packets of a precinct, are few at every candidate
pub record AreFewBytes (h : Header) (rows : Rows) (candidate : Candidate) (mode : ℕ → ℕ → ℕ) (precinct : ℕ) : Type 0 where
  pub packet : (place : PacketPlace) → Contains (packets_of h precinct) place → packet_size h (content_at h rows candidate) (mode precinct) place ≤ 2 ^ 20
  pub whole : sum_by (packet_size h (content_at h rows candidate) (mode precinct)) (packets_of h precinct) ≤ 10 * 2 ^ 20

abbrev pub BodiesFit : Type 0
BodiesFit = (h : Header) (rows : Rows) (candidate : Candidate) (mode : ℕ → ℕ → ℕ) (precinct : ℕ) → IsGeometry h → h.long_heads ≡ false → AreSmall rows
    → AreFewBytes h rows candidate mode precinct

-- two headers that code alike
pub record CodeAlike (h other : Header) : Type 0 where
  pub shape : h.shape ≡ other.shape
  pub hsl : h.hsl ≡ other.hsl
  pub across : h.nlx ≡ other.nlx
  pub down : h.nly ≡ other.nly
  pub heads : h.long_heads ≡ other.long_heads
  pub quant : h.quant ≡ other.quant
  pub signs : h.signs_apart ≡ other.signs_apart
  pub weights : h.weights ≡ other.weights

-- choose alike, and have the same sizes
abbrev pub ChooseAlike : Type 0
ChooseAlike = (h other : Header) (rows : Rows) (share slice precinct : ℕ) (candidate : Candidate) → CodeAlike h other
    → (choice_of h rows share slice ≡ choice_of other rows share slice)
    × (precinct_size_at h rows candidate precinct ≡ precinct_size_at other rows candidate precinct)
    × (precinct_fits_at h rows candidate precinct ≡ precinct_fits_at other rows candidate precinct)

-- the magnitudes of rows
abbrev pub magnitudes_of : Rows → ℕ → ℕ → ℕ → ℤ
magnitudes_of rows band line column = pos (unsigned_abs (rows band line column))

-- signs count for nothing
abbrev pub ChosenByMagnitudes : Type 0
ChosenByMagnitudes = (h : Header) (rows : Rows) (share slice precinct : ℕ) (candidate : Candidate)
    → (choice_of h rows share slice ≡ choice_of h (magnitudes_of rows) share slice)
    × (precinct_size_at h rows candidate precinct ≡ precinct_size_at h (magnitudes_of rows) candidate precinct)
    × (precinct_fits_at h rows candidate precinct ≡ precinct_fits_at h (magnitudes_of rows) candidate precinct)

-- from one candidate to the next the truncation changes of no band but that whose priority is the next refinement
abbrev pub OneBandSteps : Type 0
OneBandSteps = (weights : List Weight) (number : ℕ) (weight : Weight) → number + 1 < length (candidates_of (length weights) weights) → weight.priority < length weights
    → weight.priority ≢ (slice_index_or (candidates_of (length weights) weights) (number + 1) finest).r
    → truncation_of (slice_index_or (candidates_of (length weights) weights) number finest).q (slice_index_or (candidates_of (length weights) weights) number finest).r weight
    ≡ truncation_of (slice_index_or (candidates_of (length weights) weights) (number + 1) finest).q (slice_index_or (candidates_of (length weights) weights) (number + 1) finest).r weight
