-- Contents that agree on all precincts have the same rows of coefficients.
use Rattle.std.proofs.Common.{◌≡◌, ℕ, zero, suc, ◌/◌, ◌<◌, List, [], ◌∷◌, length, get_or, sym, ap, subst, ◌∙◌, arith}
use Rattle.std.specs.Prelude.{if◌then◌else◌, nat_lt, pos}
use Rattle.std.specs.List.{AllByRecursion, Contains}
use Rattle.xs_lists.specs.Spelling.{upto}
use Rattle.xs_lists.proofs.Each.{all-range}
use Rattle.xs_params.specs.declared.header.Header.{Header}
use Rattle.xs_signal.specs.Quantiser.{dequantised}
use Rattle.xs_params.specs.Geometry.{band_width_of, packet_bands, packets_of, precincts_of, slice_count}
use Rattle.xs_params.specs.Accepted.{IsAccepted}
use Rattle.xs_grammar.specs.Precinct.{Content, line_truncation, precinct_of}
use Rattle.xs_grammar.specs.Laws.{SameBandLine, SamePrecinct}
use Rattle.xs_grammar.proofs.OneSlice.{truncation_at}
use Rattle.xs_geometry.specs.Lines.{HoldsLine}
use Rattle.xs_geometry.specs.Places.{packet_at, no_place}
use Rattle.xs_geometry.proofs.PacketLines.{line_in_one_packet}
use Rattle.xs_geometry.proofs.WrittenRows.{accepted_ranges}
use Rattle.xs_reading.specs.Rows.{dequantised_rows}
use Rattle.xs_decoding.specs.Laws.{SameRowsWithin}
use Rattle.xs_reading.proofs.Places.{IsBandOf, IsOfPrecinct, bands_in, packets_own}

-- two contents that agree on the lines of a precinct have the same rows there
rows_one : (h : Header) (content other : Content) (band line column precinct : ℕ) → column < band_width_of h band → precinct_of h band line ≡ precinct → SamePrecinct h content other precinct
    → SameBandLine h content other band line → dequantised_rows h content band line column ≡ dequantised_rows h other band line column
rows_one h content other band line column precinct within here same one =
    ap (λ v. if nat_lt column (band_width_of h band) then v else pos 0)
    (ap (λ c. dequantised h.quant c (line_truncation h content band line) (content.value band line column)) (one.counts (column / 4) (omega (arith, within)))
    ∙ ap (λ t. dequantised h.quant (other.count band line (column / 4)) t (content.value band line column)) (truncation_at h content other band line precinct here same.q same.r)
    ∙ ap (λ v. dequantised h.quant (other.count band line (column / 4)) (line_truncation h other band line) v) (one.values column (omega (arith, within))))

-- what holds of all holds of one of them
all_at : {A : Type 0} (P : A → Type 0) (xs : List A) (k : ℕ) (d : A) → AllByRecursion P xs → k < length xs → P (get_or xs k d)
all_at P [] k d h there = absurd (omega (arith, there))
all_at P (x ∷ xs) zero d h there = h.0
all_at P (x ∷ xs) (suc k) d h there = all_at P xs k d h.1 (omega (arith, there))

all_has : {A : Type 0} (P : A → Type 0) (xs : List A) (x : A) → AllByRecursion P xs → Contains xs x → P x
all_has P xs x h has = subst P has.2 (all_at P xs has.0 x h has.1)

-- two contents that agree on all precincts have the same rows
pub within_one : (h : Header) (content other : Content) → IsAccepted h → AllByRecursion (λ slice. AllByRecursion (SamePrecinct h content other) (precincts_of h slice)) (upto (slice_count h))
    → SameRowsWithin h (dequantised_rows h content) (dequantised_rows h other)
within_one h content other accepted same band line column inside there within =
    rows_one h content other band line column precinct within here one (subst (SameBandLine h content other band) holds.line_is line_same)
  where
    found : (slice precinct number : ℕ) × HoldsLine h band line slice precinct number
        × ((s p n : ℕ) → HoldsLine h band line s p n → (s ≡ slice) × (p ≡ precinct) × (n ≡ number))
    found = line_in_one_packet h band line (accepted_ranges h accepted).0 inside there

    precinct : ℕ
    precinct = found.1

    holds : HoldsLine h band line found.0 found.1 found.2
    holds = found.3

    one : SamePrecinct h content other found.1
    one = all_has (SamePrecinct h content other) (precincts_of h found.0) found.1
        (all-range (λ slice. AllByRecursion (SamePrecinct h content other) (precincts_of h slice)) 0 (slice_count h) same found.0 (omega arith) (omega (arith, holds.slice_there))) holds.precinct_in

    line_same : SameBandLine h content other band (packet_at h found.1 found.2).line
    line_same = all_has (λ band. SameBandLine h content other band (packet_at h found.1 found.2).line) (packet_bands h (packet_at h found.1 found.2)) band
        (all_at (λ place. AllByRecursion (λ band. SameBandLine h content other band place.line) (packet_bands h place)) (packets_of h found.1) found.2 no_place one.lines holds.number_there) holds.band_in

    own : IsOfPrecinct h found.1 (packet_at h found.1 found.2)
    own = all_at (IsOfPrecinct h found.1) (packets_of h found.1) found.2 no_place (packets_own h found.1 (omega (arith, accepted.geometry.nly))) holds.number_there

    here : precinct_of h band line ≡ found.1
    here = ap (precinct_of h band) (sym holds.line_is) ∙ own band (all_has (IsBandOf h (packet_at h found.1 found.2)) (packet_bands h (packet_at h found.1 found.2)) band (bands_in h (packet_at h found.1 found.2) (IsBandOf h (packet_at h found.1 found.2)) (λ b is. is)) holds.band_in)
