-- Sizes and the choice hang on magnitudes alone.
use Rattle.std.proofs.Common.{◌≡◌, ℕ, ◌+◌, ◌*◌, ◌/◌, ◌^◌, List, [], ◌∷◌, length, refl, sym, ap, ◌∙◌, length-append}
use Rattle.std.specs.Prelude.{Bool, true, false, nat_lt, nat_le, ◌&&◌, if◌then◌else◌, ℤ, pos, unsigned_abs, Some, Result, Ok, Err, unwrap_or, find}
use Rattle.std.specs.List.{flat_map, list_all, sum_by}
use Rattle.std.proofs.lemmas.List.Concat.{length-flat_map}
use Rattle.xs_lists.specs.Bits.{bytes_for}
use Rattle.xs_lists.specs.Packing.{packed}
use Rattle.xs_lists.proofs.Packing.{length-packed}
use Rattle.xs_layout.specs.Geometry.{PacketPlace}
use Rattle.xs_layout.specs.declared.Candidate.{Candidate}
use Rattle.xs_layout.specs.declared.Quant.{Quant}
use Rattle.xs_params.specs.declared.header.Header.{Header}
use Rattle.xs_faults.specs.declared.Budget.{Budget}
use Rattle.xs_signal.specs.Quantiser.{with_sign_of, quantised, sent}
use Rattle.xs_signal.proofs.Magnitudes.{size_signed}
use Rattle.xs_spelling.specs.Counts.{Line, flag_bits}
use Rattle.xs_spelling.specs.Data.{sign_bits}
use Rattle.xs_spelling.specs.Written.{written_flag, line_count_bits, line_data_bits}
use Rattle.xs_spelling.proofs.Sized.{lines_sized}
use Rattle.xs_spelling.proofs.Resigned.{signs_size-same}
use Rattle.xs_params.specs.Geometry.{bands_of, packet_bands, packets_of, precincts_of}
use Rattle.xs_grammar.specs.Packet.{packet_fields}
use Rattle.xs_grammar.specs.Precinct.{Content}
use Rattle.xs_grammar.specs.Coded.{fields_fit, counts_part, data_part, signs_part, packet_line, packet_bytes, packet_fits, no_filler, packets_bytes, precinct_body, precinct_fits, slice_fits}
use Rattle.xs_grammar.specs.Sizes.{head_size, packet_size, precinct_size, slice_size}
use Rattle.xs_grammar.proofs.Sizes.{length-lines_bytes}
use Rattle.xs_rate.specs.Coefficients.{Rows}
use Rattle.xs_rate.specs.Content.{planes_of, cut_of}
use Rattle.xs_rate.specs.Chosen.{mode_of, content_at, size_at, fits_at, candidates, coarsest, chosen_candidate}
use Rattle.xs_rate.specs.Choice.{choice_of, magnitudes_of, ChosenByMagnitudes}
use Rattle.xs_rate.proofs.Narrow.{sum_by-same}

-- Lists

list_all-same : {A : Type 0} (f g : A → Bool) → ((x : A) → f x ≡ g x) → (xs : List A) → list_all f xs ≡ list_all g xs
list_all-same f g h [] = refl
list_all-same f g h (x ∷ xs) = ap (λ b. b && list_all f xs) (h x) ∙ ap (λ b. g x && b) (list_all-same f g h xs)

find-same : {A : Type 0} (f g : A → Bool) → ((x : A) → f x ≡ g x) → (xs : List A) → find f xs ≡ find g xs
find-same f g h [] = refl
find-same f g h (x ∷ xs) = ap (λ (b : Bool). if b then Some x else find f xs) (h x) ∙ ap (λ r. if g x then Some x else r) (find-same f g h xs)

-- A content with other numbers of the same magnitudes

abbrev with_values : Content → (ℕ → ℕ → ℕ → ℤ) → Content
with_values content value = record { q = content.q; r = content.r; count = content.count; value = value }

abbrev SameSizes : Content → (ℕ → ℕ → ℕ → ℤ) → Type 0
SameSizes content value = (band line column : ℕ) → unsigned_abs (value band line column) ≡ unsigned_abs (content.value band line column)

abbrev datas : Header → List ℕ → (ℕ → Line) → ℕ
datas h bands line = sum_by (λ band. length (line_data_bits h.signs_apart (line band))) bands

abbrev signs : List ℕ → (ℕ → Line) → ℕ
signs bands line = sum_by (λ band. length (sign_bits (line band))) bands

datas_same : (h : Header) (content : Content) (value : ℕ → ℕ → ℕ → ℤ) (mode : ℕ → ℕ) (place : PacketPlace) (bands : List ℕ)
    → datas h bands (packet_line h content mode place) ≡ datas h bands (packet_line h (with_values content value) mode place)
datas_same h content value mode place bands = sum_by-same (λ band. length (line_data_bits h.signs_apart (packet_line h content mode place band))) (λ band. length (line_data_bits h.signs_apart (packet_line h (with_values content value) mode place band)))
    (λ band. lines_sized.numbers h.signs_apart (packet_line h content mode place band) ∙ sym (lines_sized.numbers h.signs_apart (packet_line h (with_values content value) mode place band))) bands

signs_same : (h : Header) (content : Content) (value : ℕ → ℕ → ℕ → ℤ) (mode : ℕ → ℕ) (place : PacketPlace) (bands : List ℕ) → SameSizes content value
    → signs bands (packet_line h content mode place) ≡ signs bands (packet_line h (with_values content value) mode place)
signs_same h content value mode place bands same = sum_by-same (λ band. length (sign_bits (packet_line h content mode place band))) (λ band. length (sign_bits (packet_line h (with_values content value) mode place band)))
    (λ band. sym (signs_size-same (packet_line h content mode place band) (packet_line h (with_values content value) mode place band) refl (λ column _. same band place.line column))) bands

-- Sizes

packet_size_same : (h : Header) (content : Content) (value : ℕ → ℕ → ℕ → ℤ) (mode : ℕ → ℕ) → SameSizes content value → (place : PacketPlace)
    → packet_size h content mode place ≡ packet_size h (with_values content value) mode place
packet_size_same h content value mode same place =
    ap (λ n. before + bytes_for n + (if h.signs_apart then bytes_for (signs bands line) else 0)) (datas_same h content value mode place bands)
    ∙ ap (λ n. before + bytes_for (datas h bands other) + (if h.signs_apart then bytes_for n else 0)) (signs_same h content value mode place bands same)
  where
    bands : List ℕ
    bands = packet_bands h place

    line : ℕ → Line
    line = packet_line h content mode place

    other : ℕ → Line
    other = packet_line h (with_values content value) mode place

    before : ℕ
    before =
        head_size h
        + bytes_for (sum_by (λ band. length (flag_bits (line band) (written_flag (line band)))) bands)
        + bytes_for (sum_by (λ band. length (line_count_bits false (line band) (written_flag (line band)))) bands)

precinct_size_same : (h : Header) (content : Content) (value : ℕ → ℕ → ℕ → ℤ) (mode : ℕ → ℕ → ℕ) → SameSizes content value → (precinct : ℕ)
    → precinct_size h content mode precinct ≡ precinct_size h (with_values content value) mode precinct
precinct_size_same h content value mode same precinct =
    ap (λ n. bytes_for (40 + 2 * bands_of h) + n) (sum_by-same (packet_size h content (mode precinct)) (packet_size h (with_values content value) (mode precinct)) (packet_size_same h content value (mode precinct) same) (packets_of h precinct))

slice_size_same : (h : Header) (content : Content) (value : ℕ → ℕ → ℕ → ℤ) (mode : ℕ → ℕ → ℕ) → SameSizes content value → (slice : ℕ)
    → slice_size h content mode slice ≡ slice_size h (with_values content value) mode slice
slice_size_same h content value mode same slice =
    ap (λ n. 6 + n) (sum_by-same (precinct_size h content mode) (precinct_size h (with_values content value) mode) (precinct_size_same h content value mode same) (precincts_of h slice))

-- Fields

part_size : (f : ℕ → List ℕ) (bands : List ℕ) → length (packed (flat_map f bands)) ≡ bytes_for (sum_by (λ band. length (f band)) bands)
part_size f bands = length-packed (flat_map f bands) ∙ ap bytes_for (length-flat_map f bands)

signs_length : (apart : Bool) (bands : List ℕ) (line : ℕ → Line) → length (signs_part apart bands line) ≡ (if apart then bytes_for (signs bands line) else 0)
signs_length true bands line = part_size (λ band. sign_bits (line band)) bands
signs_length false bands line = refl

packet_fits_same : (h : Header) (content : Content) (value : ℕ → ℕ → ℕ → ℤ) (mode : ℕ → ℕ) → SameSizes content value → (place : PacketPlace)
    → packet_fits h content mode place ≡ packet_fits h (with_values content value) mode place
packet_fits_same h content value mode same place =
    ap (λ n. fields_fit (packet_fields h.long_heads false n (length (counts_part bands line)) (length (signs_part h.signs_apart bands line)))) data_same
    ∙ ap (λ n. fields_fit (packet_fields h.long_heads false (length (data_part h.signs_apart bands other)) (length (counts_part bands line)) n)) sign_same
  where
    bands : List ℕ
    bands = packet_bands h place

    line : ℕ → Line
    line = packet_line h content mode place

    other : ℕ → Line
    other = packet_line h (with_values content value) mode place

    data_same : length (data_part h.signs_apart bands line) ≡ length (data_part h.signs_apart bands other)
    data_same = part_size (λ band. line_data_bits h.signs_apart (line band)) bands ∙ ap bytes_for (datas_same h content value mode place bands) ∙ sym (part_size (λ band. line_data_bits h.signs_apart (other band)) bands)

    sign_same : length (signs_part h.signs_apart bands line) ≡ length (signs_part h.signs_apart bands other)
    sign_same =
        signs_length h.signs_apart bands line
        ∙ ap (λ n. if h.signs_apart then bytes_for n else 0) (signs_same h content value mode place bands same)
        ∙ sym (signs_length h.signs_apart bands other)

packets_same : (h : Header) (content : Content) (value : ℕ → ℕ → ℕ → ℤ) (mode : ℕ → ℕ → ℕ) → SameSizes content value → (precinct : ℕ)
    → length (packets_bytes h content mode precinct) ≡ length (packets_bytes h (with_values content value) mode precinct)
packets_same h content value mode same precinct =
    length-flat_map (packet_bytes h content (mode precinct)) (packets_of h precinct)
    ∙ sum_by-same (λ place. length (packet_bytes h content (mode precinct) place)) (λ place. length (packet_bytes h (with_values content value) (mode precinct) place))
    (λ place. length-lines_bytes h (packet_bands h place) (packet_line h content (mode precinct) place)
    ∙ packet_size_same h content value (mode precinct) same place
    ∙ sym (length-lines_bytes h (packet_bands h place) (packet_line h (with_values content value) (mode precinct) place))) (packets_of h precinct)
    ∙ sym (length-flat_map (packet_bytes h (with_values content value) (mode precinct)) (packets_of h precinct))

body_same : (h : Header) (content : Content) (value : ℕ → ℕ → ℕ → ℤ) (mode : ℕ → ℕ → ℕ) → SameSizes content value → (precinct : ℕ)
    → length (precinct_body h content mode no_filler precinct) ≡ length (precinct_body h (with_values content value) mode no_filler precinct)
body_same h content value mode same precinct =
    length-append (packets_bytes h content mode precinct) []
    ∙ ap (λ n. n + 0) (packets_same h content value mode same precinct)
    ∙ sym (length-append (packets_bytes h (with_values content value) mode precinct) [])

precinct_fits_same : (h : Header) (content : Content) (value : ℕ → ℕ → ℕ → ℤ) (mode : ℕ → ℕ → ℕ) → SameSizes content value → (precinct : ℕ)
    → precinct_fits h content mode no_filler precinct ≡ precinct_fits h (with_values content value) mode no_filler precinct
precinct_fits_same h content value mode same precinct =
    ap (λ b. b && nat_lt (length (precinct_body h content mode no_filler precinct)) (2 ^ 24))
    (list_all-same (packet_fits h content (mode precinct)) (packet_fits h (with_values content value) (mode precinct)) (packet_fits_same h content value (mode precinct) same) (packets_of h precinct))
    ∙ ap (λ n. list_all (packet_fits h (with_values content value) (mode precinct)) (packets_of h precinct) && nat_lt n (2 ^ 24)) (body_same h content value mode same precinct)

slice_fits_same : (h : Header) (content : Content) (value : ℕ → ℕ → ℕ → ℤ) (mode : ℕ → ℕ → ℕ) → SameSizes content value → (slice : ℕ)
    → slice_fits h content mode no_filler slice ≡ slice_fits h (with_values content value) mode no_filler slice
slice_fits_same h content value mode same slice =
    list_all-same (precinct_fits h content mode no_filler) (precinct_fits h (with_values content value) mode no_filler) (precinct_fits_same h content value mode same) (precincts_of h slice)

-- Rows and their magnitudes

sent_size : (kind : Quant) (count cut : ℕ) (z : ℤ) → unsigned_abs (sent kind count cut (pos (unsigned_abs z))) ≡ unsigned_abs (sent kind count cut z)
sent_size kind count cut z = cases (nat_lt cut count)
  where
    cases : (test : Bool)
        → unsigned_abs (if test then with_sign_of (pos (unsigned_abs z)) (quantised kind count cut (unsigned_abs z)) else pos 0)
        ≡ unsigned_abs (if test then with_sign_of z (quantised kind count cut (unsigned_abs z)) else pos 0)
    cases true = size_signed (pos (unsigned_abs z)) (quantised kind count cut (unsigned_abs z)) ∙ sym (size_signed z (quantised kind count cut (unsigned_abs z)))
    cases false = refl

abbrev values : Header → Rows → Candidate → ℕ → ℕ → ℕ → ℤ
values h rows candidate = (content_at h (magnitudes_of rows) candidate).value

values_same : (h : Header) (rows : Rows) (candidate : Candidate) → SameSizes (content_at h rows candidate) (values h rows candidate)
values_same h rows candidate band line column =
    sent_size h.quant (planes_of (rows band line) (column / 4)) (cut_of h (λ _. candidate) band line) (rows band line column)

size_same : (h : Header) (rows : Rows) (slice : ℕ) (candidate : Candidate) → size_at h rows slice candidate ≡ size_at h (magnitudes_of rows) slice candidate
size_same h rows slice candidate = slice_size_same h (content_at h rows candidate) (values h rows candidate) (mode_of h (content_at h rows candidate)) (values_same h rows candidate) slice

fits_same : (h : Header) (rows : Rows) (share slice : ℕ) (candidate : Candidate) → fits_at h rows share slice candidate ≡ fits_at h (magnitudes_of rows) share slice candidate
fits_same h rows share slice candidate =
    ap (λ n. nat_le n share && slice_fits h content mode no_filler slice) (size_same h rows slice candidate)
    ∙ ap (λ b. nat_le (size_at h (magnitudes_of rows) slice candidate) share && b) (slice_fits_same h content (values h rows candidate) mode (values_same h rows candidate) slice)
  where
    content : Content
    content = content_at h rows candidate

    mode : ℕ → ℕ → ℕ
    mode = mode_of h content

chosen_same : (h : Header) (rows : Rows) (share slice : ℕ) → chosen_candidate h rows share slice ≡ chosen_candidate h (magnitudes_of rows) share slice
chosen_same h rows share slice = ap (λ found. unwrap_or found (coarsest h)) (find-same (fits_at h rows share slice) (fits_at h (magnitudes_of rows) share slice) (fits_same h rows share slice) (candidates h))

choice_same : (h : Header) (rows : Rows) (share slice : ℕ) → choice_of h rows share slice ≡ choice_of h (magnitudes_of rows) share slice
choice_same h rows share slice =
    ap (λ n. answer n (chosen_candidate h rows share slice)) (size_same h rows slice (coarsest h))
    ∙ ap (λ c. answer (size_at h (magnitudes_of rows) slice (coarsest h)) c) (chosen_same h rows share slice)
  where
    answer : ℕ → Candidate → Result Candidate Budget
    answer n c = if nat_lt share n then Err (record { slice = slice; size = n; share = share }) else Ok c

pub chosen_by_magnitudes : ChosenByMagnitudes
chosen_by_magnitudes h rows share slice precinct candidate = (
  choice_same h rows share slice,
  precinct_size_same h content (values h rows candidate) mode (values_same h rows candidate) precinct,
  precinct_fits_same h content (values h rows candidate) mode (values_same h rows candidate) precinct,
)
  where
    content : Content
    content = content_at h rows candidate

    mode : ℕ → ℕ → ℕ
    mode = mode_of h content
