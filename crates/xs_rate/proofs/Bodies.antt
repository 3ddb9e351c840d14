-- The packets of a precinct have few bytes; and at the chosen candidate each length of a slice has room in its field.
use Rattle.std.proofs.Common.{◌≡◌, ℕ, ◌+◌, ◌*◌, ◌^◌, ◌≤◌, List, [], ◌∷◌, length, refl, arith}
use Rattle.std.specs.Prelude.{Bool, true, false, if◌then◌else◌, unwrap_or, find, Some, nat_le}
use Rattle.std.specs.List.{sum_by, AllByRecursion, Contains}
use Rattle.std.proofs.Math.Nat.{suc-mul}
use Rattle.std.proofs.lemmas.Bool.{and_parts, and_from, ltb-false, le-leb}
use Rattle.std.proofs.lemmas.List.Sums.{sum_by-cons}
use Rattle.xs_lists.specs.Bits.{bytes_for}
use Rattle.xs_layout.specs.declared.Format.{Format}
use Rattle.xs_layout.specs.declared.Format.TheVariants.{Mono, C422, C444}
use Rattle.xs_layout.specs.Geometry.{components_of, groups_of, PacketPlace, packet_places_of}
use Rattle.xs_layout.specs.declared.Candidate.{Candidate}
use Rattle.xs_layout.specs.declared.Weight.{Weight}
use Rattle.xs_params.specs.declared.header.Header.{Header}
use Rattle.xs_params.specs.Accepted.{IsGeometry}
use Rattle.xs_params.specs.Geometry.{band_width_of, packet_bands, packets_of, has_line}
use Rattle.xs_spelling.specs.Counts.{Line, flag_bits}
use Rattle.xs_spelling.specs.Data.{sign_bits}
use Rattle.xs_spelling.specs.Written.{written_flag, line_count_bits, line_data_bits}
use Rattle.xs_spelling.proofs.Bounded.{kept-most, counts-most, data-most, signs-most, flags-most}
use Rattle.xs_grammar.specs.Precinct.{Content}
use Rattle.xs_grammar.specs.Coded.{packet_line}
use Rattle.xs_grammar.specs.Sizes.{packet_size}
use Rattle.xs_rate.specs.Coefficients.{Rows}
use Rattle.xs_rate.specs.Content.{greatest_of}
use Rattle.xs_rate.specs.Chosen.{content_at, candidates, coarsest, fits_at, fields_fit_at, size_at, is_over, chosen_candidate}
use Rattle.xs_rate.specs.Choice.{BodiesFit, ChosenFits}
use Rattle.xs_rate.specs.Laws.{AreSmall, HasCountsInRange}
use Rattle.xs_rate.proofs.AllCut.{all_cut_fits}
use Rattle.xs_rate.proofs.Coarsest.{coarsest_cuts_all}
use Rattle.xs_rate.proofs.Digits.{digits-most}
use Rattle.xs_rate.proofs.Fields.{can_write}
use Rattle.xs_rate.proofs.Packets.{places-most, sum-most, all-contained}
use Rattle.xs_rate.proofs.Widths.{narrow_packets}

counts_in_range : (h : Header) (rows : Rows) (candidate : Candidate) → HasCountsInRange h (content_at h rows candidate)
counts_in_range h rows candidate = record {
  most = λ band line group. omega (arith, digits-most (greatest_of (rows band line) group));
  cut = λ band line group. omega arith;
}

packet_most : (h : Header) (content : Content) (mode : ℕ → ℕ) (place : PacketPlace) → h.long_heads ≡ false → HasCountsInRange h content
    → sum_by (λ band. groups_of (band_width_of h band)) (packet_bands h place) ≤ 6157 → packet_size h content mode place ≤ 2 ^ 20
packet_most h content mode place short range narrow = total h.signs_apart h.long_heads short
  where
    bands : List ℕ
    bands = packet_bands h place

    line : ℕ → Line
    line = packet_line h content mode place

    width : ℕ → ℕ
    width band = groups_of (band_width_of h band)

    all_counts : sum_by (λ band. length (line_count_bits false (line band) (written_flag (line band)))) bands ≤ sum_by width bands * 30
    all_counts = sum-most (λ band. length (line_count_bits false (line band) (written_flag (line band)))) width 30
        (λ band. counts-most (line band) (written_flag (line band)) (λ group inside. can_write h content mode place range band group)) bands

    all_numbers : sum_by (λ band. length (line_data_bits h.signs_apart (line band))) bands ≤ sum_by width bands * 64
    all_numbers = sum-most (λ band. length (line_data_bits h.signs_apart (line band))) width 64 (λ band. data-most h.signs_apart (line band) (λ group inside. range.most band place.line group)) bands

    all_signs : sum_by (λ band. length (sign_bits (line band))) bands ≤ sum_by width bands * 4
    all_signs = sum-most (λ band. length (sign_bits (line band))) width 4 (λ band. signs-most (line band)) bands

    all_flags : sum_by (λ band. length (flag_bits (line band) (written_flag (line band)))) bands ≤ sum_by width bands * 1
    all_flags = sum-most (λ band. length (flag_bits (line band) (written_flag (line band)))) width 1 (λ band. omega (arith, flags-most (line band) (written_flag (line band)))) bands

    total : (test long : Bool) → long ≡ false → (if long then 7 else 5)
        + bytes_for (sum_by (λ band. length (flag_bits (line band) (written_flag (line band)))) bands)
        + bytes_for (sum_by (λ band. length (line_count_bits false (line band) (written_flag (line band)))) bands)
        + bytes_for (sum_by (λ band. length (line_data_bits h.signs_apart (line band))) bands)
        + (if test then bytes_for (sum_by (λ band. length (sign_bits (line band))) bands) else 0) ≤ 2 ^ 20
    total true true e = omega (arith, all_flags, all_counts, all_numbers, all_signs, narrow)
    total true false e = omega (arith, all_flags, all_counts, all_numbers, all_signs, narrow)
    total false true e = omega (arith, all_flags, all_counts, all_numbers, narrow)
    total false false e = omega (arith, all_flags, all_counts, all_numbers, narrow)

sum_most : (f : PacketPlace → ℕ) (most : ℕ) (places : List PacketPlace) → AllByRecursion (λ place. f place ≤ most) places → sum_by f places ≤ length places * most
sum_most f most [] h = omega arith
sum_most f most (place ∷ places) h = omega (arith, sum_by-cons f place places, h.0, sum_most f most places h.1, suc-mul (length places) most)

pub bodies_fit : BodiesFit
bodies_fit h rows candidate mode precinct geometry short small = record {
  packet = each;
  whole = omega (arith, sum_most (packet_size h (content_at h rows candidate) (mode precinct)) (2 ^ 20) (packets_of h precinct) (all-contained _ (packets_of h precinct) each), kept-most (has_line h) (packet_places_of h.nlx h.nly precinct), places-most h.nlx h.nly precinct (omega (arith, geometry.nly)));
}
  where
    each : (place : PacketPlace) → Contains (packets_of h precinct) place → packet_size h (content_at h rows candidate) (mode precinct) place ≤ 2 ^ 20
    each place there = packet_most h (content_at h rows candidate) (mode precinct) place short (counts_in_range h rows candidate)
        (narrow_packets h geometry.shape.width.1 geometry.nlx.1 (omega (arith, geometry.nly)) precinct place there)

-- what is found passes
found_passes : {A : Type 0} (test : A → Bool) (xs : List A) (last : A) → test last ≡ true → test (unwrap_or (find test xs) last) ≡ true
found_passes test [] last p = p
found_passes {A} test (x ∷ xs) last p = cases (test x) refl (found_passes test xs last p)
  where
    cases : (t : Bool) → test x ≡ t → test (unwrap_or (find test xs) last) ≡ true → test (unwrap_or (if t then Some x else find test xs) last) ≡ true
    cases true e rest = e
    cases false e rest = rest

some_bands : (format : Format) (n : ℕ) → 1 ≤ (n + 1) * components_of format
some_bands Mono n = omega arith
some_bands C422 n = omega arith
some_bands C444 n = omega arith

-- the chosen candidate passes the test
pub chosen_passes : (h : Header) (rows : Rows) (share slice : ℕ) → IsGeometry h → h.long_heads ≡ false → AllByRecursion (λ (w : Weight). w.gain ≤ 15) h.weights → AreSmall rows
    → is_over h rows share slice ≡ false → fits_at h rows share slice (chosen_candidate h rows share slice) ≡ true
chosen_passes h rows share slice geometry short gains small within = found_passes (fits_at h rows share slice) (candidates h) (coarsest h) last
  where
    last : fits_at h rows share slice (coarsest h) ≡ true
    last = and_from (nat_le (size_at h rows slice (coarsest h)) share) (fields_fit_at h rows slice (coarsest h)) (le-leb _ _ (ltb-false share (size_at h rows slice (coarsest h)) within))
        (all_cut_fits h (content_at h rows (coarsest h)) _ slice short (omega (arith, geometry.nly)) (narrow_packets h geometry.shape.width.1 geometry.nlx.1 (omega (arith, geometry.nly)))
        (coarsest_cuts_all h rows (some_bands h.shape.format (2 * h.nly + h.nlx)) gains small))

pub chosen_fits : ChosenFits
chosen_fits h rows share slice geometry short gains small within =
    (and_parts (nat_le (size_at h rows slice chosen) share) (fields_fit_at h rows slice chosen) (chosen_passes h rows share slice geometry short gains small within)).1
  where
    chosen : Candidate
    chosen = chosen_candidate h rows share slice
