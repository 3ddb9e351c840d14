-- The precincts of a slice, packet by packet, and the slice, precinct by precinct.
use Rattle.std.proofs.Common.{◌≡◌, ℕ, ◌+◌, ◌-◌, ◌*◌, ◌/◌, ◌^◌, ◌<◌, ◌≤◌, min, List, length, drop, sum_by, get_or, refl, sym, ap, subst, ◌∙◌, arith}
use Rattle.std.specs.Prelude.{Bool, true, false, nat_le, nat_lt, ◌&&◌}
use Rattle.std.specs.List.{list_all, range_with_len, Contains}
use Rattle.std.proofs.lemmas.Bool.{leb-false, leb-true}
use Rattle.std.proofs.lemmas.List.{drop_more}
use Rattle.std.proofs.lemmas.List.Sums.{sum_by-cons}
use Rattle.xs_lists.proofs.Ranges.{range_first}
use Rattle.xs_layout.specs.declared.Candidate.{Candidate}
use Rattle.xs_params.specs.declared.header.Header.{Header}
use Rattle.xs_params.specs.Accepted.{IsGeometry}
use Rattle.xs_params.specs.Rows.{Rows}
use Rattle.xs_params.specs.Geometry.{bands_of, precinct_count, precincts_of}
use Rattle.xs_geometry.specs.Places.{packet_at}
use Rattle.xs_geometry.specs.SliceLines.{BandLines, HasLine, lines_at, rows_held}
use Rattle.xs_geometry.proofs.PacketLines.{slice_has_packets}
use Rattle.xs_geometry.proofs.PlaceFacts.{in_range}
use Rattle.xs_rate.specs.Choice.{precinct_fits_at, precinct_size_at}
use Rattle.xs_sizes.specs.Precincts.{IsPacketAt, IsPrecinctKept}
use Rattle.xs_sizes.specs.Measured.{IsCoding, IsPacketOf}
use Rattle.xs_sizes.specs.Packed.{packets_fit_at, packets_size_at}
use Rattle.xs_sizes.specs.declared.packets.Coding.{Coding}
use Rattle.xs_sizes.specs.declared.precincts.PacketBands.{PacketBands}
use Rattle.xs_sizes.specs.declared.precincts.PrecinctCounts.{PrecinctCounts}
use Rattle.xs_sizes.proofs.FirstBand.{precinct_line, some_bands}
use Rattle.xs_sizes.proofs.PacketSizes.{body_size}

-- What is kept of a precinct of the slice

pub kept_there : (slice : ℕ) (bands : List BandLines) (precinct : ℕ) (coding : Coding) → IsCoding slice bands coding → Contains (precincts_of coding.geometry.now slice) precinct
    → (coding.counts.now.first ≤ precinct) × (precinct < coding.counts.now.first + length coding.counts.now.precincts.items)
kept_there slice bands precinct coding known there =
    let lines = known.counted.lines in
    let counts = known.counted.counted in
    let place = precinct_line coding.geometry.now slice precinct there in
    let some : 0 < bands_of coding.geometry.now = omega (arith, some_bands coding.geometry.now) in
    let first = lines.first 0 some in
    let end = lines.lines 0 some in
    (omega (arith, place.0, first, counts.first), omega (arith, place.1, counts.precincts.count, counts.first, first, end))

pub kept_is : (slice : ℕ) (bands : List BandLines) (precinct : ℕ) (coding : Coding) (none : PrecinctCounts) → IsCoding slice bands coding → Contains (precincts_of coding.geometry.now slice) precinct
    → IsPrecinctKept coding.geometry.now (rows_held bands) precinct (get_or coding.counts.now.precincts.items (precinct - coding.counts.now.first) none)
kept_is slice bands precinct coding none known there =
    let place = kept_there slice bands precinct coding known there in
    let here : (lines_at bands 0).first + (precinct - coding.counts.now.first) ≡ precinct = omega (arith, place.0, known.counted.counted.first) in
    subst (λ p. IsPrecinctKept coding.geometry.now (rows_held bands) p (get_or coding.counts.now.precincts.items (precinct - coding.counts.now.first) none)) here
    (known.counted.counted.precincts.each (precinct - coding.counts.now.first) none (omega (arith, place.0, place.1)))

-- the same of what a call says is kept
pub kept_seen : (slice : ℕ) (bands : List BandLines) (precinct : ℕ) (coding : Coding) (kept : PrecinctCounts) → ((none : PrecinctCounts) → kept ≡ get_or coding.counts.now.precincts.items (precinct - coding.counts.now.first) none) → IsCoding slice bands coding
    → Contains (precincts_of coding.geometry.now slice) precinct → IsPrecinctKept coding.geometry.now (rows_held bands) precinct kept
kept_seen slice bands precinct coding kept is known there = subst (IsPrecinctKept coding.geometry.now (rows_held bands) precinct) (sym (is kept)) (kept_is slice bands precinct coding kept known there)

-- its packets have their lines in the slice
pub packet_there : (slice : ℕ) (bands : List BandLines) (precinct number : ℕ) (coding : Coding) (kept : PrecinctCounts) (packet none : PacketBands) → IsGeometry coding.geometry.now → IsCoding slice bands coding
    → Contains (precincts_of coding.geometry.now slice) precinct → IsPrecinctKept coding.geometry.now (rows_held bands) precinct kept → number < length kept.packets.items → packet ≡ get_or kept.packets.items number none
    → IsPacketOf slice bands precinct (packet_at coding.geometry.now precinct number) coding kept packet
packet_there slice bands precinct number coding kept packet none ranges known there is inside e = record {
  coded = known;
  at = at;
  modes = is.modes;
  lines = λ band low high. subst (λ line. HasLine bands band line) (sym at.line)
      (slice_has_packets g slice bands precinct number band ranges known.counted.lines there (omega (arith, inside, is.packets.count))
      (subst (λ l. Contains l band) (sym at.bands) (in_range packet.first (packet.end - packet.first) band low (omega (arith, high, at.order)))));
}
  where
    g : Header
    g = coding.geometry.now

    at : IsPacketAt g (packet_at g precinct number) packet
    at = subst (IsPacketAt g (packet_at g precinct number)) (sym e) (is.packets.each number none inside)

-- Packet after packet

pub sum_rest : {A : Type 0} (f : A → ℕ) (xs : List A) (k : ℕ) (d : A) → k < length xs → sum_by f (drop k xs) ≡ f (get_or xs k d) + sum_by f (drop (k + 1) xs)
sum_rest f xs k d inside = ap (sum_by f) (drop_more xs k d inside) ∙ sum_by-cons f (get_or xs k d) (drop (k + 1) xs)

pub all_rest : {A : Type 0} (test : A → Bool) (xs : List A) (k : ℕ) (d : A) → k < length xs → list_all test (drop k xs) ≡ (test (get_or xs k d) && list_all test (drop (k + 1) xs))
all_rest test xs k d inside = ap (list_all test) (drop_more xs k d inside)

and_assoc : (a b c : Bool) → ((a && b) && c) ≡ (a && (b && c))
and_assoc true b c = refl
and_assoc false b c = refl

pub and_true : (a : Bool) → (a && true) ≡ a
and_true true = refl
and_true false = refl

-- one more of a list of which all are to pass
pub all_more : (so_far own next rest before whole : Bool) (test : Bool) → next ≡ (so_far && own) → own ≡ test → before ≡ (test && rest) → (so_far && before) ≡ whole → (next && rest) ≡ whole
all_more so_far own next rest before whole test e is cut known =
    ap (λ b. b && rest) e ∙ and_assoc so_far own rest ∙ ap (λ b. so_far && (b && rest)) is ∙ ap (λ b. so_far && b) (sym cut) ∙ known

-- A precinct

pub precinct_sized : (h : Header) (rows : Rows) (candidate : Candidate) (precinct head bytes : ℕ) → head ≡ (40 + 2 * bands_of h + 7) / 8 → bytes ≡ packets_size_at h rows candidate precinct → head + bytes ≡ precinct_size_at h rows candidate precinct
precinct_sized h rows candidate precinct head bytes p q = ap (λ n. n + bytes) p ∙ ap (λ n. (40 + 2 * bands_of h + 7) / 8 + n) q

pub precinct_fitting : (h : Header) (rows : Rows) (candidate : Candidate) (precinct bytes : ℕ) (fits : Bool) → fits ≡ packets_fit_at h rows candidate precinct → bytes ≡ packets_size_at h rows candidate precinct
    → (fits && nat_lt bytes (2 ^ 24)) ≡ precinct_fits_at h rows candidate precinct
precinct_fitting h rows candidate precinct bytes fits p q = ap (λ b. b && nat_lt bytes (2 ^ 24)) p ∙ ap (λ n. packets_fit_at h rows candidate precinct && nat_lt n (2 ^ 24)) (q ∙ sym (body_size h rows candidate precinct))

-- Precinct after precinct

pub precincts_are : (h : Header) (slice first end : ℕ) → first ≡ slice * h.hsl → end ≡ min ((slice + 1) * h.hsl) (precinct_count h) → range_with_len first (end - first) ≡ precincts_of h slice
precincts_are h slice first end p q = ap (λ n. range_with_len n (end - n)) p ∙ ap (λ n. range_with_len (slice * h.hsl) (n - slice * h.hsl)) q

pub precinct_in : (h : Header) (slice first end precinct : ℕ) → first ≡ slice * h.hsl → end ≡ min ((slice + 1) * h.hsl) (precinct_count h) → first ≤ precinct → precinct < end → Contains (precincts_of h slice) precinct
precinct_in h slice first end precinct p q low high = subst (λ l. Contains l precinct) (precincts_are h slice first end p q) (in_range first (end - first) precinct low (omega (arith, low, high)))

pub all_first : (test : ℕ → Bool) (k end : ℕ) → k < end → list_all test (range_with_len k (end - k)) ≡ (test k && list_all test (range_with_len (k + 1) (end - (k + 1))))
all_first test k end less = ap (list_all test) (range_first k end less)

-- one that does not fit, or that is over the share, tells that the whole does not
pub over_early : (fits rest whole : Bool) (bytes share left size : ℕ) → (fits && nat_le bytes share) ≡ false → bytes + left ≡ size → (fits && rest) ≡ whole → false ≡ (nat_le size share && whole)
over_early false rest whole bytes share left size e sizes all = sym (ap (λ b. nat_le size share && b) (sym all) ∙ none (nat_le size share))
  where
    none : (a : Bool) → (a && false) ≡ false
    none true = refl
    none false = refl
over_early true rest whole bytes share left size e sizes all = cases (nat_le size share) refl
  where
    cases : (test : Bool) → nat_le size share ≡ test → false ≡ (test && whole)
    cases false t = refl
    cases true t = absurd (omega (arith, leb-false bytes share e, leb-true size share t, sizes))

pub fits_last : (rest whole : Bool) (bytes share left size : ℕ) → rest ≡ true → left ≡ 0 → bytes + left ≡ size → rest ≡ whole → nat_le bytes share ≡ (nat_le size share && whole)
fits_last rest whole bytes share left size none empty sizes all =
    let same : bytes ≡ size = omega (arith, sizes, empty) in
    ap (λ n. nat_le n share) same ∙ sym (and_true (nat_le size share)) ∙ ap (λ b. nat_le size share && b) (sym none ∙ all)

-- one that fits
pub passes : (fits test : Bool) → (fits && test) ≡ true → fits ≡ true
passes true test e = refl
passes false test e = absurd (cc e)
