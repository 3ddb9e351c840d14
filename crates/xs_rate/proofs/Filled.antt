-- A slice that is filled has its share, and one that is not is the slice at its candidate.
use Rattle.std.proofs.Common.{◌≡◌, ℕ, zero, suc, ◌+◌, ◌-◌, ◌*◌, ◌/◌, ◌^◌, ◌<◌, ◌≤◌, List, [], ◌∷◌, ◌++◌, length, refl, ap, ◌∙◌, arith, length-append}
use Rattle.std.specs.Prelude.{Bool, true, false, IsTrue, nat_eq, nat_lt, ◌&&◌, if◌then◌else◌, min}
use Rattle.std.specs.List.{flat_map, list_all, sum_by, range_with_len}
use Rattle.std.proofs.Math.Nat.{le-div_iff_mul-le}
use Rattle.std.proofs.lemmas.Bool.{and_parts, and_from, eq-eqb, eqb-true, lt-ltb, false≢true}
use Rattle.std.proofs.lemmas.List.Sums.{sum_by-cons}
use Rattle.xs_layout.specs.declared.Candidate.{Candidate}
use Rattle.xs_params.specs.declared.header.Header.{Header}
use Rattle.xs_params.specs.Geometry.{packets_of, precinct_count, precincts_of, slice_count}
use Rattle.xs_grammar.specs.Precinct.{Content, precinct_fields}
use Rattle.xs_grammar.specs.Coded.{no_filler, field_bytes, packet_fits, precinct_body, precinct_bytes, precinct_fits, slice_bytes, slice_fits}
use Rattle.xs_grammar.specs.Slice.{slice_head}
use Rattle.xs_grammar.proofs.Sizes.{size_of_slice}
use Rattle.xs_rate.specs.Coefficients.{Rows}
use Rattle.xs_rate.specs.Chosen.{content_at, size_at, slice_at, mode_of}
use Rattle.xs_rate.specs.Choice.{filler_of, filled_slice_at, SlicesFilled}

-- of some numbers in a row the last alone counts
last_counts : (f : ℕ → ℕ) (first n more : ℕ) → ((k : ℕ) → k + 1 < first + suc n → f k ≡ 0) → f (first + n) ≡ more → sum_by f (range_with_len first (suc n)) ≡ more
last_counts f first zero more none last =
    let here : first + 0 ≡ first = omega arith in
    omega (arith, sum_by-cons f first [], last, ap f here)
last_counts f first (suc n) more none last =
    let next : first + 1 + n ≡ first + suc n = omega arith in
    omega (arith, sum_by-cons f first (range_with_len (first + 1) (suc n)), none first (omega arith), last_counts f (first + 1) n more (λ k low. none k (omega (arith, low))) (ap f next ∙ last))

filler_none : (h : Header) (rows : Rows) (share slice : ℕ) (candidate : Candidate) (precinct end : ℕ) → precinct + 1 < end → (if true && nat_eq (precinct + 1) end then share - size_at h rows slice candidate else 0) ≡ 0
filler_none h rows share slice candidate precinct end low = cases (nat_eq (precinct + 1) end) refl
  where
    cases : (test : Bool) → nat_eq (precinct + 1) end ≡ test → (if true && test then share - size_at h rows slice candidate else 0) ≡ 0
    cases false e = refl
    cases true e = let same = eqb-true (precinct + 1) end e in absurd (omega (arith, same, low))

filler_last : (h : Header) (rows : Rows) (share slice : ℕ) (candidate : Candidate) (precinct end : ℕ) → precinct + 1 ≡ end
    → (if true && nat_eq (precinct + 1) end then share - size_at h rows slice candidate else 0) ≡ share - size_at h rows slice candidate
filler_last h rows share slice candidate precinct end same = ap (λ (test : Bool). if true && test then share - size_at h rows slice candidate else 0) (eq-eqb (precinct + 1) end same)

filler_sum : (h : Header) (rows : Rows) (share slice : ℕ) (candidate : Candidate) → 1 ≤ h.hsl → slice * h.hsl < precinct_count h
    → sum_by (filler_of h rows share true slice candidate) (precincts_of h slice) ≡ share - size_at h rows slice candidate
filler_sum h rows share slice candidate some there =
    ap (λ n. sum_by (filler_of h rows share true slice candidate) (range_with_len (slice * h.hsl) n)) whole
    ∙ last_counts (filler_of h rows share true slice candidate) (slice * h.hsl) before (share - size_at h rows slice candidate)
    (λ k low. filler_none h rows share slice candidate k end (omega (arith, low, all)))
    (filler_last h rows share slice candidate (slice * h.hsl + before) end (omega (arith, all)))
  where
    end : ℕ
    end = min ((slice + 1) * h.hsl) (precinct_count h)

    next : (slice + 1) * h.hsl ≡ slice * h.hsl + h.hsl
    next = omega arith

    before : ℕ
    before = end - slice * h.hsl - 1

    whole : end - slice * h.hsl ≡ suc before
    whole = omega (arith, some, there, next)

    all : slice * h.hsl + suc before ≡ end
    all = omega (arith, some, there, next)

pub slices_filled : SlicesFilled
slices_filled h rows share slice candidate some there = record {
  exact = λ fits. whole (length (filled_slice_at h rows share true slice candidate)) (size_at h rows slice candidate) (sum_by (filler_of h rows share true slice candidate) (precincts_of h slice)) fits
      (size_of_slice h (content_at h rows candidate) (mode_of h (content_at h rows candidate)) (filler_of h rows share true slice candidate) slice) (filler_sum h rows share slice candidate some there);
  plain = refl;
}
  where
    whole : (all size more : ℕ) → size ≤ share → all ≡ size + more → more ≡ share - size → all ≡ share
    whole all size more fits p q = omega (arith, fits, p, q)

-- Sizes

zeros : (precincts : List ℕ) → sum_by no_filler precincts ≡ 0
zeros [] = refl
zeros (x ∷ xs) = omega (arith, sum_by-cons no_filler x xs, zeros xs)

size_is : (h : Header) (rows : Rows) (slice : ℕ) (candidate : Candidate) → length (slice_at h rows slice candidate) ≡ size_at h rows slice candidate
size_is h rows slice candidate =
    omega (arith, size_of_slice h (content_at h rows candidate) (mode_of h (content_at h rows candidate)) no_filler slice, zeros (precincts_of h slice))

-- a slice has a precinct
slice_begins : (h : Header) (slice : ℕ) → 1 ≤ h.hsl → slice < slice_count h → slice * h.hsl < precinct_count h
slice_begins h slice some inside =
    let next : slice + 1 ≤ (precinct_count h + h.hsl - 1) / h.hsl = omega (arith, inside) in
    let whole : (slice + 1) * h.hsl ≤ precinct_count h + h.hsl - 1 = (le-div_iff_mul-le some).0 next in
    let more : (slice + 1) * h.hsl ≡ slice * h.hsl + h.hsl = omega arith in
    omega (arith, whole, some, more)

-- the bytes of a slice at a candidate that is within the share
pub filled_size : (h : Header) (rows : Rows) (share slice : ℕ) (candidate : Candidate) (fill : Bool) → 1 ≤ h.hsl → slice < slice_count h → size_at h rows slice candidate ≤ share
    → (length (filled_slice_at h rows share fill slice candidate) ≤ share) × (IsTrue fill → length (filled_slice_at h rows share fill slice candidate) ≡ share)
filled_size h rows share slice candidate true some inside within =
    let whole = (slices_filled h rows share slice candidate some (slice_begins h slice some inside)).exact within in
    (omega (arith, whole), λ _. whole)
filled_size h rows share slice candidate false some inside within = (omega (arith, size_is h rows slice candidate, within), λ fill. absurd (false≢true fill))

-- Fields

-- what fits without filler fits with it, where all the bytes have room in the field of a precinct's size
precincts_fit : (h : Header) (content : Content) (mode : ℕ → ℕ → ℕ) (filler : ℕ → ℕ) (precincts : List ℕ) → list_all (precinct_fits h content mode no_filler) precincts ≡ true
    → length (flat_map (precinct_bytes h content mode filler) precincts) < 2 ^ 24 → list_all (precinct_fits h content mode filler) precincts ≡ true
precincts_fit h content mode filler [] fits small = refl
precincts_fit h content mode filler (x ∷ xs) fits small =
    and_from (precinct_fits h content mode filler x) (list_all (precinct_fits h content mode filler) xs)
    (and_from (list_all (packet_fits h content (mode x)) (packets_of h x)) (nat_lt (length body) (2 ^ 24)) packets.0 (lt-ltb (length body) (2 ^ 24) room.0))
    (precincts_fit h content mode filler xs parts.1 room.1)
  where
    body : List ℕ
    body = precinct_body h content mode filler x

    head : List ℕ
    head = field_bytes (precinct_fields h content x (length body) (mode x))

    parts : (precinct_fits h content mode no_filler x ≡ true) × (list_all (precinct_fits h content mode no_filler) xs ≡ true)
    parts = and_parts (precinct_fits h content mode no_filler x) (list_all (precinct_fits h content mode no_filler) xs) fits

    packets : (list_all (packet_fits h content (mode x)) (packets_of h x) ≡ true) × (nat_lt (length (precinct_body h content mode no_filler x)) (2 ^ 24) ≡ true)
    packets = and_parts (list_all (packet_fits h content (mode x)) (packets_of h x)) (nat_lt (length (precinct_body h content mode no_filler x)) (2 ^ 24)) parts.0

    bound : (all one rest front back : ℕ) → all ≡ one + rest → one ≡ front + back → all < 2 ^ 24 → (back < 2 ^ 24) × (rest < 2 ^ 24)
    bound all one rest front back p q r = (omega (arith, p, q, r), omega (arith, p, q, r))

    room : (length body < 2 ^ 24) × (length (flat_map (precinct_bytes h content mode filler) xs) < 2 ^ 24)
    room = bound (length ((head ++ body) ++ flat_map (precinct_bytes h content mode filler) xs)) (length (head ++ body)) (length (flat_map (precinct_bytes h content mode filler) xs)) (length head) (length body)
        (length-append (head ++ body) (flat_map (precinct_bytes h content mode filler) xs)) (length-append head body) small

pub filled_fits : (h : Header) (content : Content) (mode : ℕ → ℕ → ℕ) (filler : ℕ → ℕ) (slice : ℕ) → slice_fits h content mode no_filler slice ≡ true
    → length (slice_bytes h content mode filler slice) < 2 ^ 24 → slice_fits h content mode filler slice ≡ true
filled_fits h content mode filler slice fits small =
    precincts_fit h content mode filler (precincts_of h slice) fits
    (omega (arith, small, length-append (slice_head slice) (flat_map (precinct_bytes h content mode filler) (precincts_of h slice))))
