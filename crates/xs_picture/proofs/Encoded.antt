-- The slices of a picture are its encoding.
use Rattle.std.proofs.Common.{◌≡◌, ℕ, suc, ◌+◌, ◌-◌, ◌*◌, ◌/◌, ◌^◌, ◌<◌, ◌≤◌, List, [], ◌∷◌, ◌++◌, length, get_or, refl, sym, ap, subst, ◌∙◌, arith, inl, inr, Bool, true, false, length-append}
use Rattle.std.specs.Prelude.{Ok, Err, if◌then◌else◌}
use Rattle.std.specs.List.{sum_by}
use Rattle.std.proofs.Math.ListN.{get_or-append}
use Rattle.std.proofs.Math.Nat.{suc-mul, le-div_iff_mul-le}
use Rattle.std.proofs.Math.Seq.{get_or-append_seam}
use Rattle.std.proofs.lemmas.Bool.{cases_eq, ltb-true, ltb-false}
use Rattle.std.proofs.lemmas.List.{ext_get_or}
use Rattle.std.proofs.lemmas.Nat.{pow_pos}
use Rattle.std.proofs.lemmas.List.FromFn.{length-map-range_with_len, get_or-map-range_with_len}
use Rattle.std.proofs.lemmas.List.Sums.{sum_by-cons}
use Rattle.xs_layout.specs.declared.Candidate.{Candidate}
use Rattle.xs_layout.specs.Limits.{header_room, most_stream}
use Rattle.xs_params.specs.declared.header.Header.{Header}
use Rattle.xs_params.specs.declared.settings.Settings.{Settings}
use Rattle.xs_params.specs.Accepted.{IsAccepted}
use Rattle.xs_params.specs.Check.{AreInRange}
use Rattle.xs_params.specs.Geometry.{precinct_count, slice_count}
use Rattle.xs_params.specs.Headers.{header_of}
use Rattle.xs_params.specs.Picture.{Picture}
use Rattle.xs_params.proofs.Accepted.{header_accepted}
use Rattle.xs_faults.specs.declared.Budget.{Budget}
use Rattle.xs_faults.specs.declared.SliceRefusal.{SliceRefusal}
use Rattle.xs_faults.specs.declared.SliceRefusal.TheVariants as refusal
use Rattle.xs_grammar.specs.Coded.{header_bytes}
use Rattle.xs_rate.specs.Coefficients.{Rows, rows_of_picture}
use Rattle.xs_rate.specs.Chosen.{chosen_candidate, coarsest, is_over, size_at}
use Rattle.xs_rate.specs.Choice.{choice_of, filled_slice_at}
use Rattle.xs_rate.specs.Encoding.{encoding_of, slices_at, stream_of, with_length}
use Rattle.xs_rate.specs.Encoded.{IsEncoding, NoneOver}
use Rattle.xs_rate.proofs.Encoded.{encoded_in_grammar}
use Rattle.xs_rate.proofs.FirstOver.{first_over_law}
use Rattle.xs_rate.proofs.Headers.{components-few, few-bands, header-size}
use Rattle.xs_slice_write.specs.Written.{IsRefusal, IsWrittenSlice}
use Rattle.xs_picture.specs.Encoded.{AreSlicesOf, IsEncodingOrMemory, WhyUnwritten}
use Rattle.xs_geometry.specs.SliceLines.{BandLines, AreLinesOf, ShowRows, rows_held}
use Rattle.xs_splitter.specs.declared.splitter.Splitter.{Splitter}
use Rattle.xs_picture.specs.Analysed.{AreBandsOf, folded_rows}
use Rattle.xs_picture.specs.Local.{IsWrittenAlike}
use Rattle.xs_picture.proofs.Folded.{slice_shown}
use Rattle.xs_picture.proofs.Local.{slice_of_lines}

-- ---- choices

-- a slice with a candidate is within its share at the coarsest, and the candidate is the chosen one
ok_choice : (h : Header) (rows : Rows) (share slice : ℕ) (candidate : Candidate) → choice_of h rows share slice ≡ Ok candidate → (size_at h rows slice (coarsest h) ≤ share) × (chosen_candidate h rows share slice ≡ candidate)
ok_choice h rows share slice candidate e = cases (is_over h rows share slice) refl e
  where
    none : Budget
    none = record { slice = slice; size = size_at h rows slice (coarsest h); share = share }

    cases : (over : Bool) → is_over h rows share slice ≡ over → (if over then Err none else Ok (chosen_candidate h rows share slice)) ≡ Ok candidate
        → (size_at h rows slice (coarsest h) ≤ share) × (chosen_candidate h rows share slice ≡ candidate)
    cases true is e = absurd (cc e)
    cases false is e = let same : chosen_candidate h rows share slice ≡ candidate = cc e in (ltb-false share (size_at h rows slice (coarsest h)) is, same)

-- and one with a budget is over it
err_choice : (h : Header) (rows : Rows) (share slice : ℕ) (budget : Budget) → choice_of h rows share slice ≡ Err budget
    → (share < size_at h rows slice (coarsest h)) × (record { slice = slice; size = size_at h rows slice (coarsest h); share = share } ≡ budget)
err_choice h rows share slice budget e = cases (is_over h rows share slice) refl e
  where
    told : Budget
    told = record { slice = slice; size = size_at h rows slice (coarsest h); share = share }

    cases : (over : Bool) → is_over h rows share slice ≡ over → (if over then Err told else Ok (chosen_candidate h rows share slice)) ≡ Err budget → (share < size_at h rows slice (coarsest h)) × (told ≡ budget)
    cases true is e = let same : told ≡ budget = cc e in (ltb-true share (size_at h rows slice (coarsest h)) is, same)
    cases false is e = absurd (cc e)

-- ---- slices

some_part : (n d : ℕ) → 1 ≤ d → d ≤ n → 1 ≤ n / d
some_part n d some more = (le-div_iff_mul-le some).1 (omega (arith, more))

-- there is a slice
pub some_slices : (h : Header) → IsAccepted h → 0 < slice_count h
some_slices h accepted =
    let power : 0 < 2 ^ h.nly = pow_pos h.nly in
    let precincts : 1 ≤ precinct_count h = some_part (h.shape.height + 2 ^ h.nly - 1) (2 ^ h.nly) power (omega (arith, power, accepted.geometry.shape.height)) in
    some_part (precinct_count h + h.hsl - 1) h.hsl accepted.geometry.hsl (omega (arith, precincts, accepted.geometry.hsl))

-- what is written of rows is written of others that are the same in the slice
pub written_alike : (h : Header) (slice : ℕ) (rows other : Rows) (share : ℕ) (fill : Bool) (bytes : List ℕ) → IsWrittenAlike h slice rows other → IsWrittenSlice h rows share fill slice bytes → IsWrittenSlice h other share fill slice bytes
written_alike h slice rows other share fill bytes alike is = record {
  candidate = is.candidate;
  chosen = sym (alike.choice share) ∙ is.chosen;
  written = is.written ∙ alike.bytes share fill is.candidate;
}

-- the first slices
pub record AreSlicesTo (h : Header) (rows : Rows) (share : ℕ) (fill : Bool) (n : ℕ) (slices : List (List ℕ)) : Type 0 where
  pub count : length slices ≡ n
  pub each : (slice : ℕ) → slice < n → IsWrittenSlice h rows share fill slice (get_or slices slice [])

pub slices_more : (h : Header) (rows : Rows) (share : ℕ) (fill : Bool) (slice : ℕ) (slices next : List (List ℕ)) (bytes : List ℕ) → next ≡ slices ++ bytes ∷ [] → IsWrittenSlice h rows share fill slice bytes
    → AreSlicesTo h rows share fill slice slices → AreSlicesTo h rows share fill (slice + 1) next
slices_more h rows share fill slice slices next bytes more this before = record {
  count = omega (arith, ap length more, length-append slices (bytes ∷ []), before.count);
  each = λ k inside. subst (IsWrittenSlice h rows share fill k) (sym (ap (λ l. get_or l k []) more))
      (elim (cases_eq k slice) [
        | inl is ↦ subst (λ j. IsWrittenSlice h rows share fill j (get_or (slices ++ bytes ∷ []) j [])) (sym (is ∙ sym before.count))
            (subst (IsWrittenSlice h rows share fill (length slices)) (sym (get_or-append_seam slices bytes [] [])) (subst (λ j. IsWrittenSlice h rows share fill j bytes) (sym before.count) this))
        | inr other ↦ subst (IsWrittenSlice h rows share fill k) (sym (get_or-append slices (bytes ∷ []) [] k (omega (arith, inside, other, before.count)))) (before.each k (omega (arith, inside, other)))
      ]);
}

pub slices_all : (h : Header) (rows : Rows) (share : ℕ) (fill : Bool) (n : ℕ) (slices : List (List ℕ)) → n ≡ slice_count h → AreSlicesTo h rows share fill n slices → AreSlicesOf h rows share fill slices
slices_all h rows share fill n slices all are = record { count = are.count ∙ all; each = λ slice inside. are.each slice (omega (arith, inside, all)) }

-- ---- refusals

-- a slice that is over its share is the first where those before have candidates
pub why_unwritten : (h : Header) (rows other : Rows) (share : ℕ) (fill : Bool) (slice : ℕ) (slices : List (List ℕ)) (why : SliceRefusal) → slice < slice_count h → IsWrittenAlike h slice rows other
    → AreSlicesTo h other share fill slice slices → IsRefusal h rows share slice why → WhyUnwritten h other share why
why_unwritten h rows other share fill slice slices (refusal.Budget budget) inside alike before over =
    let told : choice_of h other share slice ≡ Err budget = sym (alike.choice share) ∙ over in
    let here : slice ≡ budget.slice = ap (λ (b : Budget). b.slice) (err_choice h other share slice budget told).1 in
    record {
      there = subst (λ k. k < slice_count h) here inside;
      refused = subst (λ k. choice_of h other share k ≡ Err budget) here told;
      before = λ k less. ((before.each k (omega (arith, less, here))).candidate, (before.each k (omega (arith, less, here))).chosen);
    }
why_unwritten h rows other share fill slice slices refusal.Memory inside alike before over = tt

-- ---- one slice

slice_alike : (h : Header) (picture : Picture) (bands : List Splitter) (slice : ℕ) (rows : List BandLines) → IsAccepted h → slice < slice_count h → AreBandsOf h picture bands → AreLinesOf h slice rows
    → ShowRows h (folded_rows h bands) rows → IsWrittenAlike h slice (rows_held rows) (rows_of_picture h picture)
slice_alike h picture bands slice rows accepted inside are lines shown =
    slice_of_lines h slice (rows_held rows) (rows_of_picture h picture) accepted.geometry inside (slice_shown h picture bands slice rows accepted are lines shown)

-- what is written of its rows is the slice of the picture
pub written_slice : (s asked : Settings) (h : Header) (picture : Picture) (bands : List Splitter) (slice : ℕ) (rows : List BandLines) (bytes : List ℕ) → asked ≡ s → h ≡ header_of s → IsAccepted h → slice < slice_count h
    → AreBandsOf h picture bands → AreLinesOf h slice rows → ShowRows h (folded_rows h bands) rows → IsWrittenSlice h (rows_held rows) asked.share asked.fill slice bytes
    → IsWrittenSlice (header_of s) (rows_of_picture (header_of s) picture) s.share s.fill slice bytes
written_slice s asked h picture bands slice rows bytes same is accepted inside are lines shown written =
    subst (λ (x : Settings). IsWrittenSlice (header_of s) (rows_of_picture (header_of s) picture) x.share x.fill slice bytes) same
    (subst (λ g. IsWrittenSlice g (rows_of_picture g picture) asked.share asked.fill slice bytes) is
    (written_alike h slice (rows_held rows) (rows_of_picture h picture) asked.share asked.fill bytes (slice_alike h picture bands slice rows accepted inside are lines shown) written))

-- and where they are refused, the picture is
pub refused_slice : (s asked : Settings) (h : Header) (picture : Picture) (bands : List Splitter) (slice : ℕ) (rows : List BandLines) (slices : List (List ℕ)) (why : SliceRefusal) → asked ≡ s → h ≡ header_of s → IsAccepted h
    → slice < slice_count h → AreBandsOf h picture bands → AreLinesOf h slice rows → ShowRows h (folded_rows h bands) rows
    → AreSlicesTo (header_of s) (rows_of_picture (header_of s) picture) s.share s.fill slice slices → IsRefusal h (rows_held rows) asked.share slice why
    → WhyUnwritten (header_of s) (rows_of_picture (header_of s) picture) s.share why
refused_slice s asked h picture bands slice rows slices why same is accepted inside are lines shown before over =
    why_unwritten (header_of s) (rows_held rows) (rows_of_picture (header_of s) picture) s.share s.fill slice slices why
    (subst (λ g. slice < slice_count g) is inside)
    (subst (λ g. IsWrittenAlike g slice (rows_held rows) (rows_of_picture g picture)) is (slice_alike h picture bands slice rows accepted inside are lines shown))
    before
    (subst (λ (x : Settings). IsRefusal (header_of s) (rows_held rows) x.share slice why) same (subst (λ g. IsRefusal g (rows_held rows) asked.share slice why) is over))

-- ---- the encoding

none_over : (h : Header) (rows : Rows) (share : ℕ) (fill : Bool) (slices : List (List ℕ)) → AreSlicesOf h rows share fill slices → NoneOver h rows share
none_over h rows share fill slices are slice inside = (ok_choice h rows share slice (are.each slice inside).candidate (are.each slice inside).chosen).0

slices_are : (h : Header) (rows : Rows) (share : ℕ) (fill : Bool) (slices : List (List ℕ)) → AreSlicesOf h rows share fill slices → slices_at h rows share fill (chosen_candidate h rows share) ≡ slices
slices_are h rows share fill slices are = ext_get_or [] (slices_at h rows share fill (chosen_candidate h rows share)) slices (count ∙ sym are.count) (λ k inside. at k (omega (arith, inside, count)))
  where
    one : ℕ → List ℕ
    one slice = filled_slice_at h rows share fill slice (chosen_candidate h rows share slice)

    count : length (slices_at h rows share fill (chosen_candidate h rows share)) ≡ slice_count h
    count = length-map-range_with_len one 0 (slice_count h)

    at : (k : ℕ) → k < slice_count h → get_or (slices_at h rows share fill (chosen_candidate h rows share)) k [] ≡ get_or slices k []
    at k inside =
        let chosen = ok_choice h rows share k (are.each k inside).candidate (are.each k inside).chosen in
        get_or-map-range_with_len one 0 (slice_count h) k k [] inside (omega arith) ∙ ap (filled_slice_at h rows share fill k) chosen.1 ∙ sym (are.each k inside).written

-- it is the codestream of the slices
pub encoded : (s : Settings) (picture : Picture) (slices : List (List ℕ)) → AreSlicesOf (header_of s) (rows_of_picture (header_of s) picture) s.share s.fill slices → encoding_of s picture ≡ Ok (stream_of (header_of s) slices)
encoded s picture slices are =
    first_over_law.given s picture (none_over (header_of s) (rows_of_picture (header_of s) picture) s.share s.fill slices are)
    ∙ ap (λ list. Ok (stream_of (header_of s) list)) (slices_are (header_of s) (rows_of_picture (header_of s) picture) s.share s.fill slices are)

-- or the refusal of the first slice without a candidate
pub refusal_encodes : (s : Settings) (picture : Picture) (why : SliceRefusal) → WhyUnwritten (header_of s) (rows_of_picture (header_of s) picture) s.share why → IsEncodingOrMemory (encoding_of s picture) (Err why)
refusal_encodes s picture refusal.Memory first = tt
refusal_encodes s picture (refusal.Budget budget) first = (first_over_law.refused s picture budget).1 (record {
  there = first.there;
  over = told.0;
  before = λ slice less. (ok_choice h rows s.share slice (first.before slice less).0 (first.before slice less).1).0;
  size = sym (ap (λ (b : Budget). b.size) told.1);
  named = sym (ap (λ (b : Budget). b.share) told.1);
})
  where
    h : Header
    h = header_of s

    rows : Rows
    rows = rows_of_picture (header_of s) picture

    told : (s.share < size_at h rows budget.slice (coarsest h)) × (record { slice = budget.slice; size = size_at h rows budget.slice (coarsest h); share = s.share } ≡ budget)
    told = err_choice h rows s.share budget.slice budget first.refused

-- ---- headers

sum_most : (share : ℕ) (slices : List (List ℕ)) → ((k : ℕ) → k < length slices → length (get_or slices k []) ≤ share) → sum_by length slices ≤ length slices * share
sum_most share [] each = omega arith
sum_most share (slice ∷ slices) each =
    omega (arith, sum_by-cons length slice slices, each 0 (omega arith), sum_most share slices (λ k inside. each (suc k) (omega (arith, inside))), suc-mul (length slices) share)

-- the slices have room in the length that the header states
pub slices_room : (s : Settings) (picture : Picture) (slices : List (List ℕ)) → AreInRange s → AreSlicesOf (header_of s) (rows_of_picture (header_of s) picture) s.share s.fill slices → sum_by length slices + header_room ≤ most_stream
slices_room s picture slices range are =
    bound (sum_by length slices) (length slices * s.share) (sum_most s.share slices (λ k inside. (known.each k (omega (arith, inside, are.count))).within)) (ap (λ n. n * s.share) are.count) range.stream
  where
    known : IsEncoding (header_of s) (rows_of_picture (header_of s) picture) s.share s.fill (stream_of (header_of s) slices)
    known = encoded_in_grammar s picture (stream_of (header_of s) slices) range (encoded s picture slices are)

    bound : (sum whole : ℕ) → sum ≤ whole → whole ≡ slice_count (header_of s) * s.share → slice_count (header_of s) * s.share + header_room ≤ most_stream → sum + header_room ≤ most_stream
    bound sum whole p q r = omega (arith, p, q, r)

-- the header is short
pub header_short : (s : Settings) (h : Header) → AreInRange s → h ≡ header_of s → length (header_bytes h) ≤ 108
header_short s h range same = omega (arith, ap (λ x. length (header_bytes x)) same, header-size s range 0, components-few s.shape.format, few-bands s range)

-- it can be written with any length
pub accepted_header : (s : Settings) (h : Header) (n : ℕ) → AreInRange s → h ≡ header_of s → IsAccepted (with_length h n)
accepted_header s h n range same = subst (λ x. IsAccepted (with_length x n)) (sym same) (header_accepted s n range)
