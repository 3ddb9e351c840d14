-- The precincts of a slice that were read one after the other.
use Rattle.std.proofs.Common.{◌≡◌, ℕ, zero, suc, ◌+◌, ◌-◌, ◌*◌, ◌/◌, ◌%◌, ◌^◌, ◌<◌, ◌≤◌, inl, inr, List, [], ◌∷◌, map, take, drop, length, get_or, refl, sym, ap, subst, ◌∙◌, arith, length-drop}
use Rattle.std.specs.Prelude.{Bool, true, false, not, nat_lt, ◌||◌, if◌then◌else◌, min, replicate, ℤ, pos, Option, None, Some}
use Rattle.std.specs.List.{range_with_len, Contains}
use Rattle.std.specs.Option.{option_map}
use Rattle.std.proofs.Math.Nat.{div-mul-le_self, lt-div-mul-add}
use Rattle.std.proofs.lemmas.Bool.{cases_lt, ltb-false, lt-ltb, le-ltb}
use Rattle.std.proofs.lemmas.List.{take_all}
use Rattle.std.proofs.lemmas.Nat.{mod-mul-add}
use Rattle.xs_lists.specs.First.{when, first_some}
use Rattle.xs_lists.specs.Packing.{AreBytes}
use Rattle.xs_lists.specs.Spelling.{upto}
use Rattle.xs_params.specs.declared.header.Header.{Header}
use Rattle.xs_params.specs.Accepted.{IsAccepted, IsGeometry}
use Rattle.xs_params.specs.Geometry.{bands_of, band_width_of, geometry_of, precinct_count, precinct_lines, precincts_of, slice_count}
use Rattle.xs_faults.specs.declared.PrecinctFault.{PrecinctFault}
use Rattle.xs_faults.specs.declared.PrecinctFault.TheVariants as precinct
use Rattle.xs_faults.specs.declared.SliceFault.TheVariants as fault
use Rattle.xs_geometry.specs.Lines.{HoldsLine}
use Rattle.xs_geometry.specs.Places.{packet_at}
use Rattle.xs_geometry.specs.SliceLines.{AreLinesOf, BandLines, HasLine, row_at}
use Rattle.xs_geometry.proofs.PacketLines.{line_in_one_packet, slice_has_lines}
use Rattle.xs_geometry.proofs.PlaceFacts.{in_range, range_has}
use Rattle.xs_grammar.specs.Precinct.{Content, line_truncation, precinct_of}
use Rattle.xs_grammar.specs.Slice.{IsSliceFront, slice_head}
use Rattle.xs_grammar.proofs.OneSlice.{first_line, truncation_at}
use Rattle.xs_reading.specs.Laws.{IsPrecinctElsewhere}
use Rattle.xs_reading.specs.Precinct.{precinct_end, precinct_fault, precinct_head_size, with_precinct}
use Rattle.xs_reading.specs.Rows.{dequantised_rows}
use Rattle.xs_reading.specs.Slice.{is_same, no_content, precincts_end, precincts_fault, slice_content, slice_end, slice_fault, with_precincts}
use Rattle.xs_reading.proofs.Precincts.{precinct_elsewhere}
use Rattle.xs_reading.proofs.Slices.{all_same, slice_spelled}
use Rattle.xs_reading.proofs.Whole.{same_lists}
use Rattle.xs_spelling.proofs.Redata.{drop-drop}
use Rattle.xs_signal.specs.Quantiser.{dequantised}
use Rattle.xs_precinct.specs.Held.{Last, ShowsPrecinct, above_of, last_before, line_held}
use Rattle.xs_precinct.specs.Read.{IsPrecinctRead}
use Rattle.xs_precinct.proofs.Placed.{band_of, of_precinct, packet_line}
use Rattle.xs_slice_read.specs.Read.{IsFrontRead}

-- Faults

one_left : {A : Type 0} (x : Option A) → first_some (None ∷ x ∷ []) ≡ x
one_left None = refl
one_left (Some x) = refl

first_none : {A : Type 0} (a b : Option A) → first_some (a ∷ b ∷ []) ≡ None → a ≡ None
first_none None b e = refl
first_none (Some x) b e = absurd (cc e)

not_when : {A : Type 0} (s t : Bool) (x : A) → when (s || t) x ≡ None → t ≡ false
not_when s false x e = refl
not_when true true x e = absurd (cc e)
not_when false true x e = absurd (cc e)

-- a precinct without a fault ends within the bytes
pub ends_within : (h : Header) (p : ℕ) (content : Content) (bytes : List ℕ) → precinct_fault h p content bytes ≡ None → precinct_end h bytes ≤ length bytes
ends_within h p content bytes none =
    let test = not_when (nat_lt (length bytes) (precinct_head_size h)) (nat_lt (length bytes) (precinct_end h bytes)) precinct.Truncated (first_none _ _ none) in
    ltb-false (length bytes) (precinct_end h bytes) test

-- One past the last precinct of a slice
abbrev pub end_of : Header → ℕ → ℕ
end_of h slice = min ((slice + 1) * h.hsl) (precinct_count h)

abbrev pub left_of : Header → ℕ → ℕ → List ℕ
left_of h slice p = range_with_len p (end_of h slice - p)

next_left : (h : Header) (slice p : ℕ) → p < end_of h slice → left_of h slice p ≡ p ∷ left_of h slice (p + 1)
next_left h slice p inside = let size : end_of h slice - p ≡ suc (end_of h slice - (p + 1)) = omega (arith, inside) in ap (range_with_len p) size

-- the precincts of a slice, as the geometry has them
pub precincts_are : (h g : Header) (slice first end : ℕ) → g ≡ geometry_of h → first ≡ slice * g.hsl → end ≡ min ((slice + 1) * g.hsl) (precinct_count g) → (first ≡ slice * h.hsl) × (end ≡ end_of h slice)
precincts_are h g slice first end same from to = (from ∙ ap (λ (k : Header). slice * k.hsl) same, to ∙ ap (λ k. min ((slice + 1) * k.hsl) (precinct_count k)) same)

pub in_slice : (h : Header) (slice p : ℕ) → slice * h.hsl ≤ p → p < end_of h slice → Contains (precincts_of h slice) p
in_slice h slice p low high = in_range (slice * h.hsl) (end_of h slice - slice * h.hsl) p low (omega (arith, low, high))

-- numbers that fit a byte each are bytes
pub are_bytes : (xs : List ℕ) → ((i : ℕ) → get_or xs i 0 < 2 ^ 8) → AreBytes xs
are_bytes [] each = tt
are_bytes (x ∷ xs) each = (each 0, are_bytes xs (λ i. each (suc i)))

-- what is left of the bytes
pub rest_is : (at : ℕ) (bytes : List ℕ) → take (length bytes - at) (drop at bytes) ≡ drop at bytes
rest_is at bytes = take_all (length bytes - at) (drop at bytes) (omega (arith, length-drop at bytes))

-- a slice with its header has the fault of its precincts
pub fault_after_head : (h : Header) (slice : ℕ) (bytes : List ℕ) → 6 ≤ length bytes → take 6 bytes ≡ slice_head slice → slice_fault h slice bytes ≡ precincts_fault h (precincts_of h slice) no_content (drop 6 bytes)
fault_after_head h slice bytes whole head =
    let rest = precincts_fault h (precincts_of h slice) no_content (drop 6 bytes) in
    ap (λ t. first_some (when t fault.Short ∷ when (not (is_same (take 6 bytes) (slice_head slice))) fault.Head ∷ rest ∷ [])) (le-ltb (length bytes) 6 whole)
    ∙ ap (λ t. first_some (when (not t) fault.Head ∷ rest ∷ [])) (same_lists (take 6 bytes) (slice_head slice) head) ∙ one_left rest

pub fault_short : (h : Header) (slice : ℕ) (bytes : List ℕ) → length bytes < 6 → slice_fault h slice bytes ≡ Some fault.Short
fault_short h slice bytes short =
    ap (λ t. first_some (when t fault.Short ∷ when (not (is_same (take 6 bytes) (slice_head slice))) fault.Head ∷ precincts_fault h (precincts_of h slice) no_content (drop 6 bytes) ∷ [])) (lt-ltb (length bytes) 6 short)

pub fault_of_head : (h : Header) (slice : ℕ) (bytes : List ℕ) → 6 ≤ length bytes → (take 6 bytes ≡ slice_head slice → ⊥) → slice_fault h slice bytes ≡ Some fault.Head
fault_of_head h slice bytes whole other =
    let rest = precincts_fault h (precincts_of h slice) no_content (drop 6 bytes) in
    ap (λ t. first_some (when t fault.Short ∷ when (not (is_same (take 6 bytes) (slice_head slice))) fault.Head ∷ rest ∷ [])) (le-ltb (length bytes) 6 whole)
    ∙ ap (λ t. first_some (when (not t) fault.Head ∷ rest ∷ [])) (not_same (is_same (take 6 bytes) (slice_head slice)) refl)
  where
    not_same : (t : Bool) → is_same (take 6 bytes) (slice_head slice) ≡ t → t ≡ false
    not_same true e = absurd (other (all_same (take 6 bytes) (slice_head slice) e))
    not_same false e = refl

-- The precincts before one were read, up to a place
pub record SliceSoFar (h : Header) (slice : ℕ) (bytes : List ℕ) (above : List (Option Last)) (rows : List BandLines) (at p : ℕ) : Type 0 where
  pub now : Content
  pub fault : precincts_fault h (precincts_of h slice) no_content (drop 6 bytes) ≡ precincts_fault h (left_of h slice p) now (drop at bytes)
  pub after : slice_content h slice bytes ≡ with_precincts h (left_of h slice p) now (drop at bytes)
  pub ends : slice_end h slice bytes ≡ at + precincts_end h (left_of h slice p) (drop at bytes)
  pub held : p < end_of h slice → above ≡ above_of h now p
  pub shown : (earlier : ℕ) → slice * h.hsl ≤ earlier → earlier < p → ShowsPrecinct h now earlier rows

-- no line is above the first of a slice
none_above : (h : Header) (slice : ℕ) → replicate (bands_of h) None ≡ above_of h no_content (slice * h.hsl)
none_above h slice = each 0 (bands_of h)
  where
    one : (band : ℕ) → None ≡ last_before h no_content band (slice * h.hsl * precinct_lines h band)
    one band = sym (ap (λ (t : Bool). if t then None else Some (line_held h no_content band (slice * h.hsl * precinct_lines h band - 1))) (first_line h band slice))

    each : (first n : ℕ) → replicate n None ≡ map (λ band. last_before h no_content band (slice * h.hsl * precinct_lines h band)) (range_with_len first n)
    each first zero = refl
    each first (suc n) = ap (λ o. o ∷ replicate n None) (one first) ∙ ap (λ l. last_before h no_content first (slice * h.hsl * precinct_lines h first) ∷ l) (each (first + 1) n)

pub none_read : (h : Header) (slice : ℕ) (bytes : List ℕ) (above : List (Option Last)) (rows : List BandLines) (first : ℕ) → first ≡ slice * h.hsl → above ≡ replicate (bands_of h) None → SliceSoFar h slice bytes above rows 6 first
none_read h slice bytes above rows first start fresh = record {
  now = no_content;
  fault = ap (λ p. precincts_fault h (left_of h slice p) no_content (drop 6 bytes)) (sym start);
  after = ap (λ p. with_precincts h (left_of h slice p) no_content (drop 6 bytes)) (sym start);
  ends = ap (λ p. 6 + precincts_end h (left_of h slice p) (drop 6 bytes)) (sym start);
  held = λ _. fresh ∙ none_above h slice ∙ ap (above_of h no_content) (sym start);
  shown = λ earlier low high. absurd (omega (arith, low, high, start));
}

-- a line of another precinct is as before
kept_line : (h : Header) (p : ℕ) (content : Content) (bytes : List ℕ) (band line : ℕ) → h.nly ≤ h.nlx → (precinct_of h band line ≡ p → ⊥)
    → dequantised_rows h content band line ≡ dequantised_rows h (with_precinct h p content bytes) band line
kept_line h p content bytes band line below other =
    let elsewhere : IsPrecinctElsewhere h p content bytes = precinct_elsewhere h p content bytes below in
    let after = with_precinct h p content bytes in
    let own = precinct_of h band line in
    let cut = truncation_at h content after band line own refl (sym (elsewhere.q own other)) (sym (elsewhere.r own other)) in
    ap (λ (f : ℕ → ℕ). row f (line_truncation h content band line) (content.value band line)) (sym (elsewhere.count band line other)) ∙ ap (λ t. row (after.count band line) t (content.value band line)) cut
    ∙ ap (λ (f : ℕ → ℤ). row (after.count band line) (line_truncation h after band line) f) (sym (elsewhere.value band line other))
  where
    row : (ℕ → ℕ) → ℕ → (ℕ → ℤ) → ℕ → ℤ
    row counts t values column = if nat_lt column (band_width_of h band) then dequantised h.quant (counts (column / 4)) t (values column) else pos 0

-- the next precinct has a fault
pub slice_refused : (h : Header) (slice : ℕ) (bytes : List ℕ) (above : List (Option Last)) (rows : List BandLines) (at p : ℕ) (f : PrecinctFault) → SliceSoFar h slice bytes above rows at p → p < end_of h slice
    → ((content : Content) → above ≡ above_of h content p → precinct_fault h p content (drop at bytes) ≡ Some f) → precincts_fault h (precincts_of h slice) no_content (drop 6 bytes) ≡ Some (fault.Precinct p f)
slice_refused h slice bytes above rows at p f so inside refused =
    let left = drop at bytes in
    let later = precincts_fault h (left_of h slice (p + 1)) (with_precinct h p so.now left) (drop (precinct_end h left) left) in
    so.fault ∙ ap (λ l. precincts_fault h l so.now left) (next_left h slice p inside) ∙ ap (λ o. first_some (option_map (fault.Precinct p) o ∷ later ∷ [])) (refused so.now (so.held inside))

-- the next precinct was read
pub slice_more : (h : Header) (slice : ℕ) (bytes : List ℕ) (above above_after : List (Option Last)) (rows into : List BandLines) (at p size : ℕ) → IsGeometry h → slice * h.hsl ≤ p → p < end_of h slice
    → AreLinesOf h slice rows → AreLinesOf h slice into → SliceSoFar h slice bytes above rows at p
    → ((content : Content) → above ≡ above_of h content p → IsPrecinctRead h p content (drop at bytes) above_after rows into size) → SliceSoFar h slice bytes above_after into (at + size) (p + 1)
slice_more h slice bytes above above_after rows into at p size ranges low inside are are_after so read_of = record {
  now = next;
  fault = so.fault ∙ ap (λ l. precincts_fault h l now left) step ∙ ap (λ o. first_some (option_map (fault.Precinct p) o ∷ precincts_fault h later next (drop (precinct_end h left) left) ∷ [])) read.no_fault
      ∙ one_left (precincts_fault h later next (drop (precinct_end h left) left)) ∙ ap (precincts_fault h later next) rest;
  after = so.after ∙ ap (λ l. with_precincts h l now left) step ∙ ap (with_precincts h later next) rest;
  ends = so.ends ∙ ap (λ l. at + precincts_end h l left) step ∙ ends;
  held = λ more. read.kept (within more) (omega (arith, more));
  shown = λ earlier from to. elim (cases_lt earlier p) [ inl less ↦ shown_before earlier from less | inr most ↦ subst (λ q. ShowsPrecinct h next q into) (same earlier to most) read.shown ];
}
  where
    now : Content
    now = so.now

    left : List ℕ
    left = drop at bytes

    next : Content
    next = with_precinct h p now left

    later : List ℕ
    later = left_of h slice (p + 1)

    read : IsPrecinctRead h p now left above_after rows into size
    read = read_of now (so.held inside)

    step : left_of h slice p ≡ p ∷ later
    step = next_left h slice p inside

    rest : drop (precinct_end h left) left ≡ drop (at + size) bytes
    rest = ap (λ n. drop n left) (sym read.ends) ∙ sym (drop-drop at size bytes)

    ends : at + (precinct_end h left + precincts_end h later (drop (precinct_end h left) left)) ≡ at + size + precincts_end h later (drop (at + size) bytes)
    ends = omega (arith, read.ends, ap (precincts_end h later) rest)

    within : p + 1 < end_of h slice → 0 < (p + 1) % h.hsl
    within more =
        let offset = p + 1 - slice * h.hsl in
        let next_slice : (slice + 1) * h.hsl ≡ slice * h.hsl + h.hsl = omega arith in
        let back : slice * h.hsl + offset ≡ p + 1 = omega (arith, low) in
        let rest = ap (λ n. n % h.hsl) (sym back) ∙ mod-mul-add slice h.hsl offset (omega (arith, more, low, next_slice)) in
        omega (arith, rest, low)

    same : (earlier : ℕ) → earlier < p + 1 → p ≤ earlier → p ≡ earlier
    same earlier to most = omega (arith, to, most)

    shown_before : (earlier : ℕ) → slice * h.hsl ≤ earlier → earlier < p → ShowsPrecinct h next earlier into
    shown_before earlier from less band line has own =
        let other : precinct_of h band line ≡ p → ⊥ = λ e. absurd (omega (arith, less, own, e)) in
        let had = (slice_has_lines h slice rows band line ranges.hsl are).1 ((slice_has_lines h slice into band line ranges.hsl are_after).0 has) in
        read.elsewhere band line had other ∙ so.shown earlier from less band line had own ∙ ap (λ f. map f (upto (band_width_of h band))) (kept_line h p now left band line (omega (arith, ranges.nly)) other)

-- All precincts were read

-- the precinct of a line of the slice is one of the slice
line_within : (h : Header) (slice : ℕ) (rows : List BandLines) (band line : ℕ) → IsGeometry h → AreLinesOf h slice rows → HasLine rows band line → (slice * h.hsl ≤ precinct_of h band line) × (precinct_of h band line < end_of h slice)
line_within h slice rows band line ranges are has =
    let known = (slice_has_lines h slice rows band line ranges.hsl are).0 has in
    let p = precinct_of h band line in
    let low : slice * h.hsl ≤ p = subst (λ k. k * h.hsl ≤ p) known.2 (div-mul-le_self p h.hsl) in
    let high : p < slice * h.hsl + h.hsl = subst (λ k. p < k * h.hsl + h.hsl) known.2 (lt-div-mul-add ranges.hsl) in
    let one = line_in_one_packet h band line ranges known.0 known.1 in
    let holds : HoldsLine h band line one.0 one.1 one.2 = one.3 in
    let own = packet_line h one.1 one.2 band ranges holds.number_there (band_of h (packet_at h one.1 one.2) band holds.band_in) in
    let same : p ≡ one.1 = ap (precinct_of h band) (sym holds.line_is) ∙ of_precinct h one.1 band (packet_at h one.1 one.2).line own.from own.to in
    let between = range_has (one.0 * h.hsl) (min ((one.0 + 1) * h.hsl) (precinct_count h) - one.0 * h.hsl) one.1 holds.precinct_in in
    let next : (slice + 1) * h.hsl ≡ slice * h.hsl + h.hsl = omega arith in
    (low, omega (arith, high, next, same, between))

pub slice_done : (h : Header) (slice : ℕ) (bytes : List ℕ) (above : List (Option Last)) (rows : List BandLines) (at p : ℕ) → IsAccepted h → slice < slice_count h → AreBytes bytes → 6 ≤ length bytes → take 6 bytes ≡ slice_head slice
    → end_of h slice ≤ p → AreLinesOf h slice rows → SliceSoFar h slice bytes above rows at p → IsFrontRead h slice rows bytes at
slice_done h slice bytes above rows at p accepted there are whole head all lines so = record {
  no_fault = none;
  ends = ends;
  content = slice_content h slice bytes;
  spelled = subst (IsSliceFront h (slice_content h slice bytes) slice bytes) ends (slice_spelled h slice bytes accepted there are none);
  lines = lines;
  shown = λ band line has.
      let within = line_within h slice rows band line accepted.geometry lines has in
      subst (λ content. row_at rows band line ≡ map (dequantised_rows h content band line) (upto (band_width_of h band))) (sym content)
      (so.shown (precinct_of h band line) within.0 (omega (arith, within.1, all)) band line has refl);
}
  where
    nothing : left_of h slice p ≡ []
    nothing = let size : end_of h slice - p ≡ 0 = omega (arith, all) in ap (range_with_len p) size

    content : slice_content h slice bytes ≡ so.now
    content = so.after ∙ ap (λ l. with_precincts h l so.now (drop at bytes)) nothing

    ends : slice_end h slice bytes ≡ at
    ends = let last : at + 0 ≡ at = omega arith in so.ends ∙ ap (λ l. at + precincts_end h l (drop at bytes)) nothing ∙ last

    none : slice_fault h slice bytes ≡ None
    none = fault_after_head h slice bytes whole head ∙ so.fault ∙ ap (λ l. precincts_fault h l so.now (drop at bytes)) nothing
