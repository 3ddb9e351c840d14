-- The bytes of a slice's unit have one content in the slice.
use Rattle.std.proofs.Common.{◌≡◌, ℕ, ◌+◌, ◌-◌, ◌*◌, ◌/◌, ◌<◌, ◌≤◌, List, [], ◌++◌, All, get_or, Bool, true, false, Some, None, refl, sym, ap, subst, ◌∙◌, arith}
use Rattle.std.specs.Prelude.{if◌then◌else◌, min, nat_eq, nat_lt, pos}
use Rattle.std.specs.Bool.{MatchBool}
use Rattle.std.specs.List.{AllByRecursion, Contains}
use Rattle.std.proofs.Math.Nat.{div-div-eq-div-mul, div-eq_of_lt-le, mul_comm}
use Rattle.std.proofs.lemmas.List.Elements.{All-contains, All-from_recursion}
use Rattle.xs_layout.specs.Geometry.{PacketPlace}
use Rattle.xs_params.specs.declared.header.Header.{Header}
use Rattle.xs_params.specs.Accepted.{IsAccepted}
use Rattle.xs_params.specs.Geometry.{band_height_of, band_width_of, packet_bands, packets_of, precinct_count, precinct_lines, precincts_of, slice_count}
use Rattle.xs_params.specs.Markers.{eoc}
use Rattle.xs_signal.specs.Quantiser.{dequantised}
use Rattle.xs_geometry.specs.Lines.{HoldsLine}
use Rattle.xs_geometry.specs.Places.{packet_at, no_place}
use Rattle.xs_geometry.specs.SliceLines.{slice_height}
use Rattle.xs_geometry.proofs.PacketLines.{line_in_one_packet}
use Rattle.xs_geometry.proofs.PlaceFacts.{range_has}
use Rattle.xs_grammar.specs.Precinct.{Content, line_truncation, precinct_of}
use Rattle.xs_grammar.specs.Slice.{IsSlice, IsSliceUnit}
use Rattle.xs_grammar.specs.Laws.{SameBandLine, SamePrecinct}
use Rattle.xs_grammar.proofs.OneSlice.{one_slice, truncation_at}
use Rattle.xs_reading.specs.Rows.{dequantised_rows}
use Rattle.xs_reading.proofs.Places.{IsBandOf, IsOfPrecinct, bands_in, packets_own}
use Rattle.xs_decoding.specs.Laws.{SameRowsWithin}
use Rattle.xs_capture.specs.Selection.{Held}
use Rattle.xs_handover.specs.Blocks.{Carried}
use Rattle.xs_handover.specs.Decoded.{AgreeIn, AreRowsAt, AreRowsOf, IsDecodedBlock, IsLineIn}
use Rattle.xs_recv.specs.Received.{AreSpelled, AreUnits}
use Rattle.xs_recv.specs.Handed.{IsBlockIn}
use Rattle.xs_recv.proofs.Wholes.{one_unit}

pub deep_in : (h : Header) → IsAccepted h → h.nly ≤ h.nlx
deep_in h accepted = let less = accepted.geometry.nly in omega (arith, less)

-- two contents of a unit are the same in all precincts of the slice
slices_same : (h : Header) (content other : Content) (slice : ℕ) (bytes : List ℕ) → h.nly ≤ h.nlx → IsSliceUnit h content slice bytes → IsSliceUnit h other slice bytes → AllByRecursion (SamePrecinct h content other) (precincts_of h slice)
slices_same h content other slice bytes deep p q = go (nat_eq (slice + 1) (slice_count h)) p q
  where
    go : (b : Bool) → MatchBool b ((front : List ℕ) × (bytes ≡ front ++ eoc) × IsSlice h content slice front) (IsSlice h content slice bytes)
        → MatchBool b ((front : List ℕ) × (bytes ≡ front ++ eoc) × IsSlice h other slice front) (IsSlice h other slice bytes) → AllByRecursion (SamePrecinct h content other) (precincts_of h slice)
    go true x y = (one_slice h content other slice x.0 y.0 eoc eoc deep x.2 y.2 (sym x.1 ∙ y.1)).1
    go false x y = (one_slice h content other slice bytes bytes [] [] deep x y refl).1

-- Rows

-- contents that agree on a line of a precinct have the same coefficients there
same_coefficient : (h : Header) (content other : Content) (band line column precinct : ℕ) → column < band_width_of h band → precinct_of h band line ≡ precinct → SamePrecinct h content other precinct → SameBandLine h content other band line
    → dequantised_rows h content band line column ≡ dequantised_rows h other band line column
same_coefficient h content other band line column precinct within here same one =
    ap (λ v. if nat_lt column (band_width_of h band) then v else pos 0)
    (ap (λ c. dequantised h.quant c (line_truncation h content band line) (content.value band line column)) (one.counts (column / 4) (omega (arith, within)))
    ∙ ap (λ t. dequantised h.quant (other.count band line (column / 4)) t (content.value band line column)) (truncation_at h content other band line precinct here same.q same.r)
    ∙ ap (λ v. dequantised h.quant (other.count band line (column / 4)) (line_truncation h other band line) v) (one.values column (omega (arith, within))))

-- what holds of each element holds of one
of_each : {A : Type 0} (P : A → Type 0) (xs : List A) (x : A) → AllByRecursion P xs → Contains xs x → P x
of_each P xs x each has = All-contains P xs x (All-from_recursion P xs each) has

-- the line of a packet, where the contents agree on its precinct
module _ (h : Header) (content other : Content) (band line column slice precinct number : ℕ) (accepted : IsAccepted h) (holds : HoldsLine h band line slice precinct number) where
  at_number : (P : PacketPlace → Type 0) → AllByRecursion P (packets_of h precinct) → P (packet_at h precinct number)
  at_number P each = All-from_recursion P (packets_of h precinct) each number no_place holds.number_there

  own : IsOfPrecinct h precinct (packet_at h precinct number)
  own = at_number (IsOfPrecinct h precinct) (packets_own h precinct (deep_in h accepted))

  pub precinct_here : precinct_of h band line ≡ precinct
  precinct_here = ap (precinct_of h band) (sym holds.line_is)
      ∙ own band (of_each (IsBandOf h (packet_at h precinct number)) (packet_bands h (packet_at h precinct number)) band (bands_in h (packet_at h precinct number) (IsBandOf h (packet_at h precinct number)) (λ b is. is)) holds.band_in)

  pub slice_here : precinct / h.hsl ≡ slice
  slice_here =
      let between = range_has (slice * h.hsl) (min ((slice + 1) * h.hsl) (precinct_count h) - slice * h.hsl) precinct holds.precinct_in in
      let next : (slice + 1) * h.hsl ≡ slice * h.hsl + h.hsl = omega arith in
      let high : precinct < (slice + 1) * h.hsl = omega (arith, between.0, between.1, next) in
      div-eq_of_lt-le h.hsl between.0 high

  line_same : SamePrecinct h content other precinct → SameBandLine h content other band line
  line_same one = subst (SameBandLine h content other band) holds.line_is
      (of_each (λ b. SameBandLine h content other b (packet_at h precinct number).line) (packet_bands h (packet_at h precinct number)) band
      (at_number (λ place. AllByRecursion (λ b. SameBandLine h content other b place.line) (packet_bands h place)) one.lines) holds.band_in)

  pub coefficient_same : AllByRecursion (SamePrecinct h content other) (precincts_of h slice) → column < band_width_of h band → dequantised_rows h content band line column ≡ dequantised_rows h other band line column
  coefficient_same each within =
      let one = of_each (SamePrecinct h content other) (precincts_of h slice) precinct each holds.precinct_in in
      same_coefficient h content other band line column precinct within precinct_here one (line_same one)

slice_of_line : (h : Header) (band line : ℕ) → precinct_of h band line / h.hsl ≡ line / slice_height h band
slice_of_line h band line = div-div-eq-div-mul line (precinct_lines h band) h.hsl ∙ ap (λ n. line / n) (mul_comm (precinct_lines h band) h.hsl)

-- the slice of a line
line_here : (h : Header) (slice band line : ℕ) → IsLineIn h slice band line → (line < band_height_of h band) × (precinct_of h band line / h.hsl ≡ slice)
line_here h slice band line inside =
    let below : line < band_height_of h band = let b = inside.below in omega (arith, b) in
    let low : slice * slice_height h band ≤ line = let f = inside.from in omega (arith, f, below) in
    let high : line < (slice + 1) * slice_height h band = let b = inside.below in omega (arith, b) in
    (below, slice_of_line h band line ∙ div-eq_of_lt-le (slice_height h band) low high)

-- contents that agree on the precincts of a slice have the same rows in the slice
agree_in : (h : Header) (content other : Content) (slice : ℕ) → IsAccepted h → AllByRecursion (SamePrecinct h content other) (precincts_of h slice) → AgreeIn h slice (dequantised_rows h content) (dequantised_rows h other)
agree_in h content other slice accepted each band line column inside within =
    let here = line_here h slice band line inside in
    let at = line_in_one_packet h band line accepted.geometry inside.band_there here.0 in
    let same : at.0 ≡ slice = sym (slice_here h content other band line column at.0 at.1 at.2 accepted at.3) ∙ ap (λ n. n / h.hsl) (sym (precinct_here h content other band line column at.0 at.1 at.2 accepted at.3)) ∙ here.1 in
    coefficient_same h content other band line column at.0 at.1 at.2 accepted at.3 (subst (λ k. AllByRecursion (SamePrecinct h content other) (precincts_of h k)) (sym same) each) within

-- whatever content the bytes of a unit are sent of, in the slice its coefficients are those of the content of all
pub rows_of_units : (h : Header) (whole : Content) (units : List (List ℕ)) → IsAccepted h → AreSpelled h whole units → (slice : ℕ) → slice < slice_count h → AreRowsOf h slice (get_or units slice []) (dequantised_rows h whole)
rows_of_units h whole units accepted spelled slice there other here = agree_in h whole other slice accepted (slices_same h whole other slice (get_or units slice []) (deep_in h accepted) (spelled slice there) here)

-- two contents of all units have the same rows
pub one_content : (h : Header) (content other : Content) (units : List (List ℕ)) → IsAccepted h → AreSpelled h content units → AreSpelled h other units → SameRowsWithin h (dequantised_rows h content) (dequantised_rows h other)
one_content h content other units accepted first second band line column inside there within =
    let at = line_in_one_packet h band line accepted.geometry inside there in
    coefficient_same h content other band line column at.0 at.1 at.2 accepted at.3
    (slices_same h content other at.0 (get_or units at.0 []) (deep_in h accepted) (first at.0 at.3.slice_there) (second at.0 at.3.slice_there)) within

-- Blocks that were read of whole units have the rows of the content of all

block_rows : (held : Held) (h : Header) (content : Content) (units : List (List ℕ)) (x : Carried) → IsAccepted h → AreUnits held h units → AreSpelled h content units → IsBlockIn held h x → IsDecodedBlock x → AreRowsAt h (dequantised_rows h content) x
block_rows held h content units None accepted are spelled from d = absurd from
block_rows held h content units (Some b) accepted are spelled from d =
    let there = subst (λ k. b.slice < slice_count k) from.0 d.there in
    subst (λ l. AreRowsOf h b.slice l (dequantised_rows h content)) (sym (one_unit held (b.slice + 1) b.bytes (get_or units b.slice []) from.1 (are.each b.slice there))) (rows_of_units h content units accepted spelled b.slice there)

pub blocks_rows : (held : Held) (h : Header) (content : Content) (units : List (List ℕ)) (list : List Carried) → IsAccepted h → AreUnits held h units → AreSpelled h content units → All (IsBlockIn held h) list → All IsDecodedBlock list
    → All (AreRowsAt h (dequantised_rows h content)) list
blocks_rows held h content units list accepted are spelled from decoded = λ i d below. block_rows held h content units (get_or list i d) accepted are spelled (from i d below) (decoded i d below)
