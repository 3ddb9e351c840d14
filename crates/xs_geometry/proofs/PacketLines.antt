-- Each line of each band stands in one packet.
use Rattle.std.proofs.Common.{◌≡◌, ℕ, zero, suc, ◌+◌, ◌-◌, ◌*◌, ◌/◌, ◌%◌, ◌<◌, ◌≤◌, true, length, take, refl, sym, ap, subst, ◌∙◌, arith, inl, inr}
use Rattle.std.specs.Prelude.{min, nat_lt}
use Rattle.std.specs.List.{Contains, filter}
use Rattle.std.proofs.Math.Nat.{div-mul-le_self, lt-div-mul-add, le-div_iff_mul-le, div-div-eq-div-mul, mul_comm, mul-pos}
use Rattle.std.proofs.lemmas.Bool.{lt-ltb, ltb-true}
use Rattle.std.proofs.lemmas.Nat.{div-mul-add, pow_pos}
use Rattle.xs_layout.specs.Geometry.{PacketPlace, low_size, components_of}
use Rattle.xs_layout.proofs.Places.{below_bands, types_of_band}
use Rattle.xs_params.specs.declared.header.Header.{Header}
use Rattle.xs_params.specs.Geometry.{bands_of, band_height_of, has_line, packet_bands, packet_places, packets_of, precinct_count, precinct_lines, precincts_of, slice_count}
use Rattle.xs_params.specs.Accepted.{IsGeometry}
use Rattle.xs_geometry.specs.Places.{no_place, place_in, packet_at}
use Rattle.xs_geometry.specs.Lines.{IsLineOf, PacketsHaveLines, HoldsLine, LineInOnePacket, SliceHasLines, SliceHasPackets}
use Rattle.xs_geometry.specs.SliceLines.{slice_height}
use Rattle.xs_geometry.proofs.Filtered.{found, fewer_before, StoodAt, stood}
use Rattle.xs_geometry.proofs.PlaceFacts.{range_has, in_range, type_number, type_at, rows_in, side_rows, deep_rows, wide_rows}
use Rattle.xs_geometry.proofs.PlaceNumbers.{IsAt, at_place, place_at, same_rows, type_there, precinct_by_line, one_number, some_number}

-- a place that is there has its line in each of its bands
line_there : (h : Header) (precinct number band : ℕ) → IsGeometry h → number < length (packet_places h precinct) → has_line h (place_in (packet_places h precinct) number) ≡ true
    → Contains (packet_bands h (place_in (packet_places h precinct) number)) band → IsLineOf h precinct band (place_in (packet_places h precinct) number).line
line_there h precinct number band ranges inside passes has =
    let place = place_in (packet_places h precinct) number in
    let few : h.nly ≤ 2 = omega (arith, ranges.nly) in
    let below : h.nly ≤ h.nlx = omega (arith, ranges.nly) in
    let at = at_place h precinct number band few inside has in
    let lines = precinct_lines h band in
    let some : 0 < lines = pow_pos (h.nly - (type_at h (type_number h band)).down) in
    let by_line : place.line / lines ≡ precinct = precinct_by_line h precinct number (type_number h band) place.line below at in
    let there : place.line < band_height_of h band = subst (λ n. place.line < n) (same_rows h precinct number (type_number h band) place.line few inside at) (below_height place.line (band_height_of h (place.first_type * components_of h.shape.format)) passes) in
    let low : precinct * lines ≤ place.line = subst (λ p. p * lines ≤ place.line) by_line (div-mul-le_self place.line lines) in
    let high : place.line < precinct * lines + lines = subst (λ p. place.line < p * lines + lines) by_line (lt-div-mul-add some) in
    let next : (precinct + 1) * lines ≡ precinct * lines + lines = omega arith in
    record {
      band_there = below_bands h.shape.format band 0 (2 * h.nly + h.nlx + 1) (type_there h precinct number (type_number h band) place.line below at);
      line_there = there;
      from = omega (arith, low);
      to = omega (arith, high, next, there);
    }
  where
    below_height : (line height : ℕ) → nat_lt line height ≡ true → line < height
    below_height line height e = ltb-true line height e

-- what a packet was before those that are not there were left out
stood_at : (h : Header) (precinct number : ℕ) → number < length (packets_of h precinct) → StoodAt (has_line h) (packet_places h precinct) number (packet_at h precinct number) no_place
stood_at h precinct number inside = stood (has_line h) (packet_places h precinct) number no_place inside

pub packets_have_lines : PacketsHaveLines
packets_have_lines h precinct number band ranges inside has =
    let was = stood_at h precinct number inside in
    subst (λ (place : PacketPlace). IsLineOf h precinct band place.line) was.here
    (line_there h precinct was.place band ranges was.inside was.passes (subst (λ place. Contains (packet_bands h place) band) (sym was.here) has))

-- Precincts and slices

-- the precinct of a line is one of the picture's
precinct_there : (h : Header) (precinct number type line : ℕ) → h.nly ≤ 2 → IsAt h precinct number type line → line < rows_in h (type_at h type) → precinct < precinct_count h
precinct_there h precinct number type line few (inl wide) there = omega (arith, wide.line_is, there, wide_rows h type wide.inside)
precinct_there h precinct number type line few (inr (inl deep)) there =
    let here : type ≡ h.nlx - h.nly + 1 + (3 * 0 + (number - 1)) = omega (arith, deep.type_is) in
    let rows = deep_rows h type 0 (number - 1) here (omega (arith, deep.split)) (omega (arith, deep.to, deep.from)) in
    let level : h.nly - 0 ≡ h.nly = omega arith in
    let below = subst (λ n. line < n) (rows ∙ ap (λ k. side_rows h.shape.height k (number - 1)) level) there in
    subst (λ p. p < precinct_count h) deep.line_is (deepest h.shape.height h.nly (number - 1) line deep.split few below)
  where
    deepest : (height nly side line : ℕ) → 1 ≤ nly → nly ≤ 2 → line < side_rows height nly side → line < low_size height nly
    deepest height nly zero line some few below = below
    deepest height zero (suc side) line some few below = absurd (omega (arith, some))
    deepest height (suc zero) (suc side) line some few below = omega (arith, below)
    deepest height (suc (suc zero)) (suc side) line some few below = omega (arith, below)
    deepest height (suc (suc (suc nly))) (suc side) line some few below = absurd (omega (arith, few))
precinct_there h precinct number type line few (inr (inr next)) there =
    let here : type ≡ h.nlx - h.nly + 1 + (3 * 1 + (number - 4) % 3) = omega (arith, next.type_is) in
    let rows = deep_rows h type 1 ((number - 4) % 3) here (omega (arith, next.split)) (omega arith) in
    let below = subst (λ n. line < n) (rows ∙ ap (λ k. side_rows h.shape.height (k - 1) ((number - 4) % 3)) next.split) there in
    subst (λ k. precinct < low_size h.shape.height k) (sym next.split) (upper h.shape.height ((number - 4) % 3) line precinct ((number - 4) / 3) next.line_is below)
  where
    upper : (height side line precinct k : ℕ) → line ≡ 2 * precinct + k → line < side_rows height 1 side → precinct < low_size height 2
    upper height zero line precinct k is below = omega (arith, is, below)
    upper height (suc side) line precinct k is below = omega (arith, is, below)

-- a precinct is in one slice
slice_of : (h : Header) (precinct : ℕ) → 1 ≤ h.hsl → precinct < precinct_count h → (precinct / h.hsl < slice_count h) × Contains (precincts_of h (precinct / h.hsl)) precinct
slice_of h precinct some there =
    let slice = precinct / h.hsl in
    let low : slice * h.hsl ≤ precinct = div-mul-le_self precinct h.hsl in
    let high : precinct < slice * h.hsl + h.hsl = lt-div-mul-add some in
    let next : (slice + 1) * h.hsl ≡ slice * h.hsl + h.hsl = omega arith in
    let inside : slice + 1 ≤ (precinct_count h + h.hsl - 1) / h.hsl = (le-div_iff_mul-le some).1 (omega (arith, low, there, next)) in
    (omega (arith, inside), in_range (slice * h.hsl) (min ((slice + 1) * h.hsl) (precinct_count h) - slice * h.hsl) precinct low (omega (arith, low, high, next, there)))

one_slice : (h : Header) (slice precinct : ℕ) → 1 ≤ h.hsl → Contains (precincts_of h slice) precinct → slice ≡ precinct / h.hsl
one_slice h slice precinct some has =
    let between = range_has (slice * h.hsl) (min ((slice + 1) * h.hsl) (precinct_count h) - slice * h.hsl) precinct has in
    let next : (slice + 1) * h.hsl ≡ slice * h.hsl + h.hsl = omega arith in
    let rest : precinct - slice * h.hsl < h.hsl = omega (arith, between, next) in
    let back : slice * h.hsl + (precinct - slice * h.hsl) ≡ precinct = omega (arith, between) in
    sym (div-mul-add slice h.hsl (precinct - slice * h.hsl) rest) ∙ ap (λ n. n / h.hsl) back

-- One packet

-- a packet that holds the line stands, before those that are not there are left out, at a number of the band's type and the line
record Origin (h : Header) (band line precinct number : ℕ) : Type 0 where
  was : StoodAt (has_line h) (packet_places h precinct) number (packet_at h precinct number) no_place
  at : IsAt h precinct was.place (type_number h band) line

origin : (h : Header) (band line slice precinct number : ℕ) → h.nly ≤ 2 → HoldsLine h band line slice precinct number → Origin h band line precinct number
origin h band line slice precinct number few holds =
    let was = stood_at h precinct number holds.number_there in
    let has : Contains (packet_bands h (place_in (packet_places h precinct) was.place)) band = subst (λ place. Contains (packet_bands h place) band) (sym was.here) holds.band_in in
    record { was = was; at = subst (IsAt h precinct was.place (type_number h band)) (ap (λ (place : PacketPlace). place.line) was.here ∙ holds.line_is) (at_place h precinct was.place band few was.inside has) }

same_packet : (h : Header) (band line precinct number p n : ℕ) → h.nly ≤ h.nlx → Origin h band line precinct number → Origin h band line p n → (p ≡ precinct) × (n ≡ number)
same_packet h band line precinct number p n below first other =
    let type = type_number h band in
    let same : p ≡ precinct = sym (precinct_by_line h p other.was.place type line below other.at) ∙ precinct_by_line h precinct first.was.place type line below first.at in
    let place : other.was.place ≡ first.was.place = one_number h precinct other.was.place first.was.place type line (subst (λ k. IsAt h k other.was.place type line) same other.at) first.at in (
      same,
      other.was.before ∙ ap (λ k. length (filter (has_line h) (take k (packet_places h p)))) place ∙ ap (λ k. length (filter (has_line h) (take first.was.place (packet_places h k)))) same ∙ sym first.was.before,
    )

-- the packet at a number of the band's type and the line holds it
held_at : (h : Header) (band line precinct at : ℕ) → IsGeometry h → line < band_height_of h band → IsAt h precinct at (type_number h band) line
    → HoldsLine h band line (precinct / h.hsl) precinct (length (filter (has_line h) (take at (packet_places h precinct))))
held_at h band line precinct at ranges inside known =
    let few : h.nly ≤ 2 = omega (arith, ranges.nly) in
    let type = type_number h band in
    let place = place_in (packet_places h precinct) at in
    let back = place_at h precinct at band line few known in
    let slice = slice_of h precinct ranges.hsl (precinct_there h precinct at type line few known inside) in
    let high : place.line < band_height_of h (place.first_type * components_of h.shape.format) = subst (λ n. place.line < n) (sym (same_rows h precinct at type line few back.0 known)) (subst (λ l. l < band_height_of h band) (sym back.2) inside) in
    let passes : has_line h place ≡ true = lt-ltb place.line (band_height_of h (place.first_type * components_of h.shape.format)) high in
    let here : place ≡ packet_at h precinct (length (filter (has_line h) (take at (packet_places h precinct)))) = found (has_line h) (packet_places h precinct) at place no_place back.0 refl passes in
    record {
      slice_there = slice.0;
      precinct_in = slice.1;
      number_there = fewer_before (has_line h) (packet_places h precinct) at place no_place back.0 refl passes;
      band_in = subst (λ p. Contains (packet_bands h p) band) here back.1;
      line_is = sym (ap (λ (p : PacketPlace). p.line) here) ∙ back.2;
    }

-- some packet holds the line
held : (h : Header) (band line : ℕ) → IsGeometry h → band < bands_of h → line < band_height_of h band → (slice precinct number : ℕ) × HoldsLine h band line slice precinct number
held h band line ranges there inside =
    let types = types_of_band h.shape.format band 0 (2 * h.nly + h.nlx + 1) (omega arith) (omega (arith, there)) in
    let some = some_number h (type_number h band) line (omega (arith, ranges.nly)) (omega (arith, ranges.nly)) (omega (arith, types)) in
    (some.0 / h.hsl, some.0, length (filter (has_line h) (take some.1 (packet_places h some.0))), held_at h band line some.0 some.1 ranges inside some.2)

pub line_in_one_packet : LineInOnePacket
line_in_one_packet h band line ranges there inside =
    let few : h.nly ≤ 2 = omega (arith, ranges.nly) in
    let below : h.nly ≤ h.nlx = omega (arith, ranges.nly) in
    let some = held h band line ranges there inside in
    let first = origin h band line some.0 some.1 some.2 few some.3 in (
      some.0,
      some.1,
      some.2,
      some.3,
      λ s p n holds.
          let same = same_packet h band line some.1 some.2 p n below first (origin h band line s p n few holds) in (
            one_slice h s p ranges.hsl holds.precinct_in ∙ ap (λ k. k / h.hsl) same.0 ∙ sym (one_slice h some.0 some.1 ranges.hsl some.3.precinct_in),
            same.0,
            same.1,
          ),
    )

-- The lines of a slice

pub slice_has_lines : SliceHasLines
slice_has_lines h slice bands band line some are =
    let lines = precinct_lines h band in
    let some_lines : 0 < lines = pow_pos (h.nly - (type_at h (type_number h band)).down) in
    let size = slice_height h band in
    let some_size : 0 < size = mul-pos some some_lines in
    let next : (slice + 1) * size ≡ slice * size + size = omega arith in
    let by_size : line / lines / h.hsl ≡ line / size = div-div-eq-div-mul line lines h.hsl ∙ ap (λ n. line / n) (mul_comm lines h.hsl) in (
      (λ has.
          let there : band < bands_of h = omega (arith, has.band_there, are.count) in
          let first = are.first band there in
          let end = are.lines band there in
          let inside : line < band_height_of h band = omega (arith, has.line_there, first, end) in
          let low : slice * size ≤ line = omega (arith, has.from, first, inside) in
          let rest : line - slice * size < size = omega (arith, low, has.line_there, first, end, next) in
          let back : slice * size + (line - slice * size) ≡ line = omega (arith, low) in
          (there, inside, by_size ∙ sym (ap (λ n. n / size) back) ∙ div-mul-add slice size (line - slice * size) rest)),
      (λ known.
          let first = are.first band known.0 in
          let end = are.lines band known.0 in
          let here : line / size ≡ slice = sym by_size ∙ known.2 in
          let low : slice * size ≤ line = subst (λ k. k * size ≤ line) here (div-mul-le_self line size) in
          let high : line < slice * size + size = subst (λ k. line < k * size + size) here (lt-div-mul-add some_size) in
          record { band_there = omega (arith, known.0, are.count); from = omega (arith, first, low); line_there = omega (arith, first, end, high, next, known.1) }),
    )

pub slice_has_packets : SliceHasPackets
slice_has_packets h slice bands precinct number band ranges are within inside has =
    let place = packet_at h precinct number in
    let line = packets_have_lines h precinct number band ranges inside has in
    let lines = precinct_lines h band in
    let next : (precinct + 1) * lines ≡ precinct * lines + lines = omega arith in
    let low : precinct * lines ≤ place.line = omega (arith, line.from, line.line_there) in
    let rest : place.line - precinct * lines < lines = omega (arith, low, line.to, next) in
    let back : precinct * lines + (place.line - precinct * lines) ≡ place.line = omega (arith, low) in
    let here : place.line / lines ≡ precinct = sym (ap (λ n. n / lines) back) ∙ div-mul-add precinct lines (place.line - precinct * lines) rest in
    (slice_has_lines h slice bands band place.line ranges.hsl are).1 (line.band_there, line.line_there, ap (λ n. n / h.hsl) here ∙ sym (one_slice h slice precinct ranges.hsl within))
