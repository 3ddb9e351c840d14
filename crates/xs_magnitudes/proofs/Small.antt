-- How great the coefficients are that a slice spells: none has more bits than the fifteen planes of a code group.
use Rattle.std.proofs.Common.{◌≡◌, ℕ, zero, suc, ◌+◌, ◌-◌, ◌*◌, ◌/◌, ◌^◌, ◌<◌, ◌≤◌, List, [], ◌∷◌, ◌++◌, length, get_or, sym, ap, subst, ◌∙◌, arith, inl, inr}
use Rattle.std.proofs.Math.Pow.{pow_mono}
use Rattle.std.proofs.lemmas.Bool.{cases_lt, lt-ltb}
use Rattle.std.proofs.lemmas.List.{get_or_past}
use Rattle.std.proofs.lemmas.List.FromFn.{get_or-map-range_with_len}
use Rattle.std.proofs.lemmas.Nat.{div-mul-add}
use Rattle.std.specs.Prelude.{min, Bool, true, false, nat_eq, if◌then◌else◌, ℤ, pos, unsigned_abs}
use Rattle.std.specs.Bool.{MatchBool}
use Rattle.std.specs.List.{AllByRecursion, Contains}
use Rattle.xs_lists.specs.Spelling.{SpellsEach, upto}
use Rattle.xs_lists.proofs.Each.{all-range}
use Rattle.xs_lists.proofs.Cut.{all-both}
use Rattle.xs_layout.specs.Geometry.{PacketPlace, groups_of}
use Rattle.xs_params.specs.declared.header.Header.{Header}
use Rattle.xs_params.specs.Accepted.{IsAccepted}
use Rattle.xs_params.specs.Geometry.{bands_of, band_height_of, band_width_of, packet_bands, packets_of, precinct_count, precincts_of, slice_count}
use Rattle.xs_params.specs.Markers.{eoc}
use Rattle.xs_signal.specs.Lines.{entries_of}
use Rattle.xs_signal.specs.Quantiser.{dequantised}
use Rattle.xs_signal.proofs.Magnitudes.{dequantised_fits}
use Rattle.xs_spelling.specs.Counts.{Line, SpellsCounts, SpellsRawCounts}
use Rattle.xs_spelling.specs.Data.{SpellsData, SpellsGroup, columns_of}
use Rattle.xs_grammar.specs.Precinct.{Content, SpellsPacket, coded_line, line_truncation, precinct_of}
use Rattle.xs_grammar.specs.Slice.{IsSlice}
use Rattle.xs_grammar.specs.Precinct.{IsPrecinct}
use Rattle.xs_geometry.specs.Lines.{HoldsLine}
use Rattle.xs_geometry.specs.Places.{packet_at, no_place}
use Rattle.xs_geometry.specs.SliceLines.{row_at}
use Rattle.xs_geometry.proofs.PlaceFacts.{range_has}
use Rattle.xs_geometry.proofs.PacketLines.{line_in_one_packet, slice_has_lines}
use Rattle.xs_reading.specs.Rows.{dequantised_rows}
use Rattle.xs_reading.proofs.Places.{IsBandOf, IsOfPrecinct, bands_in, packets_own}
use Rattle.xs_magnitudes.specs.Small.{HaveSmallRows, SpelledSmall, UnitSmall}

-- what holds of all holds of one of them
all_at : {A : Type 0} (P : A → Type 0) (xs : List A) (k : ℕ) (d : A) → AllByRecursion P xs → k < length xs → P (get_or xs k d)
all_at P [] k d h there = absurd (omega (arith, there))
all_at P (x ∷ xs) zero d h there = h.0
all_at P (x ∷ xs) (suc k) d h there = all_at P xs k d h.1 (omega (arith, there))

all_has : {A : Type 0} (P : A → Type 0) (xs : List A) (x : A) → AllByRecursion P xs → Contains xs x → P x
all_has P xs x h has = subst P has.2 (all_at P xs has.0 x h has.1)

-- what each spelling shows of its item
each-shows : {A : Type 0} (R : A → List ℕ → Type 0) (P : A → Type 0) (xs : List A) (list : List ℕ) → ((x : A) (l : List ℕ) → R x l → P x) → SpellsEach R xs list → AllByRecursion P xs
each-shows R P [] list shows p = tt
each-shows R P (x ∷ xs) list shows p = (shows x p.0 p.3, each-shows R P xs p.1 shows p.4)

-- Packets

-- the counts of a line have at most fifteen planes, and its numbers have room in those that are left
abbrev AreFew : Line → Type 0
AreFew line = (group : ℕ) → group < line.groups → line.count group ≤ 15

abbrev HaveRoom : Line → Type 0
HaveRoom line = (column : ℕ) → column / 4 < line.groups → unsigned_abs (line.value column) < 2 ^ (line.count (column / 4) - line.truncation)

raw_few : (line : Line) (bits : List ℕ) → SpellsRawCounts line bits → AreFew line
raw_few line bits p group inside =
    all-range (λ g. line.count g ≤ 15) 0 line.groups (each-shows (λ g l. (line.count g ≤ 15) × (l ≡ _)) (λ g. line.count g ≤ 15) (upto line.groups) bits (λ g l p. p.0) p) group (omega arith) (omega (arith, inside))

counts_few : (run_mode : ℕ) (line : Line) (flag : ℕ → ℕ) (bits : List ℕ) → SpellsCounts run_mode line flag bits → AreFew line
counts_few run_mode line flag bits p group inside =
    all-range (λ g. line.count g ≤ 15) 0 line.groups (each-shows _ (λ g. line.count g ≤ 15) (upto line.groups) bits (λ g l p. p.0) p) group (omega arith) (omega (arith, inside))

data_room : (apart : Bool) (line : Line) (bits : List ℕ) → SpellsData apart line bits → HaveRoom line
data_room apart line bits p column inside =
    let group = column / 4 in
    let spelled = all-range Here 0 line.groups (each-shows (SpellsGroup apart line) Here (upto line.groups) bits (λ g l p. p.small) p) group (omega arith) (omega (arith, inside)) in
    all-range (λ c. unsigned_abs (line.value c) < 2 ^ (line.count group - line.truncation)) (4 * group) 4 spelled column (omega arith) (omega arith)
  where
    Here : ℕ → Type 0
    Here g = AllByRecursion (λ c. unsigned_abs (line.value c) < 2 ^ (line.count g - line.truncation)) (columns_of g)

-- so the coefficients of a line are small
abbrev IsSmallLine : Header → Content → ℕ → ℕ → Type 0
IsSmallLine h content band line = (column : ℕ) → column < band_width_of h band
    → unsigned_abs (dequantised h.quant (content.count band line (column / 4)) (line_truncation h content band line) (content.value band line column)) < 2 ^ 15

line_small : (h : Header) (content : Content) (mode band line : ℕ) → AreFew (coded_line h content mode band line) → HaveRoom (coded_line h content mode band line) → IsSmallLine h content band line
line_small h content mode band line few room column within =
    let group : column / 4 < groups_of (band_width_of h band) = omega (arith, within) in
    let count = content.count band line (column / 4) in
    let most = pow_mono {i = count} {j = 15} (few (column / 4) group) in
    let fits = dequantised_fits h.quant count (line_truncation h content band line) (content.value band line column) (room column group) in
    omega (arith, most, fits)

packet_small : (h : Header) (content : Content) (mode : ℕ → ℕ) (place : PacketPlace) (bytes : List ℕ) → SpellsPacket h content mode place bytes
    → AllByRecursion (λ band. IsSmallLine h content band place.line) (packet_bands h place)
packet_small h content mode place bytes p =
    all-both (λ band. AreFew (line band)) (λ band. HaveRoom (line band)) (λ band. IsSmallLine h content band place.line) (packet_bands h place)
    (λ band few room. line_small h content (mode band) band place.line few room) (counted p.raw p.counted.3)
    (each-shows (λ band. SpellsData h.signs_apart (line band)) (λ band. HaveRoom (line band)) (packet_bands h place) p.filled.0 (λ band l q. data_room h.signs_apart (line band) l q) p.filled.3)
  where
    line : ℕ → Line
    line band = coded_line h content (mode band) band place.line

    counted : (raw : Bool) → MatchBool raw (SpellsEach (λ band. SpellsRawCounts (line band)) (packet_bands h place) p.counted.0) (SpellsEach (λ band. SpellsCounts h.run_mode (line band) (p.flag band)) (packet_bands h place) p.counted.0)
        → AllByRecursion (λ band. AreFew (line band)) (packet_bands h place)
    counted true q = each-shows (λ band. SpellsRawCounts (line band)) (λ band. AreFew (line band)) (packet_bands h place) p.counted.0 (λ band l r. raw_few (line band) l r) q
    counted false q = each-shows (λ band. SpellsCounts h.run_mode (line band) (p.flag band)) (λ band. AreFew (line band)) (packet_bands h place) p.counted.0 (λ band l r. counts_few h.run_mode (line band) (p.flag band) l r) q

-- Slices

abbrev IsSmallPacket : Header → Content → PacketPlace → Type 0
IsSmallPacket h content place = AllByRecursion (λ band. IsSmallLine h content band place.line) (packet_bands h place)

abbrev IsSmallPrecinct : Header → Content → ℕ → Type 0
IsSmallPrecinct h content precinct = AllByRecursion (IsSmallPacket h content) (packets_of h precinct)

slice_small : (h : Header) (content : Content) (slice : ℕ) (bytes : List ℕ) → IsSlice h content slice bytes → AllByRecursion (IsSmallPrecinct h content) (precincts_of h slice)
slice_small h content slice bytes p =
    each-shows (IsPrecinct h content) (IsSmallPrecinct h content) (precincts_of h slice) p.body
    (λ precinct l q. each-shows (SpellsPacket h content q.mode) (IsSmallPacket h content) (packets_of h precinct) q.filled.0 (λ place m r. packet_small h content q.mode place m r) q.filled.3) p.spelled

-- a precinct of a slice
slice_of : (h : Header) (slice precinct : ℕ) → Contains (precincts_of h slice) precinct → precinct / h.hsl ≡ slice
slice_of h slice precinct has =
    let between = range_has (slice * h.hsl) (min ((slice + 1) * h.hsl) (precinct_count h) - slice * h.hsl) precinct has in
    let next : (slice + 1) * h.hsl ≡ slice * h.hsl + h.hsl = omega arith in
    let rest : precinct - slice * h.hsl < h.hsl = omega (arith, between, next) in
    let back : slice * h.hsl + (precinct - slice * h.hsl) ≡ precinct = omega (arith, between) in
    sym (ap (λ n. n / h.hsl) back) ∙ div-mul-add slice h.hsl (precinct - slice * h.hsl) rest

-- the line of a band stands in a packet of a precinct of its slice
in_slice : (h : Header) (content : Content) (band line slice : ℕ) → IsAccepted h → band < bands_of h → line < band_height_of h band → precinct_of h band line / h.hsl ≡ slice
    → AllByRecursion (IsSmallPrecinct h content) (precincts_of h slice) → IsSmallLine h content band line
in_slice h content band line slice accepted inside there at small =
    subst (IsSmallLine h content band) holds.line_is
    (all_has (λ b. IsSmallLine h content b place.line) (packet_bands h place) band
    (all_at (IsSmallPacket h content) (packets_of h found.1) found.2 no_place
    (all_has (IsSmallPrecinct h content) (precincts_of h found.0) found.1 (subst (λ k. AllByRecursion (IsSmallPrecinct h content) (precincts_of h k)) (sym at ∙ slice_is) small) holds.precinct_in) holds.number_there) holds.band_in)
  where
    found : (slice precinct number : ℕ) × HoldsLine h band line slice precinct number
        × ((s p n : ℕ) → HoldsLine h band line s p n → (s ≡ slice) × (p ≡ precinct) × (n ≡ number))
    found = line_in_one_packet h band line accepted.geometry inside there

    holds : HoldsLine h band line found.0 found.1 found.2
    holds = found.3

    place : PacketPlace
    place = packet_at h found.1 found.2

    own : IsOfPrecinct h found.1 place
    own = all_at (IsOfPrecinct h found.1) (packets_of h found.1) found.2 no_place (packets_own h found.1 (omega (arith, accepted.geometry.nly))) holds.number_there

    here : precinct_of h band line ≡ found.1
    here = ap (precinct_of h band) (sym holds.line_is) ∙ own band (all_has (IsBandOf h place) (packet_bands h place) band (bands_in h place (IsBandOf h place) (λ b of. of)) holds.band_in)

    slice_is : precinct_of h band line / h.hsl ≡ found.0
    slice_is = ap (λ k. k / h.hsl) here ∙ slice_of h found.0 found.1 holds.precinct_in

pub spelled_small : SpelledSmall
spelled_small h content slice bytes bands accepted spelled lines shown band line has column =
    elim (cases_lt column width) [
      | inl less ↦
          let here : 0 + column ≡ column = omega arith in
          let value : ℤ = dequantised h.quant (content.count band line (column / 4)) (line_truncation h content band line) (content.value band line column) in
          let entry = ap (λ l. entries_of l column) (shown band line has) ∙ get_or-map-range_with_len row 0 width column column (pos 0) less here ∙ ap (λ (b : Bool). if b then value else pos 0) (lt-ltb column width less) in
          subst (λ z. unsigned_abs z < 2 ^ 15) (sym entry) (in_slice h content band line slice accepted at.0 at.1 at.2 (slice_small h content slice bytes spelled) column less)
      | inr past ↦ subst (λ z. unsigned_abs z < 2 ^ 15) (sym (get_or_past (row_at bands band line) column (pos 0) (omega (arith, past, lines.width band line has)))) (omega arith)
    ]
  where
    width : ℕ
    width = band_width_of h band

    row : ℕ → ℤ
    row = dequantised_rows h content band line

    at : (band < bands_of h) × (line < band_height_of h band) × (precinct_of h band line / h.hsl ≡ slice)
    at = (slice_has_lines h slice bands band line accepted.geometry.hsl lines).0 has

pub unit_small : UnitSmall
unit_small h content slice bytes bands accepted unit lines shown = cases (nat_eq (slice + 1) (slice_count h)) unit
  where
    cases : (last : Bool) → MatchBool last ((front : List ℕ) × (bytes ≡ front ++ eoc) × IsSlice h content slice front) (IsSlice h content slice bytes) → HaveSmallRows bands
    cases true p = spelled_small h content slice p.0 bands accepted p.2 lines shown
    cases false p = spelled_small h content slice bytes bands accepted p lines shown
