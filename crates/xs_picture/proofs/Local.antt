-- What is written of a slice hangs on the rows of its lines alone.
use Rattle.std.proofs.Common.{◌≡◌, ℕ, zero, suc, ◌+◌, ◌-◌, ◌*◌, ◌/◌, ◌^◌, ◌<◌, ◌≤◌, max, ℤ, List, [], ◌∷◌, ◌++◌, map, length, get_or, refl, sym, ap, ◌∙◌, arith}
use Rattle.std.specs.Prelude.{Bool, true, false, not, ◌&&◌, nat_eq, nat_lt, nat_le, if◌then◌else◌, min, replicate, find, unwrap_or, Result, Ok, Err}
use Rattle.std.specs.List.{AllByRecursion, flat_map, list_all, sum_by}
use Rattle.std.proofs.Math.Nat.{le-div_iff_mul-le}
use Rattle.std.proofs.Math.Path.{fun_ext}
use Rattle.std.proofs.lemmas.Bool.{and_parts}
use Rattle.std.proofs.lemmas.Nat.{pow_pos}
use Rattle.std.proofs.lemmas.List.Elements.{All-from_get_or, recursion_from_All}
use Rattle.std.proofs.lemmas.List.Sums.{sum_by-cons}
use Rattle.xs_lists.specs.Packing.{packed}
use Rattle.xs_lists.specs.Spelling.{upto}
use Rattle.xs_lists.proofs.Cut.{all-each}
use Rattle.xs_lists.proofs.Each.{range-all}
use Rattle.xs_layout.specs.Geometry.{PacketPlace, groups_of}
use Rattle.xs_layout.specs.declared.Candidate.{Candidate}
use Rattle.xs_params.specs.declared.header.Header.{Header}
use Rattle.xs_params.specs.Accepted.{IsGeometry}
use Rattle.xs_params.specs.Geometry.{bands_of, band_height_of, band_type_of, band_width_of, lines_of, packet_bands, packets_of, precinct_count, precinct_lines, precincts_of}
use Rattle.xs_faults.specs.declared.Budget.{Budget}
use Rattle.xs_spelling.specs.Counts.{Line, flag_bits, predicted, predicts_above}
use Rattle.xs_spelling.specs.Data.{sign_bits}
use Rattle.xs_spelling.specs.Written.{line_count_bits, line_data_bits, written_flag}
use Rattle.xs_signal.specs.Quantiser.{sent}
use Rattle.xs_geometry.specs.Lines.{IsLineOf}
use Rattle.xs_geometry.specs.Places.{no_place, packet_at}
use Rattle.xs_geometry.proofs.PacketLines.{packets_have_lines}
use Rattle.xs_grammar.specs.Packet.{packet_fields}
use Rattle.xs_grammar.specs.Precinct.{coded_line, is_first_line, precinct_of}
use Rattle.xs_grammar.specs.Coded.{counts_part, data_part, field_bytes, fields_fit, flags_part, lines_bytes, lines_fields, no_filler, packet_bytes, packet_fits, packet_line, packets_bytes, precinct_body, precinct_bytes, precinct_fits, signs_part, slice_bytes}
use Rattle.xs_grammar.specs.Slice.{slice_head}
use Rattle.xs_grammar.proofs.Local.{above_in}
use Rattle.xs_grammar.proofs.OneSlice.{not_first}
use Rattle.xs_grammar.proofs.Sizes.{size_of_slice}
use Rattle.xs_rate.specs.Coefficients.{Rows}
use Rattle.xs_rate.specs.Content.{cut_of, planes_of}
use Rattle.xs_rate.specs.Modes.{band_lines, count_size, fewest, flag_size, mode_size}
use Rattle.xs_rate.specs.Chosen.{candidates, chosen_candidate, coarsest, content_at, fields_fit_at, mode_of, size_at}
use Rattle.xs_rate.specs.Choice.{filler_of}
use Rattle.xs_picture.proofs.Coverage.{quotient_below}
use Rattle.xs_picture.specs.Local.{SameInSlice, SliceOfLines}

-- Lists

maps_same : {A B : Type 0} (f g : A → B) (xs : List A) → AllByRecursion (λ x. f x ≡ g x) xs → map f xs ≡ map g xs
maps_same f g [] same = refl
maps_same f g (x ∷ xs) same = ap (λ y. y ∷ map f xs) same.0 ∙ ap (λ ys. g x ∷ ys) (maps_same f g xs same.1)

joins_same : {A : Type 0} (f g : A → List ℕ) (xs : List A) → AllByRecursion (λ x. f x ≡ g x) xs → flat_map f xs ≡ flat_map g xs
joins_same f g [] same = refl
joins_same f g (x ∷ xs) same = ap (λ l. l ++ flat_map f xs) same.0 ∙ ap (λ l. g x ++ l) (joins_same f g xs same.1)

tests_same : {A : Type 0} (f g : A → Bool) (xs : List A) → AllByRecursion (λ x. f x ≡ g x) xs → list_all f xs ≡ list_all g xs
tests_same f g [] same = refl
tests_same f g (x ∷ xs) same = ap (λ t. t && list_all f xs) same.0 ∙ ap (λ t. g x && t) (tests_same f g xs same.1)

sums_same : {A : Type 0} (f g : A → ℕ) (xs : List A) → AllByRecursion (λ x. f x ≡ g x) xs → sum_by f xs ≡ sum_by g xs
sums_same f g [] same = refl
sums_same f g (x ∷ xs) same = sum_by-cons f x xs ∙ ap (λ n. n + sum_by f xs) same.0 ∙ ap (λ n. g x + n) (sums_same f g xs same.1) ∙ sym (sum_by-cons g x xs)

same_default : (xs : List ℕ) (k d e : ℕ) → k < length xs → get_or xs k d ≡ get_or xs k e
same_default [] k d e there = absurd (omega (arith, there))
same_default (x ∷ xs) zero d e there = refl
same_default (x ∷ xs) (suc k) d e there = same_default xs k d e (omega (arith, there))

through : {A B : Type 0} (F : B → List ℕ) (f g : A → B) (xs : List A) → AllByRecursion (λ x. f x ≡ g x) xs → flat_map (λ x. F (f x)) xs ≡ flat_map (λ x. F (g x)) xs
through F f g [] same = refl
through F f g (x ∷ xs) same = ap (λ y. F y ++ flat_map (λ x. F (f x)) xs) same.0 ∙ ap (λ l. F (g x) ++ l) (through F f g xs same.1)

-- Lines

-- a line as a packet codes it, by its row and the row above it
abbrev line_by : Header → Candidate → ℕ → ℕ → ℕ → (ℕ → ℤ) → (ℕ → ℕ) → Line
line_by h c mode band line row prediction = record {
  groups = groups_of (band_width_of h band);
  mode = mode;
  truncation = cut_of h (λ _. c) band line;
  prediction = prediction;
  count = λ group. max (planes_of row group) (cut_of h (λ _. c) band line);
  value = λ column. sent h.quant (planes_of row (column / 4)) (cut_of h (λ _. c) band line) (row column);
}

abbrev predicted_by : Header → Candidate → ℕ → ℕ → Bool → (ℕ → ℤ) → ℕ → ℕ
predicted_by h c band line above row group =
    if above then predicted (max (planes_of row group) (cut_of h (λ _. c) band (line - 1))) (cut_of h (λ _. c) band (line - 1)) (cut_of h (λ _. c) band line)
    else cut_of h (λ _. c) band line

predicted_same : (h : Header) (c : Candidate) (band line : ℕ) (above : Bool) (row other : ℕ → ℤ) → (above ≡ true → row ≡ other) → predicted_by h c band line above row ≡ predicted_by h c band line above other
predicted_same h c band line true row other same = ap (predicted_by h c band line true) (same refl)
predicted_same h c band line false row other same = refl

line_alike : (h : Header) (rows other : Rows) (c : Candidate) (slice mode band line : ℕ) → 1 ≤ h.hsl → SameInSlice h slice rows other → band < bands_of h → line < band_height_of h band → precinct_of h band line / h.hsl ≡ slice
    → coded_line h (content_at h rows c) mode band line ≡ coded_line h (content_at h other c) mode band line
line_alike h rows other c slice mode band line some same inside there here =
    ap (λ r. line_by h c mode band line r (predicted_by h c band line above (rows band (line - 1)))) (same band line inside there here)
    ∙ ap (line_by h c mode band line (other band line)) (predicted_same h c band line above (rows band (line - 1)) (other band (line - 1)) before)
  where
    above : Bool
    above = predicts_above mode && not (is_first_line h band line)

    size : 0 < h.hsl * precinct_lines h band
    size = let lines : 0 < precinct_lines h band = pow_pos _ in grind (arith, some, lines)

    before : (predicts_above mode && not (is_first_line h band line)) ≡ true → rows band (line - 1) ≡ other band (line - 1)
    before e =
        let both : (predicts_above mode ≡ true) × (not (is_first_line h band line) ≡ true) = and_parts (predicts_above mode) (not (is_first_line h band line)) e in
        same band (line - 1) inside (omega (arith, there)) (above_in line (precinct_lines h band) h.hsl size (not_first (is_first_line h band line) both.1) ∙ here)

-- the line of a precinct is of its slice
line_of : (h : Header) (precinct band line : ℕ) → IsLineOf h precinct band line → precinct_of h band line ≡ precinct
line_of h precinct band line is = between (precinct_lines h band) (pow_pos (h.nly - (band_type_of h band).down)) (omega (arith, is.from, is.line_there)) (omega (arith, is.to))
  where
    between : (lines : ℕ) → 0 < lines → precinct * lines ≤ line → line < (precinct + 1) * lines → line / lines ≡ precinct
    between lines some low high =
        let least : precinct ≤ line / lines = (le-div_iff_mul-le some).1 low in
        let most : line / lines < precinct + 1 = quotient_below line lines (precinct + 1) some high in
        omega (arith, least, most)

-- Modes

modes_alike : (h : Header) (rows other : Rows) (c : Candidate) (slice precinct band : ℕ) → 1 ≤ h.hsl → SameInSlice h slice rows other → precinct / h.hsl ≡ slice → band < bands_of h
    → mode_of h (content_at h rows c) precinct band ≡ mode_of h (content_at h other c) precinct band
modes_alike h rows other c slice precinct band some same here inside = ap fewest (fun_ext one)
  where
    low : ℕ
    low = (lines_of h precinct band).0

    count : ℕ
    count = (lines_of h precinct band).1 - (lines_of h precinct band).0

    one : (mode : ℕ) → mode_size h (content_at h rows c) precinct band mode ≡ mode_size h (content_at h other c) precinct band mode
    one mode =
        sums_same (λ line. flag_size (coded_line h (content_at h rows c) mode band line) + count_size (coded_line h (content_at h rows c) mode band line))
        (λ line. flag_size (coded_line h (content_at h other c) mode band line) + count_size (coded_line h (content_at h other c) mode band line)) (band_lines h precinct band)
        (range-all (λ line. flag_size (coded_line h (content_at h rows c) mode band line) + count_size (coded_line h (content_at h rows c) mode band line)
        ≡ flag_size (coded_line h (content_at h other c) mode band line) + count_size (coded_line h (content_at h other c) mode band line)) low count (λ line from to.
        let less : line < (lines_of h precinct band).1 = omega (arith, from, to) in
        let there : line < band_height_of h band = omega (arith, less) in
        let is : IsLineOf h precinct band line = record { band_there = inside; line_there = there; from = from; to = less } in
        ap (λ (l : Line). flag_size l + count_size l) (line_alike h rows other c slice mode band line some same inside there (ap (λ p. p / h.hsl) (line_of h precinct band line is) ∙ here))))

-- Packets

-- the lines of a packet of the slice
AreAlike : Header → Rows → Rows → Candidate → ℕ → PacketPlace → Type 0
AreAlike h rows other c precinct place =
    AllByRecursion (λ band. packet_line h (content_at h rows c) (mode_of h (content_at h rows c) precinct) place band ≡ packet_line h (content_at h other c) (mode_of h (content_at h other c) precinct) place band) (packet_bands h place)

packets_alike : (h : Header) (rows other : Rows) (c : Candidate) (slice precinct : ℕ) → IsGeometry h → SameInSlice h slice rows other → precinct / h.hsl ≡ slice → AllByRecursion (AreAlike h rows other c precinct) (packets_of h precinct)
unfolding AreAlike
packets_alike h rows other c slice precinct geometry same here =
    recursion_from_All (AreAlike h rows other c precinct) (packets_of h precinct) (All-from_get_or (AreAlike h rows other c precinct) (packets_of h precinct) no_place (λ number there.
    let place : PacketPlace = packet_at h precinct number in
    recursion_from_All (λ band. one place band) (packet_bands h place) (All-from_get_or (λ band. one place band) (packet_bands h place) 0 (λ k inside.
    let band : ℕ = get_or (packet_bands h place) k 0 in
    let is : IsLineOf h precinct band place.line = packets_have_lines h precinct number band geometry there (k, inside, same_default (packet_bands h place) k (get_or (packet_bands h place) k 0) 0 inside) in
    let slice_is : precinct_of h band place.line / h.hsl ≡ slice = ap (λ p. p / h.hsl) (line_of h precinct band place.line is) ∙ here in
    line_alike h rows other c slice (mode_of h (content_at h rows c) precinct band) band place.line geometry.hsl same is.band_there is.line_there slice_is
    ∙ ap (λ mode. coded_line h (content_at h other c) mode band place.line) (modes_alike h rows other c slice precinct band geometry.hsl same here is.band_there)))))
  where
    one : PacketPlace → ℕ → Type 0
    one place band = packet_line h (content_at h rows c) (mode_of h (content_at h rows c) precinct) place band ≡ packet_line h (content_at h other c) (mode_of h (content_at h other c) precinct) place band

-- the bytes of lines by their parts
abbrev of_parts : Bool → List ℕ → List ℕ → List ℕ → List ℕ → List ℕ
of_parts long flags counts planes signs = field_bytes (packet_fields long false (length planes) (length counts) (length signs)) ++ (flags ++ (counts ++ (planes ++ signs)))

pub record ArePartsAlike (h : Header) (bands : List ℕ) (line other : ℕ → Line) : Type 0 where
  pub flags : flags_part bands line ≡ flags_part bands other
  pub counts : counts_part bands line ≡ counts_part bands other
  pub planes : data_part h.signs_apart bands line ≡ data_part h.signs_apart bands other
  pub signs : signs_part h.signs_apart bands line ≡ signs_part h.signs_apart bands other

parts_alike : (h : Header) (bands : List ℕ) (line other : ℕ → Line) → AllByRecursion (λ band. line band ≡ other band) bands → ArePartsAlike h bands line other
parts_alike h bands line other same = record {
  flags = ap packed (through (λ (l : Line). flag_bits l (written_flag l)) line other bands same);
  counts = ap packed (through (λ (l : Line). line_count_bits false l (written_flag l)) line other bands same);
  planes = ap packed (through (line_data_bits h.signs_apart) line other bands same);
  signs = ap (λ l. if h.signs_apart then l else []) (ap packed (through sign_bits line other bands same));
}

lines_alike : (h : Header) (bands : List ℕ) (line other : ℕ → Line) → AllByRecursion (λ band. line band ≡ other band) bands → lines_bytes h bands line ≡ lines_bytes h bands other
lines_alike h bands line other same =
    let p = parts_alike h bands line other same in
    ap (λ l. of_parts h.long_heads l (counts_part bands line) (data_part h.signs_apart bands line) (signs_part h.signs_apart bands line)) p.flags
    ∙ ap (λ l. of_parts h.long_heads (flags_part bands other) l (data_part h.signs_apart bands line) (signs_part h.signs_apart bands line)) p.counts
    ∙ ap (λ l. of_parts h.long_heads (flags_part bands other) (counts_part bands other) l (signs_part h.signs_apart bands line)) p.planes
    ∙ ap (λ l. of_parts h.long_heads (flags_part bands other) (counts_part bands other) (data_part h.signs_apart bands other) l) p.signs

fields_alike : (h : Header) (bands : List ℕ) (line other : ℕ → Line) → AllByRecursion (λ band. line band ≡ other band) bands → lines_fields h bands line ≡ lines_fields h bands other
fields_alike h bands line other same =
    let p = parts_alike h bands line other same in
    ap (λ l. packet_fields h.long_heads false (length l) (length (counts_part bands line)) (length (signs_part h.signs_apart bands line))) p.planes
    ∙ ap (λ l. packet_fields h.long_heads false (length (data_part h.signs_apart bands other)) (length l) (length (signs_part h.signs_apart bands line))) p.counts
    ∙ ap (λ l. packet_fields h.long_heads false (length (data_part h.signs_apart bands other)) (length (counts_part bands other)) (length l)) p.signs

-- Precincts

abbrev precinct_by : Header → Candidate → ℕ → (List (ℕ × ℕ)) → List ℕ → List ℕ
precinct_by h c precinct modes body = field_bytes ((24, length body) ∷ (8, c.q) ∷ (8, c.r) ∷ modes) ++ body

bodies_alike : (h : Header) (rows other : Rows) (c : Candidate) (slice precinct : ℕ) → IsGeometry h → SameInSlice h slice rows other → precinct / h.hsl ≡ slice
    → packets_bytes h (content_at h rows c) (mode_of h (content_at h rows c)) precinct ≡ packets_bytes h (content_at h other c) (mode_of h (content_at h other c)) precinct
unfolding AreAlike
bodies_alike h rows other c slice precinct geometry same here =
    joins_same (packet_bytes h (content_at h rows c) (mode_of h (content_at h rows c) precinct)) (packet_bytes h (content_at h other c) (mode_of h (content_at h other c) precinct)) (packets_of h precinct)
    (all-each (AreAlike h rows other c precinct) _ (packets_of h precinct)
    (λ place alike. lines_alike h (packet_bands h place) (packet_line h (content_at h rows c) (mode_of h (content_at h rows c) precinct) place) (packet_line h (content_at h other c) (mode_of h (content_at h other c) precinct) place) alike)
    (packets_alike h rows other c slice precinct geometry same here))

precinct_alike : (h : Header) (rows other : Rows) (c : Candidate) (filler : ℕ → ℕ) (slice precinct : ℕ) → IsGeometry h → SameInSlice h slice rows other → precinct / h.hsl ≡ slice
    → precinct_bytes h (content_at h rows c) (mode_of h (content_at h rows c)) filler precinct ≡ precinct_bytes h (content_at h other c) (mode_of h (content_at h other c)) filler precinct
precinct_alike h rows other c filler slice precinct geometry same here =
    ap (λ l. precinct_by h c precinct (map (λ band. (2, mode_of h (content_at h rows c) precinct band)) (upto (bands_of h))) (l ++ replicate (filler precinct) 0)) (bodies_alike h rows other c slice precinct geometry same here)
    ∙ ap (λ modes. precinct_by h c precinct modes (packets_bytes h (content_at h other c) (mode_of h (content_at h other c)) precinct ++ replicate (filler precinct) 0))
    (maps_same (λ band. (2, mode_of h (content_at h rows c) precinct band)) (λ band. (2, mode_of h (content_at h other c) precinct band)) (upto (bands_of h))
    (range-all (λ band. (2, mode_of h (content_at h rows c) precinct band) ≡ (2, mode_of h (content_at h other c) precinct band)) 0 (bands_of h)
    (λ band low high. ap (λ mode. (2, mode)) (modes_alike h rows other c slice precinct band geometry.hsl same here (omega (arith, high))))))

fits_alike : (h : Header) (rows other : Rows) (c : Candidate) (slice precinct : ℕ) → IsGeometry h → SameInSlice h slice rows other → precinct / h.hsl ≡ slice
    → precinct_fits h (content_at h rows c) (mode_of h (content_at h rows c)) no_filler precinct ≡ precinct_fits h (content_at h other c) (mode_of h (content_at h other c)) no_filler precinct
unfolding AreAlike
fits_alike h rows other c slice precinct geometry same here =
    ap (λ t. t && nat_lt (length (precinct_body h (content_at h rows c) (mode_of h (content_at h rows c)) no_filler precinct)) (2 ^ 24))
    (tests_same (packet_fits h (content_at h rows c) (mode_of h (content_at h rows c) precinct)) (packet_fits h (content_at h other c) (mode_of h (content_at h other c) precinct)) (packets_of h precinct)
    (all-each (AreAlike h rows other c precinct) _ (packets_of h precinct)
    (λ place alike. ap fields_fit
    (fields_alike h (packet_bands h place) (packet_line h (content_at h rows c) (mode_of h (content_at h rows c) precinct) place) (packet_line h (content_at h other c) (mode_of h (content_at h other c) precinct) place) alike))
    (packets_alike h rows other c slice precinct geometry same here)))
    ∙ ap (λ l. list_all (packet_fits h (content_at h other c) (mode_of h (content_at h other c) precinct)) (packets_of h precinct) && nat_lt (length (l ++ replicate 0 0)) (2 ^ 24)) (bodies_alike h rows other c slice precinct geometry same here)

-- Slices

-- each precinct of a slice is in it
all_in : (h : Header) (slice : ℕ) (P : ℕ → Type 0) → 1 ≤ h.hsl → ((precinct : ℕ) → precinct / h.hsl ≡ slice → P precinct) → AllByRecursion P (precincts_of h slice)
all_in h slice P some each =
    range-all P (slice * h.hsl) (min ((slice + 1) * h.hsl) (precinct_count h) - slice * h.hsl)
    (λ precinct low high.
    let least : slice ≤ precinct / h.hsl = (le-div_iff_mul-le some).1 low in
    let end : precinct < (slice + 1) * h.hsl = omega (arith, low, high) in
    let most : precinct / h.hsl < slice + 1 = quotient_below precinct h.hsl (slice + 1) some end in
    each precinct (omega (arith, least, most)))

bytes_alike : (h : Header) (rows other : Rows) (c : Candidate) (filler : ℕ → ℕ) (slice : ℕ) → IsGeometry h → SameInSlice h slice rows other
    → slice_bytes h (content_at h rows c) (mode_of h (content_at h rows c)) filler slice ≡ slice_bytes h (content_at h other c) (mode_of h (content_at h other c)) filler slice
bytes_alike h rows other c filler slice geometry same =
    ap (λ l. slice_head slice ++ l)
    (joins_same (precinct_bytes h (content_at h rows c) (mode_of h (content_at h rows c)) filler) (precinct_bytes h (content_at h other c) (mode_of h (content_at h other c)) filler) (precincts_of h slice)
    (all_in h slice _ geometry.hsl (λ precinct here. precinct_alike h rows other c filler slice precinct geometry same here)))

size_alike : (h : Header) (rows other : Rows) (c : Candidate) (slice : ℕ) → IsGeometry h → SameInSlice h slice rows other → size_at h rows slice c ≡ size_at h other slice c
size_alike h rows other c slice geometry same =
    omega (
      arith,
      size_of_slice h (content_at h rows c) (mode_of h (content_at h rows c)) no_filler slice,
      size_of_slice h (content_at h other c) (mode_of h (content_at h other c)) no_filler slice,
      ap length (bytes_alike h rows other c no_filler slice geometry same),
    )

fit_alike : (h : Header) (rows other : Rows) (c : Candidate) (slice : ℕ) → IsGeometry h → SameInSlice h slice rows other → fields_fit_at h rows slice c ≡ fields_fit_at h other slice c
fit_alike h rows other c slice geometry same =
    tests_same (precinct_fits h (content_at h rows c) (mode_of h (content_at h rows c)) no_filler) (precinct_fits h (content_at h other c) (mode_of h (content_at h other c)) no_filler) (precincts_of h slice)
    (all_in h slice _ geometry.hsl (λ precinct here. fits_alike h rows other c slice precinct geometry same here))

chosen_alike : (h : Header) (rows other : Rows) (share slice : ℕ) → IsGeometry h → SameInSlice h slice rows other → chosen_candidate h rows share slice ≡ chosen_candidate h other share slice
chosen_alike h rows other share slice geometry same =
    ap (λ test. unwrap_or (find test (candidates h)) (coarsest h)) (fun_ext (λ c.
    ap (λ n. nat_le n share && fields_fit_at h rows slice c) (size_alike h rows other c slice geometry same) ∙ ap (λ t. nat_le (size_at h other slice c) share && t) (fit_alike h rows other c slice geometry same)))

abbrev choice_by : ℕ → ℕ → ℕ → Candidate → Result Candidate Budget
choice_by share slice size candidate = if nat_lt share size then Err (record { slice = slice; size = size; share = share }) else Ok candidate

pub slice_of_lines : SliceOfLines
slice_of_lines h slice rows other geometry there same = record {
  choice = λ share.
      ap (λ n. choice_by share slice n (chosen_candidate h rows share slice)) (size_alike h rows other (coarsest h) slice geometry same)
      ∙ ap (choice_by share slice (size_at h other slice (coarsest h))) (chosen_alike h rows other share slice geometry same);
  bytes = λ share fill c.
      bytes_alike h rows other c (filler_of h rows share fill slice c) slice geometry same
      ∙ ap (λ n. slice_bytes h (content_at h other c) (mode_of h (content_at h other c)) (λ precinct. if fill && nat_eq (precinct + 1) (min ((slice + 1) * h.hsl) (precinct_count h)) then share - n else 0) slice)
      (size_alike h rows other c slice geometry same);
}
