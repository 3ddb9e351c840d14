-- The bits and the bytes of packets.
use Rattle.std.proofs.Common.{◌≡◌, ℕ, ◌+◌, ◌-◌, ◌<◌, ◌≤◌, List, [], ◌∷◌, length, sum_by, get_or, refl, sym, ap, subst, ◌∙◌, arith, append-nil}
use Rattle.std.specs.Prelude.{Bool, true, false, if◌then◌else◌}
use Rattle.std.specs.List.{range_with_len}
use Rattle.std.proofs.lemmas.List.Concat.{length-flat_map}
use Rattle.std.proofs.lemmas.List.Sums.{sum_by-cons}
use Rattle.xs_lists.specs.Bits.{bytes_for}
use Rattle.xs_lists.proofs.Ranges.{sum_first}
use Rattle.xs_layout.specs.Geometry.{PacketPlace, packet_places_of}
use Rattle.xs_layout.specs.Weighting.{truncation_of}
use Rattle.xs_layout.specs.declared.Candidate.{Candidate}
use Rattle.xs_params.specs.declared.header.Header.{Header}
use Rattle.xs_params.specs.Accepted.{IsGeometry}
use Rattle.xs_params.specs.Rows.{Rows}
use Rattle.xs_params.specs.Geometry.{packet_bands, packets_of, has_line}
use Rattle.xs_spelling.specs.Counts.{Line, flag_bits}
use Rattle.xs_spelling.specs.Data.{sign_bits}
use Rattle.xs_spelling.specs.Written.{written_flag, line_count_bits, line_data_bits}
use Rattle.xs_spelling.specs.Sizes.{count_size, data_size, flag_size, signs_size}
use Rattle.xs_spelling.proofs.Bounded.{kept-most}
use Rattle.xs_spelling.proofs.Sized.{lines_sized}
use Rattle.xs_grammar.specs.Packet.{packet_fields}
use Rattle.xs_grammar.specs.Precinct.{weight_of}
use Rattle.xs_grammar.specs.Coded.{fields_fit, counts_part, data_part, signs_part, packet_line, packet_bytes, packets_bytes, precinct_body, no_filler}
use Rattle.xs_grammar.proofs.Sizes.{length-lines_bytes}
use Rattle.xs_rate.specs.Chosen.{content_at, mode_of}
use Rattle.xs_rate.specs.Modes.{band_lines}
use Rattle.xs_rate.proofs.Packets.{part-size, places-most}
use Rattle.xs_sizes.specs.Cut.{cut_line}
use Rattle.xs_sizes.specs.Precincts.{lines_bits, mode_at}
use Rattle.xs_sizes.specs.Measured.{AreLineBits, ArePacketBits, mode_line, packet_fits_at, packet_size_at, parts_fit, parts_size}
use Rattle.xs_sizes.specs.Packed.{packets_size_at}
use Rattle.xs_sizes.specs.declared.packets.PartBits.{PartBits}
use Rattle.xs_rate.proofs.Fewest.{first_fewest}
use Rattle.xs_sizes.proofs.Plain.{sum_range}

pub mode_few : (h : Header) (rows : Rows) (precinct band t : ℕ) → mode_at h rows precinct band t < 4
mode_few h rows precinct band t = (first_fewest (λ mode. lines_bits h rows band t mode (band_lines h precinct band))).is_mode

-- Line after line

abbrev flags_by : Header → Rows → List ℕ → ℕ → ℕ → ℕ → ℕ
flags_by h rows cuts precinct line band = flag_size (mode_line h rows cuts precinct line band)

abbrev counts_by : Header → Rows → List ℕ → ℕ → ℕ → ℕ → ℕ
counts_by h rows cuts precinct line band = count_size (mode_line h rows cuts precinct line band)

abbrev numbers_by : Header → Rows → List ℕ → ℕ → ℕ → ℕ → ℕ
numbers_by h rows cuts precinct line band = data_size h.signs_apart (mode_line h rows cuts precinct line band)

abbrev signs_by : Header → Rows → List ℕ → ℕ → ℕ → ℕ → ℕ
signs_by h rows cuts precinct line band = signs_size (mode_line h rows cuts precinct line band)

-- the bits so far and those of the rest of the bands are those of the whole
pub record MakeUp (h : Header) (rows : Rows) (cuts : List ℕ) (precinct line : ℕ) (rest whole : List ℕ) (bits : PartBits) : Type 0 where
  pub flags : bits.flags + sum_by (flags_by h rows cuts precinct line) rest ≡ sum_by (flags_by h rows cuts precinct line) whole
  pub counts : bits.counts + sum_by (counts_by h rows cuts precinct line) rest ≡ sum_by (counts_by h rows cuts precinct line) whole
  pub numbers : bits.numbers + sum_by (numbers_by h rows cuts precinct line) rest ≡ sum_by (numbers_by h rows cuts precinct line) whole
  pub signs : h.signs_apart ≡ true → bits.signs + sum_by (signs_by h rows cuts precinct line) rest ≡ sum_by (signs_by h rows cuts precinct line) whole

pub none_yet : (h : Header) (rows : Rows) (cuts : List ℕ) (precinct line : ℕ) (whole : List ℕ) → MakeUp h rows cuts precinct line whole whole (record { flags = 0; counts = 0; numbers = 0; signs = 0 })
none_yet h rows cuts precinct line whole = record { flags = omega arith; counts = omega arith; numbers = omega arith; signs = λ apart. omega arith }

pub band_more : (h : Header) (rows : Rows) (cuts : List ℕ) (precinct line k end : ℕ) (whole : List ℕ) (bits more new : PartBits) → k < end
    → AreLineBits h rows (get_or cuts k 0) (mode_at h rows precinct k (get_or cuts k 0)) k line more
    → new ≡ record { flags = bits.flags + more.flags; counts = bits.counts + more.counts; numbers = bits.numbers + more.numbers; signs = bits.signs + more.signs }
    → MakeUp h rows cuts precinct line (range_with_len k (end - k)) whole bits → MakeUp h rows cuts precinct line (range_with_len (k + 1) (end - (k + 1))) whole new
band_more h rows cuts precinct line k end whole bits more new less are e before = record {
  flags = step (flags_by h rows cuts precinct line) bits.flags more.flags new.flags are.flags (ap (λ (b : PartBits). b.flags) e) before.flags;
  counts = step (counts_by h rows cuts precinct line) bits.counts more.counts new.counts are.counts (ap (λ (b : PartBits). b.counts) e) before.counts;
  numbers = step (numbers_by h rows cuts precinct line) bits.numbers more.numbers new.numbers are.numbers (ap (λ (b : PartBits). b.numbers) e) before.numbers;
  signs = λ apart. step (signs_by h rows cuts precinct line) bits.signs more.signs new.signs (are.signs apart) (ap (λ (b : PartBits). b.signs) e) (before.signs apart);
}
  where
    step : (f : ℕ → ℕ) (old own sum : ℕ) → own ≡ f k → sum ≡ old + own → old + sum_by f (range_with_len k (end - k)) ≡ sum_by f whole → sum + sum_by f (range_with_len (k + 1) (end - (k + 1))) ≡ sum_by f whole
    step f old own sum is add so_far = omega (arith, is, add, so_far, sum_first f k end less)

pub bands_done : (h : Header) (rows : Rows) (cuts : List ℕ) (precinct : ℕ) (place : PacketPlace) (line : ℕ) (rest : List ℕ) (bits : PartBits) → line ≡ place.line → rest ≡ []
    → MakeUp h rows cuts precinct line rest (packet_bands h place) bits → ArePacketBits h rows cuts precinct place bits
bands_done h rows cuts precinct place line rest bits here none known =
    let same : MakeUp h rows cuts precinct place.line [] (packet_bands h place) bits = subst (λ l. MakeUp h rows cuts precinct l [] (packet_bands h place) bits) here (subst (λ r. MakeUp h rows cuts precinct line r (packet_bands h place) bits) none known) in
    record {
      flags = omega (arith, same.flags);
      counts = omega (arith, same.counts);
      numbers = omega (arith, same.numbers);
      signs = λ apart. omega (arith, same.signs apart);
    }

-- The bytes of a packet

-- the truncations of the bands before this one are those of a candidate
abbrev pub AreCutsBelow : Header → Candidate → List ℕ → ℕ → Type 0
AreCutsBelow h candidate cuts end = (band : ℕ) → band < end → get_or cuts band 0 ≡ truncation_of candidate.q candidate.r (weight_of h band)

line_same : (h : Header) (rows : Rows) (cuts : List ℕ) (candidate : Candidate) (precinct band : ℕ) (place : PacketPlace) → get_or cuts band 0 ≡ truncation_of candidate.q candidate.r (weight_of h band)
    → mode_line h rows cuts precinct place.line band ≡ packet_line h (content_at h rows candidate) (mode_of h (content_at h rows candidate) precinct) place band
line_same h rows cuts candidate precinct band place e = ap (λ t. cut_line h h.quant rows t (mode_at h rows precinct band t) band place.line) e

sum_bands : (f g : ℕ → ℕ) (bands : List ℕ) (first end : ℕ) → first ≤ end → bands ≡ range_with_len first (end - first) → ((band : ℕ) → band < end → f band ≡ g band) → sum_by f bands ≡ sum_by g bands
sum_bands f g bands first end order e same = ap (sum_by f) e ∙ sum_range f g first (end - first) (λ i below. same i (omega (arith, below, order))) ∙ sym (ap (sum_by g) e)

-- the bits of the parts of a packet, as it is written
record AreWritten (h : Header) (bands : List ℕ) (line : ℕ → Line) (bits : PartBits) : Type 0 where
  flags : bits.flags ≡ sum_by (λ band. length (flag_bits (line band) (written_flag (line band)))) bands
  counts : bits.counts ≡ sum_by (λ band. length (line_count_bits false (line band) (written_flag (line band)))) bands
  numbers : bits.numbers ≡ sum_by (λ band. length (line_data_bits h.signs_apart (line band))) bands
  signs : h.signs_apart ≡ true → bits.signs ≡ sum_by (λ band. length (sign_bits (line band))) bands

are_written : (h : Header) (rows : Rows) (cuts : List ℕ) (candidate : Candidate) (precinct first end : ℕ) (place : PacketPlace) (bits : PartBits) → first ≤ end → packet_bands h place ≡ range_with_len first (end - first)
    → AreCutsBelow h candidate cuts end → ArePacketBits h rows cuts precinct place bits
    → AreWritten h (packet_bands h place) (packet_line h (content_at h rows candidate) (mode_of h (content_at h rows candidate) precinct) place) bits
are_written h rows cuts candidate precinct first end place bits order bands are known = record {
  flags = known.flags ∙ each flag_size;
  counts = known.counts ∙ each count_size;
  numbers = known.numbers ∙ each (data_size h.signs_apart) ∙ sum_bands (λ band. data_size h.signs_apart (line band)) (λ band. length (line_data_bits h.signs_apart (line band))) (packet_bands h place) first end order bands (λ band inside. sym (lines_sized.numbers h.signs_apart (line band)));
  signs = λ apart. known.signs apart ∙ each signs_size;
}
  where
    line : ℕ → Line
    line = packet_line h (content_at h rows candidate) (mode_of h (content_at h rows candidate) precinct) place

    each : (size : Line → ℕ) → sum_by (λ band. size (mode_line h rows cuts precinct place.line band)) (packet_bands h place) ≡ sum_by (λ band. size (line band)) (packet_bands h place)
    each size = sum_bands (λ band. size (mode_line h rows cuts precinct place.line band)) (λ band. size (line band)) (packet_bands h place) first end order bands (λ band inside. ap size (line_same h rows cuts candidate precinct band place (are band inside)))

abbrev pub whole_size : Bool → Bool → ℕ → ℕ → ℕ → ℕ → ℕ
whole_size long apart flags counts numbers signs = (if long then 7 else 5) + bytes_for flags + bytes_for counts + bytes_for numbers + (if apart then bytes_for signs else 0)

signs_same : (apart own : Bool) (a b : ℕ) → own ≡ apart → (own ≡ true → a ≡ b) → (if apart then bytes_for a else 0) ≡ (if apart then bytes_for b else 0)
signs_same true own a b e same = ap bytes_for (same e)
signs_same false own a b e same = refl

pub packet_sized : (h : Header) (rows : Rows) (cuts : List ℕ) (candidate : Candidate) (precinct first end : ℕ) (place : PacketPlace) (bits : PartBits) → h.long_heads ≡ false → first ≤ end → packet_bands h place ≡ range_with_len first (end - first)
    → AreCutsBelow h candidate cuts end → ArePacketBits h rows cuts precinct place bits → parts_size h.signs_apart bits ≡ packet_size_at h rows candidate precinct place
packet_sized h rows cuts candidate precinct first end place bits short order bands are known =
    let w = are_written h rows cuts candidate precinct first end place bits order bands are known in
    ap (λ f. whole_size false h.signs_apart f bits.counts bits.numbers bits.signs) w.flags
    ∙ ap (λ c. whole_size false h.signs_apart flags c bits.numbers bits.signs) w.counts
    ∙ ap (λ n. whole_size false h.signs_apart flags counts n bits.signs) w.numbers
    ∙ ap (λ s. (if false then 7 else 5) + bytes_for flags + bytes_for counts + bytes_for numbers + s) (signs_same h.signs_apart h.signs_apart bits.signs signs refl w.signs)
    ∙ ap (λ long. whole_size long h.signs_apart flags counts numbers signs) (sym short)
  where
    line : ℕ → Line
    line = packet_line h (content_at h rows candidate) (mode_of h (content_at h rows candidate) precinct) place

    flags : ℕ
    flags = sum_by (λ band. length (flag_bits (line band) (written_flag (line band)))) (packet_bands h place)

    counts : ℕ
    counts = sum_by (λ band. length (line_count_bits false (line band) (written_flag (line band)))) (packet_bands h place)

    numbers : ℕ
    numbers = sum_by (λ band. length (line_data_bits h.signs_apart (line band))) (packet_bands h place)

    signs : ℕ
    signs = sum_by (λ band. length (sign_bits (line band))) (packet_bands h place)

signs_part_size : (apart : Bool) (bands : List ℕ) (line : ℕ → Line) → length (signs_part apart bands line) ≡ (if apart then bytes_for (sum_by (λ band. length (sign_bits (line band))) bands) else 0)
signs_part_size true bands line = part-size (λ band. sign_bits (line band)) bands
signs_part_size false bands line = refl

pub packet_fitting : (h : Header) (rows : Rows) (cuts : List ℕ) (candidate : Candidate) (precinct first end : ℕ) (place : PacketPlace) (bits : PartBits) → h.long_heads ≡ false → first ≤ end → packet_bands h place ≡ range_with_len first (end - first)
    → AreCutsBelow h candidate cuts end → ArePacketBits h rows cuts precinct place bits → parts_fit h.signs_apart bits ≡ packet_fits_at h rows candidate precinct place
packet_fitting h rows cuts candidate precinct first end place bits short order bands are known =
    let w = are_written h rows cuts candidate precinct first end place bits order bands are known in
    let numbers : bytes_for bits.numbers ≡ length (data_part h.signs_apart (packet_bands h place) line) = ap bytes_for w.numbers ∙ sym (part-size (λ band. line_data_bits h.signs_apart (line band)) (packet_bands h place)) in
    let counts : bytes_for bits.counts ≡ length (counts_part (packet_bands h place) line) = ap bytes_for w.counts ∙ sym (part-size (λ band. line_count_bits false (line band) (written_flag (line band))) (packet_bands h place)) in
    let signs : (if h.signs_apart then bytes_for bits.signs else 0) ≡ length (signs_part h.signs_apart (packet_bands h place) line) =
    signs_same h.signs_apart h.signs_apart bits.signs (sum_by (λ band. length (sign_bits (line band))) (packet_bands h place)) refl w.signs ∙ sym (signs_part_size h.signs_apart (packet_bands h place) line) in
    ap (λ n. fields_fit (packet_fields false false n (bytes_for bits.counts) (if h.signs_apart then bytes_for bits.signs else 0))) numbers
    ∙ ap (λ c. fields_fit (packet_fields false false (length (data_part h.signs_apart (packet_bands h place) line)) c (if h.signs_apart then bytes_for bits.signs else 0))) counts
    ∙ ap (λ s. fields_fit (packet_fields false false (length (data_part h.signs_apart (packet_bands h place) line)) (length (counts_part (packet_bands h place) line)) s)) signs
    ∙ ap (λ long. fields_fit (packet_fields long false (length (data_part h.signs_apart (packet_bands h place) line)) (length (counts_part (packet_bands h place) line)) (length (signs_part h.signs_apart (packet_bands h place) line)))) (sym short)
  where
    line : ℕ → Line
    line = packet_line h (content_at h rows candidate) (mode_of h (content_at h rows candidate) precinct) place

-- The packets of a precinct

pub few_packets : (h : Header) (precinct : ℕ) → IsGeometry h → length (packets_of h precinct) ≤ 10
few_packets h precinct geometry = omega (arith, kept-most (has_line h) (packet_places_of h.nlx h.nly precinct), places-most h.nlx h.nly precinct (omega (arith, geometry.nly)))

sum_same : {A : Type 0} (f g : A → ℕ) → ((x : A) → f x ≡ g x) → (xs : List A) → sum_by f xs ≡ sum_by g xs
sum_same f g h [] = refl
sum_same f g h (x ∷ xs) = omega (arith, sum_by-cons f x xs, sum_by-cons g x xs, h x, sum_same f g h xs)

pub body_size : (h : Header) (rows : Rows) (candidate : Candidate) (precinct : ℕ)
    → length (precinct_body h (content_at h rows candidate) (mode_of h (content_at h rows candidate)) no_filler precinct) ≡ packets_size_at h rows candidate precinct
body_size h rows candidate precinct =
    let content = content_at h rows candidate in
    let mode = mode_of h content in
    ap length (append-nil (packets_bytes h content mode precinct)) ∙ length-flat_map (packet_bytes h content (mode precinct)) (packets_of h precinct)
    ∙ sum_same (λ place. length (packet_bytes h content (mode precinct) place)) (packet_size_at h rows candidate precinct) (λ place. length-lines_bytes h (packet_bands h place) (packet_line h content (mode precinct) place)) (packets_of h precinct)
