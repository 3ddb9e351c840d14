-- A packet of some lines has no fault, and is read as those lines.
use Rattle.std.proofs.Common.{◌≡◌, ℕ, zero, suc, ◌+◌, ◌-◌, ◌*◌, ◌<◌, ◌≤◌, List, [], ◌∷◌, ◌++◌, map, length, take, drop, refl, sym, ap, subst, ◌∙◌, arith, append_assoc, length-append}
use Rattle.std.specs.Prelude.{⊤, Bool, true, false, ◌||◌, ◌&&◌, nat_lt, if◌then◌else◌, Option, None, Result, Ok, Err}
use Rattle.std.specs.Bool.{MatchBool}
use Rattle.std.specs.List.{AllByRecursion, flat_map, range_with_len, sum_by}
use Rattle.std.specs.Option.{option_map}
use Rattle.std.specs.Result.{result_err}
use Rattle.std.proofs.lemmas.Bool.{le-ltb}
use Rattle.std.proofs.lemmas.List.{take_at, drop_at}
use Rattle.std.proofs.lemmas.List.FromFn.{get_or-map-range_with_len}
use Rattle.std.proofs.lemmas.List.Sums.{sum_by-cons}
use Rattle.xs_lists.specs.Bits.{bits_of, bits_of_bytes, bits_of_fields, bytes_for, FieldsFit, bit_of}
use Rattle.xs_lists.specs.First.{when, first_some}
use Rattle.xs_lists.specs.Packing.{AreBits}
use Rattle.xs_lists.specs.Spelling.{upto, SpellsEach, SpellsBits, SpellsPadded}
use Rattle.xs_lists.proofs.Bits.{length-bits_of, length-bits_of_bytes}
use Rattle.xs_lists.proofs.Cut.{fields_agree}
use Rattle.xs_lists.proofs.Each.{range-all}
use Rattle.xs_faults.specs.declared.CountFault.{CountFault}
use Rattle.xs_faults.specs.declared.PrecinctFault.TheVariants as fault
use Rattle.xs_faults.specs.declared.Part.TheVariants.{Head, Significance, Counts, Data, Signs}
use Rattle.xs_spelling.specs.Counts.{Line, flag_bits, SpellsCounts, SpellsRawCounts, unspelled_count}
use Rattle.xs_spelling.specs.Data.{SpellsData, sign_bits}
use Rattle.xs_spelling.specs.Laws.{SameBefore, SameCounts, SameNumber}
use Rattle.xs_spelling.specs.Sizes.{flag_count, group_size, data_size, signs_size}
use Rattle.xs_spelling.specs.Reading.{read_each, read_coded, read_count, read_line_counts, bit_at, with_counts, with_data}
use Rattle.xs_spelling.proofs.Alike.{each_alike, read_alike}
use Rattle.xs_spelling.proofs.Counted.{counts_known}
use Rattle.xs_spelling.proofs.OneData.{one_data, bit_of-one}
use Rattle.xs_spelling.proofs.Sized.{lines_sized}
use Rattle.xs_spelling.proofs.Redata.{data_spelled, data_sized, each-size}
use Rattle.xs_spelling.proofs.Resigned.{signs_size-same, signs_known}
use Rattle.xs_grammar.specs.Sizes.{head_size}
use Rattle.xs_grammar.specs.Packet.{SpellsBandCounts, packet_fields}
use Rattle.xs_grammar.specs.Laws.{SameLine}
use Rattle.xs_grammar.proofs.OnePacket.{flags_say}
use Rattle.xs_reading.specs.Packet.{packet_head, flag_bytes, counts_start, data_start, signs_start, packet_end, flagged, read_counted, counted_lines, lines_with_data, lines_with_signs, lines_counted, lines_filled, fault_of_counts}
use Rattle.xs_reading.specs.Laws.{PacketKnown}
use Rattle.xs_reading.proofs.Parts.{bytes-are, head_fields}
use Rattle.xs_reading.proofs.Lines.{one_flags}

-- what holds of each band and its line in a list
abbrev Match : (ℕ → Line → Type 0) → List ℕ → List Line → Type 0
Match R [] [] = ⊤
Match R [] (line ∷ lines) = ⊥
Match R (band ∷ bands) [] = ⊥
Match R (band ∷ bands) (line ∷ lines) = R band line × Match R bands lines

-- Counts

-- flags that say the same are read alike
flags_alike : (run_mode : ℕ) (line : Line) (flag other : ℕ → ℕ) (bits : List ℕ) → flag_bits line flag ≡ flag_bits line other → read_line_counts false run_mode line flag bits ≡ read_line_counts false run_mode line other bits
flags_alike run_mode line flag other bits e =
    each_alike (read_count false run_mode line flag) (read_count false run_mode line other) (upto line.groups) bits
    (range-all (λ group. (bits : List ℕ) → read_count false run_mode line flag group bits ≡ read_count false run_mode line other group bits) 0 line.groups (λ group low high bits.
    ap (λ skipped. if◌then◌else◌ {A = Result (ℕ × List ℕ) CountFault} skipped (Ok (unspelled_count run_mode line group, bits)) (read_coded line group bits))
    (flags_say line line flag other (record { groups = refl; mode = refl; truncation = refl; prediction = λ group inside. refl }) e group (omega (arith, high)))))

-- the counts of a line, as a list
abbrev counts_of : Line → List ℕ
counts_of line = map line.count (upto line.groups)

flags-long : (line : Line) (flag : ℕ → ℕ) → length (flag_bits line flag) ≡ flag_count line
flags-long line flag = lines_sized.flags line flag

flags_front : (line : Line) (flag : ℕ → ℕ) (pad : List ℕ) → flag_bits line (bit_at (flag_bits line flag ++ pad)) ≡ flag_bits line flag
flags_front line flag pad =
    one_flags line (flag_bits line flag ++ pad) (omega (arith, length-append (flag_bits line flag) pad, flags-long line flag)) ∙ take_at (flag_bits line flag) pad (flag_count line) (flags-long line flag)

one_raw : (run_mode : ℕ) (line known : Line) (flag : ℕ → ℕ) (front rest : List ℕ) → SameBefore line known → SpellsRawCounts line front → read_line_counts true run_mode known flag (front ++ rest) ≡ Ok (counts_of line, rest)
one_raw run_mode line known flag front rest same p = sym (read_alike true run_mode line known flag (front ++ rest) same) ∙ counts_known.raw run_mode line flag front rest p

one_coded : (run_mode : ℕ) (line known : Line) (flag : ℕ → ℕ) (pad front rest : List ℕ) → SameBefore line known → SpellsCounts run_mode line flag front
    → read_line_counts false run_mode known (bit_at (flag_bits line flag ++ pad)) (front ++ rest) ≡ Ok (counts_of line, rest)
one_coded run_mode line known flag pad front rest same p =
    sym (read_alike false run_mode line known (bit_at (flag_bits line flag ++ pad)) (front ++ rest) same)
    ∙ flags_alike run_mode line (bit_at (flag_bits line flag ++ pad)) flag (front ++ rest) (flags_front line flag pad) ∙ counts_known.coded run_mode line flag front rest p

-- the first line of some, and the others
cons_read : (raw : Bool) (run_mode : ℕ) (item : Line × (ℕ → ℕ)) (items : List (Line × (ℕ → ℕ))) (bits counts left rest : List ℕ) (lines : List Line) → read_line_counts raw run_mode item.0 item.1 bits ≡ Ok (counts, left)
    → read_each (read_counted raw run_mode) items left ≡ Ok (lines, rest) → read_each (read_counted raw run_mode) (item ∷ items) bits ≡ Ok (with_counts item.0 counts ∷ lines, rest)
cons_read raw run_mode item items bits counts left rest lines p q = ap (λ r. next (item_of r)) p ∙ ap (join (with_counts item.0 counts)) q
  where
    join : Line → Result (List Line × List ℕ) CountFault → Result (List Line × List ℕ) CountFault
    join line r = elim r [ Ok others ↦ Ok (line ∷ others.0, others.1) | Err fault ↦ Err fault ]

    item_of : Result (List ℕ × List ℕ) CountFault → Result (Line × List ℕ) CountFault
    item_of r = elim r [ Ok read ↦ Ok (with_counts item.0 read.0, read.1) | Err fault ↦ Err fault ]

    next : Result (Line × List ℕ) CountFault → Result (List Line × List ℕ) CountFault
    next r = elim r [ Ok one ↦ join one.0 (read_each (read_counted raw run_mode) items one.1) | Err fault ↦ Err fault ]

all_raw : (run_mode : ℕ) (bands : List ℕ) (line known : ℕ → Line) (sig front rest : List ℕ) → AllByRecursion (λ band. SameBefore (line band) (known band)) bands → SpellsEach (λ band. SpellsRawCounts (line band)) bands front
    → read_each (read_counted true run_mode) (flagged (map known bands) sig) (front ++ rest) ≡ Ok (map (λ band. with_counts (known band) (counts_of (line band))) bands, rest)
all_raw run_mode [] line known sig front rest same p = ap (λ l. read_each (read_counted true run_mode) [] (l ++ rest)) p
all_raw run_mode (band ∷ bands) line known sig front rest same p =
    ap (λ l. read_each (read_counted true run_mode) (flagged (map known (band ∷ bands)) sig) l) (ap (λ l. l ++ rest) p.2 ∙ append_assoc p.0 p.1 rest)
    ∙ cons_read true run_mode (known band, bit_at sig) (flagged (map known bands) (drop (flag_count (known band)) sig)) (p.0 ++ (p.1 ++ rest)) (counts_of (line band)) (p.1 ++ rest) rest
    (map (λ band. with_counts (known band) (counts_of (line band))) bands)
    (one_raw run_mode (line band) (known band) (bit_at sig) p.0 (p.1 ++ rest) same.0 p.3) (all_raw run_mode bands line known (drop (flag_count (known band)) sig) p.1 rest same.1 p.4)

flag_count-same : (line known : Line) → SameBefore line known → flag_count known ≡ flag_count line
flag_count-same line known same = sym (flags-long known (λ j. 0)) ∙ sym (lengths) ∙ flags-long line (λ j. 0)
  where
    lengths : length (flag_bits line (λ j. 0)) ≡ length (flag_bits known (λ j. 0))
    lengths = ap (λ mode. length (flag_bits (record line { mode = mode }) (λ j. 0))) same.mode ∙ ap (λ groups. length (flag_bits (record line { mode = known.mode; groups = groups }) (λ j. 0))) same.groups

all_coded : (run_mode : ℕ) (bands : List ℕ) (line known : ℕ → Line) (flag : ℕ → ℕ → ℕ) (pad front rest : List ℕ) → AllByRecursion (λ band. SameBefore (line band) (known band)) bands
    → SpellsEach (λ band. SpellsCounts run_mode (line band) (flag band)) bands front
    → read_each (read_counted false run_mode) (flagged (map known bands) (flat_map (λ band. flag_bits (line band) (flag band)) bands ++ pad)) (front ++ rest) ≡ Ok (map (λ band. with_counts (known band) (counts_of (line band))) bands, rest)
all_coded run_mode [] line known flag pad front rest same p = ap (λ l. read_each (read_counted false run_mode) [] (l ++ rest)) p
all_coded run_mode (band ∷ bands) line known flag pad front rest same p =
    let own : List ℕ = flag_bits (line band) (flag band) in
    let others : List ℕ = flat_map (λ band. flag_bits (line band) (flag band)) bands in
    let sig : List ℕ = own ++ (others ++ pad) in
    let cut : drop (flag_count (known band)) sig ≡ others ++ pad = drop_at own (others ++ pad) (flag_count (known band)) (flags-long (line band) (flag band) ∙ sym (flag_count-same (line band) (known band) same.0)) in
    ap (λ l. read_each (read_counted false run_mode) (flagged (map known (band ∷ bands)) l) (front ++ rest)) (append_assoc own others pad)
    ∙ ap (λ l. read_each (read_counted false run_mode) (flagged (map known (band ∷ bands)) sig) l) (ap (λ l. l ++ rest) p.2 ∙ append_assoc p.0 p.1 rest)
    ∙ cons_read false run_mode (known band, bit_at sig) (flagged (map known bands) (drop (flag_count (known band)) sig)) (p.0 ++ (p.1 ++ rest)) (counts_of (line band)) (p.1 ++ rest) rest
    (map (λ band. with_counts (known band) (counts_of (line band))) bands)
    (one_coded run_mode (line band) (known band) (flag band) (others ++ pad) p.0 (p.1 ++ rest) same.0 p.3)
    (ap (λ l. read_each (read_counted false run_mode) (flagged (map known bands) l) (p.1 ++ rest)) cut ∙ all_coded run_mode bands line known flag pad p.1 rest same.1 p.4)

-- Numbers

-- a line with the counts of another
record HasCounts (line read : Line) : Type 0 where
  pub groups : line.groups ≡ read.groups
  pub truncation : line.truncation ≡ read.truncation
  pub counts : SameCounts line read

has_counts : (line known : Line) → SameBefore line known → HasCounts line (with_counts known (counts_of line))
has_counts line known same = record {
  groups = same.groups;
  truncation = same.truncation;
  counts = λ group inside. sym (get_or-map-range_with_len line.count 0 line.groups group group 0 inside (omega arith));
}

all_counts : (bands : List ℕ) (line known : ℕ → Line) → AllByRecursion (λ band. SameBefore (line band) (known band)) bands → Match (λ band. HasCounts (line band)) bands (map (λ band. with_counts (known band) (counts_of (line band))) bands)
all_counts [] line known same = tt
all_counts (band ∷ bands) line known same = (has_counts (line band) (known band) same.0, all_counts bands line known same.1)

-- and with its numbers; with its magnitudes, where the signs stand apart
record HasNumbers (apart : Bool) (line read : Line) : Type 0 where
  pub counted : HasCounts line read
  pub numbers : (column : ℕ) → column < 4 * line.groups → SameNumber apart (line.value column) (read.value column)

-- data of a line is spelled for each line with its counts alike
data_size-same : (apart : Bool) (line read : Line) → HasCounts line read → data_size apart read ≡ data_size apart line
data_size-same apart line read has = ap (λ n. sum_by (group_size apart read) (upto n)) (sym has.groups) ∙ sums (group_size apart read) (group_size apart line) 0 line.groups (λ group low high. one group (omega (arith, high)))
  where
    size : ℕ → ℕ → ℕ
    size truncation count = if nat_lt truncation count then (if apart then 0 else 4) + 4 * (count - truncation) else 0

    one : (group : ℕ) → group < line.groups → group_size apart read group ≡ group_size apart line group
    one group inside = ap (λ t. size t (read.count group)) (sym has.truncation) ∙ ap (size line.truncation) (sym (has.counts group inside))

    sums : (f g : ℕ → ℕ) (first n : ℕ) → ((i : ℕ) → first ≤ i → i < first + n → f i ≡ g i) → sum_by f (range_with_len first n) ≡ sum_by g (range_with_len first n)
    sums f g first zero h = refl
    sums f g first (suc n) h = omega (arith, sum_by-cons f first (range_with_len (first + 1) n), sum_by-cons g first (range_with_len (first + 1) n), h first (omega arith) (omega arith), sums f g (first + 1) n (λ i low high. h i (omega (arith, low)) (omega (arith, high))))

one_numbers : (apart : Bool) (line read : Line) (front rest : List ℕ) → HasCounts line read → AreBits (front ++ rest) → SpellsData apart line front
    → (drop (data_size apart read) (front ++ rest) ≡ rest) × HasNumbers apart line (with_data apart read (front ++ rest))
one_numbers apart line read front rest has are p =
    let size : length front ≡ data_size apart read = data_sized apart line front p ∙ sym (data_size-same apart line read has) in
    let room : data_size apart read ≤ length (front ++ rest) = omega (arith, size, length-append front rest) in
    let again : SpellsData apart (with_data apart read (front ++ rest)) front = subst (SpellsData apart (with_data apart read (front ++ rest))) (take_at front rest (data_size apart read) size) (data_spelled apart read (front ++ rest) are room) in (
      drop_at front rest (data_size apart read) size,
      record {
        counted = record { groups = has.groups; truncation = has.truncation; counts = has.counts };
        numbers = (one_data apart line (with_data apart read (front ++ rest)) front front [] [] has.groups has.truncation has.counts p again refl).1;
      },
    )

tail-are : (front rest : List ℕ) → AreBits (front ++ rest) → AreBits rest
tail-are [] rest h = h
tail-are (b ∷ front) rest h = tail-are front rest h.1

all_numbers : (apart : Bool) (bands : List ℕ) (line : ℕ → Line) (lines : List Line) (front rest : List ℕ) → Match (λ band. HasCounts (line band)) bands lines → AreBits (front ++ rest)
    → SpellsEach (λ band. SpellsData apart (line band)) bands front → Match (λ band. HasNumbers apart (line band)) bands (lines_with_data apart lines (front ++ rest))
all_numbers apart [] line [] front rest m are p = tt
all_numbers apart [] line (l ∷ lines) front rest m are p = absurd m
all_numbers apart (band ∷ bands) line [] front rest m are p = absurd m
all_numbers apart (band ∷ bands) line (l ∷ lines) front rest m are p =
    let whole : front ++ rest ≡ p.0 ++ (p.1 ++ rest) = ap (λ l. l ++ rest) p.2 ∙ append_assoc p.0 p.1 rest in
    let bits-are : AreBits (p.0 ++ (p.1 ++ rest)) = subst AreBits whole are in
    let one = one_numbers apart (line band) l p.0 (p.1 ++ rest) m.0 bits-are p.3 in
    let others = all_numbers apart bands line lines p.1 rest m.1 (tail-are p.0 (p.1 ++ rest) bits-are) p.4 in
    subst (λ b. Match (λ band. HasNumbers apart (line band)) (band ∷ bands) (lines_with_data apart (l ∷ lines) b)) (sym whole)
    (one.1, subst (λ b. Match (λ band. HasNumbers apart (line band)) bands (lines_with_data apart lines b)) (sym one.0) others)

sum_numbers : (apart : Bool) (bands : List ℕ) (line : ℕ → Line) (lines : List Line) → Match (λ band. HasCounts (line band)) bands lines → sum_by (data_size apart) lines ≡ sum_by (λ band. data_size apart (line band)) bands
sum_numbers apart [] line [] m = refl
sum_numbers apart [] line (l ∷ lines) m = absurd m
sum_numbers apart (band ∷ bands) line [] m = absurd m
sum_numbers apart (band ∷ bands) line (l ∷ lines) m =
    omega (arith, sum_by-cons (data_size apart) l lines, sum_by-cons (λ band. data_size apart (line band)) band bands, data_size-same apart (line band) l m.0, sum_numbers apart bands line lines m.1)

-- Signs

signs-long : (apart : Bool) (line read : Line) → HasNumbers apart line read → signs_size read ≡ signs_size line
signs-long apart line read has = signs_size-same line read has.counted.groups (λ c inside. sym (has.numbers c inside).magnitude)

sum_signs : (apart : Bool) (bands : List ℕ) (line : ℕ → Line) (lines : List Line) → Match (λ band. HasNumbers apart (line band)) bands lines → sum_by signs_size lines ≡ length (flat_map (λ band. sign_bits (line band)) bands)
sum_signs apart [] line [] m = refl
sum_signs apart [] line (l ∷ lines) m = absurd m
sum_signs apart (band ∷ bands) line [] m = absurd m
sum_signs apart (band ∷ bands) line (l ∷ lines) m =
    omega (arith, sum_by-cons signs_size l lines, length-append (sign_bits (line band)) (flat_map (λ band. sign_bits (line band)) bands), signs-long apart (line band) l m.0, sum_signs apart bands line lines m.1)

same_together : (bands : List ℕ) (line : ℕ → Line) (lines : List Line) → Match (λ band. HasNumbers false (line band)) bands lines → Match (λ band. SameLine (line band)) bands lines
same_together [] line [] m = tt
same_together [] line (l ∷ lines) m = absurd m
same_together (band ∷ bands) line [] m = absurd m
same_together (band ∷ bands) line (l ∷ lines) m =
    (record { counts = m.0.counted.counts; values = λ column inside. (m.0.numbers column inside).number refl }, same_together bands line lines m.1)

same_apart : (bands : List ℕ) (line : ℕ → Line) (lines : List Line) (rest : List ℕ) → AreBits (flat_map (λ band. sign_bits (line band)) bands ++ rest) → Match (λ band. HasNumbers true (line band)) bands lines
    → Match (λ band. SameLine (line band)) bands (lines_with_signs lines (flat_map (λ band. sign_bits (line band)) bands ++ rest))
same_apart [] line [] rest are m = tt
same_apart [] line (l ∷ lines) rest are m = absurd m
same_apart (band ∷ bands) line [] rest are m = absurd m
same_apart (band ∷ bands) line (l ∷ lines) rest are m =
    let own : List ℕ = sign_bits (line band) in
    let others : List ℕ = flat_map (λ band. sign_bits (line band)) bands in
    let whole : (own ++ others) ++ rest ≡ own ++ (others ++ rest) = append_assoc own others rest in
    let left : AreBits (others ++ rest) = tail-are own (others ++ rest) (subst AreBits whole are) in
    let cut : drop (signs_size l) (own ++ (others ++ rest)) ≡ others ++ rest = drop_at own (others ++ rest) (signs_size l) (sym (signs-long true (line band) l m.0)) in
    subst (λ b. Match (λ band. SameLine (line band)) (band ∷ bands) (lines_with_signs (l ∷ lines) b)) (sym whole) (
      record {
        counts = m.0.counted.counts;
        values = λ column inside. sym (signs_known (line band) l (others ++ rest) column left m.0.counted.groups (λ c within. sym (m.0.numbers c within).magnitude) inside);
      },
      subst (λ b. Match (λ band. SameLine (line band)) bands (lines_with_signs lines b)) (sym cut) (same_apart bands line lines rest left m.1),
    )

by_bands : (R : ℕ → Line → Type 0) (bands : List ℕ) (other : ℕ → Line) → Match R bands (map other bands) → AllByRecursion (λ band. R band (other band)) bands
by_bands R [] other m = tt
by_bands R (band ∷ bands) other m = (m.0, by_bands R bands other m.1)

-- Packets

fields-long : (long raw : Bool) (d c s : ℕ) → length (bits_of_fields (packet_fields long raw d c s)) ≡ 8 * (if long then 7 else 5)
fields-long true raw d c s = omega (
  arith,
  length-append (bits_of 1 (bit_of raw)) (bits_of 20 d ++ (bits_of 20 c ++ (bits_of 15 s ++ []))),
  length-append (bits_of 20 d) (bits_of 20 c ++ (bits_of 15 s ++ [])),
  length-append (bits_of 20 c) (bits_of 15 s ++ []),
  length-append (bits_of 15 s) [],
  length-bits_of 1 (bit_of raw),
  length-bits_of 20 d,
  length-bits_of 20 c,
  length-bits_of 15 s,
)
fields-long false raw d c s = omega (
  arith,
  length-append (bits_of 1 (bit_of raw)) (bits_of 15 d ++ (bits_of 13 c ++ (bits_of 11 s ++ []))),
  length-append (bits_of 15 d) (bits_of 13 c ++ (bits_of 11 s ++ [])),
  length-append (bits_of 13 c) (bits_of 11 s ++ []),
  length-append (bits_of 11 s) [],
  length-bits_of 1 (bit_of raw),
  length-bits_of 15 d,
  length-bits_of 13 c,
  length-bits_of 11 s,
)

-- the part between two places
middle : {A : Type 0} (a b c l : List A) (from to : ℕ) → l ≡ a ++ (b ++ c) → from ≡ length a → to ≡ length a + length b → take (to - from) (drop from l) ≡ b
middle a b c l from to e f t =
    ap (λ l. take (to - from) (drop from l)) e ∙ ap (take (to - from)) (drop_at a (b ++ c) from (sym f)) ∙ take_at b c (to - from) (omega (arith, f, t))

sum_flags : (bands : List ℕ) (line known : ℕ → Line) (flag : ℕ → ℕ → ℕ) → AllByRecursion (λ band. SameBefore (line band) (known band)) bands
    → sum_by flag_count (map known bands) ≡ length (flat_map (λ band. flag_bits (line band) (flag band)) bands)
sum_flags [] line known flag same = refl
sum_flags (band ∷ bands) line known flag same =
    omega (arith, sum_by-cons flag_count (known band) (map known bands), length-append (flag_bits (line band) (flag band)) (flat_map (λ band. flag_bits (line band) (flag band)) bands), flags-long (line band) (flag band), flag_count-same (line band) (known band) same.0, sum_flags bands line known flag same.1)

six_back : {A : Type 0} (a b c d e f : Option A) → a ≡ None → b ≡ None → c ≡ None → d ≡ None → e ≡ None → f ≡ None → first_some (a ∷ b ∷ c ∷ d ∷ e ∷ f ∷ []) ≡ None
six_back a b c d e f p q r s t u =
    ap (λ x. first_some (x ∷ b ∷ c ∷ d ∷ e ∷ f ∷ [])) p ∙ ap (λ x. first_some (x ∷ c ∷ d ∷ e ∷ f ∷ [])) q ∙ ap (λ x. first_some (x ∷ d ∷ e ∷ f ∷ [])) r ∙ ap (λ x. first_some (x ∷ e ∷ f ∷ [])) s
    ∙ ap (λ x. first_some (x ∷ f ∷ [])) t ∙ ap (λ x. first_some (x ∷ [])) u

no_when : {A : Type 0} (test : Bool) (a : A) → test ≡ false → when test a ≡ None
no_when test a e = ap (λ t. when t a) e

both-false : (a b : Bool) → a ≡ false → b ≡ false → (a || b) ≡ false
both-false a b p q = ap (λ x. x || b) p ∙ q

pub packet_known : PacketKnown
packet_known h packet bands line known part rest same p = record {
  no_fault = six_back (when (nat_lt (length bytes) (head_size h)) (fault.Overrun packet Head)) (when (nat_lt (length bytes) (counts_start h lines bytes)) (fault.Overrun packet Significance))
      (when (nat_lt (length bytes) (data_start h lines bytes)) (fault.Overrun packet Counts)) (option_map (fault_of_counts packet) (result_err (counted_lines h lines bytes)))
      (when (short || few) (fault.Overrun packet Data)) (when (sign_test h.signs_apart) (fault.Overrun packet Signs))
      (no_when (nat_lt (length bytes) (head_size h)) (fault.Overrun packet Head) (le-ltb (length bytes) (head_size h) (omega (arith, long, head-long))))
      (no_when (nat_lt (length bytes) (counts_start h lines bytes)) (fault.Overrun packet Significance) (le-ltb (length bytes) (counts_start h lines bytes) (omega (arith, long, counts-at))))
      (no_when (nat_lt (length bytes) (data_start h lines bytes)) (fault.Overrun packet Counts) (le-ltb (length bytes) (data_start h lines bytes) (omega (arith, long, data-at))))
      (ap (λ r. option_map (fault_of_counts packet) (result_err r)) counted)
      (no_when (short || few) (fault.Overrun packet Data) (both-false short few (le-ltb (length bytes) (signs_start h lines bytes) (omega (arith, long, signs-at)))
      (le-ltb (8 * (packet_head h.long_heads bytes).data_bytes) (sum_by (data_size h.signs_apart) (lines_counted h lines bytes)) enough)))
      (no_when (sign_test h.signs_apart) (fault.Overrun packet Signs) (signs-fit h.signs_apart refl));
  ends = ends-at ∙ omega (arith, part-long, signs-long-by h.signs_apart p.signed);
  same = λ other of. by_bands (λ band. SameLine (line band)) bands other (subst (Match (λ band. SameLine (line band)) bands) (sym of) (read h.signs_apart refl p.signed));
}
  where
    bytes : List ℕ
    bytes = part ++ rest

    lines : List Line
    lines = map known bands

    flags : List ℕ
    flags = flat_map (λ band. flag_bits (line band) (p.flag band)) bands

    whole : bytes ≡ p.head ++ (p.significance ++ (p.counts ++ (p.planes ++ (p.signs ++ rest))))
    whole = ap (λ l. l ++ rest) p.joined ∙ append_assoc p.head (p.significance ++ (p.counts ++ (p.planes ++ p.signs))) rest
        ∙ ap (λ l. p.head ++ l) (append_assoc p.significance (p.counts ++ (p.planes ++ p.signs)) rest
        ∙ ap (λ l. p.significance ++ l) (append_assoc p.counts (p.planes ++ p.signs) rest ∙ ap (λ l. p.counts ++ l) (append_assoc p.planes p.signs rest)))

    part-long : length part ≡ length p.head + length p.significance + length p.counts + length p.planes + length p.signs
    part-long = omega (arith, ap length p.joined, length-append p.head (p.significance ++ (p.counts ++ (p.planes ++ p.signs))), length-append p.significance (p.counts ++ (p.planes ++ p.signs)), length-append p.counts (p.planes ++ p.signs), length-append p.planes p.signs)

    long : length bytes ≡ length p.head + length p.significance + length p.counts + length p.planes + length p.signs + length rest
    long = omega (arith, length-append part rest, part-long)

    head-long : head_size h ≡ length p.head
    head-long = omega (arith, length-bits_of_bytes p.head, ap length p.headed, fields-long h.long_heads p.raw (length p.planes) (length p.counts) p.stated)

    fields : FieldsFit (packet_fields h.long_heads (packet_head h.long_heads bytes).raw (packet_head h.long_heads bytes).data_bytes (packet_head h.long_heads bytes).count_bytes (packet_head h.long_heads bytes).sign_bytes)
        × (bits_of_bytes (take (head_size h) bytes) ≡ bits_of_fields (packet_fields h.long_heads (packet_head h.long_heads bytes).raw (packet_head h.long_heads bytes).data_bytes (packet_head h.long_heads bytes).count_bytes (packet_head h.long_heads bytes).sign_bytes))
    fields = head_fields h.long_heads bytes (omega (arith, long, head-long))

    front : take (head_size h) bytes ≡ p.head
    front = ap (take (head_size h)) whole ∙ take_at p.head (p.significance ++ (p.counts ++ (p.planes ++ (p.signs ++ rest)))) (head_size h) (sym head-long)

    stated : bit_of p.raw ∷ length p.planes ∷ length p.counts ∷ p.stated ∷ [] ≡ bit_of (packet_head h.long_heads bytes).raw ∷ (packet_head h.long_heads bytes).data_bytes ∷ (packet_head h.long_heads bytes).count_bytes ∷ (packet_head h.long_heads bytes).sign_bytes ∷ []
    stated = (fields_agree (packet_fields h.long_heads p.raw (length p.planes) (length p.counts) p.stated)
        (packet_fields h.long_heads (packet_head h.long_heads bytes).raw (packet_head h.long_heads bytes).data_bytes (packet_head h.long_heads bytes).count_bytes (packet_head h.long_heads bytes).sign_bytes)
        [] [] refl p.room fields.0 (ap (λ l. l ++ []) (sym p.headed ∙ ap bits_of_bytes (sym front) ∙ fields.1))).0

    raw-is : (packet_head h.long_heads bytes).raw ≡ p.raw
    raw-is = bit_of-one (packet_head h.long_heads bytes).raw p.raw (cc stated)

    data-is : (packet_head h.long_heads bytes).data_bytes ≡ length p.planes
    data-is = cc stated

    counts-is : (packet_head h.long_heads bytes).count_bytes ≡ length p.counts
    counts-is = cc stated

    signs-is : (packet_head h.long_heads bytes).sign_bytes ≡ p.stated
    signs-is = cc stated

    flags-is : flag_bytes (packet_head h.long_heads bytes).raw lines ≡ length p.significance
    flags-is = ap (λ (r : Bool). flag_bytes r lines) raw-is ∙ cases p.raw ∙ sym p.flagged.size
      where
        cases : (r : Bool) → (if r then 0 else bytes_for (sum_by flag_count lines)) ≡ bytes_for (length (if◌then◌else◌ {A = List ℕ} r [] flags))
        cases true = refl
        cases false = ap bytes_for (sum_flags bands line known p.flag same)

    counts-at : counts_start h lines bytes ≡ length p.head + length p.significance
    counts-at = omega (arith, head-long, flags-is)

    data-at : data_start h lines bytes ≡ length p.head + length p.significance + length p.counts
    data-at = omega (arith, counts-at, counts-is)

    signs-at : signs_start h lines bytes ≡ length p.head + length p.significance + length p.counts + length p.planes
    signs-at = omega (arith, data-at, data-is)

    sig-cut : take (counts_start h lines bytes - head_size h) (drop (head_size h) bytes) ≡ p.significance
    sig-cut = middle p.head p.significance (p.counts ++ (p.planes ++ (p.signs ++ rest))) bytes (head_size h) (counts_start h lines bytes) whole head-long counts-at

    counts-cut : take (data_start h lines bytes - counts_start h lines bytes) (drop (counts_start h lines bytes) bytes) ≡ p.counts
    counts-cut =
        let two : length (p.head ++ p.significance) ≡ length p.head + length p.significance = length-append p.head p.significance in
        middle (p.head ++ p.significance) p.counts (p.planes ++ (p.signs ++ rest)) bytes (counts_start h lines bytes) (data_start h lines bytes) (whole ∙ sym (append_assoc p.head p.significance (p.counts ++ (p.planes ++ (p.signs ++ rest)))))
        (counts-at ∙ sym two) (omega (arith, data-at, two))

    three-long : length ((p.head ++ p.significance) ++ p.counts) ≡ length p.head + length p.significance + length p.counts
    three-long = omega (arith, length-append p.head p.significance, length-append (p.head ++ p.significance) p.counts)

    three : bytes ≡ ((p.head ++ p.significance) ++ p.counts) ++ (p.planes ++ (p.signs ++ rest))
    three = whole ∙ sym (append_assoc p.head p.significance (p.counts ++ (p.planes ++ (p.signs ++ rest)))) ∙ sym (append_assoc (p.head ++ p.significance) p.counts (p.planes ++ (p.signs ++ rest)))

    planes-cut : take (signs_start h lines bytes - data_start h lines bytes) (drop (data_start h lines bytes) bytes) ≡ p.planes
    planes-cut = middle ((p.head ++ p.significance) ++ p.counts) p.planes (p.signs ++ rest) bytes (data_start h lines bytes) (signs_start h lines bytes) three (data-at ∙ sym three-long) (omega (arith, signs-at, three-long))

    -- counts
    held : List Line
    held = map (λ band. with_counts (known band) (counts_of (line band))) bands

    read_counts : (r : Bool) → SpellsPadded p.significance (if r then [] else flags) → SpellsBandCounts r h.run_mode bands line p.flag p.counted.0
        → read_each (read_counted r h.run_mode) (flagged lines (bits_of_bytes p.significance)) (p.counted.0 ++ p.counted.1) ≡ Ok (held, p.counted.1)
    read_counts true f c = all_raw h.run_mode bands line known (bits_of_bytes p.significance) p.counted.0 p.counted.1 same c
    read_counts false f c =
        ap (λ l. read_each (read_counted false h.run_mode) (flagged lines l) (p.counted.0 ++ p.counted.1)) f.begin.1
        ∙ all_coded h.run_mode bands line known p.flag f.begin.0 p.counted.0 p.counted.1 same c

    counted : counted_lines h lines bytes ≡ Ok (held, p.counted.1)
    counted = ap (λ (r : Bool). read_each (read_counted r h.run_mode) (flagged lines (bits_of_bytes (take (counts_start h lines bytes - head_size h) (drop (head_size h) bytes)))) (bits_of_bytes (take (data_start h lines bytes - counts_start h lines bytes) (drop (counts_start h lines bytes) bytes)))) raw-is
        ∙ ap (λ l. read_each (read_counted p.raw h.run_mode) (flagged lines (bits_of_bytes l)) (bits_of_bytes (take (data_start h lines bytes - counts_start h lines bytes) (drop (counts_start h lines bytes) bytes)))) sig-cut
        ∙ ap (λ l. read_each (read_counted p.raw h.run_mode) (flagged lines (bits_of_bytes p.significance)) l) (ap bits_of_bytes counts-cut ∙ p.counted.2)
        ∙ read_counts p.raw p.flagged p.counted.3

    counted-is : lines_counted h lines bytes ≡ held
    counted-is = ap (λ (r : Result (List Line × List ℕ) CountFault). elim r [ Ok read ↦ read.0 | Err fault ↦ lines ]) counted

    has : Match (λ band. HasCounts (line band)) bands held
    has = all_counts bands line known same

    -- data
    short : Bool
    short = nat_lt (length bytes) (signs_start h lines bytes)

    few : Bool
    few = nat_lt (8 * (packet_head h.long_heads bytes).data_bytes) (sum_by (data_size h.signs_apart) (lines_counted h lines bytes))

    data-size : sum_by (data_size h.signs_apart) (lines_counted h lines bytes) ≡ length p.filled.0
    data-size = ap (sum_by (data_size h.signs_apart)) counted-is ∙ sum_numbers h.signs_apart bands line held has
        ∙ sym (each-size (λ band. SpellsData h.signs_apart (line band)) (λ band. data_size h.signs_apart (line band)) (λ band. data_sized h.signs_apart (line band)) bands p.filled.0 p.filled.3)

    enough : sum_by (data_size h.signs_apart) (lines_counted h lines bytes) ≤ 8 * (packet_head h.long_heads bytes).data_bytes
    enough = omega (arith, data-size, data-is, length-bits_of_bytes p.planes, ap length p.filled.2, length-append p.filled.0 p.filled.1)

    filled-is : lines_filled h lines bytes ≡ lines_with_data h.signs_apart held (p.filled.0 ++ p.filled.1)
    filled-is = ap (λ l. lines_with_data h.signs_apart l (bits_of_bytes (take (signs_start h lines bytes - data_start h lines bytes) (drop (data_start h lines bytes) bytes)))) counted-is
        ∙ ap (lines_with_data h.signs_apart held) (ap bits_of_bytes planes-cut ∙ p.filled.2)

    numbers : Match (λ band. HasNumbers h.signs_apart (line band)) bands (lines_filled h lines bytes)
    numbers = subst (Match (λ band. HasNumbers h.signs_apart (line band)) bands) (sym filled-is)
        (all_numbers h.signs_apart bands line held p.filled.0 p.filled.1 has (subst AreBits p.filled.2 (bytes-are p.planes)) p.filled.3)

    -- signs
    Signed : Bool → Type 0
    Signed apart = MatchBool apart ((p.stated ≡ length p.signs) × SpellsBits p.signs (flat_map (λ band. sign_bits (line band)) bands)) (p.signs ≡ [])

    signs-long-by : (apart : Bool) → Signed apart → (if apart then p.stated else 0) ≡ length p.signs
    signs-long-by true s = s.0
    signs-long-by false s = sym (ap length s)

    ends-at : packet_end h lines bytes ≡ length p.head + length p.significance + length p.counts + length p.planes + (if h.signs_apart then p.stated else 0)
    ends-at = ap (λ k. signs_start h lines bytes + (if h.signs_apart then k else 0)) signs-is ∙ ap (λ k. k + (if h.signs_apart then p.stated else 0)) signs-at

    sign_test : Bool → Bool
    sign_test apart = apart && (nat_lt (length bytes) (signs_start h lines bytes + (if apart then (packet_head h.long_heads bytes).sign_bytes else 0))
        || nat_lt (8 * (packet_head h.long_heads bytes).sign_bytes) (sum_by signs_size (lines_filled h lines bytes)))

    signs-fit : (apart : Bool) → h.signs_apart ≡ apart → sign_test apart ≡ false
    signs-fit false e = refl
    signs-fit true e =
        let s : Signed true = subst Signed e p.signed in
        both-false (nat_lt (length bytes) (signs_start h lines bytes + (packet_head h.long_heads bytes).sign_bytes)) (nat_lt (8 * (packet_head h.long_heads bytes).sign_bytes) (sum_by signs_size (lines_filled h lines bytes)))
        (le-ltb (length bytes) (signs_start h lines bytes + (packet_head h.long_heads bytes).sign_bytes) (omega (arith, long, signs-at, signs-is, s.0)))
        (le-ltb (8 * (packet_head h.long_heads bytes).sign_bytes) (sum_by signs_size (lines_filled h lines bytes))
        (omega (arith, sum_signs h.signs_apart bands line (lines_filled h lines bytes) numbers, signs-is, s.0, length-bits_of_bytes p.signs, ap length s.1.1, length-append (flat_map (λ band. sign_bits (line band)) bands) s.1.0)))

    read : (apart : Bool) → h.signs_apart ≡ apart → Signed apart
        → Match (λ band. SameLine (line band)) bands (if apart then lines_with_signs (lines_filled h lines bytes) (bits_of_bytes (take (signs_start h lines bytes + (if apart then (packet_head h.long_heads bytes).sign_bytes else 0) - signs_start h lines bytes) (drop (signs_start h lines bytes) bytes))) else lines_filled h lines bytes)
    read false e s = same_together bands line (lines_filled h lines bytes) (subst (λ apart. Match (λ band. HasNumbers apart (line band)) bands (lines_filled h lines bytes)) e numbers)
    read true e s =
        let four-long : length (((p.head ++ p.significance) ++ p.counts) ++ p.planes) ≡ length p.head + length p.significance + length p.counts + length p.planes = omega (arith, three-long, length-append ((p.head ++ p.significance) ++ p.counts) p.planes) in
        let cut : take (signs_start h lines bytes + (packet_head h.long_heads bytes).sign_bytes - signs_start h lines bytes) (drop (signs_start h lines bytes) bytes) ≡ p.signs =
        middle (((p.head ++ p.significance) ++ p.counts) ++ p.planes) p.signs rest bytes (signs_start h lines bytes) (signs_start h lines bytes + (packet_head h.long_heads bytes).sign_bytes)
        (three ∙ sym (append_assoc ((p.head ++ p.significance) ++ p.counts) p.planes (p.signs ++ rest))) (signs-at ∙ sym four-long) (omega (arith, signs-at, four-long, signs-is, s.0)) in
        subst (λ l. Match (λ band. SameLine (line band)) bands (lines_with_signs (lines_filled h lines bytes) l)) (sym (ap bits_of_bytes cut ∙ s.1.1))
        (same_apart bands line (lines_filled h lines bytes) s.1.0 (subst AreBits s.1.1 (bytes-are p.signs)) (subst (λ apart. Match (λ band. HasNumbers apart (line band)) bands (lines_filled h lines bytes)) e numbers))
