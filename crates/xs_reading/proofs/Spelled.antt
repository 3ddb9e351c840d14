-- A packet without a fault is one of the lines that it holds.
use Rattle.std.proofs.Common.{◌≡◌, ℕ, ◌+◌, ◌-◌, ◌*◌, ◌≤◌, List, [], ◌∷◌, ◌++◌, map, length, take, drop, get_or, refl, sym, ap, subst, ◌∙◌, arith, append_assoc, length-append}
use Rattle.std.specs.Prelude.{Bool, true, false, ◌||◌, ◌&&◌, nat_lt, if◌then◌else◌, pos, Option, None, Some, Result, Ok, Err}
use Rattle.std.specs.Bool.{MatchBool}
use Rattle.std.specs.List.{AllByRecursion, flat_map, range_with_len, sum_by}
use Rattle.std.specs.Option.{option_map}
use Rattle.std.specs.Result.{result_err}
use Rattle.std.proofs.lemmas.Bool.{ltb-false}
use Rattle.std.proofs.lemmas.List.{take-append-drop, length-map, length-take-le}
use Rattle.std.proofs.lemmas.List.FromFn.{length-range_with_len}
use Rattle.std.proofs.lemmas.List.Folds.{flat_map-map}
use Rattle.xs_lists.specs.Bits.{bits_of_bytes, bits_of_fields, bytes_for, FieldsFit}
use Rattle.xs_lists.specs.First.{when, first_some}
use Rattle.xs_lists.specs.Spelling.{SpellsEach, SpellsBits, SpellsPadded}
use Rattle.xs_lists.proofs.Bits.{length-bits_of_bytes}
use Rattle.xs_lists.proofs.Cut.{map_agree}
use Rattle.xs_lists.proofs.Walk.{each-of_map}
use Rattle.xs_params.specs.declared.header.Header.{Header}
use Rattle.xs_faults.specs.declared.CountFault.{CountFault}
use Rattle.xs_faults.specs.declared.PrecinctFault.TheVariants as fault
use Rattle.xs_faults.specs.declared.Part.TheVariants.{Head, Significance, Counts, Data, Signs}
use Rattle.xs_spelling.specs.Counts.{Line, flag_bits}
use Rattle.xs_spelling.specs.Data.{SpellsData, sign_bits}
use Rattle.xs_spelling.specs.Sizes.{flag_count, data_size, signs_size}
use Rattle.xs_spelling.specs.ReadingLaws.{IsPredicted}
use Rattle.xs_grammar.specs.Sizes.{head_size}
use Rattle.xs_grammar.specs.Packet.{SpellsBandCounts, packet_fields}
use Rattle.xs_reading.specs.Packet.{packet_head, flag_bytes, counts_start, data_start, signs_start, packet_end, flagged, counted_lines, lines_with_signs, lines_counted, lines_filled, packet_lines, fault_of_counts, packet_fault}
use Rattle.xs_reading.specs.Laws.{PacketSpelled}
use Rattle.xs_reading.proofs.Parts.{none_when, bytes-are, head_fields, five_parts, field-size}
use Rattle.xs_reading.proofs.Lines.{with_flags, SpellsItem, AreCounted, lines_read, counted_data, counted_signs, flags_in, flags_data, flags_signs, data_count, signs_count, flags_spelled, items_known, AreReadOf, shaped_data, shaped_signs, items_lines, lines_data, data_signed, lines_signs}

-- What the tests of a packet without a fault say

pub or-false : (a b : Bool) → (a || b) ≡ false → (a ≡ false) × (b ≡ false)
or-false false b e = (refl, e)
or-false true b e = absurd (cc e)

pub record HasNoFault (h : Header) (lines : List Line) (bytes : List ℕ) : Type 0 where
  pub head : head_size h ≤ length bytes
  pub significance : counts_start h lines bytes ≤ length bytes
  pub counts : data_start h lines bytes ≤ length bytes
  pub rest : List ℕ
  pub counted : counted_lines h lines bytes ≡ Ok (lines_counted h lines bytes, rest)
  pub planes : signs_start h lines bytes ≤ length bytes
  pub numbers : sum_by (data_size h.signs_apart) (lines_counted h lines bytes) ≤ 8 * (packet_head h.long_heads bytes).data_bytes
  pub end : packet_end h lines bytes ≤ length bytes
  pub signs : h.signs_apart ≡ true → sum_by signs_size (lines_filled h lines bytes) ≤ 8 * (packet_head h.long_heads bytes).sign_bytes

six_none : {A : Type 0} (a b c d e f : Option A) → first_some (a ∷ b ∷ c ∷ d ∷ e ∷ f ∷ []) ≡ None → (a ≡ None) × (b ≡ None) × (c ≡ None) × (d ≡ None) × (e ≡ None) × (f ≡ None)
six_none None None None None None None n = (refl, refl, refl, refl, refl, refl)
six_none (Some x) b c d e f n = absurd (cc n)
six_none None (Some x) c d e f n = absurd (cc n)
six_none None None (Some x) d e f n = absurd (cc n)
six_none None None None (Some x) e f n = absurd (cc n)
six_none None None None None (Some x) f n = absurd (cc n)
six_none None None None None None (Some x) n = absurd (cc n)

pub no_fault : (h : Header) (packet : ℕ) (lines : List Line) (bytes : List ℕ) → packet_fault h packet lines bytes ≡ None → HasNoFault h lines bytes
no_fault h packet lines bytes e = record {
  head = ltb-false (length bytes) (head_size h) (none_when (nat_lt (length bytes) (head_size h)) (fault.Overrun packet Head) all.0);
  significance = ltb-false (length bytes) (counts_start h lines bytes) (none_when (nat_lt (length bytes) (counts_start h lines bytes)) (fault.Overrun packet Significance) all.1);
  counts = ltb-false (length bytes) (data_start h lines bytes) (none_when (nat_lt (length bytes) (data_start h lines bytes)) (fault.Overrun packet Counts) all.2);
  rest = (ok (counted_lines h lines bytes) all.3).0;
  counted = (ok (counted_lines h lines bytes) all.3).1;
  planes = ltb-false (length bytes) (signs_start h lines bytes) numbers.0;
  numbers = ltb-false (8 * (packet_head h.long_heads bytes).data_bytes) (sum_by (data_size h.signs_apart) (lines_counted h lines bytes)) numbers.1;
  end = (last h.signs_apart all.5).0;
  signs = (last h.signs_apart all.5).1;
}
  where
    short : Bool
    short = nat_lt (length bytes) (signs_start h lines bytes)

    few : Bool
    few = nat_lt (8 * (packet_head h.long_heads bytes).data_bytes) (sum_by (data_size h.signs_apart) (lines_counted h lines bytes))

    sign_test : Bool → Bool
    sign_test apart = apart && (nat_lt (length bytes) (signs_start h lines bytes + (if apart then (packet_head h.long_heads bytes).sign_bytes else 0))
        || nat_lt (8 * (packet_head h.long_heads bytes).sign_bytes) (sum_by signs_size (lines_filled h lines bytes)))

    all : (when (nat_lt (length bytes) (head_size h)) (fault.Overrun packet Head) ≡ None) × (when (nat_lt (length bytes) (counts_start h lines bytes)) (fault.Overrun packet Significance) ≡ None)
        × (when (nat_lt (length bytes) (data_start h lines bytes)) (fault.Overrun packet Counts) ≡ None)
        × (option_map (fault_of_counts packet) (result_err (counted_lines h lines bytes)) ≡ None)
        × (when (short || few) (fault.Overrun packet Data) ≡ None)
        × (when (sign_test h.signs_apart) (fault.Overrun packet Signs) ≡ None)
    all = six_none (when (nat_lt (length bytes) (head_size h)) (fault.Overrun packet Head)) (when (nat_lt (length bytes) (counts_start h lines bytes)) (fault.Overrun packet Significance))
        (when (nat_lt (length bytes) (data_start h lines bytes)) (fault.Overrun packet Counts)) (option_map (fault_of_counts packet) (result_err (counted_lines h lines bytes)))
        (when (short || few) (fault.Overrun packet Data)) (when (sign_test h.signs_apart) (fault.Overrun packet Signs)) e

    numbers : (short ≡ false) × (few ≡ false)
    numbers = or-false short few (none_when (short || few) (fault.Overrun packet Data) all.4)

    ok : (r : Result (List Line × List ℕ) CountFault) → option_map (fault_of_counts packet) (result_err r) ≡ None → (rest : List ℕ) × (r ≡ Ok (elim r [ Ok read ↦ read.0 | Err fault ↦ lines ], rest))
    ok (Ok read) e = (read.1, refl)
    ok (Err f) e = absurd (cc e)

    last : (apart : Bool) → when (sign_test apart) (fault.Overrun packet Signs) ≡ None
        → (signs_start h lines bytes + (if apart then (packet_head h.long_heads bytes).sign_bytes else 0) ≤ length bytes)
        × (apart ≡ true → sum_by signs_size (lines_filled h lines bytes) ≤ 8 * (packet_head h.long_heads bytes).sign_bytes)
    last true e =
        let two = or-false (nat_lt (length bytes) (signs_start h lines bytes + (packet_head h.long_heads bytes).sign_bytes)) (nat_lt (8 * (packet_head h.long_heads bytes).sign_bytes) (sum_by signs_size (lines_filled h lines bytes)))
        (none_when (sign_test true) (fault.Overrun packet Signs) e) in
        (ltb-false (length bytes) (signs_start h lines bytes + (packet_head h.long_heads bytes).sign_bytes) two.0, λ t. ltb-false (8 * (packet_head h.long_heads bytes).sign_bytes) (sum_by signs_size (lines_filled h lines bytes)) two.1)
    last false e = (let most = ltb-false (length bytes) (signs_start h lines bytes) numbers.0 in omega (arith, most), λ t. absurd (cc t))

-- Lines by bands

-- a list by its places
places : {A : Type 0} (d : A) (base : ℕ) (done list : List A) → list ≡ map (λ band. get_or (done ++ list) (band - base) d) (range_with_len (base + length done) (length list))
places d base done [] = refl
places {A} d base done (x ∷ list) =
    let next : base + length (done ++ x ∷ []) ≡ base + length done + 1 = omega (arith, length-append done (x ∷ [])) in
    let back : base + length done - base ≡ length done = omega arith in
    let joined : (done ++ x ∷ []) ++ list ≡ done ++ (x ∷ list) = append_assoc done (x ∷ []) list in
    ap (λ l. x ∷ l) (places d base (done ++ x ∷ []) list ∙ ap (λ k. map (λ band. get_or ((done ++ x ∷ []) ++ list) (band - base) d) (range_with_len k (length list))) next
    ∙ ap (λ l. map (λ band. get_or l (band - base) d) (range_with_len (base + length done + 1) (length list))) joined)
    ∙ ap (λ y. y ∷ map (λ band. get_or (done ++ (x ∷ list)) (band - base) d) (range_with_len (base + length done + 1) (length list))) (sym (ap (λ k. get_or (done ++ (x ∷ list)) k d) back ∙ seam done))
  where
    seam : (xs : List A) → get_or (xs ++ (x ∷ list)) (length xs) d ≡ x
    seam [] = refl
    seam (y ∷ ys) = seam ys

firsts : (items : List (Line × (ℕ → ℕ))) (lines : List Line) → length lines ≡ length items → map (λ (q : Line × (ℕ → ℕ)). q.0) (with_flags items lines) ≡ lines
firsts [] [] e = refl
firsts [] (line ∷ lines) e = absurd (omega (arith, e))
firsts (item ∷ items) [] e = refl
firsts (item ∷ items) (line ∷ lines) e = ap (λ l. line ∷ l) (firsts items lines (omega (arith, e)))

map-twice : {A B C : Type 0} (f : B → C) (g : A → B) (xs : List A) → map f (map g xs) ≡ map (λ x. f (g x)) xs
map-twice f g [] = refl
map-twice f g (x ∷ xs) = ap (λ l. f (g x) ∷ l) (map-twice f g xs)

blank : Line × (ℕ → ℕ)
blank = (record { groups = 0; mode = 0; truncation = 0; prediction = λ group. 0; count = λ group. 0; value = λ column. pos 0 }, λ group. 0)

-- lines with their flags, by bands
record AreBanded (first count : ℕ) (line : ℕ → Line) (pairs : List (Line × (ℕ → ℕ))) : Type 0 where
  pub flag : ℕ → ℕ → ℕ
  pub all : pairs ≡ map (λ band. (line band, flag band)) (range_with_len first count)

banded : (first count : ℕ) (line : ℕ → Line) (items : List (Line × (ℕ → ℕ))) (lines : List Line) → length lines ≡ length items → map line (range_with_len first count) ≡ lines → AreBanded first count line (with_flags items lines)
banded first count line items lines size e = record {
  flag = λ band. (at band).1;
  all = here ∙ same_pairs at (range_with_len first count) (map_agree line (λ band. (at band).0) (range_with_len first count) [] [] (ap (λ l. l ++ []) (e ∙ sym (sym (map-twice (λ (q : Line × (ℕ → ℕ)). q.0) at (range_with_len first count)) ∙ ap (λ q. map (λ (q : Line × (ℕ → ℕ)). q.0) q) (sym here) ∙ firsts items lines size)))).1;
}
  where
    pairs : List (Line × (ℕ → ℕ))
    pairs = with_flags items lines

    at : ℕ → Line × (ℕ → ℕ)
    at band = get_or pairs (band - first) blank

    long : length pairs ≡ count
    long = sym (length-map pairs (λ (q : Line × (ℕ → ℕ)). q.0)) ∙ ap length (firsts items lines size ∙ sym e) ∙ length-map (range_with_len first count) line ∙ length-range_with_len first count

    begin : first + 0 ≡ first
    begin = omega arith

    here : pairs ≡ map at (range_with_len first count)
    here = places blank first [] pairs ∙ ap (λ k. map at (range_with_len k (length pairs))) begin ∙ ap (λ n. map at (range_with_len first n)) long

    same_pairs : (at : ℕ → Line × (ℕ → ℕ)) (bands : List ℕ) → AllByRecursion (λ band. line band ≡ (at band).0) bands → map at bands ≡ map (λ band. (line band, (at band).1)) bands
    same_pairs at [] h = refl
    same_pairs at (band ∷ bands) h = ap (λ (l : Line). (l, (at band).1) ∷ map at bands) (sym h.0) ∙ ap (λ l. (line band, (at band).1) ∷ l) (same_pairs at bands h.1)

-- Packets

-- what stands between two places
between-size : (bytes : List ℕ) (from to : ℕ) → from ≤ to → to ≤ length bytes → length (take (to - from) (drop from bytes)) ≡ to - from
between-size bytes from to order room = field-size bytes from (to - from) (omega (arith, order, room))

pub packet_spelled : PacketSpelled
packet_spelled h packet first count line lines bytes are known none lines-of = (
  good.end,
  record {
    raw = raw;
    head = take (head_size h) bytes;
    significance = significance;
    counts = counts;
    planes = planes;
    signs = signs h.signs_apart;
    joined = whole;
    stated = stated;
    room = subst (λ k. FieldsFit (packet_fields h.long_heads raw (length planes) k stated)) (sym counts-long) (subst (λ k. FieldsFit (packet_fields h.long_heads raw k count_bytes stated)) (sym planes-long) fields.0);
    headed = fields.1 ∙ ap (λ k. bits_of_fields (packet_fields h.long_heads raw k count_bytes stated)) (sym planes-long) ∙ ap (λ k. bits_of_fields (packet_fields h.long_heads raw (length planes) k stated)) (sym counts-long);
    flag = by_band.flag;
    flagged = flagged-bits raw refl;
    counted = (counted.front, good.rest, counted.joined, band_counts raw (counts_by_band raw (counted-final h.signs_apart)));
    filled = (
      take (sum_by (data_size h.signs_apart) (lines_counted h lines bytes)) (bits_of_bytes planes),
      drop (sum_by (data_size h.signs_apart) (lines_counted h lines bytes)) (bits_of_bytes planes),
      sym (take-append-drop (sum_by (data_size h.signs_apart) (lines_counted h lines bytes)) (bits_of_bytes planes)),
      each-of_map (SpellsData h.signs_apart) line bands (take (sum_by (data_size h.signs_apart) (lines_counted h lines bytes)) (bits_of_bytes planes))
          (subst (λ l. SpellsEach (SpellsData h.signs_apart) l (take (sum_by (data_size h.signs_apart) (lines_counted h lines bytes)) (bits_of_bytes planes))) (sym lines-of) (data-final h.signs_apart
          (lines_data h.signs_apart (lines_counted h lines bytes) (bits_of_bytes planes) (bytes-are planes) (omega (arith, good.numbers, length-bits_of_bytes planes, planes-long))))),
    );
    signed = subst (λ l. MatchBool h.signs_apart ((stated ≡ length (signs h.signs_apart)) × SpellsBits (signs h.signs_apart) l) (signs h.signs_apart ≡ [])) (ap (λ l. flat_map sign_bits l) (sym lines-of) ∙ flat_map-map sign_bits line bands)
        (signed-bits h.signs_apart good.signs good.end);
  },
)
  where
    good : HasNoFault h lines bytes
    good = no_fault h packet lines bytes none

    bands : List ℕ
    bands = range_with_len first count

    raw : Bool
    raw = (packet_head h.long_heads bytes).raw

    stated : ℕ
    stated = (packet_head h.long_heads bytes).sign_bytes

    count_bytes : ℕ
    count_bytes = (packet_head h.long_heads bytes).count_bytes

    data_bytes : ℕ
    data_bytes = (packet_head h.long_heads bytes).data_bytes

    significance : List ℕ
    significance = take (counts_start h lines bytes - head_size h) (drop (head_size h) bytes)

    counts : List ℕ
    counts = take (data_start h lines bytes - counts_start h lines bytes) (drop (counts_start h lines bytes) bytes)

    planes : List ℕ
    planes = take (signs_start h lines bytes - data_start h lines bytes) (drop (data_start h lines bytes) bytes)

    signs : Bool → List ℕ
    signs apart = take (signs_start h lines bytes + (if apart then stated else 0) - signs_start h lines bytes) (drop (signs_start h lines bytes) bytes)

    counts-long : length counts ≡ count_bytes
    counts-long = between-size bytes (counts_start h lines bytes) (data_start h lines bytes) (omega arith) good.counts ∙ omega arith

    planes-long : length planes ≡ data_bytes
    planes-long = between-size bytes (data_start h lines bytes) (signs_start h lines bytes) (omega arith) good.planes ∙ omega arith

    whole : take (packet_end h lines bytes) bytes ≡ take (head_size h) bytes ++ (significance ++ (counts ++ (planes ++ signs h.signs_apart)))
    whole = five_parts (head_size h) (flag_bytes raw lines) count_bytes data_bytes (if h.signs_apart then stated else 0) bytes
        ∙ pieces (take (head_size h) bytes) (between (head_size h) (flag_bytes raw lines)) (between (counts_start h lines bytes) count_bytes) (between (data_start h lines bytes) data_bytes) (between (signs_start h lines bytes) (if h.signs_apart then stated else 0))
      where
        between : (from width : ℕ) → take width (drop from bytes) ≡ take (from + width - from) (drop from bytes)
        between from width = let e : width ≡ from + width - from = omega arith in ap (λ k. take k (drop from bytes)) e

        pieces : (a : List ℕ) {p q r s p' q' r' s' : List ℕ} → p ≡ p' → q ≡ q' → r ≡ r' → s ≡ s' → a ++ (p ++ (q ++ (r ++ s))) ≡ a ++ (p' ++ (q' ++ (r' ++ s')))
        pieces a e f g k = cc (e, f, g, k)

    fields : FieldsFit (packet_fields h.long_heads raw data_bytes count_bytes stated) × (bits_of_bytes (take (head_size h) bytes) ≡ bits_of_fields (packet_fields h.long_heads raw data_bytes count_bytes stated))
    fields = head_fields h.long_heads bytes good.head

    items : List (Line × (ℕ → ℕ))
    items = flagged lines (bits_of_bytes significance)

    counted : AreCounted raw h.run_mode items (bits_of_bytes counts) (lines_counted h lines bytes) good.rest
    counted = lines_read raw h.run_mode items (items_known lines (bits_of_bytes significance) known) (bits_of_bytes counts) (lines_counted h lines bytes) good.rest (bytes-are counts) good.counted

    filled : List Line
    filled = lines_filled h lines bytes

    final : Bool → List Line
    final apart = if apart then lines_with_signs filled (bits_of_bytes (signs apart)) else filled

    final-count : (apart : Bool) → length (final apart) ≡ length items
    final-count true = signs_count filled (bits_of_bytes (signs true)) ∙ data_count h.signs_apart (lines_counted h lines bytes) (bits_of_bytes planes) ∙ counted.count
    final-count false = data_count h.signs_apart (lines_counted h lines bytes) (bits_of_bytes planes) ∙ counted.count

    filled-counted : SpellsEach (SpellsItem raw h.run_mode) (with_flags items filled) counted.front
    filled-counted = counted_data raw h.run_mode h.signs_apart items (lines_counted h lines bytes) counted.front (bits_of_bytes planes) counted.spelled

    counted-final : (apart : Bool) → SpellsEach (SpellsItem raw h.run_mode) (with_flags items (final apart)) counted.front
    counted-final true = counted_signs raw h.run_mode items filled counted.front (bits_of_bytes (signs true)) filled-counted
    counted-final false = filled-counted

    flags-final : (apart : Bool) → flags_in (with_flags items (final apart)) ≡ flags_in items
    flags-final true = flags_signs items filled (bits_of_bytes (signs true)) ∙ flags_data h.signs_apart items (lines_counted h lines bytes) (bits_of_bytes planes) ∙ counted.flags
    flags-final false = flags_data h.signs_apart items (lines_counted h lines bytes) (bits_of_bytes planes) ∙ counted.flags

    data-final : (apart : Bool) → SpellsEach (SpellsData apart) filled (take (sum_by (data_size h.signs_apart) (lines_counted h lines bytes)) (bits_of_bytes planes))
        → SpellsEach (SpellsData apart) (final apart) (take (sum_by (data_size h.signs_apart) (lines_counted h lines bytes)) (bits_of_bytes planes))
    data-final true p = data_signed filled (bits_of_bytes (signs true)) _ p
    data-final false p = p

    by_band : AreBanded first count line (with_flags items (final h.signs_apart))
    by_band = banded first count line items (final h.signs_apart) (final-count h.signs_apart) lines-of

    flags-by-band : flat_map (λ band. flag_bits (line band) (by_band.flag band)) bands ≡ flags_in items
    flags-by-band = sym (flat_map-map (λ (q : Line × (ℕ → ℕ)). flag_bits q.0 q.1) (λ band. (line band, by_band.flag band)) bands) ∙ ap flags_in (sym by_band.all) ∙ flags-final h.signs_apart

    counts_by_band : (test : Bool) → SpellsEach (SpellsItem test h.run_mode) (with_flags items (final h.signs_apart)) counted.front → SpellsEach (λ band. SpellsItem test h.run_mode (line band, by_band.flag band)) bands counted.front
    counts_by_band test p = each-of_map (SpellsItem test h.run_mode) (λ band. (line band, by_band.flag band)) bands counted.front (subst (λ l. SpellsEach (SpellsItem test h.run_mode) l counted.front) by_band.all p)

    band_counts : (test : Bool) → SpellsEach (λ band. SpellsItem test h.run_mode (line band, by_band.flag band)) bands counted.front → SpellsBandCounts test h.run_mode bands line by_band.flag counted.front
    band_counts true p = p
    band_counts false p = p

    significance-long : length significance ≡ flag_bytes raw lines
    significance-long = between-size bytes (head_size h) (counts_start h lines bytes) (omega arith) good.significance ∙ omega arith

    flagged-bits : (test : Bool) → raw ≡ test → SpellsPadded significance (if test then [] else flat_map (λ band. flag_bits (line band) (by_band.flag band)) bands)
    flagged-bits true e =
        record { begin = (bits_of_bytes significance, refl); size = significance-long ∙ ap (λ (r : Bool). flag_bytes r lines) e }
    flagged-bits false e =
        let size : length significance ≡ bytes_for (sum_by flag_count lines) = significance-long ∙ ap (λ (r : Bool). flag_bytes r lines) e in
        let room : sum_by flag_count lines ≤ length (bits_of_bytes significance) = omega (arith, size, length-bits_of_bytes significance) in
        let all : flat_map (λ band. flag_bits (line band) (by_band.flag band)) bands ≡ take (sum_by flag_count lines) (bits_of_bytes significance) = flags-by-band ∙ flags_spelled lines (bits_of_bytes significance) room in
        record {
          begin = (drop (sum_by flag_count lines) (bits_of_bytes significance), sym (take-append-drop (sum_by flag_count lines) (bits_of_bytes significance)) ∙ ap (λ l. l ++ drop (sum_by flag_count lines) (bits_of_bytes significance)) (sym all));
          size = size ∙ ap bytes_for (sym (ap length all ∙ length-take-le (sum_by flag_count lines) (bits_of_bytes significance) room));
        }

    signed-bits : (apart : Bool) → (apart ≡ true → sum_by signs_size filled ≤ 8 * stated) → signs_start h lines bytes + (if apart then stated else 0) ≤ length bytes
        → MatchBool apart ((stated ≡ length (signs apart)) × SpellsBits (signs apart) (flat_map sign_bits (final apart))) (signs apart ≡ [])
    signed-bits true enough room =
        let size : length (signs true) ≡ stated = between-size bytes (signs_start h lines bytes) (signs_start h lines bytes + stated) (omega arith) room ∙ omega arith in
        let all : flat_map sign_bits (final true) ≡ take (sum_by signs_size filled) (bits_of_bytes (signs true)) =
        lines_signs filled (bits_of_bytes (signs true)) (bytes-are (signs true)) (omega (arith, enough refl, size, length-bits_of_bytes (signs true))) in
        (sym size, (drop (sum_by signs_size filled) (bits_of_bytes (signs true)), sym (take-append-drop (sum_by signs_size filled) (bits_of_bytes (signs true))) ∙ ap (λ l. l ++ drop (sum_by signs_size filled) (bits_of_bytes (signs true))) (sym all)))
    signed-bits false enough room = let e : signs_start h lines bytes + 0 - signs_start h lines bytes ≡ 0 = omega arith in ap (λ k. take k (drop (signs_start h lines bytes) bytes)) e

-- and the lines that it holds are those that were known, with counts and numbers
pub packet_shaped : (h : Header) (packet : ℕ) (lines : List Line) (bytes : List ℕ) → AllByRecursion IsPredicted lines → packet_fault h packet lines bytes ≡ None → AreReadOf lines (packet_lines h lines bytes)
packet_shaped h packet lines bytes known none = cases h.signs_apart
  where
    good : HasNoFault h lines bytes
    good = no_fault h packet lines bytes none

    flag_bytes_at : List ℕ
    flag_bytes_at = take (counts_start h lines bytes - head_size h) (drop (head_size h) bytes)

    count_bytes_at : List ℕ
    count_bytes_at = take (data_start h lines bytes - counts_start h lines bytes) (drop (counts_start h lines bytes) bytes)

    plane_bytes_at : List ℕ
    plane_bytes_at = take (signs_start h lines bytes - data_start h lines bytes) (drop (data_start h lines bytes) bytes)

    counted : AreCounted (packet_head h.long_heads bytes).raw h.run_mode (flagged lines (bits_of_bytes flag_bytes_at)) (bits_of_bytes count_bytes_at) (lines_counted h lines bytes) good.rest
    counted = lines_read (packet_head h.long_heads bytes).raw h.run_mode (flagged lines (bits_of_bytes flag_bytes_at)) (items_known lines (bits_of_bytes flag_bytes_at) known) (bits_of_bytes count_bytes_at) (lines_counted h lines bytes) good.rest (bytes-are count_bytes_at) good.counted

    filled : AreReadOf lines (lines_filled h lines bytes)
    filled = shaped_data h.signs_apart lines (lines_counted h lines bytes) (bits_of_bytes plane_bytes_at) (subst (λ l. AreReadOf l (lines_counted h lines bytes)) (items_lines lines (bits_of_bytes flag_bytes_at)) counted.shaped)

    cases : (apart : Bool) → AreReadOf lines (if apart then lines_with_signs (lines_filled h lines bytes) (bits_of_bytes (take (packet_end h lines bytes - signs_start h lines bytes) (drop (signs_start h lines bytes) bytes))) else lines_filled h lines bytes)
    cases true = shaped_signs lines (lines_filled h lines bytes) (bits_of_bytes (take (packet_end h lines bytes - signs_start h lines bytes) (drop (signs_start h lines bytes) bytes))) filled
    cases false = filled
