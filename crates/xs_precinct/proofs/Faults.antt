-- The first fault of a packet, by the faults of its parts.
use Rattle.std.proofs.Common.{◌≡◌, ℕ, ◌+◌, ◌-◌, ◌*◌, ◌<◌, ◌≤◌, List, [], ◌∷◌, length, take, drop, refl, sym, ap, subst, ◌∙◌, arith, sum_by, length-take-le}
use Rattle.std.specs.Prelude.{Bool, true, false, ◌||◌, ◌&&◌, nat_lt, if◌then◌else◌, Option, None, Some, Result, Ok, Err}
use Rattle.std.specs.Option.{option_map}
use Rattle.std.specs.Result.{result_err}
use Rattle.std.proofs.lemmas.Bool.{le-ltb, lt-ltb}
use Rattle.std.proofs.lemmas.List.{length-drop}
use Rattle.std.proofs.lemmas.List.Sums.{sum_by-cons}
use Rattle.xs_lists.specs.First.{when, first_some}
use Rattle.xs_lists.specs.Bits.{bytes_for}
use Rattle.xs_layout.specs.Geometry.{significance_groups_of}
use Rattle.xs_params.specs.declared.header.Header.{Header}
use Rattle.xs_faults.specs.declared.CountFault.{CountFault}
use Rattle.xs_faults.specs.declared.PrecinctFault.{PrecinctFault}
use Rattle.xs_faults.specs.declared.PrecinctFault.TheVariants as fault
use Rattle.xs_faults.specs.declared.Part.TheVariants.{Head, Significance, Counts, Data, Signs}
use Rattle.xs_spelling.specs.Counts.{Line, has_flags}
use Rattle.xs_spelling.specs.Sizes.{flag_count, data_size, signs_size}
use Rattle.xs_grammar.specs.Sizes.{head_size}
use Rattle.xs_reading.specs.Packet.{PacketHead, bits_between, counted_lines, counts_start, data_start, fault_of_counts, lines_counted, lines_filled, lines_with_data, packet_end, packet_fault, packet_head, packet_lines, signs_start}
use Rattle.xs_precinct.specs.Bands.{Band, EachOf, Follows, Knows, NumbersOf, SameCoded, flags_of}
use Rattle.xs_precinct.specs.Parts.{counted_in, counts_fault, numbers_fault, numbers_in_parts, signs_fault}
use Rattle.xs_precinct.proofs.Pairs.{pairs_join}

-- the bytes between two places
pub between_size : (bytes : List ℕ) (from to : ℕ) → from ≤ to → to ≤ length bytes → length (take (to - from) (drop from bytes)) ≡ to - from
between_size bytes from to order inside = length-take-le (to - from) (drop from bytes) (omega (arith, inside, order, length-drop from bytes))

-- Counts

counts_left : (packet : ℕ) (read : Result (List Line × List ℕ) CountFault) (counts planes total : ℕ) → counts ≤ total → planes ≤ total → counts_fault packet read counts planes total ≡ option_map (fault_of_counts packet) (result_err read)
counts_left packet read counts planes total first second =
    ap (λ t. first_some (when t (fault.Overrun packet Significance) ∷ when (nat_lt total planes) (fault.Overrun packet Counts) ∷ option_map (fault_of_counts packet) (result_err read) ∷ [])) (le-ltb total counts first)
    ∙ ap (λ t. first_some (when t (fault.Overrun packet Counts) ∷ option_map (fault_of_counts packet) (result_err read) ∷ [])) (le-ltb total planes second) ∙ alone (option_map (fault_of_counts packet) (result_err read))
  where
    alone : (x : Option PrecinctFault) → first_some (x ∷ []) ≡ x
    alone None = refl
    alone (Some f) = refl

pub counts_refused : (packet : ℕ) (read : Result (List Line × List ℕ) CountFault) (counts planes total : ℕ) (f : CountFault) (g : PrecinctFault) → counts ≤ total → planes ≤ total → read ≡ Err f → g ≡ fault_of_counts packet f
    → Some g ≡ counts_fault packet read counts planes total
counts_refused packet read counts planes total f g first second e is = ap Some is ∙ ap (λ (r : Result (List Line × List ℕ) CountFault). option_map (fault_of_counts packet) (result_err r)) (sym e) ∙ sym (counts_left packet read counts planes total first second)

pub counts_fine : (packet : ℕ) (read : Result (List Line × List ℕ) CountFault) (counts planes total : ℕ) (r : List Line × List ℕ) → counts ≤ total → planes ≤ total → read ≡ Ok r → None ≡ counts_fault packet read counts planes total
counts_fine packet read counts planes total r first second e = ap (λ (r : Result (List Line × List ℕ) CountFault). option_map (fault_of_counts packet) (result_err r)) (sym e) ∙ sym (counts_left packet read counts planes total first second)

-- Data and signs

when_over : (total place room need : ℕ) (f : PrecinctFault) → place ≤ total → room < need → Some f ≡ when (nat_lt total place || nat_lt room need) f
when_over total place room need f inside short = sym (ap (λ t. when (t || nat_lt room need) f) (le-ltb total place inside) ∙ ap (λ t. when t f) (lt-ltb room need short))

when_fits : (total place room need : ℕ) (f : PrecinctFault) → place ≤ total → need ≤ room → None ≡ when (nat_lt total place || nat_lt room need) f
when_fits total place room need f inside enough = sym (ap (λ t. when (t || nat_lt room need) f) (le-ltb total place inside) ∙ ap (λ t. when t f) (le-ltb room need enough))

pub signs_over : (packet : ℕ) (lines : List Line) (bytes : List ℕ) (signs end : ℕ) → signs ≤ end → end ≤ length bytes → 8 * length (take (end - signs) (drop signs bytes)) < sum_by signs_size lines
    → Some (fault.Overrun packet Signs) ≡ signs_fault packet lines bytes signs end
signs_over packet lines bytes signs end order inside short = when_over (length bytes) end (8 * (end - signs)) (sum_by signs_size lines) (fault.Overrun packet Signs) inside (omega (arith, short, between_size bytes signs end order inside))

pub signs_fine : (packet : ℕ) (lines : List Line) (bytes : List ℕ) (signs end : ℕ) → signs ≤ end → end ≤ length bytes → sum_by signs_size lines ≤ 8 * length (take (end - signs) (drop signs bytes))
    → None ≡ signs_fault packet lines bytes signs end
signs_fine packet lines bytes signs end order inside enough = when_fits (length bytes) end (8 * (end - signs)) (sum_by signs_size lines) (fault.Overrun packet Signs) inside (omega (arith, enough, between_size bytes signs end order inside))

pub data_over : (packet : ℕ) (apart : Bool) (lines : List Line) (bytes : List ℕ) (planes signs end : ℕ) → planes ≤ signs → signs ≤ length bytes → 8 * length (take (signs - planes) (drop planes bytes)) < sum_by (data_size apart) lines
    → Some (fault.Overrun packet Data) ≡ numbers_fault packet apart lines bytes planes signs end
data_over packet apart lines bytes planes signs end order inside short =
    ap (λ x. first_some (x ∷ (if apart then signs_fault packet (lines_with_data apart lines (bits_between bytes planes signs)) bytes signs end else None) ∷ []))
    (when_over (length bytes) signs (8 * (signs - planes)) (sum_by (data_size apart) lines) (fault.Overrun packet Data) inside (omega (arith, short, between_size bytes planes signs order inside)))

pub data_fine : (packet : ℕ) (apart : Bool) (lines : List Line) (bytes : List ℕ) (planes signs end : ℕ) → planes ≤ signs → signs ≤ length bytes → sum_by (data_size apart) lines ≤ 8 * length (take (signs - planes) (drop planes bytes))
    → (if apart then signs_fault packet (lines_with_data apart lines (bits_between bytes planes signs)) bytes signs end else None) ≡ numbers_fault packet apart lines bytes planes signs end
data_fine packet apart lines bytes planes signs end order inside enough =
    alone (if apart then signs_fault packet (lines_with_data apart lines (bits_between bytes planes signs)) bytes signs end else None)
    ∙ ap (λ x. first_some (x ∷ (if apart then signs_fault packet (lines_with_data apart lines (bits_between bytes planes signs)) bytes signs end else None) ∷ []))
    (when_fits (length bytes) signs (8 * (signs - planes)) (sum_by (data_size apart) lines) (fault.Overrun packet Data) inside (omega (arith, enough, between_size bytes planes signs order inside)))
  where
    alone : (x : Option PrecinctFault) → x ≡ first_some (None ∷ x ∷ [])
    alone None = refl
    alone (Some f) = refl

-- Packets

-- where the parts of a packet of some lines begin, as numbers
pub record ArePlaces (h : Header) (lines : List Line) (bytes : List ℕ) (raw : Bool) (flags counts planes signs end : ℕ) : Type 0 where
  pub head : head_size h ≤ length bytes
  pub raw_is : raw ≡ (packet_head h.long_heads bytes).raw
  pub flags_at : flags ≡ head_size h
  pub counts_at : counts ≡ counts_start h lines bytes
  pub planes_at : planes ≡ data_start h lines bytes
  pub signs_at : signs ≡ signs_start h lines bytes
  pub end_at : end ≡ packet_end h lines bytes

counts_same : (h : Header) (lines : List Line) (bytes : List ℕ) (raw : Bool) (flags counts planes signs end : ℕ) → ArePlaces h lines bytes raw flags counts planes signs end
    → counted_in raw h.run_mode lines bytes flags counts planes ≡ counted_lines h lines bytes
counts_same h lines bytes raw flags counts planes signs end at =
    ap (λ r. counted_in r h.run_mode lines bytes flags counts planes) at.raw_is
    ∙ ap (λ n. counted_in (packet_head h.long_heads bytes).raw h.run_mode lines bytes n counts planes) at.flags_at
    ∙ ap (λ n. counted_in (packet_head h.long_heads bytes).raw h.run_mode lines bytes (head_size h) n planes) at.counts_at
    ∙ ap (λ n. counted_in (packet_head h.long_heads bytes).raw h.run_mode lines bytes (head_size h) (counts_start h lines bytes) n) at.planes_at

split : (a b c d e e' f f' : Option PrecinctFault) → a ≡ None → e ≡ e' → f ≡ f' → first_some (a ∷ b ∷ c ∷ d ∷ e ∷ f ∷ []) ≡ first_some (first_some (b ∷ c ∷ d ∷ []) ∷ first_some (e' ∷ f' ∷ []) ∷ [])
split a b c d e e' f f' first fifth sixth =
    ap (λ x. first_some (x ∷ b ∷ c ∷ d ∷ e ∷ f ∷ [])) first ∙ ap (λ x. first_some (b ∷ c ∷ d ∷ x ∷ f ∷ [])) fifth ∙ ap (λ x. first_some (b ∷ c ∷ d ∷ e' ∷ x ∷ [])) sixth ∙ cases b c d e' f'
  where
    cases : (b c d e f : Option PrecinctFault) → first_some (b ∷ c ∷ d ∷ e ∷ f ∷ []) ≡ first_some (first_some (b ∷ c ∷ d ∷ []) ∷ first_some (e ∷ f ∷ []) ∷ [])
    cases (Some x) c d e f = refl
    cases None (Some x) d e f = refl
    cases None None (Some x) e f = refl
    cases None None None (Some x) f = refl
    cases None None None None (Some x) = refl
    cases None None None None None = refl

signs_last : (apart : Bool) (total place size need : ℕ) (f : PrecinctFault)
    → when (apart && (nat_lt total (place + (if apart then size else 0)) || nat_lt (8 * size) need)) f
    ≡ (if apart then when (nat_lt total (place + (if apart then size else 0)) || nat_lt (8 * (place + (if apart then size else 0) - place)) need) f else None)
signs_last true total place size need f = let same : size ≡ place + size - place = omega arith in ap (λ n. when (nat_lt total (place + size) || nat_lt (8 * n) need) f) same
signs_last false total place size need f = refl

-- the fault of a packet whose header is there is that of its counts, or that of its numbers
in_parts : (h : Header) (packet : ℕ) (lines : List Line) (bytes : List ℕ) → head_size h ≤ length bytes
    → packet_fault h packet lines bytes
    ≡ first_some (counts_fault packet (counted_lines h lines bytes) (counts_start h lines bytes) (data_start h lines bytes) (length bytes)
    ∷ numbers_fault packet h.signs_apart (lines_counted h lines bytes) bytes (data_start h lines bytes) (signs_start h lines bytes) (packet_end h lines bytes) ∷ [])
in_parts h packet lines bytes head =
    let size : ℕ = (packet_head h.long_heads bytes).data_bytes in
    let same : size ≡ data_start h lines bytes + size - data_start h lines bytes = omega arith in
    split (when (nat_lt (length bytes) (head_size h)) (fault.Overrun packet Head)) (when (nat_lt (length bytes) (counts_start h lines bytes)) (fault.Overrun packet Significance)) (when (nat_lt (length bytes) (data_start h lines bytes)) (fault.Overrun packet Counts))
    (option_map (fault_of_counts packet) (result_err (counted_lines h lines bytes)))
    (when (nat_lt (length bytes) (signs_start h lines bytes) || nat_lt (8 * size) (sum_by (data_size h.signs_apart) (lines_counted h lines bytes))) (fault.Overrun packet Data))
    (when (nat_lt (length bytes) (signs_start h lines bytes) || nat_lt (8 * (data_start h lines bytes + size - data_start h lines bytes)) (sum_by (data_size h.signs_apart) (lines_counted h lines bytes))) (fault.Overrun packet Data))
    (when (h.signs_apart && (nat_lt (length bytes) (packet_end h lines bytes) || nat_lt (8 * (packet_head h.long_heads bytes).sign_bytes) (sum_by signs_size (lines_filled h lines bytes)))) (fault.Overrun packet Signs))
    (if h.signs_apart then signs_fault packet (lines_filled h lines bytes) bytes (signs_start h lines bytes) (packet_end h lines bytes) else None)
    (ap (λ t. when t (fault.Overrun packet Head)) (le-ltb (length bytes) (head_size h) head))
    (ap (λ n. when (nat_lt (length bytes) (signs_start h lines bytes) || nat_lt (8 * n) (sum_by (data_size h.signs_apart) (lines_counted h lines bytes))) (fault.Overrun packet Data)) same)
    (signs_last h.signs_apart (length bytes) (signs_start h lines bytes) (packet_head h.long_heads bytes).sign_bytes (sum_by signs_size (lines_filled h lines bytes)) (fault.Overrun packet Signs))

counts_moved : (h : Header) (packet : ℕ) (lines : List Line) (bytes : List ℕ) (raw : Bool) (flags counts planes signs end : ℕ) → ArePlaces h lines bytes raw flags counts planes signs end
    → counts_fault packet (counted_in raw h.run_mode lines bytes flags counts planes) counts planes (length bytes) ≡ counts_fault packet (counted_lines h lines bytes) (counts_start h lines bytes) (data_start h lines bytes) (length bytes)
counts_moved h packet lines bytes raw flags counts planes signs end at =
    ap (λ r. counts_fault packet r counts planes (length bytes)) (counts_same h lines bytes raw flags counts planes signs end at)
    ∙ ap (λ n. counts_fault packet (counted_lines h lines bytes) n planes (length bytes)) at.counts_at ∙ ap (λ n. counts_fault packet (counted_lines h lines bytes) (counts_start h lines bytes) n (length bytes)) at.planes_at

pub stops_at_counts : (h : Header) (packet : ℕ) (lines : List Line) (bytes : List ℕ) (raw : Bool) (flags counts planes signs end : ℕ) (f : PrecinctFault) → ArePlaces h lines bytes raw flags counts planes signs end
    → Some f ≡ counts_fault packet (counted_in raw h.run_mode lines bytes flags counts planes) counts planes (length bytes) → Some f ≡ packet_fault h packet lines bytes
stops_at_counts h packet lines bytes raw flags counts planes signs end f at e =
    let numbers : Option PrecinctFault = numbers_fault packet h.signs_apart (lines_counted h lines bytes) bytes (data_start h lines bytes) (signs_start h lines bytes) (packet_end h lines bytes) in
    ap (λ x. first_some (x ∷ numbers ∷ [])) (e ∙ counts_moved h packet lines bytes raw flags counts planes signs end at) ∙ sym (in_parts h packet lines bytes at.head)

-- the lines whose counts were read
counted_are : (h : Header) (lines counted : List Line) (rest bytes : List ℕ) (raw : Bool) (flags counts planes signs end : ℕ) → ArePlaces h lines bytes raw flags counts planes signs end
    → counted_in raw h.run_mode lines bytes flags counts planes ≡ Ok (counted, rest) → counted ≡ lines_counted h lines bytes
counted_are h lines counted rest bytes raw flags counts planes signs end at e =
    ap (λ (r : Result (List Line × List ℕ) CountFault). elim r [ Ok read ↦ read.0 | Err fault ↦ lines ]) (sym e ∙ counts_same h lines bytes raw flags counts planes signs end at)

pub after_counts : (h : Header) (packet : ℕ) (lines counted : List Line) (rest bytes : List ℕ) (raw : Bool) (flags counts planes signs end : ℕ) (r : Option PrecinctFault) → ArePlaces h lines bytes raw flags counts planes signs end
    → counted_in raw h.run_mode lines bytes flags counts planes ≡ Ok (counted, rest) → None ≡ counts_fault packet (counted_in raw h.run_mode lines bytes flags counts planes) counts planes (length bytes)
    → r ≡ numbers_fault packet h.signs_apart counted bytes planes signs end → r ≡ packet_fault h packet lines bytes
after_counts h packet lines counted rest bytes raw flags counts planes signs end r at read fine e =
    alone r
    ∙ ap (λ x. first_some (x ∷ r ∷ [])) (fine ∙ counts_moved h packet lines bytes raw flags counts planes signs end at)
    ∙ ap (λ x. first_some (counts_fault packet (counted_lines h lines bytes) (counts_start h lines bytes) (data_start h lines bytes) (length bytes) ∷ x ∷ [])) (e ∙ moved)
    ∙ sym (in_parts h packet lines bytes at.head)
  where
    alone : (x : Option PrecinctFault) → x ≡ first_some (None ∷ x ∷ [])
    alone None = refl
    alone (Some f) = refl

    moved : numbers_fault packet h.signs_apart counted bytes planes signs end ≡ numbers_fault packet h.signs_apart (lines_counted h lines bytes) bytes (data_start h lines bytes) (signs_start h lines bytes) (packet_end h lines bytes)
    moved =
        ap (λ l. numbers_fault packet h.signs_apart l bytes planes signs end) (counted_are h lines counted rest bytes raw flags counts planes signs end at read)
        ∙ ap (λ n. numbers_fault packet h.signs_apart (lines_counted h lines bytes) bytes n signs end) at.planes_at
        ∙ ap (λ n. numbers_fault packet h.signs_apart (lines_counted h lines bytes) bytes (data_start h lines bytes) n end) at.signs_at
        ∙ ap (λ n. numbers_fault packet h.signs_apart (lines_counted h lines bytes) bytes (data_start h lines bytes) (signs_start h lines bytes) n) at.end_at

pub lines_held : (h : Header) (bands : List Band) (lines counted : List Line) (rest bytes : List ℕ) (raw : Bool) (flags counts planes signs end : ℕ) → ArePlaces h lines bytes raw flags counts planes signs end
    → counted_in raw h.run_mode lines bytes flags counts planes ≡ Ok (counted, rest) → EachOf NumbersOf bands (numbers_in_parts h.signs_apart counted bytes planes signs end) → EachOf NumbersOf bands (packet_lines h lines bytes)
lines_held h bands lines counted rest bytes raw flags counts planes signs end at read held = subst (EachOf NumbersOf bands) same held
  where
    same : numbers_in_parts h.signs_apart counted bytes planes signs end ≡ packet_lines h lines bytes
    same =
        ap (λ l. numbers_in_parts h.signs_apart l bytes planes signs end) (counted_are h lines counted rest bytes raw flags counts planes signs end at read)
        ∙ ap (λ n. numbers_in_parts h.signs_apart (lines_counted h lines bytes) bytes n signs end) at.planes_at
        ∙ ap (λ n. numbers_in_parts h.signs_apart (lines_counted h lines bytes) bytes (data_start h lines bytes) n end) at.signs_at
        ∙ ap (λ n. numbers_in_parts h.signs_apart (lines_counted h lines bytes) bytes (data_start h lines bytes) (signs_start h lines bytes) n) at.end_at

-- Places

flags_same : (bands : List Band) (lines : List Line) → EachOf Knows bands lines → sum_by flags_of bands ≡ sum_by flag_count lines
flags_same [] [] known = refl
flags_same [] (line ∷ lines) known = absurd known
flags_same (band ∷ bands) [] known = absurd known
flags_same (band ∷ bands) (line ∷ lines) known =
    sum_by-cons flags_of band bands
    ∙ ap (λ n. n + sum_by flags_of bands) (ap (λ m. if has_flags m then significance_groups_of (length band.counts) else 0) (sym known.0.mode) ∙ ap (λ n. if has_flags line.mode then significance_groups_of n else 0) (sym known.0.groups))
    ∙ ap (λ n. flag_count line + n) (flags_same bands lines known.1) ∙ sym (sum_by-cons flag_count line lines)

pub places_known : (h : Header) (bands : List Band) (lines : List Line) (bytes : List ℕ) (raw : Bool) (data_bytes count_bytes sign_bytes flags counts planes signs end : ℕ) → EachOf Knows bands lines → head_size h ≤ length bytes
    → packet_head h.long_heads bytes ≡ record { raw = raw; data_bytes = data_bytes; count_bytes = count_bytes; sign_bytes = sign_bytes }
    → flags ≡ head_size h → counts ≡ head_size h + (if raw then 0 else bytes_for (sum_by flags_of bands)) → planes ≡ counts + count_bytes → signs ≡ planes + data_bytes → end ≡ signs + (if h.signs_apart then sign_bytes else 0)
    → ArePlaces h lines bytes raw flags counts planes signs end
places_known h bands lines bytes raw data_bytes count_bytes sign_bytes flags counts planes signs end known room head flags_at counts_at planes_at signs_at end_at = record {
  head = room;
  raw_is = raw_is;
  flags_at = flags_at;
  counts_at = counts_is;
  planes_at = planes_is;
  signs_at = signs_is;
  end_at = end_at ∙ ap (λ n. n + (if h.signs_apart then sign_bytes else 0)) signs_is ∙ ap (λ n. signs_start h lines bytes + (if h.signs_apart then n else 0)) (sym (ap (λ (p : PacketHead). p.sign_bytes) head));
}
  where
    raw_is : raw ≡ (packet_head h.long_heads bytes).raw
    raw_is = sym (ap (λ (p : PacketHead). p.raw) head)

    counts_is : counts ≡ counts_start h lines bytes
    counts_is = counts_at ∙ ap (λ n. head_size h + (if raw then 0 else bytes_for n)) (flags_same bands lines known) ∙ ap (λ r. head_size h + (if r then 0 else bytes_for (sum_by flag_count lines))) raw_is

    planes_is : planes ≡ data_start h lines bytes
    planes_is = planes_at ∙ ap (λ n. n + count_bytes) counts_is ∙ ap (λ n. counts_start h lines bytes + n) (sym (ap (λ (p : PacketHead). p.count_bytes) head))

    signs_is : signs ≡ signs_start h lines bytes
    signs_is = signs_at ∙ ap (λ n. n + data_bytes) planes_is ∙ ap (λ n. data_start h lines bytes + n) (sym (ap (λ (p : PacketHead). p.data_bytes) head))

-- the lines above are those that were read
pub followed : (old mid new : List Band) → EachOf Follows old mid → EachOf SameCoded mid new → EachOf Follows old new
followed old mid new first second = pairs_join Follows SameCoded Follows one old mid new first second
  where
    one : (x y z : Band) → Follows x y → SameCoded y z → Follows x z
    one x y z p e = subst (Follows x) (sym e) (record { there = p.there; above = p.above; cut = p.cut; mode = p.mode; groups = p.groups })

pub coded_twice : (old mid new : List Band) → EachOf SameCoded old mid → EachOf SameCoded mid new → EachOf SameCoded old new
coded_twice old mid new first second = pairs_join SameCoded SameCoded SameCoded one old mid new first second
  where
    one : (x y z : Band) → SameCoded x y → SameCoded y z → SameCoded x z
    one x y z p q = q ∙ ap (λ (b : Band). record b { values = z.values }) p
