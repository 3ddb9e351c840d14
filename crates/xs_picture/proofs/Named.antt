-- Want of memory is no fault of bytes, and is inside none.
use Rattle.std.proofs.Common.{◌≡◌, ◌≢◌, ℕ, ◌+◌, ◌*◌, List, [], ◌∷◌, map, length, take, drop, refl, ap, subst, ◌-◌}
use Rattle.std.specs.Prelude.{Bool, true, false, not, ◌||◌, ◌&&◌, nat_eq, nat_le, nat_lt, if◌then◌else◌, Option, Some, Result, Ok, Err}
use Rattle.std.specs.List.{sum_by}
use Rattle.std.specs.Option.{option_map}
use Rattle.std.specs.Result.{result_err}
use Rattle.xs_lists.specs.First.{when, first_some}
use Rattle.xs_lists.specs.Packing.{number_of}
use Rattle.xs_lists.specs.Spelling.{upto}
use Rattle.xs_layout.specs.Geometry.{PacketPlace}
use Rattle.xs_params.specs.declared.header.Header.{Header}
use Rattle.xs_params.specs.Geometry.{packets_of, precincts_of, slice_count}
use Rattle.xs_faults.specs.Names.{NamesSliceFault, NamesStreamFault}
use Rattle.xs_faults.specs.declared.CountFault.{CountFault}
use Rattle.xs_faults.specs.declared.CountFault.TheVariants as count_fault
use Rattle.xs_faults.specs.declared.HeadFault.{HeadFault}
use Rattle.xs_faults.specs.declared.HeadFault.TheVariants as head_fault
use Rattle.xs_faults.specs.declared.Part.{Part}
use Rattle.xs_faults.specs.declared.Part.TheVariants.{Head, Significance, Counts, Data, Signs}
use Rattle.xs_faults.specs.declared.PrecinctFault.{PrecinctFault}
use Rattle.xs_faults.specs.declared.PrecinctFault.TheVariants as precinct_fault
use Rattle.xs_faults.specs.declared.SliceFault.{SliceFault}
use Rattle.xs_faults.specs.declared.SliceFault.TheVariants as slice_fault
use Rattle.xs_faults.specs.declared.StreamFault.{StreamFault}
use Rattle.xs_faults.specs.declared.StreamFault.TheVariants as stream_fault
use Rattle.xs_spelling.specs.Counts.{Line, is_insignificant, unspelled_count}
use Rattle.xs_spelling.specs.Reading.{count_of, in_range, leading_ones, read_coded, read_count, read_each, read_line_counts, read_raw, with_counts}
use Rattle.xs_params.specs.Markers.{eoc}
use Rattle.xs_spelling.specs.Sizes.{data_size, signs_size}
use Rattle.xs_grammar.specs.Precinct.{Content}
use Rattle.xs_grammar.specs.Sizes.{head_size}
use Rattle.xs_grammar.specs.Slice.{slice_head}
use Rattle.xs_markers.specs.Reading.{head_fault as fault_of_head, header_at, header_end}
use Rattle.xs_reading.specs.Packet.{bits_between, counted_lines, counts_start, data_start, fault_of_counts, flagged, lines_counted, lines_filled, packet_end, packet_fault as fault_of_packet, packet_head, read_counted, signs_start}
use Rattle.xs_reading.specs.Precinct.{begun, body_at, mode_at, packets_fault, place_lines, precinct_end, precinct_fault as fault_of_precinct, precinct_head_size, with_packet, with_precinct}
use Rattle.xs_reading.specs.Slice.{is_same, no_content, precincts_fault, slice_fault as fault_of_slice}
use Rattle.xs_reading.specs.Stream.{body_fault, end_place, slice_start, slices_fault, stream_fault_of_head, stream_fault_of_slice}
use Rattle.xs_picture.proofs.FirstHolds.{first_by, map_holds, three_hold, two_hold, when_holds}
use Rattle.xs_picture.proofs.HeadersNamed.{headers_named}
use Rattle.xs_picture.specs.Faults.{FaultsAreNamed}

-- Counts

each_holds : {A B E : Type 0} (P : E → Type 0) (read : A → List ℕ → Result (B × List ℕ) E) (xs : List A) (bits : List ℕ)
    → ((x : A) (bits : List ℕ) (f : E) → read x bits ≡ Err f → P f) → (f : E) → read_each read xs bits ≡ Err f → P f
each_holds P read [] bits one f e = absurd (cc e)
each_holds {A} {B} {E} P read (x ∷ xs) bits one f e = of (read x bits) refl e (λ rest g here. each_holds P read xs rest one g here)
  where
    of_rest : (first : B × List ℕ) (r : Result (List B × List ℕ) E) → read_each read xs first.1 ≡ r → ◌≡◌ {A = Result (List B × List ℕ) E} (elim r [ Ok others ↦ Ok (first.0 ∷ others.0, others.1) | Err fault ↦ Err fault ]) (Err f)
        → ((rest : List ℕ) (g : E) → read_each read xs rest ≡ Err g → P g) → P f
    of_rest first (Ok others) here e later = absurd (cc e)
    of_rest first (Err g) here e later = let same : g ≡ f = cc e in subst P same (later first.1 g here)

    of : (r : Result (B × List ℕ) E) → read x bits ≡ r
        → ◌≡◌ {A = Result (List B × List ℕ) E} (elim r [ Ok first ↦ elim (read_each read xs first.1) [ Ok others ↦ Ok (first.0 ∷ others.0, others.1) | Err fault ↦ Err fault ] | Err fault ↦ Err fault ]) (Err f)
        → ((rest : List ℕ) (g : E) → read_each read xs rest ≡ Err g → P g) → P f
    of (Ok first) here e later = of_rest first (read_each read xs first.1) refl e later
    of (Err g) here e later = let same : g ≡ f = cc e in subst P same (one x bits g here)

when_read : (test : Bool) (first second : Result (ℕ × List ℕ) CountFault) (f : CountFault) → ((g : CountFault) → first ≡ Err g → g ≢ count_fault.Memory) → ((g : CountFault) → second ≡ Err g → g ≢ count_fault.Memory)
    → (if test then first else second) ≡ Err f → f ≢ count_fault.Memory
when_read true first second f left right e = left f e
when_read false first second f left right e = right f e

read_named : (read : ℕ × List ℕ) (g : CountFault) → ◌≡◌ {A = Result (ℕ × List ℕ) CountFault} (Ok read) (Err g) → g ≢ count_fault.Memory
read_named read g e = absurd (cc e)

ended_named : (g : CountFault) → ◌≡◌ {A = Result (ℕ × List ℕ) CountFault} (Err count_fault.Ended) (Err g) → g ≢ count_fault.Memory
ended_named g e = λ memory. cc (e, memory)

range_named : (group count : ℕ) (g : CountFault) → ◌≡◌ {A = Result (ℕ × List ℕ) CountFault} (Err (count_fault.Range group count)) (Err g) → g ≢ count_fault.Memory
range_named group count g e = λ memory. cc (e, memory)

raw_named : (bits : List ℕ) (f : CountFault) → read_raw bits ≡ Err f → f ≢ count_fault.Memory
raw_named bits f e = when_read (nat_lt (length bits) 4) (Err count_fault.Ended) (Ok (number_of (take 4 bits), drop 4 bits)) f ended_named (read_named (number_of (take 4 bits), drop 4 bits)) e

inside_named : (group count : ℕ) (rest : List ℕ) (f : CountFault) → in_range group count rest ≡ Err f → f ≢ count_fault.Memory
inside_named group count rest f e = when_read (nat_le count 15) (Ok (count, rest)) (Err (count_fault.Range group count)) f (read_named (count, rest)) (range_named group count) e

coded_named : (line : Line) (group : ℕ) (bits : List ℕ) (f : CountFault) → read_coded line group bits ≡ Err f → f ≢ count_fault.Memory
coded_named line group bits f e =
    let count : ℕ = count_of (line.prediction group - line.truncation) (line.prediction group) (leading_ones bits) in
    when_read (nat_lt (leading_ones bits) (length bits)) (in_range group count (drop (leading_ones bits + 1) bits)) (Err count_fault.Ended) f (inside_named group count (drop (leading_ones bits + 1) bits)) ended_named e

count_named : (raw : Bool) (run_mode : ℕ) (line : Line) (flag : ℕ → ℕ) (group : ℕ) (bits : List ℕ) (f : CountFault) → read_count raw run_mode line flag group bits ≡ Err f → f ≢ count_fault.Memory
count_named raw run_mode line flag group bits f e =
    when_read raw (read_raw bits) (if is_insignificant line flag group then Ok (unspelled_count run_mode line group, bits) else read_coded line group bits) f (raw_named bits)
    (λ g e. when_read (is_insignificant line flag group) (Ok (unspelled_count run_mode line group, bits)) (read_coded line group bits) g (read_named (unspelled_count run_mode line group, bits)) (coded_named line group bits) e) e

line_named : (raw : Bool) (run_mode : ℕ) (item : Line × (ℕ → ℕ)) (bits : List ℕ) (f : CountFault) → read_counted raw run_mode item bits ≡ Err f → f ≢ count_fault.Memory
line_named raw run_mode item bits f e = of (read_line_counts raw run_mode item.0 item.1 bits) refl e
  where
    of : (r : Result (List ℕ × List ℕ) CountFault) → read_line_counts raw run_mode item.0 item.1 bits ≡ r → ◌≡◌ {A = Result (Line × List ℕ) CountFault} (elim r [ Ok read ↦ Ok (with_counts item.0 read.0, read.1) | Err fault ↦ Err fault ]) (Err f) → f ≢ count_fault.Memory
    of (Ok read) here e = absurd (cc e)
    of (Err g) here e =
        let same : g ≡ f = cc e in
        subst (λ f. f ≢ count_fault.Memory) same
        (each_holds (λ f. f ≢ count_fault.Memory) (read_count raw run_mode item.0 item.1) (upto item.0.groups) bits (λ group bits f e. count_named raw run_mode item.0 item.1 group bits f e) g here)

err_of : {A E : Type 0} (r : Result A E) (f : E) → result_err r ≡ Some f → r ≡ Err f
err_of (Ok a) f e = absurd (cc e)
err_of (Err g) f e = let same : g ≡ f = cc e in ap Err same

-- Packets and precincts

of_counts : (packet : ℕ) (f : CountFault) → f ≢ count_fault.Memory → fault_of_counts packet f ≢ precinct_fault.Memory
of_counts packet count_fault.Ended named e = cc e
of_counts packet (count_fault.Range group value) named e = cc e
of_counts packet count_fault.Memory named e = named refl

overrun : (packet : ℕ) (part : Part) → precinct_fault.Overrun packet part ≢ precinct_fault.Memory
overrun packet part e = cc e

packet_named : (h : Header) (packet : ℕ) (lines : List Line) (bytes : List ℕ) (f : PrecinctFault) → fault_of_packet h packet lines bytes ≡ Some f → f ≢ precinct_fault.Memory
packet_named h packet lines bytes f e =
    first_by P head (flags ∷ counts ∷ counted ∷ data_part ∷ signs_part ∷ []) f e (when_holds P (nat_lt (length bytes) (head_size h)) (precinct_fault.Overrun packet Head) (overrun packet Head)) (λ e.
    first_by P flags (counts ∷ counted ∷ data_part ∷ signs_part ∷ []) f e (when_holds P (nat_lt (length bytes) (counts_start h lines bytes)) (precinct_fault.Overrun packet Significance) (overrun packet Significance)) (λ e.
    first_by P counts (counted ∷ data_part ∷ signs_part ∷ []) f e (when_holds P (nat_lt (length bytes) (data_start h lines bytes)) (precinct_fault.Overrun packet Counts) (overrun packet Counts))
    (three_hold P counted data_part signs_part f in_counts (when_holds P data_test (precinct_fault.Overrun packet Data) (overrun packet Data)) (when_holds P signs_test (precinct_fault.Overrun packet Signs) (overrun packet Signs)))))
  where
    P : PrecinctFault → Type 0
    P f = f ≢ precinct_fault.Memory

    head : Option PrecinctFault
    head = when (nat_lt (length bytes) (head_size h)) (precinct_fault.Overrun packet Head)

    flags : Option PrecinctFault
    flags = when (nat_lt (length bytes) (counts_start h lines bytes)) (precinct_fault.Overrun packet Significance)

    counts : Option PrecinctFault
    counts = when (nat_lt (length bytes) (data_start h lines bytes)) (precinct_fault.Overrun packet Counts)

    counted : Option PrecinctFault
    counted = option_map (fault_of_counts packet) (result_err (counted_lines h lines bytes))

    data_test : Bool
    data_test = nat_lt (length bytes) (signs_start h lines bytes) || nat_lt (8 * (packet_head h.long_heads bytes).data_bytes) (sum_by (data_size h.signs_apart) (lines_counted h lines bytes))

    data_part : Option PrecinctFault
    data_part = when data_test (precinct_fault.Overrun packet Data)

    signs_test : Bool
    signs_test = h.signs_apart && (nat_lt (length bytes) (packet_end h lines bytes) || nat_lt (8 * (packet_head h.long_heads bytes).sign_bytes) (sum_by signs_size (lines_filled h lines bytes)))

    signs_part : Option PrecinctFault
    signs_part = when signs_test (precinct_fault.Overrun packet Signs)

    in_counts : (b : PrecinctFault) → option_map (fault_of_counts packet) (result_err (counted_lines h lines bytes)) ≡ Some b → b ≢ precinct_fault.Memory
    in_counts = map_holds (λ f. f ≢ count_fault.Memory) (λ f. f ≢ precinct_fault.Memory) (fault_of_counts packet) (result_err (counted_lines h lines bytes)) (of_counts packet)
        (λ f e. each_holds (λ f. f ≢ count_fault.Memory) (read_counted (packet_head h.long_heads bytes).raw h.run_mode) (flagged lines (bits_between bytes (head_size h) (counts_start h lines bytes)))
        (bits_between bytes (counts_start h lines bytes) (data_start h lines bytes)) (λ item bits f e. line_named (packet_head h.long_heads bytes).raw h.run_mode item bits f e) f (err_of (counted_lines h lines bytes) f e))

packets_named : (h : Header) (mode : ℕ → ℕ) (number : ℕ) (places : List PacketPlace) (content : Content) (bytes : List ℕ) (f : PrecinctFault) → packets_fault h mode number places content bytes ≡ Some f → f ≢ precinct_fault.Memory
packets_named h mode number [] content bytes f e = absurd (cc e)
packets_named h mode number (place ∷ places) content bytes f e =
    let lines = place_lines h mode content place in
    let rest = drop (packet_end h lines bytes) bytes in
    two_hold (λ f. f ≢ precinct_fault.Memory) (fault_of_packet h number lines bytes) (packets_fault h mode (number + 1) places (with_packet h mode place content bytes) rest) f
    (packet_named h number lines bytes) (packets_named h mode (number + 1) places (with_packet h mode place content bytes) rest) e

precinct_named : (h : Header) (precinct : ℕ) (content : Content) (bytes : List ℕ) (f : PrecinctFault) → fault_of_precinct h precinct content bytes ≡ Some f → f ≢ precinct_fault.Memory
precinct_named h precinct content bytes f e =
    let test = nat_lt (length bytes) (precinct_head_size h) || nat_lt (length bytes) (precinct_end h bytes) in
    two_hold (λ f. f ≢ precinct_fault.Memory) (when test precinct_fault.Truncated) (packets_fault h (mode_at bytes) 0 (packets_of h precinct) (begun content precinct bytes) (body_at h bytes)) f
    (when_holds (λ f. f ≢ precinct_fault.Memory) test precinct_fault.Truncated cut) (packets_named h (mode_at bytes) 0 (packets_of h precinct) (begun content precinct bytes) (body_at h bytes)) e
  where
    cut : precinct_fault.Truncated ≢ precinct_fault.Memory
    cut e = cc e

-- Slices

precincts_named : (h : Header) (precincts : List ℕ) (content : Content) (bytes : List ℕ) (f : SliceFault) → precincts_fault h precincts content bytes ≡ Some f → NamesSliceFault f
precincts_named h [] content bytes f e = absurd (cc e)
precincts_named h (precinct ∷ precincts) content bytes f e =
    let rest = drop (precinct_end h bytes) bytes in
    two_hold NamesSliceFault (option_map (slice_fault.Precinct precinct) (fault_of_precinct h precinct content bytes)) (precincts_fault h precincts (with_precinct h precinct content bytes) rest) f
    (map_holds (λ f. f ≢ precinct_fault.Memory) NamesSliceFault (slice_fault.Precinct precinct) (fault_of_precinct h precinct content bytes) (λ f named. named) (precinct_named h precinct content bytes))
    (precincts_named h precincts (with_precinct h precinct content bytes) rest) e

pub slice_named : (h : Header) (slice : ℕ) (bytes : List ℕ) (f : SliceFault) → fault_of_slice h slice bytes ≡ Some f → NamesSliceFault f
slice_named h slice bytes f e =
    let short = nat_lt (length bytes) 6 in
    let other = not (is_same (take 6 bytes) (slice_head slice)) in
    three_hold NamesSliceFault (when short slice_fault.Short) (when other slice_fault.Head) (precincts_fault h (precincts_of h slice) no_content (drop 6 bytes)) f
    (when_holds NamesSliceFault short slice_fault.Short tt) (when_holds NamesSliceFault other slice_fault.Head tt) (precincts_named h (precincts_of h slice) no_content (drop 6 bytes)) e

-- Codestreams

cut_named : (total : ℕ) → (stream_fault.Cut total ≢ stream_fault.Memory) × NamesStreamFault (stream_fault.Cut total)
cut_named total = ((λ e. cc e), tt)

slice_kept : (total slice : ℕ) (f : SliceFault) → NamesSliceFault f → (stream_fault_of_slice total slice f ≢ stream_fault.Memory) × NamesStreamFault (stream_fault_of_slice total slice f)
slice_kept total slice slice_fault.Short named = cut_named total
slice_kept total slice slice_fault.Head named = ((λ e. cc e), tt)
slice_kept total slice (slice_fault.Precinct precinct precinct_fault.Truncated) named = cut_named total
slice_kept total slice (slice_fault.Precinct precinct (precinct_fault.Overrun packet part)) named = ((λ e. cc e), named)
slice_kept total slice (slice_fault.Precinct precinct (precinct_fault.Count packet value)) named = ((λ e. cc e), named)
slice_kept total slice (slice_fault.Precinct precinct precinct_fault.Memory) named = absurd (named refl)
slice_kept total slice (slice_fault.Trailing place) named = ((λ e. cc e), tt)
slice_kept total slice slice_fault.End named = ((λ e. cc e), tt)
slice_kept total slice slice_fault.Memory named = absurd named

slices_named : (h : Header) (bytes : List ℕ) (place : ℕ) (slices : List ℕ) (f : StreamFault)
    → first_some (map (λ slice. option_map (stream_fault_of_slice (length bytes) slice) (fault_of_slice h slice (drop (slice_start h bytes place slice) bytes))) slices) ≡ Some f
    → (f ≢ stream_fault.Memory) × NamesStreamFault f
slices_named h bytes place [] f e = absurd (cc e)
slices_named h bytes place (slice ∷ slices) f e =
    let own = drop (slice_start h bytes place slice) bytes in
    first_by (λ f. (f ≢ stream_fault.Memory) × NamesStreamFault f) (option_map (stream_fault_of_slice (length bytes) slice) (fault_of_slice h slice own))
    (map (λ slice. option_map (stream_fault_of_slice (length bytes) slice) (fault_of_slice h slice (drop (slice_start h bytes place slice) bytes))) slices) f e
    (map_holds NamesSliceFault (λ f. (f ≢ stream_fault.Memory) × NamesStreamFault f) (stream_fault_of_slice (length bytes) slice) (fault_of_slice h slice own) (slice_kept (length bytes) slice) (slice_named h slice own))
    (slices_named h bytes place slices f)

body_named : (h : Header) (bytes : List ℕ) (place : ℕ) (f : StreamFault) → body_fault h bytes place ≡ Some f → (f ≢ stream_fault.Memory) × NamesStreamFault f
body_named h bytes place f e =
    first_by P (slices_fault h bytes place) (cut ∷ unended ∷ misstated ∷ []) f e (slices_named h bytes place (upto (slice_count h)))
    (three_hold P cut unended misstated f (when_holds P (nat_lt (length bytes) (end + 2)) (stream_fault.Cut (length bytes)) (cut_named (length bytes)))
    (when_holds P (not (is_same (take 2 (drop end bytes)) eoc)) (stream_fault.End end) ((λ e. cc e), tt))
    (when_holds P (not (nat_eq h.lcod 0 || nat_eq h.lcod (end + 2))) (stream_fault.Lcod h.lcod (end + 2)) ((λ e. cc e), tt)))
  where
    P : StreamFault → Type 0
    P f = (f ≢ stream_fault.Memory) × NamesStreamFault f

    end : ℕ
    end = end_place h bytes place

    cut : Option StreamFault
    cut = when (nat_lt (length bytes) (end_place h bytes place + 2)) (stream_fault.Cut (length bytes))

    unended : Option StreamFault
    unended = when (not (is_same (take 2 (drop (end_place h bytes place) bytes)) eoc)) (stream_fault.End (end_place h bytes place))

    misstated : Option StreamFault
    misstated = when (not (nat_eq h.lcod 0 || nat_eq h.lcod (end_place h bytes place + 2))) (stream_fault.Lcod h.lcod (end_place h bytes place + 2))

head_kept : (total : ℕ) (f : HeadFault) → f ≢ head_fault.Memory → (stream_fault_of_head total f ≢ stream_fault.Memory) × NamesStreamFault (stream_fault_of_head total f)
head_kept total (head_fault.Truncated place) named = cut_named total
head_kept total (head_fault.Marker code place) named = ((λ e. cc e), named)
head_kept total (head_fault.Segment code place) named = ((λ e. cc e), named)
head_kept total (head_fault.Length code length) named = ((λ e. cc e), named)
head_kept total (head_fault.Unsupported field value) named = ((λ e. cc e), named)
head_kept total (head_fault.Twice code) named = ((λ e. cc e), named)
head_kept total (head_fault.Absent code) named = ((λ e. cc e), named)
head_kept total (head_fault.BoxLength length place) named = ((λ e. cc e), named)
head_kept total head_fault.Memory named = absurd (named refl)

pub faults_are_named : FaultsAreNamed
faults_are_named bytes f e =
    two_hold (λ f. (f ≢ stream_fault.Memory) × NamesStreamFault f) (option_map (stream_fault_of_head (length bytes)) (fault_of_head bytes)) (body_fault (header_at bytes) bytes (header_end bytes)) f
    (map_holds (λ f. f ≢ head_fault.Memory) (λ f. (f ≢ stream_fault.Memory) × NamesStreamFault f) (stream_fault_of_head (length bytes)) (fault_of_head bytes) (head_kept (length bytes)) (headers_named bytes))
    (body_named (header_at bytes) bytes (header_end bytes)) e
