-- One record more of a file.
use Rattle.std.proofs.Common.{◌≡◌, ℕ, zero, suc, ◌+◌, ◌-◌, ◌<◌, ◌≤◌, List, [], ◌∷◌, ◌++◌, length, take, drop, Bool, true, false, refl, sym, ap, subst, ◌∙◌, arith, append_assoc, append-nil, Option, None, Some, Result, Ok, Err}
use Rattle.std.specs.Prelude.{if◌then◌else◌, slice_range, flat_map, is_none}
use Rattle.std.specs.List.{AllByRecursion, cons_option}
use Rattle.std.proofs.lemmas.List.{drop-drop, length-drop}
use Rattle.std.proofs.lemmas.List.Concat.{flat_map-append}
use Rattle.std.proofs.lemmas.List.Elements.{filter_map-append}
use Rattle.std.proofs.lemmas.List.Sums.{sum_by-append}
use Rattle.xs_lists.specs.Packing.{AreBytes}
use Rattle.xs_lists.specs.Spelling.{SpellsEach}
use Rattle.xs_lists.proofs.Each.{each-more}
use Rattle.xs_lists.proofs.Walk.{all-append}
use Rattle.xs_capture.specs.Capture.{frame, IsCapture, IsShort}
use Rattle.xs_pcap.specs.declared.numbers.Order.{Order}
use Rattle.xs_pcap.specs.declared.fault.PcapFault.{PcapFault}
use Rattle.xs_pcap.specs.declared.fault.PcapFault.TheVariants.{Cut}
use Rattle.xs_pcap.specs.Numbers.{word_of, ordered_word_at}
use Rattle.xs_pcap.specs.Datagram.{payload_of}
use Rattle.xs_pcap.specs.File.{has_record, header_read, IsPcap, IsRecord, order_of, record_read, record_size}
use Rattle.xs_pcap.specs.Unwrapped.{frame_if, IsPcapFault, payloads_of, step_if, stepped_records}
use Rattle.xs_pcap.proofs.Parts.{drop_are, peel, take_are}
use Rattle.xs_pcap.proofs.Datagrams.{payload_short}
use Rattle.xs_pcap.proofs.Records.{captured_in, record_holds, record_is, record_long}
use Rattle.xs_pcap.proofs.Files.{as_fault, fault_of_record, file_from, header_told}

-- Reading a record at a place

-- the answer where a record is there or not
abbrev answer_if : Bool → ℕ → ℕ → Result (ℕ × ℕ) PcapFault
answer_if has place size = if has then Ok (place + 16, place + size) else Err (Cut place)

-- what is stated of the record at a place, by the whole bytes
pub size_at : (order : Order) (bytes : List ℕ) (place : ℕ) → record_size order (drop place bytes) ≡ 16 + ordered_word_at order bytes (place + 8)
size_at order bytes place = ap (λ l. 16 + word_of order (take 4 l)) (drop-drop 8 place bytes)

pub cut_at : (order : Order) (bytes : List ℕ) (place : ℕ) → place < length bytes → length bytes - (place + 16) < ordered_word_at order bytes (place + 8) → Err (Cut place) ≡ record_read order bytes place
cut_at order bytes place inside long =
    let none : has_record order (drop place bytes) ≡ false = record_long order (drop place bytes) (omega (arith, length-drop place bytes, size_at order bytes place, long, inside)) in
    ap (λ (t : Bool). answer_if t place (record_size order (drop place bytes))) (sym none)

pub found_at : (order : Order) (bytes : List ℕ) (place length_is : ℕ) → 16 ≤ length bytes - place → length_is ≡ ordered_word_at order bytes (place + 8) → length_is ≤ length bytes - (place + 16)
    → Ok (place + 16, place + 16 + length_is) ≡ record_read order bytes place
found_at order bytes place length_is front states inside =
    let has : has_record order (drop place bytes) ≡ true =
    record_holds order (drop place bytes) (omega (arith, length-drop place bytes, front)) (omega (arith, length-drop place bytes, size_at order bytes place, states, inside, front)) in
    let end : place + 16 + length_is ≡ place + record_size order (drop place bytes) = omega (arith, size_at order bytes place, states) in
    ap (answer_to place) end ∙ ap (λ (t : Bool). answer_if t place (record_size order (drop place bytes))) (sym has)
  where
    answer_to : ℕ → ℕ → Result (ℕ × ℕ) PcapFault
    answer_to place end = Ok (place + 16, end)

-- The records up to a place

-- the records of which a capture and a number were made
pub record HasWalked (bytes : List ℕ) (port place : ℕ) (capture : List ℕ) (stepped : ℕ) : Type 0 where
  pub records : List (List ℕ)
  pub front : List ℕ
  pub split : drop 24 bytes ≡ front ++ drop place bytes
  pub spelled : SpellsEach (IsRecord (order_of bytes)) records front
  pub capture_is : IsCapture (payloads_of port records) capture
  pub stepped_is : stepped ≡ stepped_records port records

pub none_walked : (bytes : List ℕ) (port : ℕ) → HasWalked bytes port 24 [] 0
none_walked bytes port = record { records = []; front = []; split = refl; spelled = refl; capture_is = record { joined = refl; short = tt }; stepped_is = refl }

read_told : (order : Order) (bytes : List ℕ) (place : ℕ) (read : ℕ × ℕ) → record_read order bytes place ≡ Ok read
    → (has_record order (drop place bytes) ≡ true) × (read.0 ≡ place + 16) × (read.1 ≡ place + record_size order (drop place bytes))
read_told order bytes place read e = go (has_record order (drop place bytes)) refl e
  where
    go : (b : Bool) → has_record order (drop place bytes) ≡ b → answer_if b place (record_size order (drop place bytes)) ≡ Ok read
        → (has_record order (drop place bytes) ≡ true) × (read.0 ≡ place + 16) × (read.1 ≡ place + record_size order (drop place bytes))
    go true has same = (has, cc same, cc same)
    go false has same = absurd (cc same)

fault_told : (order : Order) (bytes : List ℕ) (place : ℕ) (fault : PcapFault) → record_read order bytes place ≡ Err fault → (has_record order (drop place bytes) ≡ false) × (fault ≡ Cut place)
fault_told order bytes place fault e = go (has_record order (drop place bytes)) refl e
  where
    go : (b : Bool) → has_record order (drop place bytes) ≡ b → answer_if b place (record_size order (drop place bytes)) ≡ Err fault
        → (has_record order (drop place bytes) ≡ false) × (fault ≡ Cut place)
    go true has same = absurd (cc same)
    go false has same = (has, cc same)

-- one payload more, or none
payload_more : (o : Option (List ℕ)) → flat_map frame (cons_option o []) ≡ frame_if o
payload_more None = refl
payload_more (Some p) = append-nil (frame p)

short_more : (o : Option (List ℕ)) → ((p : List ℕ) → o ≡ Some p → IsShort p) → AllByRecursion IsShort (cons_option o [])
short_more None short = tt
short_more (Some p) short = (short p refl, tt)

pub walked_more : (bytes : List ℕ) (port place : ℕ) (read : ℕ × ℕ) (capture : List ℕ) (stepped : ℕ) → AreBytes bytes → record_read (order_of bytes) bytes place ≡ Ok read → HasWalked bytes port place capture stepped
    → (now : List ℕ) (others : ℕ) → now ≡ capture ++ frame_if (payload_of port (slice_range bytes read.0 read.1))
    → others ≡ stepped + step_if (payload_of port (slice_range bytes read.0 read.1)) → HasWalked bytes port read.1 now others
walked_more bytes port place read capture stepped all answer before now others those these =
    let told = read_told (order_of bytes) bytes place read answer in
    let r = record_is (order_of bytes) (drop place bytes) (drop_are place bytes all) told.0 in
    let width : read.1 - read.0 ≡ ordered_word_at (order_of bytes) (drop place bytes) 8 = omega (arith, told.1, told.2) in
    let same : slice_range bytes read.0 read.1 ≡ captured_in (order_of bytes) (drop place bytes) =
    ap (λ n. take n (drop read.0 bytes)) width ∙ ap (λ n. take (ordered_word_at (order_of bytes) (drop place bytes) 8) (drop n bytes)) told.1 ∙ ap (take (ordered_word_at (order_of bytes) (drop place bytes) 8)) (sym (drop-drop 16 place bytes)) in
    let captured_are : AreBytes (slice_range bytes read.0 read.1) = take_are (read.1 - read.0) (drop read.0 bytes) (drop_are read.0 bytes all) in
    let end : drop place bytes ≡ take (record_size (order_of bytes) (drop place bytes)) (drop place bytes) ++ drop read.1 bytes =
    peel (record_size (order_of bytes) (drop place bytes)) place bytes ∙ ap (λ n. take (record_size (order_of bytes) (drop place bytes)) (drop place bytes) ++ drop n bytes) (sym told.2) in
    record {
      records = before.records ++ slice_range bytes read.0 read.1 ∷ [];
      front = before.front ++ take (record_size (order_of bytes) (drop place bytes)) (drop place bytes);
      split = before.split ∙ ap (λ l. before.front ++ l) end ∙ sym (append_assoc before.front (take (record_size (order_of bytes) (drop place bytes)) (drop place bytes)) (drop read.1 bytes));
      spelled = each-more (IsRecord (order_of bytes)) before.records (slice_range bytes read.0 read.1) before.front (take (record_size (order_of bytes) (drop place bytes)) (drop place bytes)) before.spelled
          (subst (λ c. IsRecord (order_of bytes) c (take (record_size (order_of bytes) (drop place bytes)) (drop place bytes))) (sym same) r);
      capture_is = record {
        joined =
            those ∙ ap (λ l. l ++ frame_if (payload_of port (slice_range bytes read.0 read.1))) before.capture_is.joined
            ∙ ap (λ l. flat_map frame (payloads_of port before.records) ++ l) (sym (payload_more (payload_of port (slice_range bytes read.0 read.1))))
            ∙ sym (flat_map-append frame (payloads_of port before.records) (cons_option (payload_of port (slice_range bytes read.0 read.1)) []))
            ∙ ap (flat_map frame) (sym (filter_map-append (payload_of port) before.records (slice_range bytes read.0 read.1 ∷ [])));
        short = subst (AllByRecursion IsShort) (sym (filter_map-append (payload_of port) before.records (slice_range bytes read.0 read.1 ∷ [])))
            (all-append IsShort (payloads_of port before.records) (cons_option (payload_of port (slice_range bytes read.0 read.1)) []) before.capture_is.short (short_more (payload_of port (slice_range bytes read.0 read.1)) (λ p e. payload_short port (slice_range bytes read.0 read.1) p captured_are e)));
      };
      stepped_is = counted (sum_by-append (λ (c : List ℕ). if is_none (payload_of port c) then 1 else 0) before.records (slice_range bytes read.0 read.1 ∷ [])) before.stepped_is;
    }
  where
    counted : stepped_records port (before.records ++ slice_range bytes read.0 read.1 ∷ []) ≡ stepped_records port before.records + stepped_records port (slice_range bytes read.0 read.1 ∷ [])
        → stepped ≡ stepped_records port before.records → others ≡ stepped_records port (before.records ++ slice_range bytes read.0 read.1 ∷ [])
    counted sum was = omega (arith, sum, was, these)

-- a record that is cut
pub cut_walked : (bytes : List ℕ) (port place : ℕ) (fault : PcapFault) (capture : List ℕ) (stepped : ℕ) → header_read bytes ≡ Ok (order_of bytes) → place < length bytes
    → record_read (order_of bytes) bytes place ≡ Err fault → HasWalked bytes port place capture stepped → IsPcapFault bytes fault
cut_walked bytes port place fault capture stepped header inside answer before =
    let told = fault_told (order_of bytes) bytes place fault answer in
    let none = (header_told bytes (order_of bytes) header).0 in
    subst (IsPcapFault bytes) (sym told.1) (as_fault bytes (Cut place) (fault_of_record bytes place before.records before.front none inside before.split before.spelled told.0))

past : (n : ℕ) (xs : List ℕ) → length xs ≤ n → drop n xs ≡ []
past zero [] end = refl
past (suc n) [] end = refl
past zero (x ∷ xs) end = absurd (omega (arith, end))
past (suc n) (x ∷ xs) end = past n xs (omega (arith, end))

-- the end of the bytes
pub file_walked : (bytes : List ℕ) (port place : ℕ) (capture : List ℕ) (stepped : ℕ) → AreBytes bytes → header_read bytes ≡ Ok (order_of bytes) → length bytes ≤ place
    → (before : HasWalked bytes port place capture stepped) → IsPcap before.records bytes
file_walked bytes port place capture stepped all header end before =
    let none = (header_told bytes (order_of bytes) header).0 in
    let last : drop place bytes ≡ [] = past place bytes end in
    let whole : drop 24 bytes ≡ before.front = before.split ∙ ap (λ l. before.front ++ l) last ∙ append-nil before.front in
    file_from bytes before.records all none (subst (SpellsEach (IsRecord (order_of bytes)) before.records) (sym whole) before.spelled)

pub step_least : (o : Option (List ℕ)) → step_if o ≤ 1
step_least None = omega arith
step_least (Some p) = omega arith
