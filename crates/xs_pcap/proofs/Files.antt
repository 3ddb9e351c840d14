-- A whole file, and why bytes are none.
use Rattle.std.proofs.Common.{◌≡◌, ℕ, ◌+◌, ◌-◌, ◌%◌, ◌^◌, ◌<◌, ◌≤◌, List, [], ◌∷◌, ◌++◌, length, take, drop, Bool, true, false, refl, sym, ap, subst, ◌∙◌, arith, append_assoc, append-nil, length-append, Option, None, Some, Result, Ok, Err}
use mathlib.Core.Logic.{◌⊎◌, inl, inr}
use Rattle.std.specs.Prelude.{nat_eq, nat_lt, not, if◌then◌else◌}
use Rattle.std.specs.Int.{from_be_bytes, w32}
use Rattle.std.proofs.Math.Seq.{take-add}
use Rattle.std.proofs.lemmas.Bool.{eq-eqb, eqb-true, le-ltb, lt-ltb, ltb-false, not-false}
use Rattle.std.proofs.lemmas.List.{drop-drop, length-drop, nil_from_length, take-append-drop}
use Rattle.xs_lists.specs.Fields.{word_at}
use Rattle.xs_lists.specs.First.{first_of, first_some, when}
use Rattle.xs_lists.specs.Packing.{AreBytes}
use Rattle.xs_lists.specs.Spelling.{SpellsEach}
use Rattle.xs_lists.proofs.Cut.{append_cut}
use Rattle.xs_pcap.specs.declared.numbers.Order.{Order}
use Rattle.xs_pcap.specs.declared.numbers.Order.TheVariants.{Big, Little}
use Rattle.xs_pcap.specs.declared.fault.PcapFault.{PcapFault}
use Rattle.xs_pcap.specs.declared.fault.PcapFault.TheVariants.{Cut, Magic, Link, Memory}
use Rattle.xs_pcap.specs.Numbers.{ordered_word_at, word_bytes, word_of}
use Rattle.xs_pcap.specs.File.{after_records, cut_place, cut_record, ethernet, has_record, header_read, header_refusals, header_size, is_magic, IsFileHeader, IsPcap, IsRecord, link_of, magic_of, microseconds, nanoseconds, order_of, pcap_fault, record_fault}
use Rattle.xs_pcap.specs.Unwrapped.{IsPcapFault}
use Rattle.xs_pcap.specs.Laws.{NoFaultInFile, RecordsAreOne}
use Rattle.xs_pcap.proofs.Parts.{after_part, assoc_4, drop_are, length_3, no_row, one_holds, part_at, part_size, word_again, word_back, word_size, word_small}
use Rattle.xs_pcap.proofs.Records.{after_all, few_records, records_before, same_records}

-- Reading the header

pub header_told : (bytes : List ℕ) (order : Order) → header_read bytes ≡ Ok order → (first_of (header_refusals bytes) ≡ None) × (order_of bytes ≡ order)
header_told bytes order e = by_cases (first_of (header_refusals bytes)) e
  where
    by_cases : (o : Option PcapFault) → (elim o as (λ (y : Option PcapFault). Result Order PcapFault) [ None ↦ Ok (order_of bytes) | Some fault ↦ Err fault ]) ≡ Ok order → (o ≡ None) × (order_of bytes ≡ order)
    by_cases None same = (refl, cc same)
    by_cases (Some fault) same = absurd (cc same)

pub header_fault : (bytes : List ℕ) (fault : PcapFault) → header_read bytes ≡ Err fault → first_of (header_refusals bytes) ≡ Some fault
header_fault bytes fault e = by_cases (first_of (header_refusals bytes)) e
  where
    by_cases : (o : Option PcapFault) → (elim o as (λ (y : Option PcapFault). Result Order PcapFault) [ None ↦ Ok (order_of bytes) | Some other ↦ Err other ]) ≡ Err fault → o ≡ Some fault
    by_cases None same = absurd (cc same)
    by_cases (Some other) same = cc same

-- what no refusal says
record Accepted (bytes : List ℕ) : Type 0 where
  pub size : 24 ≤ length bytes
  pub magic : is_magic (magic_of bytes) ≡ true
  pub link : link_of bytes % 2 ^ 16 ≡ ethernet

accepted : (bytes : List ℕ) → first_of (header_refusals bytes) ≡ None → Accepted bytes
accepted bytes none =
    let rows = no_row (header_refusals bytes) none in
    record {
      size = ltb-false (length bytes) 24 rows.0;
      magic = not-false (is_magic (magic_of bytes)) rows.1.0;
      link = eqb-true (link_of bytes % 2 ^ 16) ethernet (not-false (nat_eq (link_of bytes % 2 ^ 16) ethernet) rows.1.1.0);
    }

not_refused : (bytes : List ℕ) → 24 ≤ length bytes → is_magic (magic_of bytes) ≡ true → link_of bytes % 2 ^ 16 ≡ ethernet → first_of (header_refusals bytes) ≡ None
not_refused bytes size magic link =
    ap (λ (t : Bool). first_of {A = PcapFault} ((t, Cut 0) ∷ (not (is_magic (magic_of bytes)), Magic (word_at bytes 0)) ∷ (not (nat_eq (link_of bytes % 2 ^ 16) ethernet), Link (link_of bytes)) ∷ [])) (le-ltb (length bytes) 24 size)
    ∙ ap (λ (t : Bool). first_of {A = PcapFault} ((not t, Magic (word_at bytes 0)) ∷ (not (nat_eq (link_of bytes % 2 ^ 16) ethernet), Link (link_of bytes)) ∷ [])) magic
    ∙ ap (λ (t : Bool). first_of {A = PcapFault} ((not t, Link (link_of bytes)) ∷ [])) (eq-eqb (link_of bytes % 2 ^ 16) ethernet link)

known_magic : (number : ℕ) → is_magic number ≡ true → (number ≡ microseconds) ⊎ (number ≡ nanoseconds)
known_magic number is = elim (one_holds (nat_eq number microseconds) (nat_eq number nanoseconds) is) [
  | inl e ↦ inl (eqb-true number microseconds e)
  | inr e ↦ inr (eqb-true number nanoseconds e)
]

header_is : (bytes : List ℕ) → AreBytes bytes → Accepted bytes → IsFileHeader (order_of bytes) (take 24 bytes)
header_is bytes all a =
    let order = order_of bytes in
    let first : word_bytes (order_of bytes) (magic_of bytes) ≡ take 4 bytes = word_back (order_of bytes) bytes 0 all (omega (arith, a.size)) in
    let last : word_bytes (order_of bytes) (link_of bytes) ≡ take 4 (drop 20 bytes) = word_back (order_of bytes) bytes 20 all (omega (arith, a.size)) in
    record {
      magic = magic_of bytes;
      unread = take 16 (drop 4 bytes);
      link = link_of bytes;
      joined =
          take-add 4 20 bytes ∙ ap (λ l. take 4 bytes ++ l) (take-add 16 4 (drop 4 bytes) ∙ ap (λ l. take 16 (drop 4 bytes) ++ take 4 l) (drop-drop 16 4 bytes))
          ∙ ap (λ l. l ++ (take 16 (drop 4 bytes) ++ take 4 (drop 20 bytes))) (sym first) ∙ ap (λ l. word_bytes (order_of bytes) (magic_of bytes) ++ (take 16 (drop 4 bytes) ++ l)) (sym last)
          ∙ sym (append_assoc (word_bytes (order_of bytes) (magic_of bytes)) (take 16 (drop 4 bytes)) (word_bytes (order_of bytes) (link_of bytes)));
      known = known_magic (magic_of bytes) a.magic;
      size = part_size 16 4 bytes (omega (arith, a.size));
      link_is = (a.link, word_small (order_of bytes) bytes 20 all);
    }

-- A header that is spelled

-- the order is that in which its magic is one
its_order : (order : Order) (magic : ℕ) → (magic ≡ microseconds) ⊎ (magic ≡ nanoseconds) → (if is_magic (from_be_bytes w32 (word_bytes order magic)) then Big else Little) ≡ order
its_order Big magic (inl e) = ap (λ n. if is_magic (from_be_bytes w32 (word_bytes Big n)) then Big else Little) e
its_order Big magic (inr e) = ap (λ n. if is_magic (from_be_bytes w32 (word_bytes Big n)) then Big else Little) e
its_order Little magic (inl e) = ap (λ n. if is_magic (from_be_bytes w32 (word_bytes Little n)) then Big else Little) e
its_order Little magic (inr e) = ap (λ n. if is_magic (from_be_bytes w32 (word_bytes Little n)) then Big else Little) e

is_known : (magic : ℕ) → (magic ≡ microseconds) ⊎ (magic ≡ nanoseconds) → (is_magic magic ≡ true) × (magic < 2 ^ 32)
is_known magic (inl e) = (ap is_magic e, omega (arith, e))
is_known magic (inr e) = (ap is_magic e, omega (arith, e))

pub record header_as_read (order : Order) (header bytes : List ℕ) : Type 0 where
  pub order_is : order_of bytes ≡ order
  pub none : first_of (header_refusals bytes) ≡ None
  pub size : length header ≡ 24

pub header_is_read : (order : Order) (header rest : List ℕ) → IsFileHeader order header → header_as_read order header (header ++ rest)
header_is_read order header rest h =
    let known = is_known h.magic h.known in
    let split : header ++ rest ≡ word_bytes order h.magic ++ (h.unread ++ (word_bytes order h.link ++ rest)) =
    ap (λ l. l ++ rest) h.joined ∙ assoc_4 (word_bytes order h.magic) h.unread (word_bytes order h.link) rest in
    let first : take 4 (drop 0 (header ++ rest)) ≡ word_bytes order h.magic = part_at 0 4 (header ++ rest) (word_bytes order h.magic) _ split (word_size order h.magic) in
    let at_4 : drop 4 (header ++ rest) ≡ h.unread ++ (word_bytes order h.link ++ rest) = after_part 0 4 (header ++ rest) (word_bytes order h.magic) _ split (word_size order h.magic) in
    let at_20 : drop 20 (header ++ rest) ≡ word_bytes order h.link ++ rest = after_part 4 16 (header ++ rest) h.unread _ at_4 h.size in
    let last : take 4 (drop 20 (header ++ rest)) ≡ word_bytes order h.link = part_at 20 4 (header ++ rest) (word_bytes order h.link) rest at_20 (word_size order h.link) in
    let same : order_of (header ++ rest) ≡ order = ap (λ l. if is_magic (from_be_bytes w32 l) then Big else Little) first ∙ its_order order h.magic h.known in
    let magic : magic_of (header ++ rest) ≡ h.magic = ap (λ (o : Order). ordered_word_at o (header ++ rest) 0) same ∙ ap (word_of order) first ∙ word_again order h.magic known.1 in
    let link : link_of (header ++ rest) ≡ h.link = ap (λ (o : Order). ordered_word_at o (header ++ rest) 20) same ∙ ap (word_of order) last ∙ word_again order h.link h.link_is.1 in
    let size : length header ≡ 24 =
    ap length h.joined ∙ length_3 (word_bytes order h.magic) h.unread (word_bytes order h.link) ∙ omega (arith, h.size, word_size order h.magic, word_size order h.link) in
    record {
      order_is = same;
      none = not_refused (header ++ rest) (omega (arith, size, length-append header rest)) (ap is_magic magic ∙ known.0) (ap (λ n. n % 2 ^ 16) link ∙ h.link_is.0);
      size = size;
    }

-- Faults

both_none : (a b : Option PcapFault) → first_some (a ∷ b ∷ []) ≡ None → (a ≡ None) × (b ≡ None)
both_none None None e = (refl, refl)
both_none None (Some f) e = absurd (cc e)
both_none (Some f) b e = absurd (cc e)

not_when : (b : Bool) (fault : PcapFault) → when b fault ≡ None → b ≡ false
not_when true fault e = absurd (cc e)
not_when false fault e = refl

-- a fault of the header
pub fault_of_header : (bytes : List ℕ) (fault : PcapFault) → header_read bytes ≡ Err fault → pcap_fault bytes ≡ Some fault
unfolding pcap_fault
fault_of_header bytes fault e = ap (λ (o : Option PcapFault). first_some (o ∷ record_fault bytes ∷ [])) (header_fault bytes fault e)

-- bytes that follow the records, where no whole one begins
pub fault_of_record : (bytes : List ℕ) (place : ℕ) (records : List (List ℕ)) (front : List ℕ) → first_of (header_refusals bytes) ≡ None → place < length bytes
    → drop header_size bytes ≡ front ++ drop place bytes → SpellsEach (IsRecord (order_of bytes)) records front → has_record (order_of bytes) (drop place bytes) ≡ false → pcap_fault bytes ≡ Some (Cut place)
unfolding pcap_fault
fault_of_record bytes place records front none inside split spelled cut =
    let size : length (drop 24 bytes) ≡ length front + length (drop place bytes) = ap length split ∙ length-append front (drop place bytes) in
    let few : length records ≤ length (drop 24 bytes) = omega (arith, few_records (order_of bytes) records front spelled, size) in
    let left : cut_record (order_of bytes) (drop 24 bytes) ≡ drop place bytes =
    ap (after_records (length (drop 24 bytes)) (order_of bytes)) split ∙ after_all (order_of bytes) records front (drop place bytes) (length (drop 24 bytes)) spelled cut few in
    let at : cut_place bytes ≡ place = ap (λ l. length bytes - length l) left ∙ omega (arith, inside, length-drop place bytes) in
    ap (λ (o : Option PcapFault). first_some (o ∷ record_fault bytes ∷ [])) none
    ∙ ap (λ n. first_some (when (nat_lt n (length bytes)) (Cut n) ∷ [])) at ∙ ap (λ (b : Bool). first_some (when b (Cut place) ∷ [])) (lt-ltb place (length bytes) inside)

pub as_fault : (bytes : List ℕ) (fault : PcapFault) → pcap_fault bytes ≡ Some fault → IsPcapFault bytes fault
as_fault bytes (Cut place) e = e
as_fault bytes (Magic value) e = e
as_fault bytes (Link value) e = e
as_fault bytes Memory e = tt

-- a file from its header and its records
pub file_from : (bytes : List ℕ) (records : List (List ℕ)) → AreBytes bytes → first_of (header_refusals bytes) ≡ None → SpellsEach (IsRecord (order_of bytes)) records (drop 24 bytes) → IsPcap records bytes
file_from bytes records all none spelled = record {
  order = order_of bytes;
  header = take 24 bytes;
  rest = drop 24 bytes;
  joined = sym (take-append-drop 24 bytes);
  begin = header_is bytes all (accepted bytes none);
  spelled = spelled;
}

-- a file has no fault
pub file_is_whole : (bytes : List ℕ) (records : List (List ℕ)) → IsPcap records bytes → pcap_fault bytes ≡ None
unfolding pcap_fault
file_is_whole bytes records f =
    let h = header_is_read f.order f.header f.rest f.begin in
    let none : first_of (header_refusals bytes) ≡ None = ap (λ l. first_of (header_refusals l)) f.joined ∙ h.none in
    let rest : drop 24 bytes ≡ f.rest ++ [] = after_part 0 24 bytes f.header f.rest f.joined h.size ∙ sym (append-nil f.rest) in
    let order : order_of bytes ≡ f.order = ap order_of f.joined ∙ h.order_is in
    let size : length (drop 24 bytes) ≡ length f.rest = ap length rest ∙ ap length (append-nil f.rest) in
    let few : length records ≤ length (drop 24 bytes) = omega (arith, few_records f.order records f.rest f.spelled, size) in
    let left : cut_record (order_of bytes) (drop 24 bytes) ≡ [] =
    ap (λ (o : Order). after_records (length (drop 24 bytes)) o (drop 24 bytes)) order ∙ ap (after_records (length (drop 24 bytes)) f.order) rest
    ∙ after_all f.order records f.rest [] (length (drop 24 bytes)) f.spelled refl few in
    let at : cut_place bytes ≡ length bytes = ap (λ l. length bytes - length l) left ∙ omega arith in
    ap (λ (o : Option PcapFault). first_some (o ∷ record_fault bytes ∷ [])) none
    ∙ ap (λ n. first_some (when (nat_lt n (length bytes)) (Cut n) ∷ [])) at ∙ ap (λ (b : Bool). first_some (when b (Cut (length bytes)) ∷ [])) (le-ltb (length bytes) (length bytes) (omega arith))

-- where there is no fault, there are records
file_without_fault : (bytes : List ℕ) → AreBytes bytes → pcap_fault bytes ≡ None → (records : List (List ℕ)) × IsPcap records bytes
unfolding pcap_fault
file_without_fault bytes all e =
    let none = both_none (first_of (header_refusals bytes)) (record_fault bytes) e in
    let size = (accepted bytes none.0).size in
    let end : length bytes ≤ cut_place bytes = ltb-false (cut_place bytes) (length bytes) (not_when (nat_lt (cut_place bytes) (length bytes)) (Cut (cut_place bytes)) none.1) in
    let left : cut_record (order_of bytes) (drop 24 bytes) ≡ [] = nil_from_length (cut_record (order_of bytes) (drop 24 bytes)) (omega (arith, end, size)) in
    let before = records_before (length (drop 24 bytes)) (order_of bytes) (drop 24 bytes) (drop_are 24 bytes all) in
    let whole : drop 24 bytes ≡ before.1 = before.2 ∙ ap (λ l. before.1 ++ l) left ∙ append-nil before.1 in
    (before.0, file_from bytes before.0 all none.0 (subst (SpellsEach (IsRecord (order_of bytes)) before.0) (sym whole) before.3))

pub no_fault_in_file : NoFaultInFile
no_fault_in_file bytes all = (file_without_fault bytes all, λ file. file_is_whole bytes file.0 file.1)

pub records_are_one : RecordsAreOne
records_are_one bytes records others p q =
    let a = header_is_read p.order p.header p.rest p.begin in
    let b = header_is_read q.order q.header q.rest q.begin in
    let orders : q.order ≡ p.order = sym b.order_is ∙ ap order_of (sym q.joined ∙ p.joined) ∙ a.order_is in
    let cut = append_cut p.header q.header p.rest q.rest (a.size ∙ sym b.size) (sym p.joined ∙ q.joined) in
    same_records p.order records others p.rest p.spelled (subst (λ (o : Order). SpellsEach (IsRecord o) others p.rest) orders (subst (SpellsEach (IsRecord q.order) others) (sym cut.1) q.spelled))
