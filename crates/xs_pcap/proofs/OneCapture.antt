-- Bytes without a fault are unwrapped to one capture.
use Rattle.std.proofs.Common.{◌≡◌, ℕ, List, [], ◌∷◌, ◌++◌, length, refl, sym, ap, subst, ◌∙◌, Option, None, Some}
use Rattle.std.specs.Prelude.{flat_map}
use Rattle.std.specs.List.{AllByRecursion, cons_option}
use Rattle.xs_lists.specs.Packing.{AreBytes}
use Rattle.xs_lists.specs.Spelling.{SpellsEach}
use Rattle.xs_capture.specs.Capture.{frame, IsShort}
use Rattle.xs_pcap.specs.declared.numbers.Order.{Order}
use Rattle.xs_pcap.specs.declared.unwrapping.Unwrapped.{Unwrapped}
use Rattle.xs_pcap.specs.Numbers.{word_bytes}
use Rattle.xs_pcap.specs.Datagram.{payload_of}
use Rattle.xs_pcap.specs.File.{IsPcap, IsRecord}
use Rattle.xs_pcap.specs.Unwrapped.{IsUnwrapped, payloads_of, stepped_records}
use Rattle.xs_pcap.specs.Laws.{UnwrappedIsOne}
use Rattle.xs_pcap.proofs.Datagrams.{payload_short}
use Rattle.xs_pcap.proofs.Files.{no_fault_in_file, records_are_one}

first_are : (xs ys : List ℕ) → AreBytes (xs ++ ys) → AreBytes xs
first_are [] ys all = tt
first_are (x ∷ xs) ys all = (all.0, first_are xs ys all.1)

last_are : (xs ys : List ℕ) → AreBytes (xs ++ ys) → AreBytes ys
last_are [] ys all = all
last_are (x ∷ xs) ys all = last_are xs ys all.1

-- captured bytes are bytes
records_are : (order : Order) (records : List (List ℕ)) (bytes : List ℕ) → AreBytes bytes → SpellsEach (IsRecord order) records bytes → AllByRecursion AreBytes records
records_are order [] bytes all p = tt
records_are order (r ∷ rs) bytes all p =
    let both : AreBytes (p.0 ++ p.1) = subst AreBytes p.2 all in
    let front : AreBytes (p.3.time ++ word_bytes order (length r) ++ p.3.original ++ r) = subst AreBytes p.3.joined (first_are p.0 p.1 both) in
    (last_are (p.3.time ++ word_bytes order (length r) ++ p.3.original) r front, records_are order rs p.1 (last_are p.0 p.1 both) p.4)

one_short : (o : Option (List ℕ)) (rest : List (List ℕ)) → ((p : List ℕ) → o ≡ Some p → IsShort p) → AllByRecursion IsShort rest → AllByRecursion IsShort (cons_option o rest)
one_short None rest short all = all
one_short (Some p) rest short all = (short p refl, all)

all_short : (port : ℕ) (records : List (List ℕ)) → AllByRecursion AreBytes records → AllByRecursion IsShort (payloads_of port records)
all_short port [] all = tt
all_short port (r ∷ rs) all = one_short (payload_of port r) (payloads_of port rs) (λ p e. payload_short port r p all.0 e) (all_short port rs all.1)

unwrapped_of : (bytes : List ℕ) (port : ℕ) (records : List (List ℕ)) → AreBytes bytes → IsPcap records bytes → (u : Unwrapped) × IsUnwrapped bytes port u
unwrapped_of bytes port records all file =
    let rest : AreBytes file.rest = last_are file.header file.rest (subst AreBytes file.joined all) in (
      record { capture = flat_map frame (payloads_of port records); stepped = stepped_records port records },
      record {
        records = records;
        file = file;
        capture = record { joined = refl; short = all_short port records (records_are file.order records file.rest rest file.spelled) };
        stepped = refl;
      },
    )

same_unwrapped : (bytes : List ℕ) (port : ℕ) (u v : Unwrapped) → IsUnwrapped bytes port u → IsUnwrapped bytes port v → (u.capture ≡ v.capture) × (u.stepped ≡ v.stepped)
same_unwrapped bytes port u v p q =
    let same : p.records ≡ q.records = records_are_one bytes p.records q.records p.file q.file in (
      p.capture.joined ∙ ap (λ l. flat_map frame (payloads_of port l)) same ∙ sym q.capture.joined,
      p.stepped ∙ ap (stepped_records port) same ∙ sym q.stepped,
    )

pub unwrapped_is_one : UnwrappedIsOne
unwrapped_is_one = record {
  exists = λ bytes port all none. let file = (no_fault_in_file bytes all).0 none in unwrapped_of bytes port file.0 all file.1;
  one = same_unwrapped;
}
