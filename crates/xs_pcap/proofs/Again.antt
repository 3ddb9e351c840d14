-- What is wrapped is unwrapped to the capture of its packets.
use Rattle.std.proofs.Common.{◌≡◌, ℕ, ◌+◌, ◌^◌, ◌<◌, ◌≤◌, List, [], ◌∷◌, ◌++◌, map, length, replicate, refl, sym, ap, subst, ◌∙◌, arith, Option, Some}
use mathlib.Core.Logic.{◌⊎◌, inl, inr}
use Rattle.std.specs.Prelude.{flat_map, is_none, if◌then◌else◌}
use Rattle.std.specs.Int.{to_be_bytes, to_le_bytes, w16, w32}
use Rattle.std.specs.List.{AllByRecursion, cons_option}
use Rattle.std.proofs.lemmas.List.Sums.{sum_by-append}
use Rattle.xs_lists.specs.Spelling.{SpellsEach}
use Rattle.xs_lists.proofs.Each.{each-cons}
use Rattle.xs_capture.specs.Capture.{IsCapture}
use Rattle.xs_pcap.specs.declared.numbers.Order.TheVariants.{Little}
use Rattle.xs_pcap.specs.declared.unwrapping.Unwrapped.{Unwrapped}
use Rattle.xs_pcap.specs.Datagram.{IsDatagram, payload_of}
use Rattle.xs_pcap.specs.File.{ethernet, IsPcap, IsRecord, microseconds}
use Rattle.xs_pcap.specs.Unwrapped.{IsUnwrapped, payloads_of, stepped_records}
use Rattle.xs_pcap.specs.Wrapped.{frame_of, header_bytes, ipv4_checksum, ipv4_head, microseconds_of, seconds_of, udp_head, wrapped, wrapped_entry, wrapped_file}
use Rattle.xs_pcap.specs.Laws.{IsEntry, WrappedIsUnwrapped}
use Rattle.xs_pcap.proofs.Datagrams.{datagram_is_spelled}
use Rattle.xs_pcap.proofs.Files.{file_is_whole, records_are_one}

-- the frame of a packet is a datagram to its port, and to any
frame_is : (port asked : ℕ) (packet : List ℕ) → port < 2 ^ 16 → (asked ≡ 0) ⊎ (port ≡ asked) → length packet ≤ 65507 → IsDatagram asked packet (frame_of port packet)
frame_is port asked packet small to short = record {
  packet = ipv4_head (28 + length packet) ++ (udp_head port (8 + length packet) ++ packet);
  segment = udp_head port (8 + length packet) ++ packet;
  in_frame = record { addresses = (2 ∷ 0 ∷ 0 ∷ 0 ∷ 0 ∷ 2 ∷ []) ++ (2 ∷ 0 ∷ 0 ∷ 0 ∷ 0 ∷ 1 ∷ []); labels = []; joined = refl; sizes = (refl, omega arith, tt) };
  in_packet = record {
    words = 5;
    service = 0;
    identification = 0 ∷ 0 ∷ [];
    fragment = 0x4000;
    life = 64;
    checksum = to_be_bytes w16 (ipv4_checksum (28 + length packet));
    addresses = (192 ∷ 0 ∷ 2 ∷ 1 ∷ []) ++ (192 ∷ 0 ∷ 2 ∷ 2 ∷ []);
    options = [];
    trailer = [];
    joined = total (ipv4_checksum (28 + length packet)) ∙ ap (λ l. head (ipv4_checksum (28 + length packet)) (20 + length (udp_head port (8 + length packet) ++ packet)) ++ l) (nothing (udp_head port (8 + length packet) ++ packet));
    numbers = (omega arith, omega (arith, short), refl, omega arith);
    sizes = (refl, refl, refl, refl);
  };
  in_segment = record {
    source = to_be_bytes w16 port;
    destination = port;
    checksum = 0 ∷ 0 ∷ [];
    trailer = [];
    joined = ap (λ l. udp_head port (8 + length packet) ++ l) (nothing packet);
    numbers = (small, omega (arith, short));
    sizes = (refl, refl);
    asked = to;
  };
}
  where
    nothing : (xs : List ℕ) → xs ≡ xs ++ []
    nothing [] = refl
    nothing (x ∷ xs) = ap (λ l. x ∷ l) (nothing xs)

    head : ℕ → ℕ → List ℕ
    head checksum size =
        (69 ∷ 0 ∷ to_be_bytes w16 size) ++ to_be_bytes w16 0 ++ to_be_bytes w16 0x4000 ++ (64 ∷ 17 ∷ to_be_bytes w16 checksum) ++ (192 ∷ 0 ∷ 2 ∷ 1 ∷ []) ++ (192 ∷ 0 ∷ 2 ∷ 2 ∷ [])

    total : (checksum : ℕ) → head checksum (28 + length packet) ++ (udp_head port (8 + length packet) ++ packet) ≡ head checksum (20 + length (udp_head port (8 + length packet) ++ packet)) ++ (udp_head port (8 + length packet) ++ packet)
    total checksum = let e : 28 + length packet ≡ 20 + length (udp_head port (8 + length packet) ++ packet) = omega arith in ap (λ n. head checksum n ++ (udp_head port (8 + length packet) ++ packet)) e

payload_is : (port asked : ℕ) (packet : List ℕ) → port < 2 ^ 16 → (asked ≡ 0) ⊎ (asked ≡ port) → length packet ≤ 65507 → payload_of asked (frame_of port packet) ≡ Some packet
payload_is port asked packet small to short = datagram_is_spelled asked (frame_of port packet) packet (frame_is port asked packet small (turned to) short)
  where
    turned : (asked ≡ 0) ⊎ (asked ≡ port) → (asked ≡ 0) ⊎ (port ≡ asked)
    turned (inl any) = inl any
    turned (inr one) = inr (sym one)

-- the record of a packet
record_of : (port timestamp : ℕ) (packet : List ℕ) → length packet ≤ 65507 → IsRecord Little (frame_of port packet) (wrapped port timestamp packet)
unfolding wrapped
record_of port timestamp packet short =
    let size : 42 + length packet ≡ length (frame_of port packet) = omega arith in
    record {
      time = to_le_bytes w32 (seconds_of timestamp) ++ to_le_bytes w32 (microseconds_of timestamp);
      original = to_le_bytes w32 (42 + length packet);
      joined = ap (λ n. (to_le_bytes w32 (seconds_of timestamp) ++ to_le_bytes w32 (microseconds_of timestamp)) ++ (to_le_bytes w32 n ++ (to_le_bytes w32 (42 + length packet) ++ frame_of port packet))) size;
      sizes = (refl, refl, subst (λ n. n < 2 ^ 32) size (omega (arith, short)));
    }

abbrev frames_of : ℕ → List (ℕ × List ℕ) → List (List ℕ)
frames_of port entries = map (λ (entry : ℕ × List ℕ). frame_of port entry.1) entries

records_of : (port : ℕ) (entries : List (ℕ × List ℕ)) → AllByRecursion IsEntry entries → SpellsEach (IsRecord Little) (frames_of port entries) (flat_map (wrapped_entry port) entries)
records_of port [] fit = refl
records_of port (e ∷ es) fit =
    each-cons (IsRecord Little) (frame_of port e.1) (frames_of port es) (wrapped port e.0 e.1) (flat_map (wrapped_entry port) es) (record_of port e.0 e.1 fit.0.1) (records_of port es fit.1)

file_of : (port : ℕ) (entries : List (ℕ × List ℕ)) → AllByRecursion IsEntry entries → IsPcap (frames_of port entries) (wrapped_file port entries)
file_of port entries fit = record {
  order = Little;
  header = header_bytes;
  rest = flat_map (wrapped_entry port) entries;
  joined = refl;
  begin = record {
    magic = microseconds;
    unread = to_le_bytes w16 2 ++ to_le_bytes w16 4 ++ replicate 8 0 ++ to_le_bytes w32 65535;
    link = ethernet;
    joined = refl;
    known = inl refl;
    size = refl;
    link_is = (refl, omega arith);
  };
  spelled = records_of port entries fit;
}

abbrev packets_of : List (ℕ × List ℕ) → List (List ℕ)
packets_of entries = map (λ (entry : ℕ × List ℕ). entry.1) entries

payloads_are : (port asked : ℕ) (entries : List (ℕ × List ℕ)) → port < 2 ^ 16 → (asked ≡ 0) ⊎ (asked ≡ port) → AllByRecursion IsEntry entries → payloads_of asked (frames_of port entries) ≡ packets_of entries
payloads_are port asked [] small to fit = refl
payloads_are port asked (e ∷ es) small to fit =
    ap (λ (o : Option (List ℕ)). cons_option o (payloads_of asked (frames_of port es))) (payload_is port asked e.1 small to fit.0.1) ∙ ap (λ l. e.1 ∷ l) (payloads_are port asked es small to fit.1)

none_stepped : (port asked : ℕ) (entries : List (ℕ × List ℕ)) → port < 2 ^ 16 → (asked ≡ 0) ⊎ (asked ≡ port) → AllByRecursion IsEntry entries → stepped_records asked (frames_of port entries) ≡ 0
none_stepped port asked [] small to fit = refl
none_stepped port asked (e ∷ es) small to fit =
    sum_by-append (λ (c : List ℕ). if is_none (payload_of asked c) then 1 else 0) (frame_of port e.1 ∷ []) (frames_of port es)
    ∙ ap (λ (o : Option (List ℕ)). 0 + (if is_none o then 1 else 0) + stepped_records asked (frames_of port es)) (payload_is port asked e.1 small to fit.0.1)
    ∙ none_more (stepped_records asked (frames_of port es)) ∙ none_stepped port asked es small to fit.1
  where
    none_more : (n : ℕ) → 0 + n ≡ n
    none_more n = omega arith

unwrapped_is : (port asked : ℕ) (entries : List (ℕ × List ℕ)) → port < 2 ^ 16 → (asked ≡ 0) ⊎ (asked ≡ port) → AllByRecursion IsEntry entries → (u : Unwrapped) → IsUnwrapped (wrapped_file port entries) asked u
    → IsCapture (packets_of entries) u.capture × (u.stepped ≡ 0)
unwrapped_is port asked entries small to fit u is =
    let same : is.records ≡ frames_of port entries = records_are_one (wrapped_file port entries) is.records (frames_of port entries) is.file (file_of port entries fit) in (
      subst (λ l. IsCapture l u.capture) (ap (payloads_of asked) same ∙ payloads_are port asked entries small to fit) is.capture,
      is.stepped ∙ ap (stepped_records asked) same ∙ none_stepped port asked entries small to fit,
    )

is_unwrapped : (port asked : ℕ) (entries : List (ℕ × List ℕ)) → port < 2 ^ 16 → (asked ≡ 0) ⊎ (asked ≡ port) → AllByRecursion IsEntry entries → (u : Unwrapped)
    → IsCapture (packets_of entries) u.capture × (u.stepped ≡ 0) → IsUnwrapped (wrapped_file port entries) asked u
is_unwrapped port asked entries small to fit u is = record {
  records = frames_of port entries;
  file = file_of port entries fit;
  capture = subst (λ l. IsCapture l u.capture) (sym (payloads_are port asked entries small to fit)) is.0;
  stepped = is.1 ∙ sym (none_stepped port asked entries small to fit);
}

pub wrapped_is_unwrapped : WrappedIsUnwrapped
wrapped_is_unwrapped = record {
  whole = λ port entries small fit. file_is_whole (wrapped_file port entries) (frames_of port entries) (file_of port entries fit);
  unwrapped = λ port asked entries small to fit u. (unwrapped_is port asked entries small to fit u, is_unwrapped port asked entries small to fit u);
}
