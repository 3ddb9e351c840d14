-- A capture that a pcap file is unwrapped to is made of its bytes.
use Rattle.std.proofs.Common.{◌≡◌, ℕ, ◌+◌, ◌*◌, ◌/◌, ◌%◌, ◌<◌, ◌≤◌, ◌++◌, List, [], ◌∷◌, length, Bool, true, false, Option, Some, None, refl, sym, ap, subst, ◌∙◌, arith, length-append}
use Rattle.std.specs.Prelude.{flat_map, is_none, if◌then◌else◌}
use Rattle.std.specs.List.{cons_option}
use Rattle.std.specs.Int.{to_be_bytes, w16}
use Rattle.std.proofs.lemmas.List.Sums.{sum_by-cons}
use Rattle.xs_lists.specs.Packing.{AreBytes}
use Rattle.xs_lists.specs.Spelling.{SpellsEach}
use Rattle.xs_capture.specs.Capture.{frame}
use Rattle.xs_capture.specs.Offers.{offer_of, stepped_of}
use Rattle.xs_capture.specs.Pictures.{IsSorting, Sorting}
use Rattle.xs_pcap.specs.declared.fault.PcapFault.{PcapFault}
use Rattle.xs_pcap.specs.declared.numbers.Order.{Order}
use Rattle.xs_pcap.specs.declared.unwrapping.Unwrapped.{Unwrapped}
use Rattle.xs_pcap.specs.Numbers.{word_bytes}
use Rattle.xs_pcap.specs.Datagram.{ipv4_type, payload_of, tag_bytes, udp_protocol}
use Rattle.xs_pcap.specs.File.{IsRecord, pcap_fault}
use Rattle.xs_pcap.specs.Unwrapped.{IsUnwrapped, payloads_of, step_if, stepped_records}
use Rattle.xs_pcap.proofs.Datagrams.{datagram_is}
use Rattle.xs_pcap.proofs.OneCapture.{unwrapped_is_one}
use Rattle.xs_pcap.proofs.Parts.{length_4, word_size}
use Rattle.xs_endings.specs.Said.{Said}
use Rattle.xs_cli.specs.Captured.{IsFileAnswer, IsFileUnless, file_notes}
use Rattle.xs_cli.proofs.CapturedHalts.{captured_exists}

-- Parts of bytes

first_are : (xs ys : List ℕ) → AreBytes (xs ++ ys) → AreBytes xs
first_are [] ys all = tt
first_are (x ∷ xs) ys all = (all.0, first_are xs ys all.1)

last_are : (xs ys : List ℕ) → AreBytes (xs ++ ys) → AreBytes ys
last_are [] ys all = all
last_are (x ∷ xs) ys all = last_are xs ys all.1

both_are : (xs ys : List ℕ) → AreBytes xs → AreBytes ys → AreBytes (xs ++ ys)
both_are [] ys first last = last
both_are (x ∷ xs) ys first last = (first.0, both_are xs ys first.1 last)

last_part : (whole front part : List ℕ) → whole ≡ front ++ part → AreBytes whole → AreBytes part × (length part ≤ length whole)
last_part whole front part e are = (last_are front part (subst AreBytes e are), omega (arith, ap length e, length-append front part))

middle_part : (whole front part rest : List ℕ) → whole ≡ front ++ part ++ rest → AreBytes whole → AreBytes part × (length part ≤ length whole)
middle_part whole front part rest e are = (
  last_are front part (first_are (front ++ part) rest (subst AreBytes e are)),
  omega (arith, ap length e, length-append (front ++ part) rest, length-append front part),
)

-- a payload is a part of the captured bytes
payload_within : (port : ℕ) (captured payload : List ℕ) → AreBytes captured → payload_of port captured ≡ Some payload → AreBytes payload × (length payload ≤ length captured)
payload_within port captured payload are e =
    let d = datagram_is port captured payload are e in
    let packet : AreBytes d.packet × (length d.packet ≤ length captured) =
    last_part captured (d.in_frame.addresses ++ flat_map tag_bytes d.in_frame.labels ++ to_be_bytes w16 ipv4_type) d.packet d.in_frame.joined are in
    let i = d.in_packet in
    let before : List ℕ = ((64 + i.words) ∷ i.service ∷ to_be_bytes w16 (4 * i.words + length d.segment)) ++ i.identification ++ to_be_bytes w16 i.fragment ++ (i.life ∷ udp_protocol ∷ i.checksum) ++ i.addresses ++ i.options in
    let segment : AreBytes d.segment × (length d.segment ≤ length d.packet) = middle_part d.packet before d.segment i.trailer i.joined packet.0 in
    let u = d.in_segment in
    let head : List ℕ = u.source ++ to_be_bytes w16 u.destination ++ to_be_bytes w16 (8 + length payload) ++ u.checksum in
    let here : AreBytes payload × (length payload ≤ length d.segment) = middle_part d.segment head payload u.trailer u.joined segment.0 in
    (here.0, omega (arith, here.1, segment.1, packet.1))

-- Records

word_are : (n : ℕ) → AreBytes (to_be_bytes w16 n)
word_are n =
    let high : n / 256 % 256 < 256 = omega arith in
    let low : n % 256 < 256 = omega arith in
    (high, (low, tt))

-- what comes of records has no more bytes than they have, also where those that are stepped over are counted
abbrev AreParts : List ℕ → ℕ → List ℕ → Type 0
AreParts capture stepped bytes = AreBytes capture × (length capture + stepped ≤ length bytes)

record_parts : (port : ℕ) (captured front back : List ℕ) (others : List (List ℕ)) (stepped : ℕ) → AreBytes captured → 16 + length captured ≤ length front
    → AreParts (flat_map frame others) stepped back → (o : Option (List ℕ)) → payload_of port captured ≡ o
    → AreBytes (flat_map frame (cons_option o others)) × (length (flat_map frame (cons_option o others)) + (step_if o + stepped) ≤ length front + length back)
record_parts port captured front back others stepped are long more None e = (more.0, omega (arith, more.1, long))
record_parts port captured front back others stepped are long more (Some payload) e =
    let within = payload_within port captured payload are e in
    let head : length (frame payload) ≡ 2 + length payload = omega arith in (
      both_are (frame payload) (flat_map frame others) (both_are (to_be_bytes w16 (length payload)) payload (word_are (length payload)) within.0) more.0,
      omega (arith, more.1, long, within.1, head, length-append (frame payload) (flat_map frame others)),
    )

records_parts : (port : ℕ) (order : Order) (records : List (List ℕ)) (bytes : List ℕ) → AreBytes bytes → SpellsEach (IsRecord order) records bytes
    → AreParts (flat_map frame (payloads_of port records)) (stepped_records port records) bytes
records_parts port order [] bytes are p = (tt, omega arith)
records_parts port order (r ∷ rs) bytes are p =
    let both : AreBytes (p.0 ++ p.1) = subst AreBytes p.2 are in
    let front = first_are p.0 p.1 both in
    let captured = last_part p.0 (p.3.time ++ word_bytes order (length r) ++ p.3.original) r p.3.joined front in
    let size : length p.0 ≡ length p.3.time + length (word_bytes order (length r)) + length p.3.original + length r = ap length p.3.joined ∙ length_4 p.3.time (word_bytes order (length r)) p.3.original r in
    let long : 16 + length r ≤ length p.0 = omega (arith, size, word_size order (length r), p.3.sizes.0, p.3.sizes.1) in
    let more = records_parts port order rs p.1 (last_are p.0 p.1 both) p.4 in
    let parts = record_parts port r p.0 p.1 (payloads_of port rs) (stepped_records port rs) captured.0 long more (payload_of port r) refl in
    let counted : stepped_records port (r ∷ rs) ≡ step_if (payload_of port r) + stepped_records port rs = sum_by-cons (λ (c : List ℕ). if is_none (payload_of port c) then 1 else 0) r rs in
    (parts.0, omega (arith, parts.1, counted, ap length p.2, length-append p.0 p.1))

pub capture_parts : (bytes : List ℕ) (port : ℕ) (u : Unwrapped) → AreBytes bytes → IsUnwrapped bytes port u → AreBytes u.capture × (length u.capture + u.stepped ≤ length bytes)
capture_parts bytes port u are is =
    let rest = last_part bytes is.file.header is.file.rest is.file.joined are in
    let parts = records_parts port is.file.order is.records is.file.rest rest.0 is.file.spelled in
    (subst AreBytes (sym is.capture.joined) parts.0, omega (arith, parts.1, rest.1, ap length is.capture.joined, is.stepped))

-- Frames

-- no more frames are stepped over than there are bytes
frames_few : (packets : List (List ℕ)) → stepped_of packets ≤ length (flat_map frame packets)
frames_few [] = omega arith
frames_few (p ∷ ps) =
    let counted : stepped_of (p ∷ ps) ≡ (if is_none (offer_of p) then 1 else 0) + stepped_of ps = sum_by-cons (λ (c : List ℕ). if is_none (offer_of c) then 1 else 0) p ps in
    let head : length (frame p) ≡ 2 + length p = omega arith in
    omega (arith, counted, least (is_none (offer_of p)), head, length-append (frame p) (flat_map frame ps), frames_few ps)
  where
    least : (b : Bool) → (if b then 1 else 0) ≤ 1
    least true = omega arith
    least false = omega arith

pub sorting_few : (bytes : List ℕ) (sorting : Sorting) → IsSorting bytes sorting → sorting.stepped ≤ length bytes
sorting_few bytes sorting is = omega (arith, is.stepped, frames_few is.packets, ap length is.whole.joined)

-- Each input of bytes has an answer

pub file_exists : (port : ℕ) (input : List ℕ) → AreBytes input → (said : Said) × IsFileAnswer port input said
file_exists port input are = go (pcap_fault input) refl
  where
    go : (o : Option PcapFault) → pcap_fault input ≡ o → (said : Said) × IsFileUnless o port input said
    go None e =
        let found = unwrapped_is_one.exists input port are e in
        let answer = captured_exists found.0.stepped found.0.capture (capture_parts input port found.0 are found.1).0 in
        (answer.0, record { unwrapped = found.0; file = found.1; answer = answer.1 })
    go (Some fault) e = (record { out = []; notes = file_notes fault }, refl)
