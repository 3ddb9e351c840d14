-- Datagrams of UDP are read exactly where they are some.
use Rattle.std.proofs.Common.{◌≡◌, ℕ, ◌+◌, ◌-◌, ◌^◌, ◌<◌, ◌≤◌, List, ◌++◌, length, take, drop, Bool, true, false, refl, sym, ap, subst, ◌∙◌, arith, length-append, None, Some}
use mathlib.Core.Logic.{◌⊎◌, inl, inr}
use Rattle.std.specs.Prelude.{nat_eq, nat_lt, not, ◌&&◌, ◌||◌, if◌then◌else◌, slice_range}
use Rattle.std.specs.Int.{to_be_bytes, from_be_bytes, w16}
use Rattle.std.proofs.lemmas.Bool.{eq-eqb, eqb-true, le-ltb, ltb-false}
use Rattle.std.proofs.lemmas.Nat.{from_be_bytes-to_be_bytes_2}
use Rattle.xs_lists.specs.Fields.{half_word_at}
use Rattle.xs_lists.specs.First.{when}
use Rattle.xs_lists.specs.Packing.{AreBytes}
use Rattle.xs_pcap.specs.Datagram.{is_asked, is_whole_udp, IsUdp, udp_length, udp_payload}
use Rattle.xs_pcap.proofs.Parts.{after_part, assoc_6, at_least, both_hold, guarded, half_word_back, half_word_small, one_holds, or_true, part_at, part_size, peel}

asked_port : (port : ℕ) (bytes : List ℕ) → is_asked port bytes ≡ true → (port ≡ 0) ⊎ (half_word_at bytes 2 ≡ port)
asked_port port bytes e = elim (one_holds (nat_eq port 0) (nat_eq (half_word_at bytes 2) port) e) [
  | inl any ↦ inl (eqb-true port 0 any)
  | inr one ↦ inr (eqb-true (half_word_at bytes 2) port one)
]

udp_of : (port : ℕ) (bytes : List ℕ) → AreBytes bytes → 8 ≤ length bytes → (port ≡ 0) ⊎ (half_word_at bytes 2 ≡ port) → 8 ≤ udp_length bytes → udp_length bytes ≤ length bytes
    → IsUdp port (slice_range bytes 8 (udp_length bytes)) bytes
udp_of port bytes all front asked least inside =
    let room : 8 + (udp_length bytes - 8) ≡ udp_length bytes = omega (arith, least) in
    let size : length (slice_range bytes 8 (udp_length bytes)) ≡ udp_length bytes - 8 = part_size (udp_length bytes - 8) 8 bytes (omega (arith, inside, room)) in
    let sum : 8 + length (slice_range bytes 8 (udp_length bytes)) ≡ udp_length bytes = ap (λ n. 8 + n) size ∙ room in
    let destination : take 2 (drop 2 bytes) ≡ to_be_bytes w16 (half_word_at bytes 2) = sym (half_word_back bytes 2 all (omega (arith, front))) in
    let number : take 2 (drop 4 bytes) ≡ to_be_bytes w16 (8 + length (slice_range bytes 8 (udp_length bytes))) = sym (half_word_back bytes 4 all (omega (arith, front))) ∙ ap (to_be_bytes w16) (sym sum) in
    let tail : drop 8 bytes ≡ slice_range bytes 8 (udp_length bytes) ++ drop (udp_length bytes) bytes = peel (udp_length bytes - 8) 8 bytes ∙ ap (λ n. slice_range bytes 8 (udp_length bytes) ++ drop n bytes) room in
    record {
      source = take 2 bytes;
      destination = half_word_at bytes 2;
      checksum = take 2 (drop 6 bytes);
      trailer = drop (udp_length bytes) bytes;
      joined =
          peel 2 0 bytes ∙ ap (λ l. take 2 bytes ++ l) (peel 2 2 bytes ∙ ap (λ l. l ++ drop 4 bytes) destination
          ∙ ap (λ l. to_be_bytes w16 (half_word_at bytes 2) ++ l) (peel 2 4 bytes ∙ ap (λ l. l ++ drop 6 bytes) number
          ∙ ap (λ l. to_be_bytes w16 (8 + length (slice_range bytes 8 (udp_length bytes))) ++ l) (peel 2 6 bytes ∙ ap (λ l. take 2 (drop 6 bytes) ++ l) tail)))
          ∙ sym (assoc_6 (take 2 bytes) (to_be_bytes w16 (half_word_at bytes 2)) (to_be_bytes w16 (8 + length (slice_range bytes 8 (udp_length bytes)))) (take 2 (drop 6 bytes)) (slice_range bytes 8 (udp_length bytes)) (drop (udp_length bytes) bytes));
      numbers = (half_word_small bytes 2 all, subst (λ n. n < 2 ^ 16) (sym sum) (half_word_small bytes 4 all));
      sizes = (part_size 2 0 bytes (omega (arith, front)), part_size 2 6 bytes (omega (arith, front)));
      asked = asked;
    }

pub udp_is : (port : ℕ) (bytes payload : List ℕ) → AreBytes bytes → udp_payload port bytes ≡ Some payload → IsUdp port payload bytes
udp_is port bytes payload all e =
    let g = guarded (nat_lt (length bytes) 8) (is_asked port bytes && is_whole_udp bytes) (slice_range bytes 8 (udp_length bytes)) payload e in
    let tests = both_hold (is_asked port bytes) (is_whole_udp bytes) g.1 in
    let whole = both_hold (not (nat_lt (udp_length bytes) 8)) (not (nat_lt (length bytes) (udp_length bytes))) tests.1 in
    subst (λ p. IsUdp port p bytes) g.2 (udp_of port bytes all (ltb-false (length bytes) 8 g.0) (asked_port port bytes tests.0) (at_least (udp_length bytes) 8 whole.0) (at_least (length bytes) (udp_length bytes) whole.1))

port_is_asked : (port : ℕ) (bytes : List ℕ) → (port ≡ 0) ⊎ (half_word_at bytes 2 ≡ port) → is_asked port bytes ≡ true
port_is_asked port bytes (inl any) = ap (λ (t : Bool). t || nat_eq (half_word_at bytes 2) port) (eq-eqb port 0 any)
port_is_asked port bytes (inr one) = ap (λ (t : Bool). nat_eq port 0 || t) (eq-eqb (half_word_at bytes 2) port one) ∙ or_true (nat_eq port 0)

pub udp_is_read : (port : ℕ) (bytes payload : List ℕ) → IsUdp port payload bytes → udp_payload port bytes ≡ Some payload
udp_is_read port bytes payload u =
    let split : bytes ≡ u.source ++ (to_be_bytes w16 u.destination ++ (to_be_bytes w16 (8 + length payload) ++ (u.checksum ++ (payload ++ u.trailer)))) =
    u.joined ∙ assoc_6 u.source (to_be_bytes w16 u.destination) (to_be_bytes w16 (8 + length payload)) u.checksum payload u.trailer in
    let at_2 : drop 2 bytes ≡ to_be_bytes w16 u.destination ++ (to_be_bytes w16 (8 + length payload) ++ (u.checksum ++ (payload ++ u.trailer))) = after_part 0 2 bytes u.source _ split u.sizes.0 in
    let at_4 : drop 4 bytes ≡ to_be_bytes w16 (8 + length payload) ++ (u.checksum ++ (payload ++ u.trailer)) = after_part 2 2 bytes (to_be_bytes w16 u.destination) _ at_2 refl in
    let at_6 : drop 6 bytes ≡ u.checksum ++ (payload ++ u.trailer) = after_part 4 2 bytes (to_be_bytes w16 (8 + length payload)) _ at_4 refl in
    let at_8 : drop 8 bytes ≡ payload ++ u.trailer = after_part 6 2 bytes u.checksum _ at_6 u.sizes.1 in
    let destination : half_word_at bytes 2 ≡ u.destination = ap (from_be_bytes w16) (part_at 2 2 bytes (to_be_bytes w16 u.destination) _ at_2 refl) ∙ from_be_bytes-to_be_bytes_2 u.destination u.numbers.0 in
    let number : udp_length bytes ≡ 8 + length payload = ap (from_be_bytes w16) (part_at 4 2 bytes (to_be_bytes w16 (8 + length payload)) _ at_4 refl) ∙ from_be_bytes-to_be_bytes_2 (8 + length payload) u.numbers.1 in
    let total : length bytes ≡ 8 + (length payload + length u.trailer) = ap length split ∙ whole_length u.source u.checksum u.sizes.0 u.sizes.1 in
    let asked : is_asked port bytes ≡ true = port_is_asked port bytes (by_port u.asked destination) in
    let front : nat_lt (length bytes) 8 ≡ false = le-ltb (length bytes) 8 (omega (arith, total)) in
    let least : nat_lt (udp_length bytes) 8 ≡ false = le-ltb (udp_length bytes) 8 (omega (arith, number)) in
    let most : nat_lt (length bytes) (udp_length bytes) ≡ false = le-ltb (length bytes) (udp_length bytes) (omega (arith, number, total)) in
    let room : udp_length bytes - 8 ≡ length payload = omega (arith, number) in
    let part : slice_range bytes 8 (udp_length bytes) ≡ payload = ap (λ n. take n (drop 8 bytes)) room ∙ part_at 8 (length payload) bytes payload u.trailer at_8 refl in
    ap (λ (t : Bool). if t then None else when (is_asked port bytes && is_whole_udp bytes) (slice_range bytes 8 (udp_length bytes))) front
    ∙ ap (λ (t : Bool). when (t && is_whole_udp bytes) (slice_range bytes 8 (udp_length bytes))) asked
    ∙ ap (λ (t : Bool). when (not t && not (nat_lt (length bytes) (udp_length bytes))) (slice_range bytes 8 (udp_length bytes))) least
    ∙ ap (λ (t : Bool). when (not t) (slice_range bytes 8 (udp_length bytes))) most ∙ ap (λ l. Some l) part
  where
    whole_length : (source checksum : List ℕ) → length source ≡ 2 → length checksum ≡ 2
        → length (source ++ (to_be_bytes w16 u.destination ++ (to_be_bytes w16 (8 + length payload) ++ (checksum ++ (payload ++ u.trailer))))) ≡ 8 + (length payload + length u.trailer)
    whole_length source checksum s c = omega (
      arith,
      length-append source (to_be_bytes w16 u.destination ++ (to_be_bytes w16 (8 + length payload) ++ (checksum ++ (payload ++ u.trailer)))),
      length-append checksum (payload ++ u.trailer),
      length-append payload u.trailer,
      s,
      c,
    )

    by_port : (port ≡ 0) ⊎ (u.destination ≡ port) → half_word_at bytes 2 ≡ u.destination → (port ≡ 0) ⊎ (half_word_at bytes 2 ≡ port)
    by_port (inl any) e = inl any
    by_port (inr one) e = inr (e ∙ one)
