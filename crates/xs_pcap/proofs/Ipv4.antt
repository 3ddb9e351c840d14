-- Packets of IPv4 with UDP are read exactly where they are some.
use Rattle.std.proofs.Common.{◌≡◌, ℕ, ◌+◌, ◌-◌, ◌*◌, ◌/◌, ◌%◌, ◌^◌, ◌<◌, ◌≤◌, List, [], ◌∷◌, ◌++◌, length, take, drop, get_or, Bool, true, false, refl, sym, ap, subst, ◌∙◌, arith, length-append, None, Some}
use Rattle.std.specs.Prelude.{nat_eq, nat_lt, not, ◌&&◌, if◌then◌else◌, slice_range}
use Rattle.std.specs.Int.{to_be_bytes, from_be_bytes, w16}
use Rattle.std.proofs.lemmas.Bool.{eq-eqb, eqb-true, le-ltb, ltb-false}
use Rattle.std.proofs.lemmas.List.{get_or-drop, length-drop}
use Rattle.std.proofs.lemmas.Nat.{from_be_bytes-to_be_bytes_2}
use Rattle.xs_lists.specs.Fields.{half_word_at}
use Rattle.xs_lists.specs.First.{when}
use Rattle.xs_lists.specs.Packing.{AreBytes}
use Rattle.xs_pcap.specs.Datagram.{ipv4_carried, ipv4_front, ipv4_total, is_plain, is_whole_ipv4, IsIpv4, udp_protocol}
use Rattle.xs_pcap.proofs.Parts.{after_part, assoc_8, at_least, both_hold, drop_are, guarded, half_word_back, half_word_small, part_at, part_size, peel, take_are}

-- two bytes and two more
four_by_two : (xs : List ℕ) → 2 ≤ length xs → take 4 xs ≡ get_or xs 0 0 ∷ get_or xs 1 0 ∷ take 2 (drop 2 xs)
four_by_two [] some = absurd (omega (arith, some))
four_by_two (a ∷ []) some = absurd (omega (arith, some))
four_by_two (a ∷ b ∷ xs) some = refl

-- what the tests say of a packet's numbers
record Plain (bytes : List ℕ) : Type 0 where
  pub size : 20 ≤ length bytes
  pub version : get_or bytes 0 0 / 16 ≡ 4
  pub protocol : get_or bytes 9 0 ≡ udp_protocol
  pub fragment : half_word_at bytes 6 % 2 ^ 14 ≡ 0
  pub front : 20 ≤ ipv4_front bytes
  pub total : ipv4_front bytes ≤ ipv4_total bytes
  pub inside : ipv4_total bytes ≤ length bytes

ipv4_of : (bytes : List ℕ) → AreBytes bytes → Plain bytes → IsIpv4 (slice_range bytes (ipv4_front bytes) (ipv4_total bytes)) bytes
ipv4_of bytes all p =
    let first : get_or bytes 0 0 ≡ 64 + get_or bytes 0 0 % 16 = omega (arith, p.version) in
    let room : ipv4_front bytes + (ipv4_total bytes - ipv4_front bytes) ≡ ipv4_total bytes = omega (arith, p.total) in
    let size : length (slice_range bytes (ipv4_front bytes) (ipv4_total bytes)) ≡ ipv4_total bytes - ipv4_front bytes = part_size (ipv4_total bytes - ipv4_front bytes) (ipv4_front bytes) bytes (omega (arith, p.inside, room)) in
    let sum : 4 * (get_or bytes 0 0 % 16) + length (slice_range bytes (ipv4_front bytes) (ipv4_total bytes)) ≡ ipv4_total bytes = ap (λ n. ipv4_front bytes + n) size ∙ room in
    let number : take 2 (drop 2 bytes) ≡ to_be_bytes w16 (4 * (get_or bytes 0 0 % 16) + length (slice_range bytes (ipv4_front bytes) (ipv4_total bytes))) =
    sym (half_word_back bytes 2 all (omega (arith, p.size))) ∙ ap (to_be_bytes w16) (sym sum) in
    let head : take 4 bytes ≡ (64 + get_or bytes 0 0 % 16) ∷ get_or bytes 1 0 ∷ to_be_bytes w16 (4 * (get_or bytes 0 0 % 16) + length (slice_range bytes (ipv4_front bytes) (ipv4_total bytes))) =
    four_by_two bytes (omega (arith, p.size)) ∙ ap (λ b. b ∷ get_or bytes 1 0 ∷ take 2 (drop 2 bytes)) first ∙ ap (λ l. (64 + get_or bytes 0 0 % 16) ∷ get_or bytes 1 0 ∷ l) number in
    let fragment : take 2 (drop 6 bytes) ≡ to_be_bytes w16 (half_word_at bytes 6) = sym (half_word_back bytes 6 all (omega (arith, p.size))) in
    let protocol : get_or (drop 8 bytes) 1 0 ≡ udp_protocol = get_or-drop 8 bytes 1 0 ∙ p.protocol in
    let middle : take 4 (drop 8 bytes) ≡ get_or (drop 8 bytes) 0 0 ∷ udp_protocol ∷ take 2 (drop 2 (drop 8 bytes)) =
    four_by_two (drop 8 bytes) (omega (arith, p.size, length-drop 8 bytes)) ∙ ap (λ b. get_or (drop 8 bytes) 0 0 ∷ b ∷ take 2 (drop 2 (drop 8 bytes))) protocol in
    let more : 20 + (ipv4_front bytes - 20) ≡ ipv4_front bytes = omega (arith, p.front) in
    let options : drop 20 bytes ≡ take (ipv4_front bytes - 20) (drop 20 bytes) ++ drop (ipv4_front bytes) bytes = peel (ipv4_front bytes - 20) 20 bytes ∙ ap (λ n. take (ipv4_front bytes - 20) (drop 20 bytes) ++ drop n bytes) more in
    let tail : drop (ipv4_front bytes) bytes ≡ slice_range bytes (ipv4_front bytes) (ipv4_total bytes) ++ drop (ipv4_total bytes) bytes =
    peel (ipv4_total bytes - ipv4_front bytes) (ipv4_front bytes) bytes ∙ ap (λ n. slice_range bytes (ipv4_front bytes) (ipv4_total bytes) ++ drop n bytes) room in
    let optional : length (take (ipv4_front bytes - 20) (drop 20 bytes)) ≡ ipv4_front bytes - 20 = part_size (ipv4_front bytes - 20) 20 bytes (omega (arith, more, p.total, p.inside)) in
    record {
      words = get_or bytes 0 0 % 16;
      service = get_or bytes 1 0;
      identification = take 2 (drop 4 bytes);
      fragment = half_word_at bytes 6;
      life = get_or (drop 8 bytes) 0 0;
      checksum = take 2 (drop 2 (drop 8 bytes));
      addresses = take 8 (drop 12 bytes);
      options = take (ipv4_front bytes - 20) (drop 20 bytes);
      trailer = drop (ipv4_total bytes) bytes;
      joined =
          peel 4 0 bytes ∙ ap (λ l. l ++ drop 4 bytes) head
          ∙ ap (λ l. ((64 + get_or bytes 0 0 % 16) ∷ get_or bytes 1 0 ∷ to_be_bytes w16 (4 * (get_or bytes 0 0 % 16) + length (slice_range bytes (ipv4_front bytes) (ipv4_total bytes)))) ++ l) (
          peel 2 4 bytes ∙ ap (λ l. take 2 (drop 4 bytes) ++ l) (peel 2 6 bytes ∙ ap (λ l. l ++ drop 8 bytes) fragment
          ∙ ap (λ l. to_be_bytes w16 (half_word_at bytes 6) ++ l) (peel 4 8 bytes ∙ ap (λ l. l ++ drop 12 bytes) middle
          ∙ ap (λ l. (get_or (drop 8 bytes) 0 0 ∷ udp_protocol ∷ take 2 (drop 2 (drop 8 bytes))) ++ l) (peel 8 12 bytes
          ∙ ap (λ l. take 8 (drop 12 bytes) ++ l) (options ∙ ap (λ l. take (ipv4_front bytes - 20) (drop 20 bytes) ++ l) tail)))))
          ∙ sym (assoc_8 ((64 + get_or bytes 0 0 % 16) ∷ get_or bytes 1 0 ∷ to_be_bytes w16 (4 * (get_or bytes 0 0 % 16) + length (slice_range bytes (ipv4_front bytes) (ipv4_total bytes)))) (take 2 (drop 4 bytes)) (to_be_bytes w16 (half_word_at bytes 6)) (get_or (drop 8 bytes) 0 0 ∷ udp_protocol ∷ take 2 (drop 2 (drop 8 bytes)))
          (take 8 (drop 12 bytes)) (take (ipv4_front bytes - 20) (drop 20 bytes)) (slice_range bytes (ipv4_front bytes) (ipv4_total bytes)) (drop (ipv4_total bytes) bytes));
      numbers = (omega arith, subst (λ n. n < 2 ^ 16) (sym sum) (half_word_small bytes 2 all), p.fragment, half_word_small bytes 6 all);
      sizes = (
        part_size 2 4 bytes (omega (arith, p.size)),
        part_size 2 2 (drop 8 bytes) (omega (arith, p.size, length-drop 8 bytes)),
        part_size 8 12 bytes (omega (arith, p.size)),
        ap (λ n. 20 + n) optional ∙ more,
      );
    }

plain_of : (bytes : List ℕ) → nat_lt (length bytes) 20 ≡ false → is_plain bytes ≡ true → is_whole_ipv4 bytes ≡ true → Plain bytes
plain_of bytes front plain whole =
    let a = both_hold (nat_eq (get_or bytes 0 0 / 16) 4 && nat_eq (get_or bytes 9 0) udp_protocol) (nat_eq (half_word_at bytes 6 % 2 ^ 14) 0) plain in
    let b = both_hold (nat_eq (get_or bytes 0 0 / 16) 4) (nat_eq (get_or bytes 9 0) udp_protocol) a.0 in
    let c = both_hold (not (nat_lt (ipv4_front bytes) 20) && not (nat_lt (ipv4_total bytes) (ipv4_front bytes))) (not (nat_lt (length bytes) (ipv4_total bytes))) whole in
    let d = both_hold (not (nat_lt (ipv4_front bytes) 20)) (not (nat_lt (ipv4_total bytes) (ipv4_front bytes))) c.0 in
    record {
      size = ltb-false (length bytes) 20 front;
      version = eqb-true (get_or bytes 0 0 / 16) 4 b.0;
      protocol = eqb-true (get_or bytes 9 0) udp_protocol b.1;
      fragment = eqb-true (half_word_at bytes 6 % 2 ^ 14) 0 a.1;
      front = at_least (ipv4_front bytes) 20 d.0;
      total = at_least (ipv4_total bytes) (ipv4_front bytes) d.1;
      inside = at_least (length bytes) (ipv4_total bytes) c.1;
    }

-- and what it carries is bytes
pub carried_are : (bytes carried : List ℕ) → AreBytes bytes → ipv4_carried bytes ≡ Some carried → AreBytes carried
carried_are bytes carried all e =
    let g = guarded (nat_lt (length bytes) 20) (is_plain bytes && is_whole_ipv4 bytes) (slice_range bytes (ipv4_front bytes) (ipv4_total bytes)) carried e in
    subst AreBytes g.2 (take_are (ipv4_total bytes - ipv4_front bytes) (drop (ipv4_front bytes) bytes) (drop_are (ipv4_front bytes) bytes all))

pub ipv4_is : (bytes carried : List ℕ) → AreBytes bytes → ipv4_carried bytes ≡ Some carried → IsIpv4 carried bytes
ipv4_is bytes carried all e =
    let g = guarded (nat_lt (length bytes) 20) (is_plain bytes && is_whole_ipv4 bytes) (slice_range bytes (ipv4_front bytes) (ipv4_total bytes)) carried e in
    let tests = both_hold (is_plain bytes) (is_whole_ipv4 bytes) g.1 in
    subst (λ l. IsIpv4 l bytes) g.2 (ipv4_of bytes all (plain_of bytes g.0 tests.0 tests.1))

-- the tests of a packet whose numbers are such
plain_tests : (bytes : List ℕ) → Plain bytes → (nat_lt (length bytes) 20 ≡ false) × (is_plain bytes ≡ true) × (is_whole_ipv4 bytes ≡ true)
plain_tests bytes p = (
  le-ltb (length bytes) 20 p.size,
  ap (λ (t : Bool). t && nat_eq (get_or bytes 9 0) udp_protocol && nat_eq (half_word_at bytes 6 % 2 ^ 14) 0) (eq-eqb (get_or bytes 0 0 / 16) 4 p.version)
      ∙ ap (λ (t : Bool). t && nat_eq (half_word_at bytes 6 % 2 ^ 14) 0) (eq-eqb (get_or bytes 9 0) udp_protocol p.protocol) ∙ eq-eqb (half_word_at bytes 6 % 2 ^ 14) 0 p.fragment,
  ap (λ (t : Bool). not t && not (nat_lt (ipv4_total bytes) (ipv4_front bytes)) && not (nat_lt (length bytes) (ipv4_total bytes))) (le-ltb (ipv4_front bytes) 20 p.front)
      ∙ ap (λ (t : Bool). not t && not (nat_lt (length bytes) (ipv4_total bytes))) (le-ltb (ipv4_total bytes) (ipv4_front bytes) p.total) ∙ ap not (le-ltb (length bytes) (ipv4_total bytes) p.inside),
)

pub ipv4_is_read : (bytes carried : List ℕ) → IsIpv4 carried bytes → ipv4_carried bytes ≡ Some carried
ipv4_is_read bytes carried i =
    let split : bytes ≡ ((64 + i.words) ∷ i.service ∷ to_be_bytes w16 (4 * i.words + length carried)) ++ (i.identification ++ (to_be_bytes w16 i.fragment ++ ((i.life ∷ udp_protocol ∷ i.checksum) ++ (i.addresses ++ (i.options ++ (carried ++ i.trailer)))))) =
    i.joined ∙ assoc_8 ((64 + i.words) ∷ i.service ∷ to_be_bytes w16 (4 * i.words + length carried)) i.identification (to_be_bytes w16 i.fragment) (i.life ∷ udp_protocol ∷ i.checksum) i.addresses i.options carried i.trailer in
    let at_4 : drop 4 bytes ≡ i.identification ++ (to_be_bytes w16 i.fragment ++ ((i.life ∷ udp_protocol ∷ i.checksum) ++ (i.addresses ++ (i.options ++ (carried ++ i.trailer))))) = ap (drop 4) split in
    let at_6 : drop 6 bytes ≡ to_be_bytes w16 i.fragment ++ ((i.life ∷ udp_protocol ∷ i.checksum) ++ (i.addresses ++ (i.options ++ (carried ++ i.trailer)))) = after_part 4 2 bytes i.identification _ at_4 i.sizes.0 in
    let at_8 : drop 8 bytes ≡ (i.life ∷ udp_protocol ∷ i.checksum) ++ (i.addresses ++ (i.options ++ (carried ++ i.trailer))) = after_part 6 2 bytes (to_be_bytes w16 i.fragment) _ at_6 refl in
    let four : length (i.life ∷ udp_protocol ∷ i.checksum) ≡ 4 = omega (arith, i.sizes.1) in
    let at_12 : drop 12 bytes ≡ i.addresses ++ (i.options ++ (carried ++ i.trailer)) = after_part 8 4 bytes (i.life ∷ udp_protocol ∷ i.checksum) _ at_8 four in
    let at_20 : drop 20 bytes ≡ i.options ++ (carried ++ i.trailer) = after_part 12 8 bytes i.addresses _ at_12 i.sizes.2 in
    let first : get_or bytes 0 0 ≡ 64 + i.words = ap (λ l. get_or l 0 0) split in
    let front : ipv4_front bytes ≡ 4 * i.words = omega (arith, first, i.numbers.0) in
    let begin : 20 + length i.options ≡ ipv4_front bytes = i.sizes.3 ∙ sym front in
    let at_front : drop (ipv4_front bytes) bytes ≡ carried ++ i.trailer = ap (λ n. drop n bytes) (sym begin) ∙ after_part 20 (length i.options) bytes i.options _ at_20 refl in
    let total : ipv4_total bytes ≡ 4 * i.words + length carried = ap (λ l. from_be_bytes w16 (take 2 (drop 2 l))) split ∙ from_be_bytes-to_be_bytes_2 (4 * i.words + length carried) i.numbers.1 in
    let flags : half_word_at bytes 6 ≡ i.fragment = ap (from_be_bytes w16) (part_at 6 2 bytes (to_be_bytes w16 i.fragment) _ at_6 refl) ∙ from_be_bytes-to_be_bytes_2 i.fragment i.numbers.3 in
    let protocol : get_or bytes 9 0 ≡ udp_protocol = sym (get_or-drop 8 bytes 1 0) ∙ ap (λ l. get_or l 1 0) at_8 in
    let rest : length (drop 20 bytes) ≡ length i.options + (length carried + length i.trailer) = ap length at_20 ∙ length-append i.options (carried ++ i.trailer) ∙ ap (λ n. length i.options + n) (length-append carried i.trailer) in
    let whole : length bytes ≡ 20 + length (drop 20 bytes) = whole_length bytes i.addresses (i.options ++ (carried ++ i.trailer)) at_12 i.sizes.2 at_20 in
    let p : Plain bytes = record {
      size = omega (arith, whole);
      version = omega (arith, first, i.numbers.0);
      protocol = protocol;
      fragment = ap (λ n. n % 2 ^ 14) flags ∙ i.numbers.2;
      front = omega (arith, begin);
      total = omega (arith, front, total);
      inside = omega (arith, whole, rest, total, i.sizes.3);
    } in
    let tests = plain_tests bytes p in
    let room : ipv4_total bytes - ipv4_front bytes ≡ length carried = omega (arith, front, total) in
    let part : slice_range bytes (ipv4_front bytes) (ipv4_total bytes) ≡ carried = ap (λ n. take n (drop (ipv4_front bytes) bytes)) room ∙ part_at (ipv4_front bytes) (length carried) bytes carried i.trailer at_front refl in
    ap (λ (t : Bool). if t then None else when (is_plain bytes && is_whole_ipv4 bytes) (slice_range bytes (ipv4_front bytes) (ipv4_total bytes))) tests.0
    ∙ ap (λ (t : Bool). when (t && is_whole_ipv4 bytes) (slice_range bytes (ipv4_front bytes) (ipv4_total bytes))) tests.1
    ∙ ap (λ (t : Bool). when t (slice_range bytes (ipv4_front bytes) (ipv4_total bytes))) tests.2 ∙ ap (λ l. Some l) part
  where
    whole_length : (bytes addresses tail : List ℕ) → drop 12 bytes ≡ addresses ++ tail → length addresses ≡ 8 → drop 20 bytes ≡ tail → length bytes ≡ 20 + length (drop 20 bytes)
    whole_length bytes addresses tail e size last = omega (arith, ap length e, length-append addresses tail, size, ap length last, length-drop 12 bytes, length-drop 20 bytes)
