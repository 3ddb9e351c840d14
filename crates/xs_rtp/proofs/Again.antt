-- What is written of a header is read again.
use Rattle.std.proofs.Common.{◌≡◌, ℕ, ◌+◌, ◌*◌, ◌^◌, ◌<◌, ◌≤◌, List, [], ◌∷◌, ◌++◌, length, take, Bool, true, false, refl, ap, ◌∙◌, arith}
use Rattle.std.specs.Prelude.{nat_eq, nat_lt, not, ◌&&◌, ◌||◌, ◌-◌, if◌then◌else◌, None, Some, Result, Ok, Err}
use Rattle.std.specs.List.{AllByRecursion}
use Rattle.std.proofs.lemmas.Bool.{le-ltb}
use Rattle.xs_lists.specs.First.{first_of}
use Rattle.xs_rtp.specs.declared.packet.RtpFault.{RtpFault}
use Rattle.std.specs.Int.{to_be_bytes, from_be_bytes, w32}
use Rattle.std.proofs.lemmas.List.{take_at, drop_at}
use Rattle.std.proofs.lemmas.Nat.{from_be_bytes-to_be_bytes_4}
use Rattle.xs_lists.specs.Bits.{bit_of}
use Rattle.xs_lists.specs.Fields.{field, has_bit, word_at}
use Rattle.xs_rtp.specs.declared.payload.Pay.{Pay}
use Rattle.xs_rtp.specs.declared.packet.Rtp.{Rtp}
use Rattle.xs_rtp.specs.Payload.{pay_word, pay_of_word}
use Rattle.xs_rtp.specs.Packet.{rtp_word, rtp_bytes, rtp_of, rtp_refusals, rtp_read, version_of, has_padding, has_extension, sources_end, padding_count, payload_begin, payload_end, words_begin, words_end}
use Rattle.xs_rtp.specs.Laws.{PayloadHeaderReadAgain, RtpHeaderReadAgain}

pub bit_below : (b : Bool) → bit_of b < 2
bit_below true = omega arith
bit_below false = omega arith

bit_again : (b : Bool) → nat_eq (bit_of b) 1 ≡ b
bit_again true = refl
bit_again false = refl

bit_is : (b : Bool) (n : ℕ) → n ≡ bit_of b → nat_eq n 1 ≡ b
bit_is b n e = ap (λ k. nat_eq k 1) e ∙ bit_again b

-- the word at the front of bytes
pub word_first : (word : ℕ) (rest : List ℕ) → word < 2 ^ 32 → word_at (to_be_bytes w32 word ++ rest) 0 ≡ word
word_first word rest small = ap (from_be_bytes w32) (take_at (to_be_bytes w32 word) rest 4 refl) ∙ from_be_bytes-to_be_bytes_4 word small

-- and the word after some bytes
pub word_after : (front : List ℕ) (n word : ℕ) (rest : List ℕ) → length front ≡ n → word < 2 ^ 32 → word_at (front ++ (to_be_bytes w32 word ++ rest)) n ≡ word
word_after front n word rest size small = ap (λ l. from_be_bytes w32 (take 4 l)) (drop_at front (to_be_bytes w32 word ++ rest) n size) ∙ word_first word rest small

abbrev pay_with : Bool → Bool → Bool → (interlace frame sep place : ℕ) → Pay
pay_with sequential slice_mode last interlace frame sep place =
    record { sequential = sequential; slice_mode = slice_mode; last = last; interlace = interlace; frame = frame; sep = sep; place = place }

fields_again : (t k l i f s p : ℕ) → t < 2 → k < 2 → l < 2 → i < 4 → f < 32 → s < 2048 → p < 2048
    → let w = 2 ^ 31 * t + 2 ^ 30 * k + 2 ^ 29 * l + 2 ^ 27 * i + 2 ^ 22 * f + 2 ^ 11 * s + p in
    (field 1 31 w ≡ t) × (field 1 30 w ≡ k) × (field 1 29 w ≡ l) × (field 2 27 w ≡ i) × (field 5 22 w ≡ f) × (field 11 11 w ≡ s) × (field 11 0 w ≡ p) × (w < 2 ^ 32)
fields_again t k l i f s p ht hk hl hi hf hs hp = (
  omega (arith, ht, hk, hl, hi, hf, hs, hp),
  omega (arith, ht, hk, hl, hi, hf, hs, hp),
  omega (arith, ht, hk, hl, hi, hf, hs, hp),
  omega (arith, ht, hk, hl, hi, hf, hs, hp),
  omega (arith, ht, hk, hl, hi, hf, hs, hp),
  omega (arith, ht, hk, hl, hi, hf, hs, hp),
  omega (arith, ht, hk, hl, hi, hf, hs, hp),
  omega (arith, ht, hk, hl, hi, hf, hs, hp),
)

pub payload_header : PayloadHeaderReadAgain
payload_header pay rest room =
    let t = bit_below pay.sequential in
    let k = bit_below pay.slice_mode in
    let l = bit_below pay.last in
    let f = fields_again (bit_of pay.sequential) (bit_of pay.slice_mode) (bit_of pay.last) pay.interlace pay.frame pay.sep pay.place t k l room.1.1.1.0 room.1.1.1.1.0 room.1.1.1.1.1.0 room.1.1.1.1.1.1.0 in
    ap pay_of_word (word_first (pay_word pay) rest f.7)
    ∙ ap (λ b. pay_with b (has_bit 30 (pay_word pay)) (has_bit 29 (pay_word pay)) (field 2 27 (pay_word pay)) (field 5 22 (pay_word pay)) (field 11 11 (pay_word pay)) (field 11 0 (pay_word pay))) (bit_is pay.sequential (field 1 31 (pay_word pay)) f.0)
    ∙ ap (λ b. pay_with pay.sequential b (has_bit 29 (pay_word pay)) (field 2 27 (pay_word pay)) (field 5 22 (pay_word pay)) (field 11 11 (pay_word pay)) (field 11 0 (pay_word pay))) (bit_is pay.slice_mode (field 1 30 (pay_word pay)) f.1)
    ∙ ap (λ b. pay_with pay.sequential pay.slice_mode b (field 2 27 (pay_word pay)) (field 5 22 (pay_word pay)) (field 11 11 (pay_word pay)) (field 11 0 (pay_word pay))) (bit_is pay.last (field 1 29 (pay_word pay)) f.2)
    ∙ ap (λ n. pay_with pay.sequential pay.slice_mode pay.last n (field 5 22 (pay_word pay)) (field 11 11 (pay_word pay)) (field 11 0 (pay_word pay))) f.3
    ∙ ap (λ n. pay_with pay.sequential pay.slice_mode pay.last pay.interlace n (field 11 11 (pay_word pay)) (field 11 0 (pay_word pay))) f.4
    ∙ ap (λ n. pay_with pay.sequential pay.slice_mode pay.last pay.interlace pay.frame n (field 11 0 (pay_word pay))) f.5
    ∙ ap (λ n. pay_with pay.sequential pay.slice_mode pay.last pay.interlace pay.frame pay.sep n) f.6

-- Fixed headers

-- where no row's test holds there is no first one
none_first : {A : Type 0} (rows : List (Bool × A)) → AllByRecursion (λ (row : Bool × A). row.0 ≡ false) rows → first_of rows ≡ None
none_first [] all = refl
none_first {A} (row ∷ rows) all = ap (λ b. if b then Some row.1 else first_of rows) all.0 ∙ none_first rows all.1

-- what reading answers where nothing is refused
pub reads : (bytes : List ℕ) → AllByRecursion (λ (row : Bool × RtpFault). row.0 ≡ false) (rtp_refusals bytes) → rtp_read bytes ≡ Ok (rtp_of bytes, payload_begin bytes, payload_end bytes)
unfolding rtp_read
reads bytes all = ap (λ o. elim o as (λ x. Result (Rtp × ℕ × ℕ) RtpFault) [ None ↦ Ok (rtp_of bytes, payload_begin bytes, payload_end bytes) | Some fault ↦ Err fault ]) (none_first (rtp_refusals bytes) all)

-- no padding, no extension and no sources
reads_plain : (bytes : List ℕ) → 12 ≤ length bytes → version_of bytes ≡ 2 → has_padding bytes ≡ false → has_extension bytes ≡ false → sources_end bytes ≡ 12
    → rtp_read bytes ≡ Ok (rtp_of bytes, 12, length bytes)
reads_plain bytes enough version padding extension sources =
    reads bytes (
      le-ltb (length bytes) 12 enough,
      (
        ap (λ v. not (nat_eq v 2)) version,
        (
          ap (λ n. nat_lt (length bytes) n) sources ∙ le-ltb (length bytes) 12 enough,
          (
            ap (λ b. b && (nat_eq (padding_count bytes) 0 || nat_lt (length bytes - sources_end bytes) (padding_count bytes))) padding,
            (
              ap (λ b. b && nat_lt (payload_end bytes) (words_begin bytes)) extension,
              (
                ap (λ b. b && nat_lt (payload_end bytes) (words_end bytes)) extension,
                tt,
              ),
            ),
          ),
        ),
      ),
    )
    ∙ ap (λ b. Ok (rtp_of bytes, (if b then words_end bytes else sources_end bytes), payload_end bytes)) extension
    ∙ ap (λ n. Ok (rtp_of bytes, n, payload_end bytes)) sources
    ∙ ap (λ b. Ok (rtp_of bytes, 12, (if b then length bytes - padding_count bytes else length bytes))) padding

abbrev rtp_with : Bool → (payload_type sequence timestamp ssrc : ℕ) → Rtp
rtp_with marker payload_type sequence timestamp ssrc =
    record { marker = marker; payload_type = payload_type; sequence = sequence; timestamp = timestamp; ssrc = ssrc }

-- the fields of the first word
pub word_fields : (p x c m t s : ℕ) → p < 2 → x < 2 → c < 16 → m < 2 → t < 128 → s < 65536
    → let w = 2 ^ 31 + 2 ^ 29 * p + 2 ^ 28 * x + 2 ^ 24 * c + 2 ^ 23 * m + 2 ^ 16 * t + s in
    (field 2 30 w ≡ 2) × (field 1 29 w ≡ p) × (field 1 28 w ≡ x) × (field 4 24 w ≡ c) × (field 1 23 w ≡ m) × (field 7 16 w ≡ t) × (field 16 0 w ≡ s) × (w < 2 ^ 32)
word_fields p x c m t s hp hx hc hm ht hs = (
  omega (arith, hp, hx, hc, hm, ht, hs),
  omega (arith, hp, hx, hc, hm, ht, hs),
  omega (arith, hp, hx, hc, hm, ht, hs),
  omega (arith, hp, hx, hc, hm, ht, hs),
  omega (arith, hp, hx, hc, hm, ht, hs),
  omega (arith, hp, hx, hc, hm, ht, hs),
  omega (arith, hp, hx, hc, hm, ht, hs),
  omega (arith, hp, hx, hc, hm, ht, hs),
)

-- what the first three words say
says : (bytes : List ℕ) (word : ℕ) (rtp : Rtp) → word_at bytes 0 ≡ word → word_at bytes 4 ≡ rtp.timestamp → word_at bytes 8 ≡ rtp.ssrc
    → field 1 23 word ≡ bit_of rtp.marker → field 7 16 word ≡ rtp.payload_type → field 16 0 word ≡ rtp.sequence → rtp_of bytes ≡ rtp
says bytes word rtp first second third marker payload_type sequence =
    ap (λ w. rtp_with (has_bit 23 w) (field 7 16 w) (field 16 0 w) (word_at bytes 4) (word_at bytes 8)) first
    ∙ ap (λ b. rtp_with b (field 7 16 word) (field 16 0 word) (word_at bytes 4) (word_at bytes 8)) (bit_is rtp.marker (field 1 23 word) marker)
    ∙ ap (λ n. rtp_with rtp.marker n (field 16 0 word) (word_at bytes 4) (word_at bytes 8)) payload_type
    ∙ ap (λ n. rtp_with rtp.marker rtp.payload_type n (word_at bytes 4) (word_at bytes 8)) sequence
    ∙ ap (λ n. rtp_with rtp.marker rtp.payload_type rtp.sequence n (word_at bytes 8)) second
    ∙ ap (λ n. rtp_with rtp.marker rtp.payload_type rtp.sequence rtp.timestamp n) third

pub rtp_header : RtpHeaderReadAgain
rtp_header rtp payload room =
    let type_room : rtp.payload_type < 2 ^ 7 = room.1.1.1.1.1.0 in
    let sequence_room : rtp.sequence < 2 ^ 16 = room.1.1.1.1.1.1.0 in
    let time_room : rtp.timestamp < 2 ^ 32 = room.1.1.1.1.1.1.1.0 in
    let ssrc_room : rtp.ssrc < 2 ^ 32 = room.1.1.1.1.1.1.1.1.0 in
    let none : 0 < 2 = omega arith in
    let few : 0 < 16 = omega arith in
    let word = rtp_word false false 0 rtp in
    let f = word_fields 0 0 0 (bit_of rtp.marker) rtp.payload_type rtp.sequence none none few (bit_below rtp.marker) type_room sequence_room in
    let bytes = rtp_bytes rtp ++ payload in
    let first : word_at bytes 0 ≡ word = word_first word (to_be_bytes w32 rtp.timestamp ++ (to_be_bytes w32 rtp.ssrc ++ payload)) f.7 in
    let second : word_at bytes 4 ≡ rtp.timestamp = word_after (to_be_bytes w32 word) 4 rtp.timestamp (to_be_bytes w32 rtp.ssrc ++ payload) refl time_room in
    let third : word_at bytes 8 ≡ rtp.ssrc = word_after (to_be_bytes w32 word ++ to_be_bytes w32 rtp.timestamp) 8 rtp.ssrc payload refl ssrc_room in
    let size : length bytes ≡ 12 + length payload = omega arith in
    let enough : 12 ≤ length bytes = omega (arith, size) in
    reads_plain bytes enough (ap (field 2 30) first ∙ f.0) (ap (has_bit 29) first ∙ bit_is false (field 1 29 word) f.1) (ap (has_bit 28) first ∙ bit_is false (field 1 28 word) f.2)
    (ap (λ w. 12 + 4 * field 4 24 w) first ∙ ap (λ n. 12 + 4 * n) f.3)
    ∙ ap (λ said. Ok (said, 12, length bytes)) (says bytes word rtp first second third f.4 f.5 f.6)
    ∙ ap (λ end. Ok (rtp, 12, end)) size
