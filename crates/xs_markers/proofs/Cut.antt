-- The bytes from a place on, cut into pieces.
use Rattle.std.proofs.Common.{◌≡◌, ℕ, ◌+◌, ◌/◌, ◌%◌, ◌^◌, ◌<◌, ◌≤◌, List, ◌++◌, length, take, drop, get_or, refl, sym, ap, subst, ◌∙◌, arith, append-nil, length-drop, inl, inr}
use Rattle.std.specs.Int.{to_be_bytes, w16, w32}
use Rattle.std.proofs.lemmas.Nat.{be_bytes_2, be_bytes_4}
use Rattle.std.proofs.lemmas.List.{take-append-drop, drop-drop, drop_more, get_or-take, get_or-drop, length-take-le, get_or_past}
use Rattle.std.proofs.lemmas.List.Concat.{flat_map-append}
use Rattle.std.proofs.lemmas.Bool.{cases_lt}
use Rattle.xs_lists.specs.Bits.{bits_of, bits_of_bytes}
use Rattle.xs_lists.specs.Fields.{half_word_at, word_at}
use Rattle.xs_lists.proofs.Bits.{bits_split, bits_mod}

-- each of them is a byte
abbrev pub IsBytes : List ℕ → Type 0
IsBytes bytes = (i : ℕ) → get_or bytes i 0 < 256

-- a piece has its size, and each of its bytes is one
pub piece_size : (n p : ℕ) (bytes : List ℕ) → p + n ≤ length bytes → length (take n (drop p bytes)) ≡ n
piece_size n p bytes inside = length-take-le n (drop p bytes) (omega (arith, inside, length-drop p bytes))

pub piece_bytes : (n p : ℕ) (bytes : List ℕ) → IsBytes bytes → p + n ≤ length bytes → IsBytes (take n (drop p bytes))
piece_bytes n p bytes small inside i = elim (cases_lt i n) [
  | inl before ↦ subst (λ b. b < 256) (sym (get_or-take n (drop p bytes) i 0 before ∙ get_or-drop p bytes i 0)) (small (p + i))
  | inr after ↦
      let size : length (take n (drop p bytes)) ≡ n = piece_size n p bytes inside in
      let past : get_or (take n (drop p bytes)) i 0 ≡ 0 = get_or_past (take n (drop p bytes)) i 0 (omega (arith, size, after)) in
      omega (arith, past)
]

-- Numbers of two and of four bytes

pub half_word_small : (bytes : List ℕ) (p : ℕ) → IsBytes bytes → p + 2 ≤ length bytes → half_word_at bytes p < 2 ^ 16
half_word_small bytes p small inside =
    let those = piece_bytes 2 p bytes small inside in
    omega (arith, those 0, those 1)

pub word_small : (bytes : List ℕ) (p : ℕ) → IsBytes bytes → p + 4 ≤ length bytes → word_at bytes p < 2 ^ 32
word_small bytes p small inside =
    let those = piece_bytes 4 p bytes small inside in
    omega (arith, those 0, those 1, those 2, those 3)

-- their bytes are those that they were read from
pub half_word_bytes : (bytes : List ℕ) (p number : ℕ) → IsBytes bytes → p + 2 ≤ length bytes → half_word_at bytes p ≡ number → take 2 (drop p bytes) ≡ to_be_bytes w16 number
half_word_bytes bytes p number small inside is =
    sym (be_bytes_2 (take 2 (drop p bytes)) number (piece_size 2 p bytes inside) (piece_bytes 2 p bytes small inside) (sym is))

pub word_bytes : (bytes : List ℕ) (p : ℕ) → IsBytes bytes → p + 4 ≤ length bytes → take 4 (drop p bytes) ≡ to_be_bytes w32 (word_at bytes p)
word_bytes bytes p small inside = sym (be_bytes_4 (take 4 (drop p bytes)) (word_at bytes p) (piece_size 4 p bytes inside) (piece_bytes 4 p bytes small inside) refl)

-- and have its bits
half_bits : (number : ℕ) → bits_of_bytes (to_be_bytes w16 number) ≡ bits_of 16 number
half_bits number =
    let byte : (n : ℕ) → bits_of 8 (n % 256) ≡ bits_of 8 n = λ n. bits_mod 8 n in
    rw (byte (number / 2 ^ 8), byte number, append-nil (bits_of 8 number)) (sym (bits_split 8 8 number))

long_bits : (number : ℕ) → bits_of_bytes (to_be_bytes w32 number) ≡ bits_of 32 number
long_bits number =
    let byte : (n : ℕ) → bits_of 8 (n % 256) ≡ bits_of 8 n = λ n. bits_mod 8 n in
    rw (byte (number / 2 ^ 24), byte (number / 2 ^ 16), byte (number / 2 ^ 8), byte number, append-nil (bits_of 8 number))
    (sym (bits_split 8 24 number ∙ ap (λ l. bits_of 8 (number / 2 ^ 24) ++ l) (bits_split 8 16 number ∙ ap (λ l. bits_of 8 (number / 2 ^ 16) ++ l) (bits_split 8 8 number))))

-- Bits from a place on: those of the piece there, and of what follows

cut_bits : (n p : ℕ) (bytes : List ℕ) → bits_of_bytes (drop p bytes) ≡ bits_of_bytes (take n (drop p bytes)) ++ bits_of_bytes (drop (p + n) bytes)
cut_bits n p bytes =
    ap bits_of_bytes (sym (take-append-drop n (drop p bytes))) ∙ flat_map-append (bits_of 8) (take n (drop p bytes)) (drop n (drop p bytes))
    ∙ ap (λ l. bits_of_bytes (take n (drop p bytes)) ++ bits_of_bytes l) (drop-drop n p bytes)

pub word_here : (bytes : List ℕ) (p : ℕ) → IsBytes bytes → p + 4 ≤ length bytes → bits_of_bytes (drop p bytes) ≡ bits_of 32 (word_at bytes p) ++ bits_of_bytes (drop (p + 4) bytes)
word_here bytes p small inside =
    cut_bits 4 p bytes ∙ ap (λ l. l ++ bits_of_bytes (drop (p + 4) bytes)) (ap bits_of_bytes (word_bytes bytes p small inside) ∙ long_bits (word_at bytes p))

pub half_word_here : (bytes : List ℕ) (p : ℕ) → IsBytes bytes → p + 2 ≤ length bytes → bits_of_bytes (drop p bytes) ≡ bits_of 16 (half_word_at bytes p) ++ bits_of_bytes (drop (p + 2) bytes)
half_word_here bytes p small inside =
    cut_bits 2 p bytes ∙ ap (λ l. l ++ bits_of_bytes (drop (p + 2) bytes)) (ap bits_of_bytes (half_word_bytes bytes p (half_word_at bytes p) small inside refl) ∙ half_bits (half_word_at bytes p))

pub byte_here : (bytes : List ℕ) (p : ℕ) → p < length bytes → bits_of_bytes (drop p bytes) ≡ bits_of 8 (get_or bytes p 0) ++ bits_of_bytes (drop (p + 1) bytes)
byte_here bytes p inside = ap bits_of_bytes (drop_more bytes p 0 inside)
