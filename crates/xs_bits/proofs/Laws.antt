-- Laws of bits beside those of the lists.
use Rattle.std.proofs.Common.{◌≡◌, ℕ, zero, suc, ◌+◌, ◌-◌, ◌*◌, ◌/◌, ◌%◌, ◌^◌, ◌<◌, ◌≤◌, List, [], ◌∷◌, ◌++◌, length, replicate, get_or, refl, sym, ap, subst, ◌∙◌, arith, append_assoc, append-nil, length-append}
use Rattle.std.specs.Int.{w64, to_be_bytes}
use Rattle.std.proofs.Math.Nat.{mul_comm, pow-suc}
use Rattle.std.proofs.lemmas.Nat.{pow_pos, pow-add, mul-add-lt, shr_below}
use Rattle.std.proofs.lemmas.List.{replicate_more, replicate-append-replicate}
use Rattle.xs_lists.specs.Bits.{bits_of, bits_of_bytes}
use Rattle.xs_lists.specs.Packing.{AreBytes}
use Rattle.xs_lists.proofs.Bits.{length-bits_of, length-bits_of_bytes, bits_split, bits_mod, bits_cat}

-- no bits
pub bits_of_none : (v : ℕ) → bits_of 0 v ≡ []
unfolding bits_of
bits_of_none v = refl

-- a number's last bit, and the bits before it
pub bits_of_last : (n v half last : ℕ) → v / 2 ≡ half → v % 2 ≡ last → bits_of (n + 1) v ≡ bits_of n half ++ (last ∷ [])
unfolding bits_of
bits_of_last n v half last p q =
    let one : n + 1 ≡ suc n = omega arith in
    ap (λ k. bits_of k v) one ∙ at_suc
  where
    at_suc : bits_of (suc n) v ≡ bits_of n half ++ (last ∷ [])
    at_suc = ap (λ k. bits_of n k ++ (v % 2 ∷ [])) p ∙ ap (λ k. bits_of n half ++ (k ∷ [])) q

-- zeros
pub bits_of_zero : (n : ℕ) → bits_of n 0 ≡ replicate n 0
bits_of_zero zero = bits_of_none 0
bits_of_zero (suc n) =
    let one : n + 1 ≡ suc n = omega arith in
    subst (λ k. bits_of k 0 ≡ replicate k 0) one (bits_of_last n 0 0 0 refl refl ∙ ap (λ l. l ++ (0 ∷ [])) (bits_of_zero n) ∙ replicate_more n 0)

-- ones
pub bits_of_ones : (n : ℕ) → bits_of n (2 ^ n - 1) ≡ replicate n 1
bits_of_ones zero = bits_of_none 0
bits_of_ones (suc n) =
    let one : n + 1 ≡ suc n = omega arith in
    let double : 2 ^ (n + 1) ≡ 2 ^ n * 2 = ap (λ k. 2 ^ k) one ∙ pow-suc 2 n in
    let half : (2 ^ (n + 1) - 1) / 2 ≡ 2 ^ n - 1 = omega (arith, double, pow_pos n) in
    let last : (2 ^ (n + 1) - 1) % 2 ≡ 1 = omega (arith, double, pow_pos n) in
    subst (λ k. bits_of k (2 ^ k - 1) ≡ replicate k 1) one
    (bits_of_last n (2 ^ (n + 1) - 1) (2 ^ n - 1) 1 half last ∙ ap (λ l. l ++ (1 ∷ [])) (bits_of_ones n) ∙ replicate_more n 1)

-- ones and a zero
pub bits_of_unary : (n : ℕ) → bits_of (n + 1) (2 ^ (n + 1) - 2) ≡ replicate n 1 ++ (0 ∷ [])
bits_of_unary n =
    let one : n + 1 ≡ suc n = omega arith in
    let double : 2 ^ (n + 1) ≡ 2 ^ n * 2 = ap (λ k. 2 ^ k) one ∙ pow-suc 2 n in
    let half : (2 ^ (n + 1) - 2) / 2 ≡ 2 ^ n - 1 = omega (arith, double, pow_pos n) in
    let last : (2 ^ (n + 1) - 2) % 2 ≡ 0 = omega (arith, double, pow_pos n) in
    bits_of_last n (2 ^ (n + 1) - 2) (2 ^ n - 1) 0 half last ∙ ap (λ l. l ++ (0 ∷ [])) (bits_of_ones n)

-- the bytes of a word, the highest first, have its bits
pub word_bytes : (word : ℕ) → bits_of_bytes (to_be_bytes w64 word) ≡ bits_of 64 word
word_bytes word =
    let byte : (n : ℕ) → bits_of 8 (n % 256) ≡ bits_of 8 n = λ n. bits_mod 8 n in
    rw (byte (word / 2 ^ 56), byte (word / 2 ^ 48), byte (word / 2 ^ 40), byte (word / 2 ^ 32), byte (word / 2 ^ 24), byte (word / 2 ^ 16), byte (word / 2 ^ 8), byte word, append-nil (bits_of 8 word))
    (sym (bits_split 8 56 word ∙ ap (λ l. bits_of 8 (word / 2 ^ 56) ++ l) (bits_split 8 48 word ∙ ap (λ l. bits_of 8 (word / 2 ^ 48) ++ l) (bits_split 8 40 word
    ∙ ap (λ l. bits_of 8 (word / 2 ^ 40) ++ l) (bits_split 8 32 word ∙ ap (λ l. bits_of 8 (word / 2 ^ 32) ++ l) (bits_split 8 24 word
    ∙ ap (λ l. bits_of 8 (word / 2 ^ 24) ++ l) (bits_split 8 16 word ∙ ap (λ l. bits_of 8 (word / 2 ^ 16) ++ l) (bits_split 8 8 word))))))))

-- how many bits whole bytes and some more bits are
pub length-written : (bytes : List ℕ) (count partial : ℕ) → length (bits_of_bytes bytes ++ bits_of count partial) ≡ 8 * length bytes + count
length-written bytes count partial =
    omega (arith, length-append (bits_of_bytes bytes) (bits_of count partial), length-bits_of_bytes bytes, length-bits_of count partial)

-- a number put behind the bits of another
pub join_below : (high low count width : ℕ) → high < 2 ^ count → low < 2 ^ width → high * 2 ^ width + low < 2 ^ (count + width)
join_below high low count width h l = subst (λ k. high * 2 ^ width + low < k) (mul_comm (2 ^ width) (2 ^ count) ∙ sym (pow-add 2 count width)) (mul-add-lt high (2 ^ width) low (2 ^ count) h l)

-- what a put leaves
pub put_bits : (bytes : List ℕ) (count partial width value number : ℕ) → value < 2 ^ width → number ≡ partial * 2 ^ width + value
    → bits_of_bytes bytes ++ bits_of (count + width) number ≡ bits_of_bytes bytes ++ bits_of count partial ++ bits_of width value
put_bits bytes count partial width value number h e =
    ap (λ k. bits_of_bytes bytes ++ bits_of (count + width) k) e ∙ ap (λ l. bits_of_bytes bytes ++ l) (bits_cat count width partial value h)
    ∙ sym (append_assoc (bits_of_bytes bytes) (bits_of count partial) (bits_of width value))

-- the bits that fill up a word move to the end of other bits, and the rest of the number stays
pub word_moves : (bits more : List ℕ) (count width partial value word low : ℕ) → count ≤ 64 → 64 ≤ count + width → value < 2 ^ width
    → word ≡ partial * 2 ^ (64 - count) + value / 2 ^ (count + width - 64) → low ≡ value % 2 ^ (count + width - 64) → more ≡ bits ++ bits_of 64 word
    → more ++ bits_of (count + width - 64) low ≡ bits ++ bits_of count partial ++ bits_of width value
word_moves bits more count width partial value word low few full small high rest added =
    let over = count + width - 64 in
    let gap : 64 ≡ count + (64 - count) = omega arith in
    let sum : width ≡ (64 - count) + (count + width - 64) = omega arith in
    let top : value / 2 ^ over < 2 ^ (64 - count) = shr_below value (64 - count) over (subst (λ k. value < 2 ^ k) sum small) in
    let first : bits_of 64 word ≡ bits_of count partial ++ bits_of (64 - count) (value / 2 ^ over) =
    ap (bits_of 64) high ∙ ap (λ k. bits_of k (partial * 2 ^ (64 - count) + value / 2 ^ over)) gap ∙ bits_cat count (64 - count) partial (value / 2 ^ over) top in
    let whole : bits_of (64 - count) (value / 2 ^ over) ++ bits_of over low ≡ bits_of width value =
    ap (λ l. bits_of (64 - count) (value / 2 ^ over) ++ l) (ap (bits_of over) rest ∙ bits_mod over value) ∙ sym (bits_split (64 - count) over value) ∙ ap (λ k. bits_of k value) (sym sum) in
    ap (λ l. l ++ bits_of over low) (added ∙ ap (λ l. bits ++ l) first) ∙ append_assoc bits (bits_of count partial ++ bits_of (64 - count) (value / 2 ^ over)) (bits_of over low)
    ∙ ap (λ l. bits ++ l) (append_assoc (bits_of count partial) (bits_of (64 - count) (value / 2 ^ over)) (bits_of over low) ∙ ap (λ l. bits_of count partial ++ l) whole)
    ∙ sym (append_assoc bits (bits_of count partial) (bits_of width value))

-- a byte moves to the end of other bits, of a number of which only the low bits count
pub byte_moves : (bits more : List ℕ) (left number byte : ℕ) → 8 ≤ left → more ≡ bits ++ bits_of 8 byte → byte ≡ number / 2 ^ (left - 8) % 256
    → more ++ bits_of (left - 8) number ≡ bits ++ bits_of left number
byte_moves bits more left number byte enough added is =
    let back : 8 + (left - 8) ≡ left = omega arith in
    let whole : bits_of 8 byte ≡ bits_of 8 (number / 2 ^ (left - 8)) = ap (bits_of 8) is ∙ bits_mod 8 (number / 2 ^ (left - 8)) in
    ap (λ l. l ++ bits_of (left - 8) number) (added ∙ ap (λ l. bits ++ l) whole) ∙ append_assoc bits (bits_of 8 (number / 2 ^ (left - 8))) (bits_of (left - 8) number)
    ∙ ap (λ l. bits ++ l) (sym (bits_split 8 (left - 8) number)) ∙ ap (λ k. bits ++ bits_of k number) back

-- a run before a rest, cut in two
pub run_cut : (x : ℕ) (rest : List ℕ) (m left : ℕ) → m ≤ left → replicate m x ++ (replicate (left - m) x ++ rest) ≡ replicate left x ++ rest
run_cut x rest m left enough =
    let back : m + (left - m) ≡ left = omega arith in
    sym (append_assoc (replicate m x) (replicate (left - m) x) rest) ∙ ap (λ l. l ++ rest) (replicate-append-replicate m (left - m) x ∙ ap (λ k. replicate k x) back)

-- a run of ones and a zero, after the first of the ones
pub ones_moves : (bits more : List ℕ) (m left value : ℕ) → m ≤ left → value ≡ 2 ^ m - 1 → more ≡ bits ++ bits_of m value
    → more ++ (replicate (left - m) 1 ++ (0 ∷ [])) ≡ bits ++ (replicate left 1 ++ (0 ∷ []))
ones_moves bits more m left value enough is added =
    let ones : bits_of m value ≡ replicate m 1 = ap (bits_of m) is ∙ bits_of_ones m in
    ap (λ l. l ++ (replicate (left - m) 1 ++ (0 ∷ []))) (added ∙ ap (λ l. bits ++ l) ones) ∙ append_assoc bits (replicate m 1) (replicate (left - m) 1 ++ (0 ∷ []))
    ∙ ap (λ l. bits ++ l) (run_cut 1 (0 ∷ []) m left enough)

-- items that are each a byte
pub each_byte : (list : List ℕ) → ((i : ℕ) → get_or list i 0 < 2 ^ 8) → AreBytes list
each_byte [] h = tt
each_byte (b ∷ bytes) h = (h 0, each_byte bytes (λ i. h (suc i)))
