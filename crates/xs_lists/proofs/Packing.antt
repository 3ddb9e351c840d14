-- Bits packed into bytes.
use Rattle.std.proofs.Common.{◌≡◌, ℕ, zero, suc, ◌+◌, ◌-◌, ◌*◌, ◌/◌, ◌%◌, ◌^◌, ◌<◌, ◌≤◌, List, [], ◌∷◌, ◌++◌, map, length, get_or, replicate, refl, sym, ap, ◌∙◌, arith, append_assoc, append-nil}
use Rattle.std.specs.List.{flat_map, fold, range_with_len}
use Rattle.std.proofs.lemmas.List.Folds.{flat_map-map}
use Rattle.std.proofs.lemmas.List.FromFn.{length-map-range_with_len}
use Rattle.xs_lists.specs.Bits.{bits_of, bits_of_bytes, bytes_for}
use Rattle.xs_lists.specs.Packing.{number_of, packed_byte, packed, missing_bits, AreBits, AreBytes, PackedBits, PackedBytes, BytesByBits}
use Rattle.xs_lists.specs.Spelling.{upto, SpellsPadded}
use Rattle.xs_lists.proofs.Bits.{length-bits_of, length-bits_of_bytes}
use Rattle.xs_lists.proofs.Cut.{append_cut, bits_of_one}

-- The number of some bits

-- the bits of a number to which some bits were joined
joined_bits : (m n : ℕ) (bits : List ℕ) → AreBits bits → bits_of (m + length bits) (fold (λ number bit. 2 * number + bit) n bits) ≡ bits_of m n ++ bits
unfolding bits_of
joined_bits m n [] h =
    let e : m + 0 ≡ m = omega arith in
    ap (λ k. bits_of k n) e ∙ sym (append-nil (bits_of m n))
joined_bits m n (bit ∷ bits) h =
    let e : m + suc (length bits) ≡ suc m + length bits = omega arith in
    let high : (2 * n + bit) / 2 ≡ n = omega (arith, h.0) in
    let low : (2 * n + bit) % 2 ≡ bit = omega (arith, h.0) in
    ap (λ k. bits_of k (fold (λ number bit. 2 * number + bit) (2 * n + bit) bits)) e
    ∙ joined_bits (suc m) (2 * n + bit) bits h.1
    ∙ ap (λ k. (bits_of m k ++ ((2 * n + bit) % 2 ∷ [])) ++ bits) high
    ∙ ap (λ k. (bits_of m n ++ (k ∷ [])) ++ bits) low
    ∙ append_assoc (bits_of m n) (bit ∷ []) bits

-- a number has the bits that it was made of
pub bits_of-number : (bits : List ℕ) → AreBits bits → bits_of (length bits) (number_of bits) ≡ bits
unfolding bits_of
bits_of-number bits h =
    let e : length bits ≡ 0 + length bits = omega arith in
    ap (λ k. bits_of k (number_of bits)) e ∙ joined_bits 0 0 bits h

-- Bits by their places

bit_at : (bits : List ℕ) (i : ℕ) → AreBits bits → get_or bits i 0 < 2
bit_at [] i h = omega arith
bit_at (bit ∷ bits) zero h = h.0
bit_at (bit ∷ bits) (suc i) h = bit_at bits i h.1

-- the bits from a place on, and 0 past the end
window : List ℕ → ℕ → List ℕ
window bits i = map (λ k. get_or bits (8 * i + k) 0) (upto 8)

window-bits : (bits : List ℕ) (i : ℕ) → AreBits bits → AreBits (window bits i)
unfolding window
window-bits bits i h = (
  bit_at bits (8 * i + 0) h,
  (bit_at bits (8 * i + 1) h, (bit_at bits (8 * i + 2) h, (bit_at bits (8 * i + 3) h, (bit_at bits (8 * i + 4) h, (bit_at bits (8 * i + 5) h, (bit_at bits (8 * i + 6) h, (bit_at bits (8 * i + 7) h, tt))))))),
)

-- Ranges

map-shift : (g : ℕ → ℕ) (base first n : ℕ) → map (λ k. g (base + k)) (range_with_len first n) ≡ map g (range_with_len (base + first) n)
map-shift g base first zero = refl
map-shift g base first (suc n) =
    let next : base + (first + 1) ≡ base + first + 1 = omega arith in
    ap (λ l. g (base + first) ∷ l) (map-shift g base (first + 1) n) ∙ ap (λ k. g (base + first) ∷ map g (range_with_len k n)) next

range-join : (first m n : ℕ) → range_with_len first (m + n) ≡ range_with_len first m ++ range_with_len (first + m) n
range-join first zero n =
    let a : 0 + n ≡ n = omega arith in
    let b : first ≡ first + 0 = omega arith in
    ap (range_with_len first) a ∙ ap (λ k. range_with_len k n) b
range-join first (suc m) n =
    let a : suc m + n ≡ suc (m + n) = omega arith in
    let b : first + 1 + m ≡ first + suc m = omega arith in
    ap (range_with_len first) a ∙ ap (λ l. first ∷ l) (range-join (first + 1) m n) ∙ ap (λ k. first ∷ (range_with_len (first + 1) m ++ range_with_len k n)) b

map-join : (g : ℕ → ℕ) (xs ys : List ℕ) → map g (xs ++ ys) ≡ map g xs ++ map g ys
map-join g [] ys = refl
map-join g (x ∷ xs) ys = ap (λ l. g x ∷ l) (map-join g xs ys)

-- windows one after the other are all the bits
windows : (g : ℕ → ℕ) (first n : ℕ) → flat_map (λ i. map (λ k. g (8 * i + k)) (upto 8)) (range_with_len first n) ≡ map g (range_with_len (8 * first) (8 * n))
windows g first zero = refl
windows g first (suc n) =
    let start : 8 * first + 0 ≡ 8 * first = omega arith in
    let next : 8 * (first + 1) ≡ 8 * first + 8 = omega arith in
    let more : 8 + 8 * n ≡ 8 * suc n = omega arith in
    ap (λ l. map (λ k. g (8 * first + k)) (upto 8) ++ l) (windows g (first + 1) n)
    ∙ ap (λ l. l ++ map g (range_with_len (8 * (first + 1)) (8 * n))) (map-shift g (8 * first) 0 8 ∙ ap (λ k. map g (range_with_len k 8)) start)
    ∙ ap (λ k. map g (range_with_len (8 * first) 8) ++ map g (range_with_len k (8 * n))) next
    ∙ sym (map-join g (range_with_len (8 * first) 8) (range_with_len (8 * first + 8) (8 * n)))
    ∙ ap (map g) (sym (range-join (8 * first) 8 (8 * n)))
    ∙ ap (λ k. map g (range_with_len (8 * first) k)) more

-- all places of a list, and some past its end
none : (first n : ℕ) → map (λ k. get_or {A = ℕ} [] k 0) (range_with_len first n) ≡ replicate n 0
none first zero = refl
none first (suc n) = ap (λ l. 0 ∷ l) (none (first + 1) n)

behind : (bit : ℕ) (bits : List ℕ) (first n : ℕ) → map (λ k. get_or (bit ∷ bits) k 0) (range_with_len (first + 1) n) ≡ map (λ k. get_or bits k 0) (range_with_len first n)
behind bit bits first zero = refl
behind bit bits first (suc n) =
    let next : first + 1 ≡ suc first = omega arith in
    ap (λ k. get_or (bit ∷ bits) k 0 ∷ map (λ k. get_or (bit ∷ bits) k 0) (range_with_len (first + 1 + 1) n)) next ∙ ap (λ l. get_or bits first 0 ∷ l) (behind bit bits (first + 1) n)

filled : (bits : List ℕ) (n : ℕ) → length bits ≤ n → map (λ k. get_or bits k 0) (upto n) ≡ bits ++ replicate (n - length bits) 0
filled [] n h =
    let e : n ≡ n - 0 = omega arith in
    none 0 n ∙ ap (λ k. replicate k 0) e
filled (bit ∷ bits) zero h = absurd (omega (arith, h))
filled (bit ∷ bits) (suc n) h =
    let rest : n - length bits ≡ suc n - suc (length bits) = omega arith in
    ap (λ l. bit ∷ l) (behind bit bits 0 n ∙ filled bits n (omega (arith, h))) ∙ ap (λ k. bit ∷ (bits ++ replicate k 0)) rest

-- the bits of each byte are its window
byte_bits : (bits : List ℕ) → AreBits bits → (places : List ℕ) → flat_map (λ i. bits_of 8 (packed_byte bits i)) places ≡ flat_map (window bits) places
unfolding window
byte_bits bits h [] = refl
byte_bits bits h (i ∷ places) =
    ap (λ l. l ++ flat_map (λ i. bits_of 8 (packed_byte bits i)) places) (bits_of-number (window bits i) (window-bits bits i h)) ∙ ap (λ l. window bits i ++ l) (byte_bits bits h places)

pub packed_bits : PackedBits
unfolding window
packed_bits bits h =
    flat_map-map (bits_of 8) (packed_byte bits) (upto (bytes_for (length bits))) ∙ byte_bits bits h (upto (bytes_for (length bits)))
    ∙ windows (λ k. get_or bits k 0) 0 (bytes_for (length bits)) ∙ filled bits (8 * bytes_for (length bits)) (omega arith)

-- a packed byte is a byte
packed_byte-small : (bits : List ℕ) (i : ℕ) → AreBits bits → packed_byte bits i < 2 ^ 8
packed_byte-small bits i h =
    omega (
      arith,
      bit_at bits (8 * i + 0) h,
      bit_at bits (8 * i + 1) h,
      bit_at bits (8 * i + 2) h,
      bit_at bits (8 * i + 3) h,
      bit_at bits (8 * i + 4) h,
      bit_at bits (8 * i + 5) h,
      bit_at bits (8 * i + 6) h,
      bit_at bits (8 * i + 7) h,
    )

pub packed_bytes : PackedBytes
packed_bytes bits h = small (upto (bytes_for (length bits)))
  where
    small : (places : List ℕ) → AreBytes (map (packed_byte bits) places)
    small [] = tt
    small (i ∷ places) = (packed_byte-small bits i h, small places)

-- packed bits have as many bytes as they need
pub length-packed : (bits : List ℕ) → length (packed bits) ≡ bytes_for (length bits)
length-packed bits = length-map-range_with_len (packed_byte bits) 0 (bytes_for (length bits))

-- packed bits spell them, padded to a byte
pub spells_packed : (bits : List ℕ) → AreBits bits → SpellsPadded (packed bits) bits
spells_packed bits h = record { begin = (replicate (missing_bits (length bits)) 0, packed_bits bits h); size = length-packed bits }

-- bits that end at a byte are the bits of their bytes
pub packed_whole : (bits : List ℕ) → AreBits bits → missing_bits (length bits) ≡ 0 → bits_of_bytes (packed bits) ≡ bits
packed_whole bits h whole = packed_bits bits h ∙ ap (λ n. bits ++ replicate n 0) whole ∙ append-nil bits

-- Bytes told by their bits

pub bytes_by_bits : BytesByBits
bytes_by_bits [] [] p q e = refl
bytes_by_bits [] (byte ∷ other) p q e = absurd (omega (arith, ap length e, length-bits_of_bytes (byte ∷ other)))
bytes_by_bits (byte ∷ bytes) [] p q e = absurd (omega (arith, ap length e, length-bits_of_bytes (byte ∷ bytes)))
bytes_by_bits (byte ∷ bytes) (b ∷ other) p q e =
    let cut = append_cut (bits_of 8 byte) (bits_of 8 b) (bits_of_bytes bytes) (bits_of_bytes other) (length-bits_of 8 byte ∙ sym (length-bits_of 8 b)) e in
    ap (λ k. k ∷ bytes) (bits_of_one 8 byte b p.0 q.0 cut.0) ∙ ap (λ l. b ∷ l) (bytes_by_bits bytes other p.1 q.1 cut.1)
