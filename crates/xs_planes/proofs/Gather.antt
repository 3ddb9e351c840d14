-- Columns of nibbles as numbers, and four numbers in one.
use Rattle.std.proofs.Common.{w32, to_z, inl, inr}
use Rattle.std.proofs.Common.{◌≡◌, ℕ, zero, suc, ◌+◌, ◌-◌, ◌*◌, ◌/◌, ◌%◌, ◌^◌, ◌<◌, ◌≤◌, List, [], ◌∷◌, ◌++◌, map, length, get_or, refl, sym, ap, ◌∙◌, arith, append_assoc}
use Rattle.std.specs.Prelude.{bit_and, nat_eq, ℤ, pos, negsuc, ◌-ℤ◌}
use Rattle.std.specs.Simd.Lanes.{number_l, digits_l}
use Rattle.std.proofs.lemmas.Int.{ints, to_z_pos}
use Rattle.std.proofs.Math.Facts.{to_z-neg}
use Rattle.std.specs.Int.Bits.{and_zero_r}
use Rattle.std.proofs.Math.Nat.{pow-suc, zero-div, zero-mul}
use Rattle.std.proofs.Math.Pow.{pow_mono}
use Rattle.std.proofs.lemmas.Bool.{cases_lt, eqb-true}
use Rattle.std.proofs.lemmas.Nat.{and_block, and_mask, pow-add}
use Rattle.std.proofs.lemmas.List.{get_or_append_left, get_or-append_right}
use Rattle.xs_lists.specs.Bits.{bits_of}
use Rattle.xs_lists.specs.Packing.{number_of}
use Rattle.xs_lists.specs.Spelling.{upto}
use Rattle.xs_lists.proofs.Bits.{length-bits_of, bits_split}
use Rattle.xs_spelling.proofs.Flags.{range-list_all}
use Rattle.xs_spelling.specs.Reading.{bit_at}
use Rattle.xs_planes.specs.Numbers.{AreLanes, column_in, lane_at, lanes_of, magnitude_at}
use Rattle.std.proofs.lemmas.List.FromFn.{map-range_with_len_more}
use Rattle.std.proofs.lemmas.List.Sums.{fold-append}

-- Columns

-- a byte is two nibbles more
byte_columns : (q column : ℕ) → column < 4 → 2 * (2 * 0 + q % 256 / 16 / 2 ^ (3 - column) % 2) + q % 256 / 2 ^ (3 - column) % 2 ≡ 2 * (q / 16 / 2 ^ (3 - column) % 2) + q / 2 ^ (3 - column) % 2
byte_columns q zero inside = omega arith
byte_columns q (suc zero) inside = omega arith
byte_columns q (suc (suc zero)) inside = omega arith
byte_columns q (suc (suc (suc zero))) inside = omega arith
byte_columns q (suc (suc (suc (suc n)))) inside = absurd (omega (arith, inside))

column_more : (m q column : ℕ) → column < 4 → column_in (m + 2) q column ≡ 4 * column_in m (q / 256) column + column_in 2 (q % 256) column
column_more m q column inside =
    let two : m + 2 ≡ suc (suc m) = omega arith in
    let down : q / 16 / 16 ≡ q / 256 = omega arith in
    let rest = ap (λ n. column_in m n column) down in
    omega (arith, ap (λ n. column_in n q column) two, rest, byte_columns q column inside)

pub lanes_more : (m q : ℕ) → lanes_of (column_in (m + 2) q) ≡ lanes_of (column_in m (q / 256)) * 4 + lanes_of (column_in 2 (q % 256))
lanes_more m q = omega (arith, column_more m q 0 (omega arith), column_more m q 1 (omega arith), column_more m q 2 (omega arith), column_more m q 3 (omega arith))

pub column_small : (n q column : ℕ) → column_in n q column < 2 ^ n
column_small zero q column = omega arith
column_small (suc n) q column = omega (arith, column_small n (q / 16) column, pow-suc 2 n)

-- a nibble of zeros above changes nothing
pub column_top : (n q column : ℕ) → q < 2 ^ (4 * n) → column_in (n + 1) q column ≡ column_in n q column
column_top zero q column small =
    let none : q ≡ 0 = omega (arith, small) in
    ap (λ q. 2 * 0 + q / 2 ^ (3 - column) % 2) none ∙ ap (λ v. 2 * 0 + v % 2) (zero-div (2 ^ (3 - column)))
column_top (suc n) q column small =
    let next : suc n + 1 ≡ suc (n + 1) = omega arith in
    let size : 4 * suc n ≡ 4 * n + 4 = omega arith in
    let power : 2 ^ (4 * suc n) ≡ 2 ^ (4 * n) * 16 = ap (λ k. 2 ^ k) size ∙ pow-add 2 (4 * n) 4 in
    let below : q / 16 < 2 ^ (4 * n) = omega (arith, small, power) in
    ap (λ k. column_in k q column) next ∙ ap (λ v. 2 * v + q / 2 ^ (3 - column) % 2) (column_top n (q / 16) column below)

pub lanes_top : (n q : ℕ) → q < 2 ^ (4 * n) → lanes_of (column_in (n + 1) q) ≡ lanes_of (column_in n q)
lanes_top n q small = omega (arith, column_top n q 0 small, column_top n q 1 small, column_top n q 2 small, column_top n q 3 small)

-- a bit of a nibble
nibble_bit : (v column : ℕ) → column < 4 → get_or (bits_of 4 v) column 0 ≡ v / 2 ^ (3 - column) % 2
unfolding bits_of
nibble_bit v zero inside = let e : v / 2 / 2 / 2 % 2 ≡ v / 2 ^ 3 % 2 = omega arith in e
nibble_bit v (suc zero) inside = let e : v / 2 / 2 % 2 ≡ v / 2 ^ 2 % 2 = omega arith in e
nibble_bit v (suc (suc zero)) inside = refl
nibble_bit v (suc (suc (suc zero))) inside = let e : v % 2 ≡ v / 2 ^ 0 % 2 = omega arith in e
nibble_bit v (suc (suc (suc (suc n)))) inside = absurd (omega (arith, inside))

pub sign_bit : (v column : ℕ) (rest : List ℕ) → column < 4 → get_or (bits_of 4 v ++ rest) column 0 ≡ column_in 1 v column
sign_bit v column rest inside =
    let low : column < length (bits_of 4 v) = omega (arith, length-bits_of 4 v, inside) in
    let one : v / 2 ^ (3 - column) % 2 ≡ column_in 1 v column = omega arith in
    get_or_append_left (bits_of 4 v) rest 0 column low ∙ nibble_bit v column inside ∙ one

number_more : (g : ℕ → ℕ) (k : ℕ) → number_of (map g (upto (k + 1))) ≡ 2 * number_of (map g (upto k)) + g k
number_more g k = ap number_of (map-range_with_len_more g 0 k k (omega arith)) ∙ fold-append (λ number bit. 2 * number + bit) 0 (map g (upto k)) (g k ∷ [])

-- the magnitudes that nibbles spell are their columns
pub columns_spelled : (n v column : ℕ) (rest : List ℕ) → column < 4 → magnitude_at n (bits_of (4 * n) v ++ rest) column ≡ column_in n v column
columns_spelled zero v column rest inside = refl
columns_spelled (suc n) v column rest inside =
    let size : 4 * suc n ≡ 4 * n + 4 = omega arith in
    let one : suc n ≡ n + 1 = omega arith in
    let behind = bits_of 4 v ++ rest in
    let bits = bits_of (4 * n) (v / 16) ++ behind in
    let cut : bits_of (4 * suc n) v ++ rest ≡ bits = ap (λ k. bits_of k v ++ rest) size ∙ ap (λ l. l ++ rest) (bits_split (4 * n) 4 v) ∙ append_assoc (bits_of (4 * n) (v / 16)) (bits_of 4 v) rest in
    let past : 4 * n ≤ 4 * n + column = omega arith in
    let place : 4 * n + column - 4 * n ≡ column = omega arith in
    let bit : bit_at bits (4 * n + column) ≡ v / 2 ^ (3 - column) % 2 =
    get_or-append_right (bits_of (4 * n) (v / 16)) behind (4 * n) (4 * n + column) 0 (length-bits_of (4 * n) (v / 16)) past ∙ ap (λ k. get_or behind k 0) place
    ∙ get_or_append_left (bits_of 4 v) rest 0 column (omega (arith, length-bits_of 4 v, inside)) ∙ nibble_bit v column inside in
    ap (λ l. magnitude_at (suc n) l column) cut ∙ ap (λ k. magnitude_at k bits column) one
    ∙ omega (arith, number_more (λ plane. bit_at bits (4 * plane + column)) n, columns_spelled n (v / 16) column behind inside, bit)

-- Lanes

-- a table of columns, checked entry by entry
pub in_lanes : (table : List ℕ) (byte : ℕ) → byte < 256 → AreLanes table → get_or table byte 0 ≡ lanes_of (column_in 2 byte)
in_lanes table byte small all =
    eqb-true (get_or table byte 0) (lanes_of (column_in 2 byte)) (range-list_all (λ b. nat_eq (get_or table b 0) (lanes_of (column_in 2 b))) 0 256 all byte (omega arith) (omega (arith, small)))

-- a lane by itself
pub lane_of : (value : ℕ → ℕ) (word c : ℕ) → word ≡ lanes_of value → ((c : ℕ) → c < 4 → value c < 2 ^ 16) → c < 4 → word / 2 ^ (16 * c) % 2 ^ 16 ≡ value c
lane_of value word zero e small inside = omega (arith, e, small 0 (omega arith), small 1 (omega arith), small 2 (omega arith), small 3 (omega arith))
lane_of value word (suc zero) e small inside = omega (arith, e, small 0 (omega arith), small 1 (omega arith), small 2 (omega arith), small 3 (omega arith))
lane_of value word (suc (suc zero)) e small inside = omega (arith, e, small 0 (omega arith), small 1 (omega arith), small 2 (omega arith), small 3 (omega arith))
lane_of value word (suc (suc (suc zero))) e small inside = omega (arith, e, small 0 (omega arith), small 1 (omega arith), small 2 (omega arith), small 3 (omega arith))
lane_of value word (suc (suc (suc (suc n)))) e small inside = absurd (omega (arith, inside))

bit_most : (x p : ℕ) → x < 2 → x * p ≤ p
bit_most zero p h = omega arith
bit_most (suc zero) p h = omega arith
bit_most (suc (suc x)) p h = absurd (omega (arith, h))

-- a mask of all bits or of none
masked : (s v : ℕ) → s < 2 → v < 2 ^ 16 → bit_and v (s * 65535) ≡ s * v
masked zero v h small = and_zero_r v ∙ sym (zero-mul v)
masked (suc zero) v h small = and_mask v 16 ∙ omega (arith, small)
masked (suc (suc s)) v h small = absurd (omega (arith, h))

nested : (f : ℕ → ℕ) → lanes_of f ≡ ((f 3 * 2 ^ 16 + f 2) * 2 ^ 16 + f 1) * 2 ^ 16 + f 0
nested f = omega arith

pub lanes_masked : (value bit : ℕ → ℕ) → ((c : ℕ) → c < 4 → value c < 2 ^ 16) → ((c : ℕ) → bit c < 2) → bit_and (lanes_of value) (lanes_of (λ c. bit c * 65535)) ≡ lanes_of (λ c. bit c * value c)
lanes_masked value bit small two =
    let x : ℕ → ℕ = value in
    let y : ℕ → ℕ = λ c. bit c * 65535 in
    let fits : (c : ℕ) → y c < 2 ^ 16 = λ c. (let h = two c in omega (arith, h)) in
    let each : (c : ℕ) → c < 4 → bit_and (x c) (y c) ≡ bit c * value c = λ c inside. masked (bit c) (value c) (two c) (small c inside) in
    ap (λ v. bit_and v (lanes_of y)) (nested x) ∙ ap (bit_and (((x 3 * 2 ^ 16 + x 2) * 2 ^ 16 + x 1) * 2 ^ 16 + x 0)) (nested y)
    ∙ and_block 16 ((x 3 * 2 ^ 16 + x 2) * 2 ^ 16 + x 1) ((y 3 * 2 ^ 16 + y 2) * 2 ^ 16 + y 1) (x 0) (y 0) (small 0 (omega arith)) (fits 0)
    ∙ ap (λ v. v * 2 ^ 16 + bit_and (x 0) (y 0)) (and_block 16 (x 3 * 2 ^ 16 + x 2) (y 3 * 2 ^ 16 + y 2) (x 1) (y 1) (small 1 (omega arith)) (fits 1)
    ∙ ap (λ v. v * 2 ^ 16 + bit_and (x 1) (y 1)) (and_block 16 (x 3) (y 3) (x 2) (y 2) (small 2 (omega arith)) (fits 2)))
    ∙ omega (arith, each 0 (omega arith), each 1 (omega arith), each 2 (omega arith), each 3 (omega arith))

-- magnitudes less twice those of the negative ones, each 2 ^ 15 above
pub lanes_signed : (value bit : ℕ → ℕ) (word : ℕ) → ((c : ℕ) → c < 4 → value c < 2 ^ 15) → ((c : ℕ) → bit c < 2) → word ≡ lanes_of (λ c. bit c * value c)
    → 9223512776490647552 + lanes_of value - 2 * word ≡ lanes_of (λ c. 2 ^ 15 + value c - 2 * (bit c * value c))
lanes_signed value bit word small two e =
    let most : (c : ℕ) → bit c * value c ≤ value c = λ c. bit_most (bit c) (value c) (two c) in
    omega (arith, e, most 0, most 1, most 2, most 3, small 0 (omega arith), small 1 (omega arith), small 2 (omega arith), small 3 (omega arith))

pub lanes_below : (value : ℕ → ℕ) (word : ℕ) → ((c : ℕ) → c < 4 → value c < 2 ^ 15) → word ≡ lanes_of value → word + lanes_of (λ c. 2 ^ 15) < 2 ^ 64
lanes_below value word small e = omega (arith, e, small 0 (omega arith), small 1 (omega arith), small 2 (omega arith), small 3 (omega arith))

-- the signs of a nibble as a mask
pub sign_mask : (signs : ℕ) → signs < 16 → lanes_of (column_in 2 signs) * 65535 ≡ lanes_of (λ c. column_in 1 signs c * 65535)
sign_mask signs small = omega (arith, lanes_top 1 signs small)

-- planes above those of a number count nothing
column_within : (n more q column : ℕ) → q < 2 ^ (4 * n) → column_in (n + more) q column ≡ column_in n q column
column_within n zero q column small = let none : n + 0 ≡ n = omega arith in ap (λ k. column_in k q column) none
column_within n (suc more) q column small =
    let next : n + suc more ≡ n + more + 1 = omega arith in
    let most : 2 ^ (4 * n) ≤ 2 ^ (4 * (n + more)) = pow_mono {i = 4 * n} {j = 4 * (n + more)} (omega arith) in
    ap (λ k. column_in k q column) next ∙ column_top (n + more) q column (omega (arith, small, most)) ∙ column_within n more q column small

pub lanes_within : (n all q : ℕ) → n ≤ all → q < 2 ^ (4 * n) → lanes_of (column_in all q) ≡ lanes_of (column_in n q)
lanes_within n all q less small =
    let sum : all ≡ n + (all - n) = omega (arith, less) in
    ap (λ k. lanes_of (column_in k q)) sum
    ∙ omega (arith, column_within n (all - n) q 0 small, column_within n (all - n) q 1 small, column_within n (all - n) q 2 small, column_within n (all - n) q 3 small)

pub byte_few : (byte : ℕ) → lanes_of (column_in 2 byte) < 2 ^ 50
byte_few byte = omega (arith, column_small 2 byte 0, column_small 2 byte 1, column_small 2 byte 2, column_small 2 byte 3)

pub eight_few : (q : ℕ) → lanes_of (column_in 8 q) < 2 ^ 56
eight_few q = omega (arith, column_small 8 q 0, column_small 8 q 1, column_small 8 q 2, column_small 8 q 3)

-- eight planes by four bytes
four_bytes : (m q : ℕ) → lanes_of (column_in (m + 8) q) ≡ lanes_of (column_in m (q / 2 ^ 32)) * 256
    + (lanes_of (column_in 2 (q / 2 ^ 24 % 256)) * 64 + lanes_of (column_in 2 (q / 2 ^ 16 % 256)) * 16 + lanes_of (column_in 2 (q / 2 ^ 8 % 256)) * 4 + lanes_of (column_in 2 (q % 256)))
four_bytes m q =
    let size : m + 8 ≡ m + 2 + 2 + 2 + 2 = omega arith in
    let b : q / 256 / 256 ≡ q / 2 ^ 16 = omega arith in
    let c : q / 2 ^ 16 / 256 ≡ q / 2 ^ 24 = omega arith in
    let d : q / 2 ^ 24 / 256 ≡ q / 2 ^ 32 = omega arith in
    let one = lanes_more (m + 2 + 2 + 2) q in
    let two = lanes_more (m + 2 + 2) (q / 256) ∙ ap (λ v. lanes_of (column_in (m + 2 + 2) v) * 4 + lanes_of (column_in 2 (q / 256 % 256))) b in
    let three = lanes_more (m + 2) (q / 2 ^ 16) ∙ ap (λ v. lanes_of (column_in (m + 2) v) * 4 + lanes_of (column_in 2 (q / 2 ^ 16 % 256))) c in
    let four = lanes_more m (q / 2 ^ 24) ∙ ap (λ v. lanes_of (column_in m v) * 4 + lanes_of (column_in 2 (q / 2 ^ 24 % 256))) d in
    ap (λ k. lanes_of (column_in k q)) size ∙ by_four _ _ _ _ _ _ _ _ _ one two three four
  where
    by_four : (a b c d e f g h i : ℕ) → a ≡ b * 4 + f → b ≡ c * 4 + g → c ≡ d * 4 + h → d ≡ e * 4 + i → a ≡ e * 256 + (i * 64 + h * 16 + g * 4 + f)
    by_four a b c d e f g h i p q r s = omega (arith, p, q, r, s)

pub bytes_lanes : (q : ℕ) → q < 2 ^ 32
    → lanes_of (column_in 2 (q / 2 ^ 24)) * 64 + lanes_of (column_in 2 (q / 2 ^ 16 % 256)) * 16 + lanes_of (column_in 2 (q / 2 ^ 8 % 256)) * 4 + lanes_of (column_in 2 (q % 256)) ≡ lanes_of (column_in 8 q)
bytes_lanes q small =
    let top : q / 2 ^ 24 % 256 ≡ q / 2 ^ 24 = omega (arith, small) in
    let first = ap (λ v. lanes_of (column_in 2 v)) top in
    by_top _ _ _ _ _ _ first (four_bytes 0 q)
  where
    by_top : (a b c d e f : ℕ) → a ≡ b → f ≡ 0 * 256 + (a * 64 + c * 16 + d * 4 + e) → b * 64 + c * 16 + d * 4 + e ≡ f
    by_top a b c d e f p r = omega (arith, p, r)

pub sixteen_lanes : (q : ℕ) → lanes_of (column_in 8 (q / 2 ^ 32)) * 256 + lanes_of (column_in 8 (q % 2 ^ 32)) ≡ lanes_of (column_in 16 q)
sixteen_lanes q =
    let low : q % 2 ^ 32 < 2 ^ 32 = omega arith in
    let a : q % 2 ^ 32 / 2 ^ 24 ≡ q / 2 ^ 24 % 256 = omega arith in
    let b : q % 2 ^ 32 / 2 ^ 16 % 256 ≡ q / 2 ^ 16 % 256 = omega arith in
    let c : q % 2 ^ 32 / 2 ^ 8 % 256 ≡ q / 2 ^ 8 % 256 = omega arith in
    let d : q % 2 ^ 32 % 256 ≡ q % 256 = omega arith in
    let e = λ (x y : ℕ) (p : x ≡ y). ap (λ v. lanes_of (column_in 2 v)) p in
    by_bytes _ _ _ _ _ _ _ _ _ _ _ (bytes_lanes (q % 2 ^ 32) low) (e _ _ a) (e _ _ b) (e _ _ c) (e _ _ d) (four_bytes 8 q)
  where
    by_bytes : (x all low a b c d p q r s : ℕ) → a * 64 + b * 16 + c * 4 + d ≡ low → a ≡ p → b ≡ q → c ≡ r → d ≡ s → all ≡ x * 256 + (p * 64 + q * 16 + r * 4 + s) → x * 256 + low ≡ all
    by_bytes x all low a b c d p q r s e f g h i j = omega (arith, e, f, g, h, i, j)

-- a number that is put together of its bytes again
pub all_bytes : (word : ℕ) → word < 2 ^ 64 → number_l 256 (digits_l 256 8 (word + 0)) ≡ word
all_bytes word small = omega (arith, small)

-- a lane as it is read and lowered
pub lane_number : (v : ℕ) → to_z w32 ((v % 65536 + 4294934528) % 4294967296) ≡ pos (v % 65536) -ℤ pos 32768
lane_number v = elim (cases_lt (v % 65536) 32768) [
  | inl less ↦
      let low : (v % 65536 + 4294934528) % 4294967296 ≡ 4294967296 - suc (32767 - v % 65536) = omega (arith, less) in
      let below : 32767 - v % 65536 < 2147483648 = omega arith in
      let down : pos (v % 65536) -ℤ pos 32768 ≡ negsuc (32767 - v % 65536) = omega (arith, ints, less) in
      ap (to_z w32) low ∙ to_z-neg w32 (32767 - v % 65536) below ∙ sym down
  | inr more ↦
      let high : (v % 65536 + 4294934528) % 4294967296 ≡ v % 65536 - 32768 = omega (arith, more) in
      let below : v % 65536 - 32768 < 2147483648 = omega arith in
      let up : pos (v % 65536) -ℤ pos 32768 ≡ pos (v % 65536 - 32768) = omega (arith, ints, more) in
      ap (to_z w32) high ∙ to_z_pos w32 (v % 65536 - 32768) below ∙ sym up
]

abbrev pub lane_number_of : ℕ → ℤ
lane_number_of v = to_z w32 ((v % 65536 + 4294934528) % 4294967296)

pub lanes_number : (word : ℕ) → lane_number_of word ∷ lane_number_of (word / 65536) ∷ lane_number_of (word / 65536 / 65536) ∷ lane_number_of (word / 65536 / 65536 / 65536) ∷ [] ≡ lane_at word 0 ∷ lane_at word 1 ∷ lane_at word 2 ∷ lane_at word 3 ∷ []
lanes_number word =
    let a : word / 65536 / 65536 ≡ word / 2 ^ 32 = omega arith in
    let b : word / 65536 / 65536 / 65536 ≡ word / 2 ^ 48 = omega arith in
    let one : word ≡ word / 2 ^ 0 = omega arith in
    four_alike _ _ _ _ _ _ _ _ (ap lane_number_of one ∙ lane_number (word / 2 ^ 0)) (lane_number (word / 65536)) (ap lane_number_of a ∙ lane_number (word / 2 ^ 32)) (ap lane_number_of b ∙ lane_number (word / 2 ^ 48))
  where
    four_alike : (a b c d e f g h : ℤ) → a ≡ e → b ≡ f → c ≡ g → d ≡ h → a ∷ b ∷ c ∷ d ∷ [] ≡ e ∷ f ∷ g ∷ h ∷ []
    four_alike a b c d e f g h p q r s = cc (p, q, r, s)
