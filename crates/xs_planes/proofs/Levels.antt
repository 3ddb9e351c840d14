-- The numbers of a code group, by a number of all its bits.
use Rattle.std.proofs.Common.{◌≡◌, ℕ, zero, suc, ◌+◌, ◌-◌, ◌*◌, ◌/◌, ◌%◌, ◌^◌, ◌<◌, ◌≤◌, List, ◌++◌, map, drop, sym, ap, ◌∙◌, arith, append_assoc}
use Rattle.std.specs.Prelude.{Bool, true, false, nat_eq, if◌then◌else◌, pos, ◌-ℤ◌, unsigned_abs}
use Rattle.std.proofs.Math.Nat.{div-eq_of_lt}
use Rattle.std.proofs.Math.Pow.{pow_mono}
use Rattle.std.proofs.lemmas.Int.{ints}
use Rattle.std.proofs.lemmas.Nat.{pow_pos, shr_below}
use Rattle.std.proofs.lemmas.List.{get_or-drop, drop_at}
use Rattle.xs_lists.specs.Bits.{bits_of}
use Rattle.xs_lists.specs.Packing.{number_of}
use Rattle.xs_lists.specs.Spelling.{upto}
use Rattle.xs_lists.proofs.Bits.{length-bits_of, bits_split, bits_mod}
use Rattle.xs_spelling.specs.Reading.{bit_at, signed}
use Rattle.xs_planes.specs.Numbers.{column_in, group_number, lane_at, lanes_of, magnitude_at}
use Rattle.xs_planes.proofs.Columns.{signed_size}
use Rattle.xs_planes.proofs.Gather.{column_small, columns_spelled, lane_of, sign_bit}

-- magnitudes behind the signs
magnitude_behind : (planes : ℕ) (bits rest : List ℕ) (c : ℕ) → rest ≡ drop 4 bits → magnitude_at planes rest c ≡ number_of (map (λ plane. bit_at bits (4 + 4 * plane + c)) (upto planes))
magnitude_behind planes bits rest c behind = ap (λ l. magnitude_at planes l c) behind ∙ ap (λ g. number_of (map g (upto planes))) (λ i plane. same plane i)
  where
    same : (plane : ℕ) → bit_at (drop 4 bits) (4 * plane + c) ≡ bit_at bits (4 + 4 * plane + c)
    same plane = let at : 4 + (4 * plane + c) ≡ 4 + 4 * plane + c = omega arith in get_or-drop 4 bits (4 * plane + c) 0 ∙ ap (bit_at bits) at

-- the numbers of a code group are the columns of its nibbles, and the first nibble has their signs
pub group_spelled_by : (apart : Bool) (planes v c : ℕ) (bits rest : List ℕ) → v < 2 ^ ((if apart then 0 else 4) + 4 * planes) → bits ≡ bits_of ((if apart then 0 else 4) + 4 * planes) v ++ rest → c < 4
    → signed (nat_eq (column_in 1 (v / 2 ^ (4 * planes)) c) 1) (column_in planes (v % 2 ^ (4 * planes)) c) ≡ group_number apart planes bits c
group_spelled_by true planes v c bits rest small e inside =
    let none : 0 + 4 * planes ≡ 4 * planes = omega arith in
    let n : ℕ = 4 * planes in
    let below : v < 2 ^ n = omega (arith, small, ap (λ k. 2 ^ k) none) in
    let signs : v / 2 ^ n ≡ 0 = div-eq_of_lt below in
    let clear : nat_eq (column_in 1 (v / 2 ^ n) c) 1 ≡ false = ap (λ s. nat_eq (column_in 1 s c) 1) signs ∙ no_sign c in
    ap (λ b. signed b (column_in planes (v % 2 ^ n) c)) clear
    ∙ ap (λ m. pos m) (sym (ap (λ l. magnitude_at planes l c) (e ∙ ap (λ k. bits_of k v ++ rest) none ∙ ap (λ l. l ++ rest) (sym (bits_mod n v))) ∙ columns_spelled planes (v % 2 ^ n) c rest inside))
  where
    no_sign : (c : ℕ) → nat_eq (column_in 1 0 c) 1 ≡ false
    no_sign c = let none : 0 / 2 ^ (3 - c) ≡ 0 = div-eq_of_lt (omega (arith, pow_pos (3 - c))) in ap (λ v. nat_eq (2 * 0 + v % 2) 1) none
group_spelled_by false planes v c bits rest small e inside =
    let n : ℕ = 4 * planes in
    let behind = bits_of n v ++ rest in
    let cut : bits ≡ bits_of 4 (v / 2 ^ n) ++ behind = e ∙ ap (λ l. l ++ rest) (bits_split 4 n v) ∙ append_assoc (bits_of 4 (v / 2 ^ n)) (bits_of n v) rest in
    let after : behind ≡ drop 4 bits = sym (ap (drop 4) cut ∙ drop_at (bits_of 4 (v / 2 ^ n)) behind 4 (length-bits_of 4 (v / 2 ^ n))) in
    let sign : bit_at bits c ≡ column_in 1 (v / 2 ^ n) c = ap (λ l. bit_at l c) cut ∙ sign_bit (v / 2 ^ n) c behind inside in
    let size : magnitude_at planes behind c ≡ column_in planes (v % 2 ^ n) c = ap (λ l. magnitude_at planes (l ++ rest) c) (sym (bits_mod n v)) ∙ columns_spelled planes (v % 2 ^ n) c rest inside in
    ap (λ b. signed (nat_eq b 1) (column_in planes (v % 2 ^ n) c)) (sym sign)
    ∙ ap (λ m. signed (nat_eq (bit_at bits c) 1) m) (sym size ∙ magnitude_behind planes bits behind c after)

-- a number that stands 2 ^ 15 above its own
lane_signed : (s m : ℕ) → s < 2 → m < 2 ^ 15 → pos (2 ^ 15 + m - 2 * (s * m)) -ℤ pos (2 ^ 15) ≡ signed (nat_eq s 1) m
lane_signed zero m two small = let none : 0 * m ≡ 0 = omega arith in ap (λ v. pos (2 ^ 15 + m - 2 * v) -ℤ pos (2 ^ 15)) none ∙ omega (arith, ints)
lane_signed (suc zero) m two small = let one : 1 * m ≡ m = omega arith in ap (λ v. pos (2 ^ 15 + m - 2 * v) -ℤ pos (2 ^ 15)) one ∙ omega (arith, ints, small)
lane_signed (suc (suc s)) m two small = absurd (omega (arith, two))

-- the word of a code group
pub group_read : (apart : Bool) (planes v word c : ℕ) (bits rest : List ℕ) → planes ≤ 15 → v < 2 ^ ((if apart then 0 else 4) + 4 * planes) → bits ≡ bits_of ((if apart then 0 else 4) + 4 * planes) v ++ rest
    → word ≡ lanes_of (λ c. 2 ^ 15 + column_in planes (v % 2 ^ (4 * planes)) c - 2 * (column_in 1 (v / 2 ^ (4 * planes)) c * column_in planes (v % 2 ^ (4 * planes)) c)) → c < 4
    → lane_at word c ≡ group_number apart planes bits c
group_read apart planes v word c bits rest few small e is inside =
    let s : ℕ → ℕ = column_in 1 (v / 2 ^ (4 * planes)) in
    let m : ℕ → ℕ = column_in planes (v % 2 ^ (4 * planes)) in
    let most = pow_mono {i = planes} {j = 15} few in
    let two : (c : ℕ) → s c < 2 = λ c. column_small 1 (v / 2 ^ (4 * planes)) c in
    let fits : (c : ℕ) → m c < 2 ^ 15 = λ c. (let h = column_small planes (v % 2 ^ (4 * planes)) c in omega (arith, h, most)) in
    let room : (c : ℕ) → c < 4 → 2 ^ 15 + m c - 2 * (s c * m c) < 2 ^ 16 = λ c inside. (let h = fits c in omega (arith, h)) in
    ap (λ n. pos n -ℤ pos (2 ^ 15)) (lane_of (λ c. 2 ^ 15 + m c - 2 * (s c * m c)) word c is room inside) ∙ lane_signed (s c) (m c) (two c) (fits c)
    ∙ group_spelled_by apart planes v c bits rest small e inside

-- and they have room in their planes
pub group_small : (apart : Bool) (planes v c : ℕ) (bits rest : List ℕ) → v < 2 ^ ((if apart then 0 else 4) + 4 * planes) → bits ≡ bits_of ((if apart then 0 else 4) + 4 * planes) v ++ rest → c < 4
    → unsigned_abs (group_number apart planes bits c) < 2 ^ planes
group_small apart planes v c bits rest small e inside =
    let m = column_in planes (v % 2 ^ (4 * planes)) c in
    let size = ap unsigned_abs (sym (group_spelled_by apart planes v c bits rest small e inside)) ∙ signed_size (nat_eq (column_in 1 (v / 2 ^ (4 * planes)) c) 1) m in
    omega (arith, size, column_small planes (v % 2 ^ (4 * planes)) c)

-- no more signs than four
pub sign_nibble : (apart : Bool) (planes v : ℕ) → v < 2 ^ ((if apart then 0 else 4) + 4 * planes) → v / 2 ^ (4 * planes) < 16
sign_nibble true planes v small =
    let more : 2 ^ (0 + 4 * planes) ≤ 2 ^ (4 + 4 * planes) = pow_mono {i = 0 + 4 * planes} {j = 4 + 4 * planes} (omega arith) in
    shr_below v 4 (4 * planes) (omega (arith, small, more))
sign_nibble false planes v small = shr_below v 4 (4 * planes) small

-- the magnitudes have room in their lanes
pub columns_below : (planes v c : ℕ) → planes ≤ 15 → column_in planes v c < 2 ^ 15
columns_below planes v c few = let most = pow_mono {i = planes} {j = 15} few in omega (arith, most, column_small planes v c)
