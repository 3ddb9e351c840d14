-- Planes of four numbers, each a nibble of one.
use Rattle.std.proofs.Common.{◌≡◌, ℕ, zero, suc, ◌+◌, ◌-◌, ◌*◌, ◌/◌, ◌%◌, ◌^◌, ◌<◌, ◌≤◌, List, [], ◌∷◌, ◌++◌, map, length, get_or, refl, sym, ap, subst, ◌∙◌, arith}
use Rattle.std.specs.Prelude.{Bool, true, false, nat_eq, ℤ, pos, ◌-ℤ◌, unsigned_abs, All}
use Rattle.std.specs.Int.{is_negative}
use Rattle.std.proofs.Math.Nat.{div-eq_of_lt}
use Rattle.std.proofs.Math.Pow.{pow_mono}
use Rattle.std.proofs.lemmas.Bool.{eqb-true}
use Rattle.xs_spelling.proofs.Flags.{range-list_all}
use Rattle.std.specs.List.{flat_map, range_with_len}
use Rattle.std.proofs.lemmas.Nat.{pow-add, shr_high, mod_low}
use Rattle.xs_lists.specs.Bits.{bits_of, bit_of}
use Rattle.xs_bits.proofs.Laws.{join_below}
use Rattle.xs_lists.proofs.Bits.{bits_cat}
use Rattle.xs_planes.specs.Numbers.{AreCodes, AreParts, code_of, level_of, bit_planes_of, spread_to}
use Rattle.xs_planes.proofs.Groups.{joined_bits}

-- the highest plane comes first

one_lower : (numbers : List ℤ) (planes first n : ℕ) → flat_map (λ i. level_of numbers (planes + 1 - (i + 1))) (range_with_len (first + 1) n) ≡ flat_map (λ i. level_of numbers (planes - (i + 1))) (range_with_len first n)
one_lower numbers planes first zero = refl
one_lower numbers planes first (suc n) =
    let level : planes + 1 - (first + 1 + 1) ≡ planes - (first + 1) = omega arith in
    ap (λ k. level_of numbers k ++ flat_map (λ i. level_of numbers (planes + 1 - (i + 1))) (range_with_len (first + 1 + 1) n)) level
    ∙ ap (λ l. level_of numbers (planes - (first + 1)) ++ l) (one_lower numbers planes (first + 1) n)

highest_first : (numbers : List ℤ) (planes : ℕ) → bit_planes_of numbers (suc planes) ≡ level_of numbers planes ++ bit_planes_of numbers planes
highest_first numbers planes =
    let more : suc planes ≡ planes + 1 = omega arith in
    let top : planes + 1 - (0 + 1) ≡ planes = omega arith in
    ap (λ n. level_of numbers (n - (0 + 1)) ++ flat_map (λ i. level_of numbers (n - (i + 1))) (range_with_len (0 + 1) planes)) more
    ∙ ap (λ k. level_of numbers k ++ flat_map (λ i. level_of numbers (planes + 1 - (i + 1))) (range_with_len (0 + 1) planes)) top
    ∙ ap (λ l. level_of numbers planes ++ l) (one_lower numbers planes 0 planes)

four_up : (n : ℕ) → 2 ^ (4 * suc n) ≡ 16 * 2 ^ (4 * n)
four_up n = let e : 4 * suc n ≡ 4 + 4 * n = omega arith in ap (λ k. 2 ^ k) e ∙ pow-add 2 4 (4 * n)

bit_most : (x p : ℕ) → x < 2 → x * p ≤ p
bit_most zero p h = omega arith
bit_most (suc zero) p h = omega arith
bit_most (suc (suc x)) p h = absurd (omega (arith, h))

pub spread_small : (n number : ℕ) → spread_to n number * 15 < 2 ^ (4 * n)
spread_small zero number = omega arith
spread_small (suc n) number =
    let bit : number / 2 ^ n % 2 < 2 = omega arith in
    omega (arith, four_up n, spread_small n number, bit_most (number / 2 ^ n % 2) (2 ^ (4 * n)) bit)

pub spread_bits : (a b c d : ℤ) (planes : ℕ)
    → bits_of (4 * planes) (spread_to planes (unsigned_abs a) * 8 + spread_to planes (unsigned_abs b) * 4 + spread_to planes (unsigned_abs c) * 2 + spread_to planes (unsigned_abs d)) ≡ bit_planes_of (a ∷ b ∷ c ∷ d ∷ []) planes
unfolding bits_of
spread_bits a b c d zero = refl
spread_bits a b c d (suc n) =
    let p : ℕ = 2 ^ (4 * n) in
    let x : ℕ = unsigned_abs a / 2 ^ n % 2 in
    let y : ℕ = unsigned_abs b / 2 ^ n % 2 in
    let z : ℕ = unsigned_abs c / 2 ^ n % 2 in
    let w : ℕ = unsigned_abs d / 2 ^ n % 2 in
    let rest : ℕ = spread_to n (unsigned_abs a) * 8 + spread_to n (unsigned_abs b) * 4 + spread_to n (unsigned_abs c) * 2 + spread_to n (unsigned_abs d) in
    let size : 4 * suc n ≡ 4 + 4 * n = omega arith in
    let small : rest < 2 ^ (4 * n) = omega (arith, spread_small n (unsigned_abs a), spread_small n (unsigned_abs b), spread_small n (unsigned_abs c), spread_small n (unsigned_abs d)) in
    let joined : (x * p + spread_to n (unsigned_abs a)) * 8 + (y * p + spread_to n (unsigned_abs b)) * 4 + (z * p + spread_to n (unsigned_abs c)) * 2 + (w * p + spread_to n (unsigned_abs d)) ≡ (x * 8 + y * 4 + z * 2 + w) * p + rest = grind arith in
    ap (λ v. bits_of (4 * suc n) v) joined ∙ ap (λ k. bits_of k ((x * 8 + y * 4 + z * 2 + w) * p + rest)) size ∙ bits_cat 4 (4 * n) (x * 8 + y * 4 + z * 2 + w) rest small
    ∙ ap (λ l. l ++ bits_of (4 * n) rest) (joined_bits x y z w (omega arith) (omega arith) (omega arith) (omega arith))
    ∙ ap (λ l. level_of (a ∷ b ∷ c ∷ d ∷ []) n ++ l) (spread_bits a b c d n) ∙ sym (highest_first (a ∷ b ∷ c ∷ d ∷ []) n)

-- more planes than a number has are clear
pub spread_fits : (n more m : ℕ) → m < 2 ^ n → spread_to (n + more) m ≡ spread_to n m
spread_fits n zero m small = let none : n + 0 ≡ n = omega arith in ap (λ k. spread_to k m) none
spread_fits n (suc q) m small =
    let next : n + suc q ≡ suc (n + q) = omega arith in
    let most : 2 ^ n ≤ 2 ^ (n + q) = pow_mono {i = n} {j = n + q} (omega arith) in
    let none : m / 2 ^ (n + q) ≡ 0 = div-eq_of_lt (omega (arith, small, most)) in
    let rest : 0 % 2 * 2 ^ (4 * (n + q)) + spread_to (n + q) m ≡ spread_to (n + q) m = omega arith in
    ap (λ k. spread_to k m) next ∙ ap (λ x. x % 2 * 2 ^ (4 * (n + q)) + spread_to (n + q) m) none ∙ rest ∙ spread_fits n q m small

bit_below : (test : Bool) → bit_of test < 2
bit_below true = omega arith
bit_below false = omega arith

-- the signs and planes that stand in four codes laid over one another
pub parts_of : (numbers : List ℤ) (planes more word : ℕ) → length numbers ≡ 4 → All (λ z. unsigned_abs z < 2 ^ planes) numbers
    → word ≡ code_of (planes + more) (get_or numbers 0 (pos 0)) * 8 + code_of (planes + more) (get_or numbers 1 (pos 0)) * 4 + code_of (planes + more) (get_or numbers 2 (pos 0)) * 2 + code_of (planes + more) (get_or numbers 3 (pos 0))
    → AreParts numbers planes (word / 2 ^ (4 * (planes + more))) (word % 2 ^ (4 * (planes + more)))
parts_of [] n more word size small e = absurd (omega (arith, size))
parts_of (a ∷ []) n more word size small e = absurd (omega (arith, size))
parts_of (a ∷ b ∷ []) n more word size small e = absurd (omega (arith, size))
parts_of (a ∷ b ∷ c ∷ []) n more word size small e = absurd (omega (arith, size))
parts_of (a ∷ b ∷ c ∷ d ∷ x ∷ xs) n more word size small e = absurd (omega (arith, size))
parts_of (a ∷ b ∷ c ∷ d ∷ []) n more word size small e =
    let p : ℕ = 2 ^ (4 * (n + more)) in
    let f : ℤ → ℕ = λ z. spread_to n (unsigned_abs z) in
    let s : ℤ → ℕ = λ z. bit_of (is_negative z) in
    let low : ℕ = f a * 8 + f b * 4 + f c * 2 + f d in
    let signs : ℕ = s a * 8 + s b * 4 + s c * 2 + s d in
    let code = λ (z : ℤ) (h : unsigned_abs z < 2 ^ n). ap (λ k. s z * p + k) (spread_fits n more (unsigned_abs z) h) in
    let whole : word ≡ (s a * p + f a) * 8 + (s b * p + f b) * 4 + (s c * p + f c) * 2 + (s d * p + f d) =
    omega (arith, e, code a (small 0 (pos 0) (omega arith)), code b (small 1 (pos 0) (omega arith)), code c (small 2 (pos 0) (omega arith)), code d (small 3 (pos 0) (omega arith))) in
    let joined : (s a * p + f a) * 8 + (s b * p + f b) * 4 + (s c * p + f c) * 2 + (s d * p + f d) ≡ signs * p + low = grind arith in
    let few : low < 2 ^ (4 * n) = omega (arith, spread_small n (unsigned_abs a), spread_small n (unsigned_abs b), spread_small n (unsigned_abs c), spread_small n (unsigned_abs d)) in
    let most : 2 ^ (4 * n) ≤ 2 ^ (4 * (n + more)) = pow_mono {i = 4 * n} {j = 4 * (n + more)} (omega arith) in
    let below : low < 2 ^ (4 * (n + more)) = omega (arith, few, most) in
    let high : word / p ≡ signs = ap (λ v. v / p) (whole ∙ joined) ∙ shr_high signs (4 * (n + more)) low below in
    let rest : word % p ≡ low = ap (λ v. v % p) (whole ∙ joined) ∙ mod_low signs (4 * (n + more)) low below in
    record {
      signed = ap (bits_of 4) high ∙ joined_bits (s a) (s b) (s c) (s d) (bit_below (is_negative a)) (bit_below (is_negative b)) (bit_below (is_negative c)) (bit_below (is_negative d));
      nibble = omega (arith, high, bit_below (is_negative a), bit_below (is_negative b), bit_below (is_negative c), bit_below (is_negative d));
      spelled = ap (bits_of (4 * n)) rest ∙ spread_bits a b c d n;
      small = omega (arith, rest, few);
    }

pub parts_within : (numbers : List ℤ) (planes all word : ℕ) → length numbers ≡ 4 → planes ≤ all → All (λ z. unsigned_abs z < 2 ^ planes) numbers
    → word ≡ code_of all (get_or numbers 0 (pos 0)) * 8 + code_of all (get_or numbers 1 (pos 0)) * 4 + code_of all (get_or numbers 2 (pos 0)) * 2 + code_of all (get_or numbers 3 (pos 0))
    → AreParts numbers planes (word / 2 ^ (4 * all)) (word % 2 ^ (4 * all))
parts_within numbers planes all word size less small e =
    let sum : planes + (all - planes) ≡ all = omega (arith, less) in
    subst (λ k. AreParts numbers planes (word / 2 ^ (4 * k)) (word % 2 ^ (4 * k))) sum
    (parts_of numbers planes (all - planes) word size small
    (subst (λ k. word ≡ code_of k (get_or numbers 0 (pos 0)) * 8 + code_of k (get_or numbers 1 (pos 0)) * 4 + code_of k (get_or numbers 2 (pos 0)) * 2 + code_of k (get_or numbers 3 (pos 0))) (sym sum) e))

-- and the number that has both
pub parts_joined : (numbers : List ℤ) (planes signs low number : ℕ) → AreParts numbers planes signs low → number ≡ signs * 2 ^ (4 * planes) + low
    → (number < 2 ^ (4 * planes + 4)) × (bits_of (4 * planes + 4) number ≡ map (λ z. bit_of (is_negative z)) numbers ++ bit_planes_of numbers planes)
parts_joined numbers planes signs low number are e =
    let size : 4 + 4 * planes ≡ 4 * planes + 4 = omega arith in
    let room : number < 2 ^ (4 + 4 * planes) = rw (e) (join_below signs low 4 (4 * planes) are.nibble are.small) in (
      subst (λ k. number < 2 ^ k) size room,
      ap (λ k. bits_of k number) (sym size) ∙ ap (bits_of (4 + 4 * planes)) e ∙ bits_cat 4 (4 * planes) signs low are.small
          ∙ ap (λ l. l ++ bits_of (4 * planes) low) are.signed ∙ ap (λ l. map (λ z. bit_of (is_negative z)) numbers ++ l) are.spelled,
    )

-- numbers of some planes have as many of more
pub all_more : (numbers : List ℤ) (n m : ℕ) → n ≤ m → All (λ z. unsigned_abs z < 2 ^ n) numbers → All (λ z. unsigned_abs z < 2 ^ m) numbers
all_more numbers n m less small i d inside = let most = pow_mono {i = n} {j = m} less in omega (arith, small i d inside, most)

-- by bytes

byte_low : (m : ℕ) → spread_to 8 (m % 256) ≡ spread_to 8 m
byte_low m =
    let a : m % 256 / 128 % 2 ≡ m / 128 % 2 = omega arith in
    let b : m % 256 / 64 % 2 ≡ m / 64 % 2 = omega arith in
    let c : m % 256 / 32 % 2 ≡ m / 32 % 2 = omega arith in
    let d : m % 256 / 16 % 2 ≡ m / 16 % 2 = omega arith in
    let e : m % 256 / 8 % 2 ≡ m / 8 % 2 = omega arith in
    let f : m % 256 / 4 % 2 ≡ m / 4 % 2 = omega arith in
    let g : m % 256 / 2 % 2 ≡ m / 2 % 2 = omega arith in
    let h : m % 256 / 1 % 2 ≡ m / 1 % 2 = omega arith in
    sum_of (m % 256) m a b c d e f g h
  where
    sum_of : (x m : ℕ) → x / 128 % 2 ≡ m / 128 % 2 → x / 64 % 2 ≡ m / 64 % 2 → x / 32 % 2 ≡ m / 32 % 2 → x / 16 % 2 ≡ m / 16 % 2 → x / 8 % 2 ≡ m / 8 % 2 → x / 4 % 2 ≡ m / 4 % 2 → x / 2 % 2 ≡ m / 2 % 2 → x / 1 % 2 ≡ m / 1 % 2
        → spread_to 8 x ≡ spread_to 8 m
    sum_of x m a b c d e f g h = cc (a, b, c, d, e, f, g, h)

bytes_both : (m : ℕ) → spread_to 8 (m / 256) * 2 ^ 32 + spread_to 8 (m % 256) ≡ spread_to 16 m
bytes_both m =
    let a : m / 256 / 128 % 2 ≡ m / 32768 % 2 = omega arith in
    let b : m / 256 / 64 % 2 ≡ m / 16384 % 2 = omega arith in
    let c : m / 256 / 32 % 2 ≡ m / 8192 % 2 = omega arith in
    let d : m / 256 / 16 % 2 ≡ m / 4096 % 2 = omega arith in
    let e : m / 256 / 8 % 2 ≡ m / 2048 % 2 = omega arith in
    let f : m / 256 / 4 % 2 ≡ m / 1024 % 2 = omega arith in
    let g : m / 256 / 2 % 2 ≡ m / 512 % 2 = omega arith in
    let h : m / 256 / 1 % 2 ≡ m / 256 % 2 = omega arith in
    let low : spread_to 8 (m % 256) ≡ spread_to 8 m = byte_low m in
    omega (arith, low, a, b, c, d, e, f, g, h)

-- a bit above a magnitude is none of its planes
sign_above : (m : ℕ) → spread_to 15 (1 * 2 ^ 15 + m) ≡ spread_to 15 m
sign_above m =
    let a : (1 * 2 ^ 15 + m) / 16384 % 2 ≡ m / 16384 % 2 = omega arith in
    let b : (1 * 2 ^ 15 + m) / 8192 % 2 ≡ m / 8192 % 2 = omega arith in
    let c : (1 * 2 ^ 15 + m) / 4096 % 2 ≡ m / 4096 % 2 = omega arith in
    let d : (1 * 2 ^ 15 + m) / 2048 % 2 ≡ m / 2048 % 2 = omega arith in
    let e : (1 * 2 ^ 15 + m) / 1024 % 2 ≡ m / 1024 % 2 = omega arith in
    let f : (1 * 2 ^ 15 + m) / 512 % 2 ≡ m / 512 % 2 = omega arith in
    let g : (1 * 2 ^ 15 + m) / 256 % 2 ≡ m / 256 % 2 = omega arith in
    let low : spread_to 8 ((1 * 2 ^ 15 + m) % 256) ≡ spread_to 8 (m % 256) = ap (spread_to 8) (omega arith) in
    omega (arith, byte_low (1 * 2 ^ 15 + m), byte_low m, low, a, b, c, d, e, f, g)

pub code_by_bytes : (z : ℤ) (v : ℕ) → unsigned_abs z < 2 ^ 15 → v ≡ bit_of (is_negative z) * 2 ^ 15 + unsigned_abs z → spread_to 8 (v / 256) * 2 ^ 32 + spread_to 8 (v % 256) ≡ code_of 15 z
code_by_bytes z v small e = bytes_both v ∙ ap (spread_to 16) e ∙ by_sign (is_negative z)
  where
    m : ℕ
    m = unsigned_abs z

    by_sign : (negative : Bool) → spread_to 16 (bit_of negative * 2 ^ 15 + m) ≡ bit_of negative * 2 ^ 60 + spread_to 15 m
    by_sign true = let top : (1 * 2 ^ 15 + m) / 32768 % 2 ≡ 1 = omega (arith, small) in omega (arith, top, sign_above m)
    by_sign false =
        let none : 0 * 2 ^ 15 + m ≡ m = omega arith in
        let top : m / 32768 % 2 ≡ 0 = omega (arith, small) in
        ap (spread_to 16) none ∙ omega (arith, top)

-- a table of codes, checked entry by entry
pub in_codes : (table : List ℕ) (index : ℕ) → index < 256 → AreCodes table → get_or table index 0 ≡ code_of 7 (pos index -ℤ pos 128)
in_codes table index small all =
    eqb-true (get_or table index 0) (code_of 7 (pos index -ℤ pos 128)) (range-list_all (λ i. nat_eq (get_or table i 0) (code_of 7 (pos i -ℤ pos 128))) 0 256 all.numbers index (omega arith) (omega (arith, small)))

pub in_bytes : (table : List ℕ) (byte : ℕ) → byte < 256 → AreCodes table → get_or table (byte + 128) 0 ≡ spread_to 8 byte
in_bytes table byte small all =
    eqb-true (get_or table (byte + 128) 0) (spread_to 8 byte) (range-list_all (λ b. nat_eq (get_or table (b + 128) 0) (spread_to 8 b)) 0 256 all.bytes byte (omega arith) (omega (arith, small)))

pub code_few : (z : ℤ) → code_of 7 z * 15 < 2 ^ 33
code_few z = omega (arith, spread_small 7 (unsigned_abs z), bit_below (is_negative z))

pub code_long : (z : ℤ) → code_of 15 z * 15 < 2 ^ 64
code_long z = omega (arith, spread_small 15 (unsigned_abs z), bit_below (is_negative z))
