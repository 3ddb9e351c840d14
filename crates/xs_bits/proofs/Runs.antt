-- Laws of ones that stand in a row.
use Rattle.std.proofs.Common.{◌≡◌, ℕ, zero, suc, ◌+◌, ◌-◌, ◌*◌, ◌/◌, ◌%◌, ◌^◌, ◌<◌, ◌≤◌, List, ◌∷◌, ◌++◌, length, replicate, take, drop, get_or, sym, ap, ◌∙◌, arith, append-nil, inl, inr}
use Rattle.std.proofs.Math.Nat.{add-mul, pow-suc}
use Rattle.std.proofs.Math.Pow.{pow_mono}
use Rattle.std.proofs.lemmas.Bool.{cases_lt}
use Rattle.std.proofs.lemmas.Nat.{pow_pos, pow-add, shr_high, mod_low}
use Rattle.std.proofs.lemmas.List.{take-append-drop, drop-drop, drop_more, drop_all, length-take-le, length-drop, length-replicate, get_or-take, get_or-drop, get_or-replicate, get_or_append_left, get_or-append_right, get_or_past, ext_get_or}
use Rattle.xs_lists.specs.Bits.{bits_of}
use Rattle.xs_lists.proofs.Bits.{length-bits_of, bits_split, bits_mod, bits_cat}
use Rattle.xs_bits.proofs.Laws.{bits_of_zero, bits_of_ones}

-- a number that is so close to the highest of n bits begins with ones
high_ones : (n m run word : ℕ) → run + m ≡ n → word < 2 ^ n → 2 ^ n - 1 - word < 2 ^ m → (low : ℕ) × (word ≡ (2 ^ run - 1) * 2 ^ m + low) × (low + (2 ^ n - 1 - word) + 1 ≡ 2 ^ m)
high_ones n m run word sum below close =
    let whole : 2 ^ n ≡ 2 ^ run * 2 ^ m = ap (λ k. 2 ^ k) (sym sum) ∙ pow-add 2 run m in
    let one : 2 ^ run ≡ 2 ^ run - 1 + 1 = omega (arith, pow_pos run) in
    let split : 2 ^ run * 2 ^ m ≡ (2 ^ run - 1) * 2 ^ m + 1 * 2 ^ m = ap (λ k. k * 2 ^ m) one ∙ add-mul (2 ^ run - 1) 1 (2 ^ m) in
    (word + 2 ^ m - 2 ^ n, omega (arith, whole, split, below, close), omega (arith, whole, split, below, close))

high_bits : (n m run word : ℕ) → run + m ≡ n → word < 2 ^ n → 2 ^ n - 1 - word < 2 ^ m → bits_of n word ≡ replicate run 1 ++ bits_of m word
high_bits n m run word sum below close =
    let high = high_ones n m run word sum below close in
    let low : high.0 < 2 ^ m = omega (arith, high.2) in
    let front : word / 2 ^ m ≡ 2 ^ run - 1 = ap (λ v. v / 2 ^ m) high.1 ∙ shr_high (2 ^ run - 1) m high.0 low in
    ap (λ j. bits_of j word) (sym sum) ∙ bits_split run m word ∙ ap (λ l. l ++ bits_of m word) (ap (bits_of run) front ∙ bits_of_ones run)

-- the ones that a number of n bits begins with
pub run_ones : (n m run word : ℕ) → run + m ≡ n → word < 2 ^ n → 2 ^ n - 1 - word < 2 ^ m → (k : ℕ) → k < run → get_or (bits_of n word) k 0 ≡ 1
run_ones n m run word sum below close k inside =
    let short : k < length (replicate {A = ℕ} run 1) = omega (arith, length-replicate {A = ℕ} run 1, inside) in
    ap (λ l. get_or l k 0) (high_bits n m run word sum below close) ∙ get_or_append_left (replicate run 1) (bits_of m word) 0 k short ∙ get_or-replicate run k 1 0 inside

-- the first bit of a number that does not need it
first_zero : (m low : ℕ) → low < 2 ^ m → get_or (bits_of (1 + m) low) 0 0 ≡ 0
first_zero m low below =
    let same : low ≡ 0 * 2 ^ m + low = omega arith in
    let none : low / 2 ^ m ≡ 0 = ap (λ v. v / 2 ^ m) same ∙ shr_high 0 m low below in
    ap (λ l. get_or l 0 0) (bits_split 1 m low ∙ ap (λ l. l ++ bits_of m low) (ap (bits_of 1) none ∙ bits_of_zero 1))

-- and the zero after them
pub run_zero : (n m run word : ℕ) → run + m ≡ n → word < 2 ^ n → 2 ^ n - 1 - word < 2 ^ m → 2 ^ m ≤ 2 * (2 ^ n - 1 - word) + 1 → run < n → get_or (bits_of n word) run 0 ≡ 0
run_zero n m run word sum below close far inside =
    let high = high_ones n m run word sum below close in
    let low : high.0 < 2 ^ m = omega (arith, high.2) in
    let more : m ≡ suc (m - 1) = omega (arith, sum, inside) in
    let half : 2 ^ m ≡ 2 ^ (m - 1) * 2 = ap (λ k. 2 ^ k) more ∙ pow-suc 2 (m - 1) in
    let lower : high.0 < 2 ^ (m - 1) = omega (arith, high.2, far, half) in
    let rest : bits_of m word ≡ bits_of m high.0 = sym (bits_mod m word) ∙ ap (bits_of m) (ap (λ v. v % 2 ^ m) high.1 ∙ mod_low (2 ^ run - 1) m high.0 low) in
    let size : 1 + (m - 1) ≡ m = omega (arith, more) in
    let first : get_or (bits_of m word) 0 0 ≡ 0 = ap (λ l. get_or l 0 0) (rest ∙ ap (λ k. bits_of k high.0) (sym size)) ∙ first_zero (m - 1) high.0 lower in
    let at : run - run ≡ 0 = omega arith in
    let same : run ≤ run = omega arith in
    ap (λ l. get_or l run 0) (high_bits n m run word sum below close) ∙ get_or-append_right (replicate run 1) (bits_of m word) run run 0 (length-replicate run 1) same
    ∙ ap (λ k. get_or (bits_of m word) k 0) at ∙ first

-- a number that ends in zeros does not begin with more ones than stand before them
pub run_within : (m rest : ℕ) → 127 ≤ rest → rest < 2 ^ m → 7 ≤ m
run_within m rest most close = elim (cases_lt m 7) [
  | inl few ↦ let small : 2 ^ m ≤ 2 ^ 6 = pow_mono {i = m} {j = 6} (omega (arith, few)) in absurd (omega (arith, most, close, small))
  | inr enough ↦ enough
]

-- the first 57 bits of a number that ends in seven zeros
pub zeros_after : (window k : ℕ) → k < 57 → get_or (bits_of 64 (window * 2 ^ 7)) k 0 ≡ get_or (bits_of 57 window) k 0
zeros_after window k inside =
    let whole : window * 2 ^ 7 ≡ window * 2 ^ 7 + 0 = omega arith in
    let short : k < length (bits_of 57 window) = omega (arith, length-bits_of 57 window, inside) in
    ap (λ l. get_or l k 0) (ap (bits_of 64) whole ∙ bits_cat 57 7 window 0 (omega arith)) ∙ get_or_append_left (bits_of 57 window) (bits_of 7 0) 0 k short

-- one run after another
pub more_ones : (bits : List ℕ) (place count run : ℕ) → ((k : ℕ) → k < count → get_or bits (place + k) 0 ≡ 1) → ((k : ℕ) → k < run → get_or bits (place + count + k) 0 ≡ 1)
    → (k : ℕ) → k < count + run → get_or bits (place + k) 0 ≡ 1
more_ones bits place count run first second k inside = elim (cases_lt k count) [
  | inl before ↦ first k before
  | inr after ↦
      let at : place + k ≡ place + count + (k - count) = omega (arith, after) in
      let within : k - count < run = omega (arith, after, inside) in
      ap (λ i. get_or bits i 0) at ∙ second (k - count) within
]

-- ones do not go past the end
pub ones_within : (bits : List ℕ) (place count : ℕ) → place ≤ length bits → ((k : ℕ) → k < count → get_or bits (place + k) 0 ≡ 1) → place + count ≤ length bits
ones_within bits place zero there ones = omega (arith, there)
ones_within bits place (suc count) there ones = elim (cases_lt (place + count) (length bits)) [
  | inl inside ↦ omega (arith, inside)
  | inr past ↦
      let last : get_or bits (place + count) 0 ≡ 1 = ones count (omega arith) in
      absurd (omega (arith, last, get_or_past bits (place + count) 0 past))
]

-- ones as a list
pub ones_listed : (bits : List ℕ) (place count : ℕ) → place + count ≤ length bits → ((k : ℕ) → k < count → get_or bits (place + k) 0 ≡ 1)
    → drop place bits ≡ replicate count 1 ++ drop (place + count) bits
ones_listed bits place count within ones =
    let enough : count ≤ length (drop place bits) = omega (arith, within, length-drop place bits) in
    let size : length (take count (drop place bits)) ≡ length (replicate {A = ℕ} count 1) = length-take-le count (drop place bits) enough ∙ sym (length-replicate count 1) in
    let front : take count (drop place bits) ≡ replicate count 1 = ext_get_or 0 (take count (drop place bits)) (replicate count 1) size
    (λ i inside.
    let below : i < count = omega (arith, inside, length-take-le count (drop place bits) enough) in
    get_or-take count (drop place bits) i 0 below ∙ get_or-drop place bits i 0 ∙ ones i below ∙ sym (get_or-replicate count i 1 0 below)) in
    sym (take-append-drop count (drop place bits)) ∙ ap (λ l. l ++ drop count (drop place bits)) front ∙ ap (λ l. replicate count 1 ++ l) (drop-drop count place bits)

-- ones up to the end
pub ones_to_end : (bits : List ℕ) (place count : ℕ) → place + count ≡ length bits → ((k : ℕ) → k < count → get_or bits (place + k) 0 ≡ 1) → drop place bits ≡ replicate count 1
ones_to_end bits place count all ones =
    ones_listed bits place count (omega (arith, all)) ones ∙ ap (λ l. replicate count 1 ++ l) (drop_all (place + count) bits (omega (arith, all))) ∙ append-nil (replicate count 1)

-- ones and the zero after them
pub ones_ended : (bits : List ℕ) (place count : ℕ) → place + count < length bits → ((k : ℕ) → k < count → get_or bits (place + k) 0 ≡ 1) → get_or bits (place + count) 0 ≡ 0
    → drop place bits ≡ replicate count 1 ++ (0 ∷ drop (place + (count + 1)) bits)
ones_ended bits place count within ones ended =
    let most : place + count ≤ length bits = omega (arith, within) in
    let next : place + count + 1 ≡ place + (count + 1) = omega arith in
    ones_listed bits place count most ones
    ∙ ap (λ l. replicate count 1 ++ l) (drop_more bits (place + count) 0 within ∙ ap (λ b. b ∷ drop (place + count + 1) bits) ended ∙ ap (λ i. 0 ∷ drop i bits) next)

-- the same at the front
pub ones_first : (bits : List ℕ) (count : ℕ) → count + 1 ≤ length bits → ((k : ℕ) → k < count → get_or bits k 0 ≡ 1) → get_or bits count 0 ≡ 0 → bits ≡ replicate count 1 ++ (0 ∷ drop (count + 1) bits)
ones_first bits count enough ones ended =
    let here : 0 + count ≡ count = omega arith in
    let next : 0 + (count + 1) ≡ count + 1 = omega arith in
    ones_ended bits 0 count (omega (arith, enough)) (λ k inside. (let at : 0 + k ≡ k = omega arith in ap (λ i. get_or bits i 0) at ∙ ones k inside)) (ap (λ i. get_or bits i 0) here ∙ ended)
    ∙ ap (λ i. replicate count 1 ++ 0 ∷ drop i bits) next
