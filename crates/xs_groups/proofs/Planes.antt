-- The bit planes of the code groups of a row.
use Rattle.std.proofs.Common.{◌≡◌, ℕ, zero, suc, ℤ, ◌+◌, ◌-◌, ◌*◌, ◌%◌, ◌<◌, ◌≤◌, ◌^◌, List, [], ◌∷◌, ◌++◌, length, take, drop, map, get_or, refl, sym, ap, subst, ◌∙◌, arith, inl, inr}
use Rattle.std.specs.Prelude.{Bool, true, false, pos, negsuc, unsigned_abs, max}
use Rattle.std.specs.List.{fold, range_with_len, AllByRecursion}
use Rattle.std.proofs.lemmas.List.{append_assoc, length-append, length-take-le, map-append, take_at, take_more_set}
use Rattle.std.proofs.lemmas.List.FromFn.{length-map-range_with_len, map-range_with_len_more}
use Rattle.std.proofs.lemmas.Bool.{cases_lt}
use Rattle.std.proofs.lemmas.Nat.{leading_length, le_or_l, le_or_r, or_lt}
use Rattle.std.specs.Int.Bits.{bit_or}
use Rattle.std.specs.Int.Count.{count_leading_zeros}
use Rattle.std.specs.Int.Signed.{lt_z}
use Rattle.std.proofs.Math.Facts.{to_z_pos, to_z-neg}
use Rattle.std.proofs.Math.Pow.{pow_mono}
use Rattle.std.proofs.Math.Nat.{pow-suc}
use Rattle.std.proofs.Math.ListN.{set}
use Rattle.xs_lists.specs.Spelling.{upto}
use Rattle.xs_lists.proofs.Ranges.{range_cut}
use Rattle.xs_spelling.specs.Data.{columns_of}
use Rattle.xs_rate.specs.Content.{digits_of, planes_of, greatest_of}
use Rattle.xs_rate.specs.Laws.{IsSmallRow}
use Rattle.xs_rate.proofs.Digits.{digits-are, digits-most}
use Rattle.xs_groups.specs.Bits.{bits_in}
use mathlib.Core.Bool.{cond}
use lib.Lanes.{top}
use mir.Syntax.{w32}
use mir.Val.{of_z, to_z}

fold_small : (row : ℕ → ℤ) (start : ℕ) (columns : List ℕ) → IsSmallRow row → start < 2 ^ 15 → fold max start (map (λ column. unsigned_abs (row column)) columns) < 2 ^ 15
fold_small row start [] small low = low
fold_small row start (column ∷ columns) small low = fold_small row (max start (unsigned_abs (row column))) columns small (omega (arith, low, small column))

pub greatest_small : (row : ℕ → ℤ) (group : ℕ) → IsSmallRow row → greatest_of row group < 2 ^ 15
greatest_small row group small = fold_small row 0 (columns_of group) small (omega arith)

pub planes_most : (row : ℕ → ℤ) (group : ℕ) → planes_of row group ≤ 15
planes_most row group = digits-most (greatest_of row group)

pub all_planes : (row : ℕ → ℤ) (first n : ℕ) → AllByRecursion (λ count. count ≤ 15) (map (planes_of row) (range_with_len first n))
all_planes row first zero = tt
all_planes row first (suc n) = (planes_most row first, all_planes row (first + 1) n)

pub columns_are : (group : ℕ) → columns_of group ≡ (4 * group) ∷ (4 * group + 1) ∷ (4 * group + 2) ∷ (4 * group + 3) ∷ []
columns_are group =
    let two : 4 * group + 1 + 1 ≡ 4 * group + 2 = omega arith in
    let three : 4 * group + 1 + 1 + 1 ≡ 4 * group + 3 = omega arith in
    ap (λ k. (4 * group) ∷ (4 * group + 1) ∷ k ∷ (4 * group + 1 + 1 + 1) ∷ []) two ∙ ap (λ k. (4 * group) ∷ (4 * group + 1) ∷ (4 * group + 2) ∷ k ∷ []) three

-- one more item of a list is that of a function
pub counts_more : (counts : List ℕ) (f : ℕ → ℕ) (i x : ℕ) → i < length counts → take i counts ≡ map f (upto i) → x ≡ f i → take (i + 1) (set counts i x) ≡ map f (upto (i + 1))
counts_more counts f i x below so_far one =
    let none : 0 + i ≡ i = omega arith in
    take_more_set counts i x below ∙ ap (λ l. l ++ (x ∷ [])) so_far ∙ ap (λ y. map f (upto i) ++ (y ∷ [])) one ∙ sym (map-range_with_len_more f 0 i i none)

-- the digits of a magnitude by its leading zeros
pub digits_is : (m n : ℕ) → m < 2 ^ 15 → m < 2 ^ n → 2 ^ n ≤ 2 * m + 1 → digits_of m ≡ n
digits_is m zero small over under = digits-are m 0 (omega arith) over (λ some. absurd (omega (arith, some)))
digits_is m (suc k) small over under = elim (cases_lt 15 (suc k)) [
  | inl above ↦
      let up : 2 ^ 16 ≤ 2 ^ suc k = pow_mono {i = 16} {j = suc k} (omega (arith, above)) in
      absurd (omega (arith, up, under, small))
  | inr few ↦
      let half : 2 ^ suc k ≡ 2 ^ k * 2 = pow-suc 2 k in
      let back : suc k - 1 ≡ k = omega arith in
      let below : 2 ^ k ≤ m = omega (arith, half, under) in
      digits-are m (suc k) few over (λ some. subst (λ j. 2 ^ j ≤ m) (sym back) below)
]

-- those of twice a magnitude and one are one more
pub digits_half : (m n : ℕ) → m < 2 ^ 15 → 2 * m + 1 < 2 ^ n → 2 ^ n ≤ 2 * (2 * m + 1) + 1 → digits_of m ≡ n - 1
digits_half m zero small over under = absurd (omega (arith, over))
digits_half m (suc k) small over under =
    let half : 2 ^ suc k ≡ 2 ^ k * 2 = pow-suc 2 k in
    let back : suc k - 1 ≡ k = omega arith in
    digits_is m k small (omega (arith, half, over)) (omega (arith, half, under)) ∙ sym back

-- the bits of four magnitudes together have as many digits as the greatest
pub digits_together : (a b c d : ℕ) → a < 2 ^ 15 → b < 2 ^ 15 → c < 2 ^ 15 → d < 2 ^ 15
    → (bit_or (bit_or a b) (bit_or c d) < 2 ^ 15) × (digits_of (bit_or (bit_or a b) (bit_or c d)) ≡ digits_of (max (max (max (max 0 a) b) c) d))
digits_together a b c d one two three four =
    (small, digits_is all n small known.2 known.3 ∙ sym (digits_is greatest n (omega (arith, one, two, three, four)) (omega (arith, most, known.2)) (least n known.3)))
  where
    all : ℕ
    all = bit_or (bit_or a b) (bit_or c d)

    greatest : ℕ
    greatest = max (max (max (max 0 a) b) c) d

    small : all < 2 ^ 15
    small = or_lt 15 (bit_or a b) (bit_or c d) (or_lt 15 a b one two) (or_lt 15 c d three four)

    known : (m : ℕ) × (count_leading_zeros 15 all + m ≡ 15) × (all < 2 ^ m) × (2 ^ m ≤ 2 * all + 1)
    known = leading_length 15 all small

    n : ℕ
    n = known.0

    most : greatest ≤ all
    most = omega (arith, le_or_l a b, le_or_r a b, le_or_l c d, le_or_r c d, le_or_l (bit_or a b) (bit_or c d), le_or_r (bit_or a b) (bit_or c d))

    least : (n : ℕ) → 2 ^ n ≤ 2 * all + 1 → 2 ^ n ≤ 2 * greatest + 1
    least zero under = omega arith
    least (suc k) under = elim (cases_lt greatest (2 ^ k)) [
      | inl below ↦
          let half : 2 ^ suc k ≡ 2 ^ k * 2 = pow-suc 2 k in
          let few = or_lt k (bit_or a b) (bit_or c d) (or_lt k a b (omega (arith, below)) (omega (arith, below))) (or_lt k c d (omega (arith, below)) (omega (arith, below))) in
          absurd (omega (arith, half, few, under))
      | inr there ↦ (let half : 2 ^ suc k ≡ 2 ^ k * 2 = pow-suc 2 k in omega (arith, half, there))
    ]

-- each magnitude of a code group is small
pub magnitudes_small : (row : ℕ → ℤ) (columns : List ℕ) → IsSmallRow row → AllByRecursion (λ magnitude. magnitude < 2 ^ 15) (map (λ column. unsigned_abs (row column)) columns)
magnitudes_small row [] small = tt
magnitudes_small row (column ∷ columns) small = (small column, magnitudes_small row columns small)

-- the greatest of four
pub fold_four : (xs : List ℕ) → length xs ≡ 4 → fold max 0 xs ≡ max (max (max (max 0 (get_or xs 0 0)) (get_or xs 1 0)) (get_or xs 2 0)) (get_or xs 3 0)
fold_four (a ∷ b ∷ c ∷ d ∷ []) four = refl
fold_four [] four = absurd (omega (arith, four))
fold_four (a ∷ []) four = absurd (omega (arith, four))
fold_four (a ∷ b ∷ []) four = absurd (omega (arith, four))
fold_four (a ∷ b ∷ c ∷ []) four = absurd (omega (arith, four))
fold_four (a ∷ b ∷ c ∷ d ∷ e ∷ xs) four = absurd (omega (arith, four))

-- Lanes

four_items : (xs : List ℕ) → length xs ≡ 4 → xs ≡ get_or xs 0 0 ∷ get_or xs 1 0 ∷ get_or xs 2 0 ∷ get_or xs 3 0 ∷ []
four_items (a ∷ b ∷ c ∷ d ∷ []) four = refl
four_items [] four = absurd (omega (arith, four))
four_items (a ∷ []) four = absurd (omega (arith, four))
four_items (a ∷ b ∷ []) four = absurd (omega (arith, four))
four_items (a ∷ b ∷ c ∷ []) four = absurd (omega (arith, four))
four_items (a ∷ b ∷ c ∷ d ∷ e ∷ xs) four = absurd (omega (arith, four))

consed : {A : Type 0} (x y : A) (xs ys : List A) → x ≡ y → xs ≡ ys → x ∷ xs ≡ y ∷ ys
consed x y xs ys head tail = ap (λ z. z ∷ xs) head ∙ ap (λ l. y ∷ l) tail

-- the magnitude of a number of 32 bits, as a lane gives it
abbrev lane_size : ℕ → ℕ
lane_size a = unsigned_abs (to_z w32 (cond (top 31 (cond (lt_z (to_z w32 a) (to_z w32 ((0 + (4294967296 - a)) % 4294967296))) 4294967295 0)) ((0 + (4294967296 - a)) % 4294967296) a))

size_in_lane : (z : ℤ) → unsigned_abs z < 2 ^ 15 → lane_size (of_z w32 z) ≡ unsigned_abs z
size_in_lane (pos zero) small = refl
size_in_lane (pos (suc n)) small =
    let other : (0 + (4294967296 - suc n)) % 4294967296 ≡ 4294967296 - suc n = omega (arith, small) in
    let own : to_z w32 (suc n) ≡ pos (suc n) = to_z_pos w32 (omega (arith, small)) in
    let below : to_z w32 ((0 + (4294967296 - suc n)) % 4294967296) ≡ negsuc n = ap (to_z w32) other ∙ to_z-neg w32 n (omega (arith, small)) in
    let test : lt_z (to_z w32 (suc n)) (to_z w32 ((0 + (4294967296 - suc n)) % 4294967296)) ≡ false = ap (λ a. lt_z a (to_z w32 ((0 + (4294967296 - suc n)) % 4294967296))) own ∙ ap (λ b. lt_z (pos (suc n)) b) below in
    ap (λ (b : Bool). unsigned_abs (to_z w32 (cond (top 31 (cond b 4294967295 0)) ((0 + (4294967296 - suc n)) % 4294967296) (suc n)))) test ∙ ap unsigned_abs own
size_in_lane (negsuc n) small =
    let other : (0 + (4294967296 - (4294967296 - suc n))) % 4294967296 ≡ suc n = omega (arith, small) in
    let own : to_z w32 (4294967296 - suc n) ≡ negsuc n = to_z-neg w32 n (omega (arith, small)) in
    let above : to_z w32 ((0 + (4294967296 - (4294967296 - suc n))) % 4294967296) ≡ pos (suc n) = ap (to_z w32) other ∙ to_z_pos w32 (omega (arith, small)) in
    let test : lt_z (to_z w32 (4294967296 - suc n)) (to_z w32 ((0 + (4294967296 - (4294967296 - suc n))) % 4294967296)) ≡ true = ap (λ a. lt_z a (to_z w32 ((0 + (4294967296 - (4294967296 - suc n))) % 4294967296))) own ∙ ap (λ b. lt_z (negsuc n) b) above in
    ap (λ (b : Bool). unsigned_abs (to_z w32 (cond (top 31 (cond b 4294967295 0)) ((0 + (4294967296 - (4294967296 - suc n))) % 4294967296) (4294967296 - suc n)))) test ∙ ap unsigned_abs above

pub sizes_in_lanes : (zs : List ℤ) → length zs ≡ 4 → ((i : ℕ) → i < 4 → unsigned_abs (get_or zs i (pos 0)) < 2 ^ 15)
    → lane_size (of_z w32 (get_or zs 0 (pos 0))) ∷ lane_size (of_z w32 (get_or zs 1 (pos 0))) ∷ lane_size (of_z w32 (get_or zs 2 (pos 0))) ∷ lane_size (of_z w32 (get_or zs 3 (pos 0))) ∷ [] ≡ map unsigned_abs zs
sizes_in_lanes (a ∷ b ∷ c ∷ d ∷ []) four small =
    consed _ _ _ _ (size_in_lane a (small 0 (omega arith))) (consed _ _ _ _ (size_in_lane b (small 1 (omega arith))) (consed _ _ _ _ (size_in_lane c (small 2 (omega arith))) (consed _ _ _ _ (size_in_lane d (small 3 (omega arith))) refl)))
sizes_in_lanes [] four small = absurd (omega (arith, four))
sizes_in_lanes (a ∷ []) four small = absurd (omega (arith, four))
sizes_in_lanes (a ∷ b ∷ []) four small = absurd (omega (arith, four))
sizes_in_lanes (a ∷ b ∷ c ∷ []) four small = absurd (omega (arith, four))
sizes_in_lanes (a ∷ b ∷ c ∷ d ∷ e ∷ zs) four small = absurd (omega (arith, four))

-- the digits of a number of 16 bits, as a lane gives them
abbrev lane_digits : ℕ → ℕ
lane_digits m = (16 + (65536 - count_leading_zeros 16 m)) % 65536

digits_in_lane : (m : ℕ) → m < 2 ^ 15 → lane_digits m ≡ digits_of m
digits_in_lane m small =
    let known = leading_length 16 m (omega (arith, small)) in
    let same : lane_digits m ≡ known.0 = omega (arith, known.1) in
    same ∙ sym (digits_is m known.0 small known.2 known.3)

pub digits_in_lanes : (low high : List ℕ) → length low ≡ 4 → length high ≡ 4 → ((i : ℕ) → i < 4 → get_or low i 0 < 2 ^ 15) → ((i : ℕ) → i < 4 → get_or high i 0 < 2 ^ 15)
    → lane_digits (get_or low 0 0) ∷ lane_digits (get_or low 1 0) ∷ lane_digits (get_or low 2 0) ∷ lane_digits (get_or low 3 0) ∷ lane_digits (get_or high 0 0) ∷ lane_digits (get_or high 1 0) ∷ lane_digits (get_or high 2 0) ∷ lane_digits (get_or high 3 0) ∷ []
    ≡ map digits_of (low ++ high)
digits_in_lanes low high four four_more small small_more =
    consed _ _ _ _ (digits_in_lane _ (small 0 (omega arith))) (consed _ _ _ _ (digits_in_lane _ (small 1 (omega arith))) (consed _ _ _ _ (digits_in_lane _ (small 2 (omega arith))) (consed _ _ _ _ (digits_in_lane _ (small 3 (omega arith)))
    (consed _ _ _ _ (digits_in_lane _ (small_more 0 (omega arith))) (consed _ _ _ _ (digits_in_lane _ (small_more 1 (omega arith))) (consed _ _ _ _ (digits_in_lane _ (small_more 2 (omega arith))) (consed _ _ _ _ (digits_in_lane _ (small_more 3 (omega arith))) refl)))))))
    ∙ ap (λ l. map digits_of l) (ap (λ l. get_or low 0 0 ∷ get_or low 1 0 ∷ get_or low 2 0 ∷ get_or low 3 0 ∷ l) (sym (four_items high four_more)) ∙ ap (λ l. l ++ high) (sym (four_items low four)))

-- Eight code groups

bits_small : (row : ℕ → ℤ) (group : ℕ) → IsSmallRow row → bits_in row group < 2 ^ 15
bits_small row group small = or_lt 15 _ _ (or_lt 15 _ _ (small (4 * group)) (small (4 * group + 1))) (or_lt 15 _ _ (small (4 * group + 2)) (small (4 * group + 3)))

pub all_bits_small : (row : ℕ → ℤ) (first n : ℕ) → IsSmallRow row → AllByRecursion (λ number. number < 2 ^ 15) (map (bits_in row) (range_with_len first n))
all_bits_small row first zero small = tt
all_bits_small row first (suc n) small = (bits_small row first small, all_bits_small row (first + 1) n small)

-- their planes are the digits of the bits of their magnitudes
planes_by_bits : (row : ℕ → ℤ) (group : ℕ) → IsSmallRow row → digits_of (bits_in row group) ≡ planes_of row group
planes_by_bits row group small =
    (digits_together _ _ _ _ (small (4 * group)) (small (4 * group + 1)) (small (4 * group + 2)) (small (4 * group + 3))).1
    ∙ sym (ap (λ columns. digits_of (fold max 0 (map (λ column. unsigned_abs (row column)) columns))) (columns_are group))

all_by_bits : (row : ℕ → ℤ) (first n : ℕ) → IsSmallRow row → map digits_of (map (bits_in row) (range_with_len first n)) ≡ map (planes_of row) (range_with_len first n)
all_by_bits row first zero small = refl
all_by_bits row first (suc n) small = consed _ _ _ _ (planes_by_bits row first small) (all_by_bits row (first + 1) n small)

range_add : (f : ℕ → ℕ) (first m n : ℕ) → map f (range_with_len first (m + n)) ≡ map f (range_with_len first m) ++ map f (range_with_len (first + m) n)
range_add f first m n = ap (map f) (range_cut first m n) ∙ map-append f (range_with_len first m) (range_with_len (first + m) n)

pub eight_are : (row : ℕ → ℤ) (group : ℕ) (low high : List ℕ) → IsSmallRow row → low ≡ map (bits_in row) (range_with_len group 4) → high ≡ map (bits_in row) (range_with_len (group + 4) 4)
    → map digits_of (low ++ high) ≡ map (planes_of row) (range_with_len group 8)
eight_are row group low high small first last =
    map-append digits_of low high ∙ ap (λ l. map digits_of l ++ map digits_of high) first ∙ ap (λ l. map digits_of (map (bits_in row) (range_with_len group 4)) ++ map digits_of l) last
    ∙ ap (λ l. l ++ map digits_of (map (bits_in row) (range_with_len (group + 4) 4))) (all_by_bits row group 4 small) ∙ ap (λ l. map (planes_of row) (range_with_len group 4) ++ l) (all_by_bits row (group + 4) 4 small)
    ∙ sym (range_add (planes_of row) group 4 4)

-- eight more items of a list are those of a function
pub eight_more : (old new eight : List ℕ) (f : ℕ → ℕ) (i : ℕ) → 8 * i + 8 ≤ length old → take (8 * i) old ≡ map f (upto (8 * i)) → eight ≡ map f (range_with_len (8 * i) 8) → new ≡ take (8 * i) old ++ (eight ++ drop (8 * i + 8) old)
    → take (8 * (i + 1)) new ≡ map f (upto (8 * (i + 1)))
eight_more old new eight f i below so_far own put =
    let next : 8 * (i + 1) ≡ 8 * i + 8 = omega arith in
    let none : 0 + 8 * i ≡ 8 * i = omega arith in
    let size : length (take (8 * i) old ++ eight) ≡ 8 * (i + 1) = omega (arith, length-append (take (8 * i) old) eight, length-take-le (8 * i) old (omega (arith, below)), ap length own ∙ length-map-range_with_len f (8 * i) 8) in
    ap (take (8 * (i + 1))) (put ∙ sym (append_assoc (take (8 * i) old) eight (drop (8 * i + 8) old)))
    ∙ take_at (take (8 * i) old ++ eight) (drop (8 * i + 8) old) (8 * (i + 1)) size
    ∙ ap (λ l. l ++ eight) so_far ∙ ap (λ l. map f (upto (8 * i)) ++ l) (own ∙ ap (λ k. map f (range_with_len k 8)) (sym none))
    ∙ sym (range_add f 0 (8 * i) 8) ∙ ap (λ k. map f (upto k)) (sym next)
