-- The signs of a row, code group by code group.
use Rattle.std.proofs.Common.{◌≡◌, ℕ, ℤ, ◌+◌, ◌*◌, ◌/◌, ◌^◌, ◌<◌, ◌≤◌, List, [], ◌∷◌, map, length, sym, ap, ◌∙◌, arith}
use Rattle.std.specs.Prelude.{Bool, true, false, nat_lt, cond, max, count_by, if◌then◌else◌, pos, unsigned_abs}
use Rattle.std.specs.List.{fold, AllByRecursion}
use Rattle.xs_layout.specs.declared.Quant.{Quant}
use Rattle.xs_signal.specs.Quantiser.{quantised, with_sign_of, sent}
use Rattle.xs_signal.proofs.Magnitudes.{size_signed}
use Rattle.xs_spelling.specs.Counts.{Line}
use Rattle.xs_spelling.specs.Data.{columns_of}
use Rattle.xs_spelling.specs.Sizes.{signs_size}
use Rattle.xs_planes.proofs.Signs.{signs_from, signs_first}
use Rattle.xs_rate.specs.Content.{planes_of, greatest_of}
use Rattle.xs_rate.specs.Laws.{IsSmallRow}
use Rattle.xs_rate.proofs.Digits.{digits-room}
use Rattle.xs_groups.proofs.Planes.{greatest_small, columns_are}
use Rattle.xs_sizes.specs.Cut.{sent_line}

-- The magnitudes of a code group have room in its planes

fold_over : (start : ℕ) (xs : List ℕ) → start ≤ fold max start xs
fold_over start [] = omega arith
fold_over start (x ∷ xs) = omega (arith, fold_over (max start x) xs)

all_below : (start bound : ℕ) (xs : List ℕ) → fold max start xs < bound → AllByRecursion (λ x. x < bound) xs
all_below start bound [] below = tt
all_below start bound (x ∷ xs) below = (omega (arith, fold_over (max start x) xs, below), all_below (max start x) bound xs below)

pub group_room : (row : ℕ → ℤ) (group : ℕ) → IsSmallRow row → AllByRecursion (λ x. x < 2 ^ planes_of row group) (map (λ column. unsigned_abs (row column)) (columns_of group))
group_room row group small = all_below 0 (2 ^ planes_of row group) (map (λ column. unsigned_abs (row column)) (columns_of group)) (digits-room (greatest_of row group) (greatest_small row group small))

-- One sign

abbrev pub one_if : Bool → ℕ
one_if test = cond test 1 0

size_sent : (kind : Quant) (count t : ℕ) (z : ℤ) (some : Bool) → nat_lt t count ≡ some → unsigned_abs (sent kind count t z) ≡ (if some then quantised kind count t (unsigned_abs z) else 0)
size_sent kind count t z true e = ap (λ (b : Bool). unsigned_abs (if b then with_sign_of z (quantised kind count t (unsigned_abs z)) else pos 0)) e ∙ size_signed z (quantised kind count t (unsigned_abs z))
size_sent kind count t z false e = ap (λ (b : Bool). unsigned_abs (if b then with_sign_of z (quantised kind count t (unsigned_abs z)) else pos 0)) e

one_sign : (line : Line) (end k : ℕ) (some : Bool) → k < end → nat_lt 0 (unsigned_abs (line.value k)) ≡ some → length (signs_from line end k) ≡ one_if some + length (signs_from line end (k + 1))
one_sign line end k true less e = let more = ap length (signs_first line end k true less e) in omega (arith, more)
one_sign line end k false less e = let same = ap length (signs_first line end k false less e) in omega (arith, same)

-- four of them

abbrev at_column : Quant → (ℕ → ℤ) → ℕ → ℕ → Bool → ℕ → ℕ
at_column kind row count t some column = if some then quantised kind count t (unsigned_abs (row column)) else 0

column_sign : (kind : Quant) (row : ℕ → ℤ) (n t group count i : ℕ) (some : Bool) → count ≡ planes_of row group → nat_lt t count ≡ some → group < n → i < 4
    → length (signs_from (sent_line kind row n t) (4 * n) (4 * group + i)) ≡ one_if (nat_lt 0 (at_column kind row count t some (4 * group + i))) + length (signs_from (sent_line kind row n t) (4 * n) (4 * group + i + 1))
column_sign kind row n t group count i some same test inside few =
    let here : (4 * group + i) / 4 ≡ group = omega (arith, few) in
    let value : unsigned_abs (sent kind (planes_of row ((4 * group + i) / 4)) t (row (4 * group + i))) ≡ at_column kind row count t some (4 * group + i) =
    ap (λ g. unsigned_abs (sent kind (planes_of row g) t (row (4 * group + i)))) here ∙ ap (λ c. unsigned_abs (sent kind c t (row (4 * group + i)))) (sym same) ∙ size_sent kind count t (row (4 * group + i)) some test in
    one_sign (sent_line kind row n t) (4 * n) (4 * group + i) (nat_lt 0 (at_column kind row count t some (4 * group + i))) (omega (arith, inside, few)) (ap (nat_lt 0) value)

four_signs : (kind : Quant) (row : ℕ → ℤ) (n t group count : ℕ) (some : Bool) → count ≡ planes_of row group → nat_lt t count ≡ some → group < n
    → length (signs_from (sent_line kind row n t) (4 * n) (4 * group))
    ≡ count_by (λ number. nat_lt 0 number) (map (at_column kind row count t some) ((4 * group) ∷ (4 * group + 1) ∷ (4 * group + 2) ∷ (4 * group + 3) ∷ [])) + length (signs_from (sent_line kind row n t) (4 * n) (4 * (group + 1)))
four_signs kind row n t group count some same test inside =
    let step : (i : ℕ) → i < 4 → length (signs_from (sent_line kind row n t) (4 * n) (4 * group + i)) ≡ one_if (nat_lt 0 (at_column kind row count t some (4 * group + i))) + length (signs_from (sent_line kind row n t) (4 * n) (4 * group + i + 1))
    = λ i few. column_sign kind row n t group count i some same test inside few in
    let at : (a b : ℕ) → a ≡ b → length (signs_from (sent_line kind row n t) (4 * n) a) ≡ length (signs_from (sent_line kind row n t) (4 * n) b) = λ a b e. ap (λ k. length (signs_from (sent_line kind row n t) (4 * n) k)) e in
    let zero_is : 4 * group + 0 ≡ 4 * group = omega arith in
    let one : 4 * group + 0 + 1 ≡ 4 * group + 1 = omega arith in
    let two : 4 * group + 1 + 1 ≡ 4 * group + 2 = omega arith in
    let three : 4 * group + 2 + 1 ≡ 4 * group + 3 = omega arith in
    let four : 4 * group + 3 + 1 ≡ 4 * (group + 1) = omega arith in
    let first : one_if (nat_lt 0 (at_column kind row count t some (4 * group + 0))) ≡ one_if (nat_lt 0 (at_column kind row count t some (4 * group))) = ap (λ k. one_if (nat_lt 0 (at_column kind row count t some k))) zero_is in
    omega (arith, step 0 (omega arith), step 1 (omega arith), step 2 (omega arith), step 3 (omega arith), first, at (4 * group + 0) (4 * group) zero_is, at (4 * group + 0 + 1) (4 * group + 1) one, at (4 * group + 1 + 1) (4 * group + 2) two, at (4 * group + 2 + 1) (4 * group + 3) three, at (4 * group + 3 + 1) (4 * (group + 1)) four)

pub some_signs : (kind : Quant) (row : ℕ → ℤ) (n t group count : ℕ) → count ≡ planes_of row group → nat_lt t count ≡ true → group < n
    → length (signs_from (sent_line kind row n t) (4 * n) (4 * group))
    ≡ count_by (λ number. nat_lt 0 number) (map (quantised kind count t) (map (λ column. unsigned_abs (row column)) (columns_of group))) + length (signs_from (sent_line kind row n t) (4 * n) (4 * (group + 1)))
some_signs kind row n t group count same test inside =
    four_signs kind row n t group count true same test inside
    ∙ ap (λ l. count_by (λ number. nat_lt 0 number) (map (quantised kind count t) (map (λ column. unsigned_abs (row column)) l)) + length (signs_from (sent_line kind row n t) (4 * n) (4 * (group + 1)))) (sym (columns_are group))

pub no_signs : (kind : Quant) (row : ℕ → ℤ) (n t group count : ℕ) → count ≡ planes_of row group → nat_lt t count ≡ false → group < n
    → length (signs_from (sent_line kind row n t) (4 * n) (4 * group)) ≡ length (signs_from (sent_line kind row n t) (4 * n) (4 * (group + 1)))
no_signs kind row n t group count same test inside = let none = four_signs kind row n t group count false same test inside in omega (arith, none)

pub group_more : (kind : Quant) (row : ℕ → ℤ) (n t group count so_far signs : ℕ) (some : Bool) → count ≡ planes_of row group → nat_lt t count ≡ some → group < n
    → signs ≡ (if some then count_by (λ number. nat_lt 0 number) (map (quantised kind count t) (map (λ column. unsigned_abs (row column)) (columns_of group))) else 0)
    → so_far + length (signs_from (sent_line kind row n t) (4 * n) (4 * group)) ≡ signs_size (sent_line kind row n t)
    → so_far + signs + length (signs_from (sent_line kind row n t) (4 * n) (4 * (group + 1))) ≡ signs_size (sent_line kind row n t)
group_more kind row n t group count so_far signs true same test inside e before = omega (arith, some_signs kind row n t group count same test inside, e, before)
group_more kind row n t group count so_far signs false same test inside e before = omega (arith, no_signs kind row n t group count same test inside, e, before)
