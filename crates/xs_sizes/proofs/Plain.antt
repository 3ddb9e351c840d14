-- The bits of counts that are predicted from nothing, and how those of the numbers follow from them.
use Rattle.std.proofs.Common.{◌≡◌, ℕ, zero, suc, ℤ, ◌+◌, ◌-◌, ◌*◌, ◌<◌, ◌≤◌, List, [], ◌∷◌, length, sum_by, get_or, refl, sym, ◌∙◌, arith, inl, inr}
use Rattle.std.specs.Prelude.{Bool, true, false, max, nat_lt, nat_le, if◌then◌else◌, replicate, All}
use Rattle.std.specs.List.{range_with_len, AllByRecursion}
use Rattle.std.proofs.lemmas.Bool.{ltb-true, ltb-false, leb-true, cases_lt}
use Rattle.std.proofs.lemmas.List.{length-map}
use Rattle.std.proofs.lemmas.List.Sums.{sum_by-cons}
use Rattle.std.proofs.lemmas.List.FromFn.{length-map-range_with_len}
use Rattle.xs_lists.specs.Spelling.{upto}
use Rattle.xs_spelling.specs.Sizes.{count_size}
use Rattle.xs_counts.specs.Known.{residual_size}
use Rattle.xs_counts.proofs.Members.{residuals_sized}
use Rattle.xs_sizes.specs.Lengths.{length_of, plain_line}
use Rattle.xs_sizes.specs.LineSizes.{AreLineSizes, AreRegular}
use Rattle.xs_sizes.specs.declared.line.LineSizes.{LineSizes}

-- a count that is predicted from nothing has a bit, and one for each plane that is left
pub length_alone : (above planes t : ℕ) → above ≡ 0 → length_of above planes t ≡ max planes t - t + 1
length_alone above planes t none = cases (nat_lt (max planes t) (max above t)) (nat_le (max planes t - max above t) (max above t - t)) refl refl
  where
    cases : (fall near : Bool) → nat_lt (max planes t) (max above t) ≡ fall → nat_le (max planes t - max above t) (max above t - t) ≡ near
        → (if fall then 2 * (max above t - max planes t) - 1 else if near then 2 * (max planes t - max above t) else max planes t - max above t + (max above t - t)) + 1 ≡ max planes t - t + 1
    cases true near e f = absurd (omega (arith, ltb-true (max planes t) (max above t) e, none))
    cases false true e f = omega (arith, leb-true (max planes t - max above t) (max above t - t) f, none)
    cases false false e f = omega (arith, none)

-- the sum of them over some code groups
abbrev pub left_sum : (ℕ → ℕ) → ℕ → List ℕ → ℕ
left_sum planes t groups = sum_by (λ group. max (planes group) t - t + 1) groups

pub sum_range : (f g : ℕ → ℕ) (first n : ℕ) → ((i : ℕ) → i < first + n → f i ≡ g i) → sum_by f (range_with_len first n) ≡ sum_by g (range_with_len first n)
sum_range f g first zero same = refl
sum_range f g first (suc n) same =
    omega (arith, sum_by-cons f first (range_with_len (first + 1) n), sum_by-cons g first (range_with_len (first + 1) n), same first (omega arith), sum_range f g (first + 1) n (λ i high. same i (omega (arith, high))))

pub plain_size : (none planes : List ℕ) (t : ℕ) → ((group : ℕ) → group < length planes → get_or none group 0 ≡ 0)
    → count_size (plain_line none planes t 0) ≡ left_sum (λ group. get_or planes group 0) t (upto (length planes))
plain_size none planes t zeros =
    residuals_sized (plain_line none planes t 0) (upto (length planes))
    ∙ sum_range (residual_size (plain_line none planes t 0)) (λ group. max (get_or planes group 0) t - t + 1) 0 (length planes) (λ i inside. length_alone (get_or none i 0) (get_or planes i 0) t (zeros i (omega (arith, inside))))

-- it falls with the truncation, to one bit for each code group
pub left_least : (planes : ℕ → ℕ) (t : ℕ) (groups : List ℕ) → length groups ≤ left_sum planes t groups
left_least planes t [] = omega arith
left_least planes t (g ∷ groups) = omega (arith, sum_by-cons (λ group. max (planes group) t - t + 1) g groups, left_least planes t groups)

pub left_falls : (planes : ℕ → ℕ) (t : ℕ) (groups : List ℕ) → left_sum planes (t + 1) groups ≤ left_sum planes t groups
left_falls planes t [] = omega arith
left_falls planes t (g ∷ groups) =
    omega (arith, sum_by-cons (λ group. max (planes group) t - t + 1) g groups, sum_by-cons (λ group. max (planes group) (t + 1) - (t + 1) + 1) g groups, left_falls planes t groups)

pub left_most : (planes : ℕ → ℕ) (t : ℕ) (groups : List ℕ) → ((g : ℕ) → planes g ≤ 15) → left_sum planes t groups ≤ 16 * length groups
left_most planes t [] few = omega arith
left_most planes t (g ∷ groups) few = omega (arith, sum_by-cons (λ group. max (planes group) t - t + 1) g groups, few g, left_most planes t groups few)

pub left_all : (planes : ℕ → ℕ) (groups : List ℕ) → ((g : ℕ) → planes g ≤ 15) → left_sum planes 15 groups ≡ length groups
left_all planes [] few = refl
left_all planes (g ∷ groups) few = omega (arith, sum_by-cons (λ group. max (planes group) 15 - 15 + 1) g groups, few g, left_all planes groups few)

-- The numbers

abbrev pub number_size : Bool → (ℕ → ℕ) → ℕ → ℕ → ℕ
number_size apart planes t group = if nat_lt t (max (planes group) t) then (if apart then 0 else 4) + 4 * (max (planes group) t - t) else 0

one_apart : (p t : ℕ) (test : Bool) → nat_lt t (max p t) ≡ test → (if test then 0 + 4 * (max p t - t) else 0) + 4 ≡ 4 * (max p t - t + 1)
one_apart p t true e = omega arith
one_apart p t false e = omega (arith, ltb-false t (max p t) e)

one_in : (p t : ℕ) (test : Bool) → nat_lt t (max p t) ≡ test → (if test then 4 + 4 * (max p t - t) else 0) + 4 + 4 * (max p (t + 1) - (t + 1) + 1) ≡ 8 * (max p t - t + 1)
one_in p t true e = omega (arith, ltb-true t (max p t) e)
one_in p t false e = omega (arith, ltb-false t (max p t) e)

pub apart_sum : (planes : ℕ → ℕ) (t : ℕ) (groups : List ℕ) → sum_by (number_size true planes t) groups + 4 * length groups ≡ 4 * left_sum planes t groups
apart_sum planes t [] = refl
apart_sum planes t (g ∷ groups) =
    omega (arith, sum_by-cons (number_size true planes t) g groups, sum_by-cons (λ group. max (planes group) t - t + 1) g groups, one_apart (planes g) t (nat_lt t (max (planes g) t)) refl, apart_sum planes t groups)

pub in_sum : (planes : ℕ → ℕ) (t : ℕ) (groups : List ℕ) → sum_by (number_size false planes t) groups + 4 * length groups + 4 * left_sum planes (t + 1) groups ≡ 8 * left_sum planes t groups
in_sum planes t [] = refl
in_sum planes t (g ∷ groups) =
    omega (arith, sum_by-cons (number_size false planes t) g groups, sum_by-cons (λ group. max (planes group) t - t + 1) g groups, sum_by-cons (λ group. max (planes group) (t + 1) - (t + 1) + 1) g groups, one_in (planes g) t (nat_lt t (max (planes g) t)) refl, in_sum planes t groups)

pub length_upto : (n : ℕ) → length (upto n) ≡ n
length_upto n = sym (length-map (upto n) (λ k. k)) ∙ length-map-range_with_len (λ k. k) 0 n

-- the bits of a line's counts where nothing is above it
pub alone_size : (above planes : List ℕ) (row : ℕ → ℤ) (signs : Bool) (line : LineSizes) (t : ℕ) → t ≤ 15 → AreLineSizes above planes row signs line
    → get_or line.plain.all t 0 ≡ left_sum (λ group. get_or planes group 0) t (upto (length planes))
alone_size above planes row signs line t le are = are.plain t le ∙ plain_size [] planes t (λ group inside. refl)

few_planes : (planes : List ℕ) → All (λ count. count ≤ 15) planes → (g : ℕ) → get_or planes g 0 ≤ 15
few_planes planes all g = elim (cases_lt g (length planes)) [ inl inside ↦ all g 0 inside | inr past ↦ omega (arith, get_or-past planes g past) ]
  where
    get_or-past : (l : List ℕ) (i : ℕ) → length l ≤ i → get_or l i 0 ≡ 0
    get_or-past [] i past = refl
    get_or-past (x ∷ l) zero past = absurd (omega (arith, past))
    get_or-past (x ∷ l) (suc i) past = get_or-past l i (omega (arith, past))

pub regular : (above planes : List ℕ) (row : ℕ → ℤ) (signs : Bool) (line : LineSizes) → All (λ count. count ≤ 15) planes → length planes ≤ 2048
    → AreLineSizes above planes row signs line → AreRegular line
regular above planes row signs line counts few are =
    let at : (t : ℕ) → t ≤ 15 → get_or line.plain.all t 0 ≡ left_sum (λ group. get_or planes group 0) t (upto (length planes)) = λ t le. alone_size above planes row signs line t le are in
    record {
      least = λ t le. omega (arith, are.groups, at t le, left_least (λ group. get_or planes group 0) t (upto (length planes)), length_upto (length planes));
      falls = λ t le. omega (arith, at t (omega (arith, le)), at (t + 1) (omega (arith, le)), left_falls (λ group. get_or planes group 0) t (upto (length planes)));
      few = λ t le. omega (arith, at t le, left_most (λ group. get_or planes group 0) t (upto (length planes)) (few_planes planes counts), length_upto (length planes), few);
    }

pub zeros_few : (n : ℕ) → AllByRecursion (λ count. count ≤ 15) (replicate {A = ℕ} n 0)
zeros_few zero = tt
zeros_few (suc n) = (omega arith, zeros_few n)
