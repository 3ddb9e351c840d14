-- Pictures compared part after part.
use Rattle.std.proofs.Common.{◌≡◌, ℕ, zero, suc, ◌+◌, ◌*◌, ◌^◌, ◌<◌, ◌≤◌, max, List, [], ◌∷◌, ◌++◌, length, take, drop, refl, sym, ap, subst, ◌∙◌, arith, inl, inr}
use Rattle.std.specs.Prelude.{fold, sum}
use Rattle.std.specs.Int.{abs_diff}
use Rattle.std.specs.List.{AllByRecursion}
use Rattle.std.proofs.lemmas.List.{drop-drop, take-append-drop}
use Rattle.std.proofs.lemmas.List.Elements.{recursion_from_All}
use Rattle.std.proofs.lemmas.List.Sums.{fold-append, sum_by-append, sum_by-cons}
use Rattle.std.proofs.lemmas.Nat.{mul-le}
use Rattle.xs_layout.specs.Limits.{IsDepth}
use Rattle.xs_layout.specs.declared.Shape.{Shape}
use Rattle.xs_params.specs.Picture.{IsPicture, Picture, row_first, sample_count, width_of}
use Rattle.xs_params.proofs.Areas.{count_most}
use Rattle.xs_trial.specs.declared.comparison.Comparison.{Comparison}
use Rattle.xs_trial.specs.Comparison.{compared, differences}

sum_more : (xs ys : List ℕ) → sum (xs ++ ys) ≡ sum xs + sum ys
sum_more xs ys = sum_by-append (λ x. x) xs ys

differences_more : (xs us ys vs : List ℕ) → length xs ≡ length us → differences (xs ++ ys) (us ++ vs) ≡ differences xs us ++ differences ys vs
differences_more [] [] ys vs same = refl
differences_more [] (u ∷ us) ys vs same = absurd (omega (arith, same))
differences_more (x ∷ xs) [] ys vs same = absurd (omega (arith, same))
differences_more (x ∷ xs) (u ∷ us) ys vs same = ap (λ l. abs_diff x u ∷ l) (differences_more xs us ys vs (omega (arith, same)))

-- a part after a part
pub compared_more : (before : Comparison) (xs us ys vs : List ℕ) → length xs ≡ length us → compared (compared before xs us) ys vs ≡ compared before (xs ++ ys) (us ++ vs)
compared_more before xs us ys vs same =
    let worst : fold max (fold max before.worst (differences xs us)) (differences ys vs) ≡ fold max before.worst (differences (xs ++ ys) (us ++ vs)) =
    sym (fold-append max before.worst (differences xs us) (differences ys vs)) ∙ ap (fold max before.worst) (sym (differences_more xs us ys vs same)) in
    let total : before.sum + sum us + sum vs ≡ before.sum + sum (us ++ vs) = omega (arith, sum_more us vs) in
    ap (λ w. record { worst = w; sum = before.sum + sum us + sum vs }) worst
    ∙ ap (λ s. record { worst = fold max before.worst (differences (xs ++ ys) (us ++ vs)); sum = s }) total

rest_is : (n w end : ℕ) (list : List ℕ) → end ≡ n + w → take w (drop n list) ++ drop end list ≡ drop n list
rest_is n w end list at = ap (λ k. take w (drop n list) ++ drop k list) at ∙ ap (λ l. take w (drop n list) ++ l) (sym (drop-drop w n list)) ∙ take-append-drop w (drop n list)

-- the next samples, and then the rest
pub rest_more : (before : Comparison) (n w end : ℕ) (samples others : List ℕ) → end ≡ n + w → length (take w (drop n samples)) ≡ length (take w (drop n others))
    → compared (compared before (take w (drop n samples)) (take w (drop n others))) (drop end samples) (drop end others) ≡ compared before (drop n samples) (drop n others)
rest_more before n w end samples others at same =
    compared_more before (take w (drop n samples)) (take w (drop n others)) (drop end samples) (drop end others) same
    ∙ ap (λ l. compared before l (take w (drop n others) ++ drop end others)) (rest_is n w end samples at) ∙ ap (compared before (drop n samples)) (rest_is n w end others at)

-- a part has no greater sum
pub part_sum : (w : ℕ) (list : List ℕ) → sum (take w list) ≤ sum list
part_sum w list = omega (arith, sum_more (take w list) (drop w list), ap sum (take-append-drop w list))

sum_most : (most : ℕ) (list : List ℕ) → AllByRecursion (λ x. x < most) list → sum list ≤ length list * most
sum_most most [] all = omega arith
sum_most most (x ∷ list) all =
    let rest = sum_most most list all.1 in
    let here = all.0 in
    let size : length (x ∷ list) * most ≡ most + length list * most = grind arith in
    omega (arith, rest, here, size, sum_by-cons (λ x. x) x list)

deep : (depth : ℕ) → IsDepth depth → 2 ^ depth ≤ 4096
deep depth (inl e) = subst (λ n. 2 ^ n ≤ 4096) (sym e) (omega arith)
deep depth (inr (inl e)) = subst (λ n. 2 ^ n ≤ 4096) (sym e) (omega arith)
deep depth (inr (inr e)) = subst (λ n. 2 ^ n ≤ 4096) (sym e) (omega arith)

-- the sum of a picture's samples is small
pub picture_sum : (picture : Picture) → IsPicture picture → sum picture.samples < 2 ^ 64
picture_sum picture is =
    let size : length picture.samples ≤ 3 * 2 ^ 24 = omega (arith, is.size, count_most picture.shape is.shaped) in
    let most = sum_most (2 ^ picture.shape.depth) picture.samples (recursion_from_All (λ x. x < 2 ^ picture.shape.depth) picture.samples is.small) in
    let product = mul-le (length picture.samples) (2 ^ picture.shape.depth) (3 * 2 ^ 24) 4096 size (deep picture.shape.depth is.shaped.depth) in
    omega (arith, most, product)

-- a row begins where the one before it ends
pub row_next : (shape : Shape) (component row : ℕ) → row_first shape component (row + 1) ≡ row_first shape component row + width_of shape component
row_next shape component row =
    let one : (row + 1) * width_of shape component ≡ row * width_of shape component + width_of shape component = grind arith in
    omega (arith, one)
