-- Lanes that a mask selects.
use Rattle.std.proofs.Common.{◌≡◌, ℕ, ◌<◌, ◌≤◌, List, length, map, get_or, ap, ◌∙◌, arith}
use Rattle.std.specs.Prelude.{Bool, false, nat_eq, replicate, if◌then◌else◌}
use Rattle.std.proofs.lemmas.List.{get_or-replicate}
use Rattle.std.proofs.lemmas.Simd.{get_or-sel_l, get_or-zip2, length-zip2, tops_compared}
use mathlib.Core.Bool.{cond}
use lib.Lanes.{sel_l, top, zip2}
use mir.Syntax.{w8}

-- the lanes that are this many
abbrev equal_mask : List ℕ → ℕ → List Bool
equal_mask xs many = map (top 7) (zip2 (λ a b. cond (nat_eq a b) 255 0) xs (replicate 16 many))

-- zeros there, and the others as they are
pub lanes_but : (xs : List ℕ) (many t : ℕ) → length xs ≡ 16 → t ≤ 15 → get_or (sel_l (equal_mask xs many) (replicate 16 0) xs) t 0 ≡ (if nat_eq (get_or xs t 0) many then 0 else get_or xs t 0)
lanes_but xs many t all le =
    let inside : t < 16 = omega (arith, le) in
    let there : t < length xs = omega (arith, all, le) in
    let long : length (zip2 nat_eq xs (replicate 16 many)) ≡ length xs = length-zip2 nat_eq xs (replicate 16 many) all in
    ap (λ ms. get_or (sel_l ms (replicate 16 0) xs) t 0) (tops_compared w8 nat_eq xs (replicate 16 many))
    ∙ get_or-sel_l (zip2 nat_eq xs (replicate 16 many)) (replicate {A = ℕ} 16 0) xs t 0 (omega (arith, long, there)) inside there
    ∙ ap (λ m. cond m (get_or (replicate {A = ℕ} 16 0) t 0) (get_or xs t 0)) (get_or-zip2 nat_eq xs (replicate 16 many) t 0 0 false there inside ∙ ap (nat_eq (get_or xs t 0)) (get_or-replicate 16 t many 0 inside))
    ∙ ap (λ n. cond (nat_eq (get_or xs t 0) many) n (get_or xs t 0)) (get_or-replicate {A = ℕ} 16 t 0 0 inside)
