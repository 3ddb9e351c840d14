-- The shares of all actors make one whole, when an actor is split and when two are joined.
use Rattle.std.proofs.Common.{◌≡◌, ℕ, zero, suc, ◌+◌, ◌-◌, ◌*◌, ◌^◌, ◌<◌, ◌≤◌, max, List, [], ◌∷◌, get_or, sum_by, sym, refl, ap, ap₂, ◌∙◌, arith, pow-suc, mul_assoc, add-mul, mul-pos}
use Rattle.std.proofs.lemmas.Nat.{pow-add}
use Rattle.std.proofs.lemmas.List.Sums.{sum_by-cons}
use Rattle.xs_lane_core.specs.Machine.{Actor, nobody, halves, copied, joined, joined_parts}
use Rattle.xs_lane_core.specs.Sound.{share}

pub pow_pos : (k : ℕ) → 0 < 2 ^ k
pow_pos zero = omega arith
pow_pos (suc k) = let r = pow_pos k in let e = pow-suc 2 k in omega arith

-- no part is no share
pub no_part : (p k : ℕ) → p * 2 ^ k ≡ 0 → p ≡ 0
no_part zero k e = refl
no_part (suc p) k e = let a : 0 < suc p * 2 ^ k = mul-pos (omega arith) (pow_pos k) in absurd (omega arith)

pub some_part : (p k : ℕ) → 0 < p → 0 < p * 2 ^ k
some_part p k lt = mul-pos lt (pow_pos k)

twice : (p k : ℕ) → p * 2 ^ suc k ≡ 2 * (p * 2 ^ k)
twice p k = let a = ap (λ z. p * z) (pow-suc 2 k) in let b = mul_assoc p (2 ^ k) 2 in let x : ℕ = p * 2 ^ k in let c : p * (2 ^ k * 2) ≡ x * 2 = sym b in let d : p * 2 ^ suc k ≡ x * 2 = a ∙ c in omega arith

spread : (p i j : ℕ) → p * 2 ^ i * 2 ^ j ≡ p * 2 ^ (i + j)
spread p i j = mul_assoc p (2 ^ i) (2 ^ j) ∙ ap (λ z. p * z) (sym (pow-add 2 i j))

-- the joined parts, seen at a finer scale
pub parts_joined : (p i q j n : ℕ) → i ≤ n → j ≤ n → joined_parts p i q j * 2 ^ (n - max i j) ≡ p * 2 ^ (n - i) + q * 2 ^ (n - j)
parts_joined p i q j n a b = let m : ℕ = max i j in let x : ℕ = p * 2 ^ (m - i) in let y : ℕ = q * 2 ^ (m - j) in let z : ℕ = 2 ^ (n - m) in
    add-mul x y z
    ∙ ap₂ (λ (u v : ℕ). u + v) (spread p (m - i) (n - m) ∙ ap (λ e. p * 2 ^ e) (let g : m - i + (n - m) ≡ n - i = omega arith in g))
    (spread q (m - j) (n - m) ∙ ap (λ e. q * 2 ^ e) (let g : m - j + (n - m) ≡ n - j = omega arith in g))

module _ {V : Type 0} where
  pub finer : (n : ℕ) (a : Actor V) → a.halved ≤ n → share (suc n) a ≡ 2 * share n a
  finer n a le = ap (λ z. a.parts * 2 ^ z) (let g : suc n - a.halved ≡ suc (n - a.halved) = omega arith in g) ∙ twice a.parts (n - a.halved)

  pub all_finer : (n : ℕ) (l : List (Actor V)) → ((j : ℕ) → (get_or l j nobody).halved ≤ n) → sum_by (share (suc n)) l ≡ 2 * sum_by (share n) l
  all_finer n [] fine = refl
  all_finer n (x ∷ xs) fine = let a = sum_by-cons (share (suc n)) x xs in let b = sum_by-cons (share n) x xs in let c = finer n x (fine 0) in let d = all_finer n xs (λ j. fine (suc j)) in omega arith

  pub half_left : (n : ℕ) (a : Actor V) → share (suc n) (halves a) ≡ share n a
  half_left n a = ap (λ z. a.parts * 2 ^ z) (let g : suc n - (a.halved + 1) ≡ n - a.halved = omega arith in g)

  pub half_right : (n : ℕ) (a : Actor V) → share (suc n) (copied a) ≡ share n a
  half_right n a = ap (λ z. a.parts * 2 ^ z) (let g : suc n - (a.halved + 1) ≡ n - a.halved = omega arith in g)

  pub share_joined : (n : ℕ) (a b : Actor V) → a.halved ≤ n → b.halved ≤ n → share n (joined a b) ≡ share n a + share n b
  share_joined n a b le le' = parts_joined a.parts a.halved b.parts b.halved n le le'
