-- How lanes, actors and shares are kept in the code.
use Rattle.std.proofs.Common.{◌≡◌, ◌≢◌, ℕ, zero, suc, ◌+◌, ◌*◌, ◌^◌, ◌<◌, nat_eq, eq-eqb, ne_eqb, List, [], ◌∷◌, ◌++◌, length, get_or, replicate, take, bit_and, sym, refl, ap, ◌∙◌, arith, add-mul, zero-mul, one-mul}
use Rattle.std.specs.Int.{bit_at}
use Rattle.std.proofs.lemmas.Nat.{pow-add}
use Rattle.std.proofs.lemmas.Nat.Bits.{bit_at-lt, and_pow}
use Rattle.std.proofs.lemmas.List.Sums.{sum_by_push, sum_by_more}
use mathlib.Core.Logic.{dite}
use native.Mathlib.Decide.{ℕ_discrete}
use Rattle.xs_lane_core.specs.Share.{parts_of}
use Rattle.xs_lane_core.proofs.Shares.{pow_pos}

-- the test of one bit
pub mask_test : (y p : ℕ) → nat_eq (bit_and y (2 ^ p)) 0 ≡ nat_eq (bit_at y p) 0
mask_test y p = let a : bit_and y (2 ^ p) ≡ bit_at y p * 2 ^ p = and_pow y p in let b = bit_at-lt y p in dite (ℕ_discrete (bit_at y p) 0)
    (λ e. eq-eqb (bit_and y (2 ^ p)) 0 (a ∙ (ap (λ u. u * 2 ^ p) e ∙ zero-mul (2 ^ p))) ∙ sym (eq-eqb (bit_at y p) 0 e))
    (λ ne. let one : bit_at y p ≡ 1 = omega arith in let c : bit_and y (2 ^ p) ≡ 2 ^ p = a ∙ (ap (λ u. u * 2 ^ p) one ∙ one-mul (2 ^ p)) in let d = pow_pos p in
    ne_eqb (bit_and y (2 ^ p)) 0 (λ z. absurd (not_zero (2 ^ p) d (sym c ∙ z))) ∙ sym (ne_eqb (bit_at y p) 0 ne))
  where
    not_zero : (x : ℕ) → 0 < x → x ≢ 0
    not_zero x lt e = omega arith

-- one more power, raised
pub one_raised : (into powers : List ℕ) (by i raised d start : ℕ) → i < length powers → raised ≡ get_or powers i d + by → parts_of into ≡ start + parts_of (take i powers) * 2 ^ by
    → parts_of (into ++ raised ∷ []) ≡ start + parts_of (take (i + 1) powers) * 2 ^ by
one_raised into powers by i raised d start lt is h = let p = sum_by_push (λ d. 2 ^ d) into raised in let q = sum_by_more (λ d. 2 ^ d) powers i d lt in let x : ℕ = parts_of (take i powers) in let y : ℕ = 2 ^ get_or powers i d in let z : ℕ = 2 ^ by in
    let r : 2 ^ raised ≡ y * z = ap (λ e. 2 ^ e) is ∙ pow-add 2 (get_or powers i d) by in let t : parts_of (take (i + 1) powers) * z ≡ x * z + y * z = ap (λ w. w * z) q ∙ add-mul x y z in omega arith

pub replicate_more : {A : Type 0} (n : ℕ) (x : A) → replicate n x ++ x ∷ [] ≡ replicate (n + 1) x
replicate_more zero x = refl
replicate_more (suc n) x = ap (λ l. x ∷ l) (replicate_more n x) ∙ ap (λ k. replicate k x) (let e : suc (n + 1) ≡ suc n + 1 = omega arith in e)
