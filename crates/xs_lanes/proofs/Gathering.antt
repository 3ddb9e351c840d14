-- Passes that have shares by place make one whole.
use Rattle.std.proofs.Common.{◌≡◌, ℕ, suc, ◌+◌, ◌-◌, ◌*◌, ◌^◌, ◌<◌, max, pow-suc, sym, ap, ◌∙◌, subst, arith, List, [], ◌∷◌, length, get_or}
use Rattle.xs_lane_core.specs.Machine.{Actor, joined, joined_parts, halves, copied}
use Rattle.xs_lane_core.specs.Sound.{IsAlone}
use Rattle.xs_lanes.specs.Gathering.{HasPart, HasRest, HavePartsInTurn, gathered}

parts_are : (n k d : ℕ) → n ≡ suc k + d → joined_parts (2 ^ d) n 1 (suc k) ≡ 2 ^ suc d
parts_are n k d e = let m : max n (suc k) ≡ n = omega arith in let a : max n (suc k) - n ≡ 0 = omega arith in let b : max n (suc k) - suc k ≡ d = omega arith in let s = pow-suc 2 d in
    let u : 2 ^ d * 2 ^ (max n (suc k) - n) ≡ 2 ^ d * 2 ^ 0 = ap (λ z. 2 ^ d * 2 ^ z) a in let w : 1 * 2 ^ (max n (suc k) - suc k) ≡ 1 * 2 ^ d = ap (λ z. 1 * 2 ^ z) b in omega arith

module _ {T : Type 0} where
  pub splits_part : (i : ℕ) (v : Actor T) → HasPart i v → HasPart (i + 1) (halves v) × HasPart (i + 1) (copied v)
  splits_part i v p = ((p.0, ap (λ z. z + 1) p.1), (p.0, ap (λ z. z + 1) p.1))

  pub first_rest : (n : ℕ) (v : Actor T) → HasPart n v → HasRest n n v
  first_rest n v p = (omega arith, p.1, p.0 ∙ ap (λ z. 2 ^ z) (let e : 0 ≡ n - n = omega arith in e))

  pub joins_rest : (n k : ℕ) (v w : Actor T) → HasRest n (suc k) v → HasPart (suc k) w → HasRest n k (joined v w)
  joins_rest n k v w r p = let le = r.0 in let h = r.1 in let q = p.1 in let d : ℕ = n - suc k in (
    omega arith,
    (let m : max v.halved w.halved ≡ n = omega arith in m),
    ap (λ z. joined_parts z v.halved w.parts w.halved) r.2 ∙ (ap (λ z. joined_parts (2 ^ d) z w.parts w.halved) h ∙ (ap (λ z. joined_parts (2 ^ d) n z w.halved) p.0 ∙ (ap (λ z. joined_parts (2 ^ d) n 1 z) q
        ∙ (parts_are n k d (omega arith) ∙ ap (λ z. 2 ^ z) (let e : suc d ≡ n - k = omega arith in e))))),
  )

  pub rest_alone : (n : ℕ) (v : Actor T) → HasRest n 0 v → IsAlone v
  rest_alone n v r = r.2 ∙ ap (λ z. 2 ^ z) (let e : n - 0 ≡ n = omega arith in e) ∙ ap (λ z. 2 ^ z) (sym r.1)

  rest_from : (n k : ℕ) (v : Actor T) (ws : List (Actor T)) → HasPart n v → n ≡ k + length ws → ((i : ℕ) (d : Actor T) → i < length ws → HasPart (k + i + 1) (get_or ws i d)) → HasRest n k (gathered v ws)
  rest_from n k v [] p e all = subst (λ z. HasRest n z v) (let f : n ≡ k = omega arith in f) (first_rest n v p)
  rest_from n k v (w ∷ ws) p e all = joins_rest n k (gathered v ws) w
      (rest_from n (suc k) v ws p (omega arith) (λ i d lt. subst (λ z. HasPart z (get_or ws i d)) (let f : k + suc i + 1 ≡ suc k + i + 1 = omega arith in f) (all (suc i) d (omega arith))))
      (subst (λ z. HasPart z w) (let f : k + 0 + 1 ≡ suc k = omega arith in f) (all 0 w (omega arith)))

  pub gathered_alone : (v : Actor T) (ws : List (Actor T)) → HasPart (length ws) v → HavePartsInTurn ws → IsAlone (gathered v ws)
  gathered_alone v ws p all = rest_alone (length ws) (gathered v ws) (rest_from (length ws) 0 v ws p (omega arith) (λ i d lt. subst (λ z. HasPart z (get_or ws i d)) (let e : i + 1 ≡ 0 + i + 1 = omega arith in e) (all i d lt)))
