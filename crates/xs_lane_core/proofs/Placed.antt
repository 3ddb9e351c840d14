-- What one value counts for: its place, the places that it brings home, the place that it closes.
use Rattle.std.proofs.Common.{◌≡◌, ◌≢◌, ℕ, ◌-◌, ◌^◌, ◌<◌, ◌≤◌, ◌⊎◌, inl, inr, ⊎_elim, Bool, true, false, cond, ◌&&◌, eqb, ltb, eq-eqb, ne_eqb, sym, refl, ap, ◌∙◌, arith}
use Rattle.std.specs.Int.{bit_at}
use Rattle.std.proofs.lemmas.Nat.Bits.{bit_at-pow_other, bit_at-zero, bit_at_mask_below}
use Rattle.std.proofs.lemmas.Bool.{eqb-true, ltb-true, lt-ltb}
use Rattle.std.proofs.Math.Pow.{pow-lt}
use mathlib.Core.Logic.{dite}
use native.Mathlib.Decide.{ℕ_discrete}
use Rattle.xs_lane_core.specs.Places.{last_place, word_of, place_bit, own_bit}
use Rattle.xs_lane_core.specs.Machine.{Placing, home_bits, mask}
use Rattle.xs_lane_core.specs.Sound.{at, in_lane, brings, closes_at, closes_below}
use Rattle.xs_lane_core.proofs.Sets.{same_place}
use Rattle.xs_lane_core.proofs.Shares.{pow_pos}

both_pass : (a b : Bool) → a ≡ true → b ≡ true → cond {A = ℕ} (a && b) 1 0 ≡ 1
both_pass a b p q = λ i. cond {A = ℕ} (p i && q i) 1 0

first_fails : (a b : Bool) → a ≡ false → cond {A = ℕ} (a && b) 1 0 ≡ 0
first_fails a b p = λ i. cond {A = ℕ} (p i && b) 1 0

second_fails : (a b : Bool) → b ≡ false → cond {A = ℕ} (a && b) 1 0 ≡ 0
second_fails true b p = λ i. cond {A = ℕ} (p i) 1 0
second_fails false b p = refl

cond_both : (a b : Bool) (n : ℕ) → a ≡ true → b ≡ true → cond {A = ℕ} (a && b) n 0 ≡ n
cond_both a b n p q = λ i. cond {A = ℕ} (p i && q i) n 0

cond_first : (a b : Bool) (n : ℕ) → a ≡ false → cond {A = ℕ} (a && b) n 0 ≡ 0
cond_first a b n p = λ i. cond {A = ℕ} (p i && b) n 0

cond_second : (a b : Bool) (n : ℕ) → b ≡ false → cond {A = ℕ} (a && b) n 0 ≡ 0
cond_second true b n p = λ i. cond {A = ℕ} (p i) n 0
cond_second false b n p = refl

module _ {V : Type 0} (k : Placing V) where
  pub at_here : (l p : ℕ) (v : V) → k.lane v ≡ l → k.place v ≡ p → at k l p v ≡ 1
  at_here l p v a b = both_pass (eqb (k.lane v) l) (eqb (k.place v) p) (eq-eqb (k.lane v) l a) (eq-eqb (k.place v) p b)

  pub at_other_lane : (l p : ℕ) (v : V) → k.lane v ≢ l → at k l p v ≡ 0
  at_other_lane l p v ne = first_fails (eqb (k.lane v) l) (eqb (k.place v) p) (ne_eqb (k.lane v) l ne)

  pub at_other_place : (l p : ℕ) (v : V) → k.place v ≢ p → at k l p v ≡ 0
  at_other_place l p v ne = second_fails (eqb (k.lane v) l) (eqb (k.place v) p) (ne_eqb (k.place v) p ne)

  -- a value is at a place, or counts for nothing there
  pub at_cases : (l p : ℕ) (v : V) → ((k.lane v ≡ l) × (k.place v ≡ p) × (at k l p v ≡ 1)) ⊎ (at k l p v ≡ 0)
  at_cases l p v = dite (ℕ_discrete (k.lane v) l)
      (λ a. dite (ℕ_discrete (k.place v) p) (λ b. inl (a, b, at_here l p v a b)) (λ nb. inr (at_other_place l p v nb)))
      (λ na. inr (at_other_lane l p v na))

  pub at_most_one : (l p : ℕ) (v : V) → at k l p v ≤ 1
  at_most_one l p v = ⊎_elim (λ (x : (k.lane v ≡ l) × (k.place v ≡ p) × (at k l p v ≡ 1)). let e = x.2 in omega arith) (λ (e : at k l p v ≡ 0). omega arith) (at_cases l p v)

  -- who counts for something at a place is there
  pub is_at : (l p : ℕ) (v : V) → 0 < at k l p v → (k.lane v ≡ l) × (k.place v ≡ p)
  is_at l p v lt = ⊎_elim (λ (x : (k.lane v ≡ l) × (k.place v ≡ p) × (at k l p v ≡ 1)). (x.0, x.1)) (λ (e : at k l p v ≡ 0). absurd (omega arith)) (at_cases l p v)

  pub in_lane_here : (l : ℕ) (v : V) → k.lane v ≡ l → in_lane k l v ≡ 1
  in_lane_here l v e = ap (λ (b : Bool). cond {A = ℕ} b 1 0) (eq-eqb (k.lane v) l e)

  pub in_lane_other : (l : ℕ) (v : V) → k.lane v ≢ l → in_lane k l v ≡ 0
  in_lane_other l v ne = ap (λ (b : Bool). cond {A = ℕ} b 1 0) (ne_eqb (k.lane v) l ne)

  pub brings_here : (l p : ℕ) (v : V) → k.lane v ≡ l → word_of (k.place v) ≡ word_of p → brings k l p v ≡ bit_at (mask k v) (place_bit p)
  brings_here l p v e w = cond_both (eqb (k.lane v) l) (eqb (word_of (k.place v)) (word_of p)) (bit_at (mask k v) (place_bit p)) (eq-eqb (k.lane v) l e) (eq-eqb (word_of (k.place v)) (word_of p) w)

  pub brings_other : (l p : ℕ) (v : V) → k.lane v ≢ l → brings k l p v ≡ 0
  brings_other l p v ne = cond_first (eqb (k.lane v) l) (eqb (word_of (k.place v)) (word_of p)) (bit_at (mask k v) (place_bit p)) (ne_eqb (k.lane v) l ne)

  pub brings_other_word : (l p : ℕ) (v : V) → word_of (k.place v) ≢ word_of p → brings k l p v ≡ 0
  brings_other_word l p v ne = cond_second (eqb (k.lane v) l) (eqb (word_of (k.place v)) (word_of p)) (bit_at (mask k v) (place_bit p)) (ne_eqb (word_of (k.place v)) (word_of p) ne)

  -- who brings a place home is of its lane and word, and has its bit
  pub brings_lit : (l p : ℕ) (v : V) → 0 < brings k l p v → (k.lane v ≡ l) × (word_of (k.place v) ≡ word_of p) × (0 < bit_at (mask k v) (place_bit p))
  brings_lit l p v lt = dite (ℕ_discrete (k.lane v) l)
      (λ e. dite (ℕ_discrete (word_of (k.place v)) (word_of p)) (λ w. let h = brings_here l p v e w in (e, w, omega arith)) (λ nw. let z = brings_other_word l p v nw in absurd (omega arith)))
      (λ ne. let z = brings_other l p v ne in absurd (omega arith))

  pub closes_here : (l p : ℕ) (v : V) → k.closes v ≡ true → k.lane v ≡ l → k.place v ≡ p → closes_at k l p v ≡ 1
  closes_here l p v c a b = ap (λ (c : Bool). cond {A = ℕ} c (at k l p v) 0) c ∙ at_here l p v a b

  closing : (l p : ℕ) (v : V) (c : Bool) → k.closes v ≡ c → 0 < closes_at k l p v → (k.closes v ≡ true) × (0 < at k l p v)
  closing l p v true e lt = (e, let n = ap (λ (c : Bool). cond {A = ℕ} c (at k l p v) 0) e in omega arith)
  closing l p v false e lt = let n = ap (λ (c : Bool). cond {A = ℕ} c (at k l p v) 0) e in absurd (omega arith)

  -- who counts as closing at a place closes there
  pub is_closing : (l p : ℕ) (v : V) → 0 < closes_at k l p v → (k.closes v ≡ true) × (k.lane v ≡ l) × (k.place v ≡ p)
  is_closing l p v lt = let c = closing l p v (k.closes v) refl lt in let h = is_at l p v c.1 in (c.0, h.0, h.1)

  below_by : (l w : ℕ) (v : V) (a b c : Bool) → k.closes v ≡ a → eqb (k.lane v) l ≡ b → ltb (word_of (k.place v)) w ≡ c → 0 < cond {A = ℕ} (a && b && c) 1 0 → (k.closes v ≡ true) × (k.lane v ≡ l) × (word_of (k.place v) < w)
  below_by l w v true true true p q r lt = (p, eqb-true (k.lane v) l q, ltb-true (word_of (k.place v)) w r)
  below_by l w v true true false p q r lt = absurd (omega arith)
  below_by l w v true false c p q r lt = absurd (omega arith)
  below_by l w v false b c p q r lt = absurd (omega arith)

  -- who counts as closing below a word closes there
  pub is_below : (l w : ℕ) (v : V) → 0 < closes_below k l w v → (k.closes v ≡ true) × (k.lane v ≡ l) × (word_of (k.place v) < w)
  is_below l w v = below_by l w v (k.closes v) (eqb (k.lane v) l) (ltb (word_of (k.place v)) w) refl refl refl

  pub below_here : (l w : ℕ) (v : V) → k.closes v ≡ true → k.lane v ≡ l → word_of (k.place v) < w → closes_below k l w v ≡ 1
  below_here l w v c e lt = let a = eq-eqb (k.lane v) l e in let b = lt-ltb (word_of (k.place v)) w lt in λ i. cond {A = ℕ} (c i && a i && b i) 1 0

  mask_of_open : (v : V) → k.closes v ≡ false → mask k v ≡ cond {A = ℕ} (eqb (k.place v) last_place) 0 (own_bit (k.place v))
  mask_of_open v e = ap (λ (b : Bool). home_bits b (k.place v)) e

  pub mask_of_closing : (v : V) → k.closes v ≡ true → mask k v ≡ 2 ^ 64 - 2 ^ place_bit (k.place v)
  mask_of_closing v e = ap (λ (b : Bool). home_bits b (k.place v)) e

  pub mask_of_last : (v : V) → k.closes v ≡ false → k.place v ≡ last_place → mask k v ≡ 0
  mask_of_last v e last = mask_of_open v e ∙ ap (λ (b : Bool). cond {A = ℕ} b 0 (own_bit (k.place v))) (eq-eqb (k.place v) last_place last)

  pub mask_of_one : (v : V) → k.closes v ≡ false → k.place v ≢ last_place → mask k v ≡ own_bit (k.place v)
  mask_of_one v e other = mask_of_open v e ∙ ap (λ (b : Bool). cond {A = ℕ} b 0 (own_bit (k.place v))) (ne_eqb (k.place v) last_place other)

  -- a mask is a word
  pub mask_small : (v : V) → mask k v < 18446744073709551616
  mask_small v = by (k.closes v) refl
    where
      by : (b : Bool) → k.closes v ≡ b → mask k v < 18446744073709551616
      by true e = let m = mask_of_closing v e in let p = pow_pos (place_bit (k.place v)) in omega arith
      by false e = dite (ℕ_discrete (k.place v) last_place) (λ last. let m = mask_of_last v e last in omega arith)
          (λ other. let m = mask_of_one v e other in let h : own_bit (k.place v) < 2 ^ 64 = pow-lt {i = place_bit (k.place v)} {j = 64} (omega arith) in omega arith)

  brings_by : (v : V) (p : ℕ) (b : Bool) → k.closes v ≡ b → word_of (k.place v) ≡ word_of p → 0 < bit_at (mask k v) (place_bit p) → (b ≡ true → p ≤ k.place v) → k.place v ≡ p
  brings_by v p true e w lit late = let n = ap (λ z. bit_at z (place_bit p)) (mask_of_closing v e) in let l : p ≤ k.place v = late refl in
      dite (ℕ_discrete (k.place v) p) (λ y. y) (λ ne. let z = bit_at_mask_below (place_bit (k.place v)) 64 (place_bit p) (omega arith) in absurd (omega arith))
  brings_by v p false e w lit late = dite (ℕ_discrete (k.place v) p) (λ y. y) (λ ne. dite (ℕ_discrete (k.place v) last_place)
      (λ last. let n = ap (λ z. bit_at z (place_bit p)) (mask_of_last v e last) in let z = bit_at-zero (place_bit p) in absurd (omega arith))
      (λ other. let n = ap (λ z. bit_at z (place_bit p)) (mask_of_one v e other) in let z = bit_at-pow_other (place_bit (k.place v)) (place_bit p) (λ y. ne (same_place (k.place v) p w (sym y))) in absurd (omega arith)))

  -- a value that brings p home and does not close before p has the place p
  pub brings_own : (v : V) (p : ℕ) → word_of (k.place v) ≡ word_of p → 0 < bit_at (mask k v) (place_bit p) → (k.closes v ≡ true → p ≤ k.place v) → k.place v ≡ p
  brings_own v p = brings_by v p (k.closes v) refl

  last_by : (v : V) (b : Bool) → k.closes v ≡ b → word_of (k.place v) ≡ word_of last_place → 0 < bit_at (mask k v) 63 → b ≡ true
  last_by v true e w lit = refl
  last_by v false e w lit = dite (ℕ_discrete (k.place v) last_place)
      (λ last. let n = ap (λ z. bit_at z 63) (mask_of_last v e last) in let z = bit_at-zero 63 in absurd (omega arith))
      (λ other. let n = ap (λ z. bit_at z 63) (mask_of_one v e other) in let z = bit_at-pow_other (place_bit (k.place v)) 63 (λ y. other (omega arith)) in absurd (omega arith))

  -- a value that brings the last place home closes
  pub brings_last : (v : V) → word_of (k.place v) ≡ word_of last_place → 0 < bit_at (mask k v) 63 → k.closes v ≡ true
  brings_last v = last_by v (k.closes v) refl
