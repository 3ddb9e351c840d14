-- The stored values of a pass fill all words of a lane exactly where some place closes it and all below are stored.
use Rattle.std.proofs.Common.{◌≡◌, ◌↔◌, ℕ, zero, suc, ◌<◌, ◌≤◌, ◌⊎◌, inl, inr, ⊎_elim, true, List, sum_by, refl, ap, ◌∙◌, arith}
use Rattle.std.specs.Int.{bit_at}
use Rattle.std.specs.List.{Contains}
use Rattle.std.proofs.lemmas.List.Sums.{get_or-le-sum_by}
use Rattle.std.proofs.lemmas.List.Elements.{All-contains}
use mathlib.Core.Logic.{dite}
use native.Mathlib.Decide.{ℕ_discrete, dec_le}
use Rattle.xs_lane_core.specs.Places.{places, last_place, set_words, word_of, every_word}
use Rattle.xs_lane_core.specs.Machine.{Placing, Actor}
use Rattle.xs_lane_core.specs.Sound.{at, brings, closes_at, closes_below, FillsWord, HasFilled}
use Rattle.xs_lane_core.proofs.Sets.{every_has, has_every}
use Rattle.xs_lane_core.proofs.Placed.{at_here, is_at, brings_here, brings_lit, brings_own, brings_last, closes_here, is_closing, is_below, below_here}
use Rattle.xs_lane_core.proofs.Finds.{some_element}
use Rattle.xs_lane_core.proofs.Meanings.{closing_lit, mask_lit}
use Rattle.xs_lanes.specs.Knowing.{IsWhole}
use Rattle.xs_lanes.specs.Settled.{IsDone}

module _ {T : Type 0} (k : Placing T) where
  counts : (f : T → ℕ) (xs : List T) (x : T) → Contains xs x → f x ≤ sum_by f xs
  counts f xs x c = let h = get_or-le-sum_by f xs c.0 x c.1 in let e = ap f c.2 in omega arith

  -- no value closes the lane before this place
  abbrev NoneBefore : ℕ → ℕ → List T → Type 0
  NoneBefore l d xs = (p : ℕ) → p < d → sum_by (closes_at k l p) xs ≡ 0

  searches : (l n : ℕ) (xs : List T) → NoneBefore l n xs ⊎ ((c : ℕ) × (c < n) × (0 < sum_by (closes_at k l c) xs) × NoneBefore l c xs)
  searches l zero xs = inl (λ p lt. absurd (omega arith))
  searches l (suc n) xs = ⊎_elim
      (λ (none : NoneBefore l n xs). dite (ℕ_discrete (sum_by (closes_at k l n) xs) 0)
      (λ e. inl (λ p lt. dite (ℕ_discrete p n) (λ h. ap (λ q. sum_by (closes_at k l q) xs) h ∙ e) (λ ne. none p (omega arith))))
      (λ ne. inr (n, omega arith, omega arith, none)))
      (λ (r : (c : ℕ) × (c < n) × (0 < sum_by (closes_at k l c) xs) × NoneBefore l c xs). let lt = r.1 in inr (r.0, omega arith, r.2, r.3)) (searches l n xs)

  late : (l d : ℕ) (xs : List T) (x : T) → NoneBefore l d xs → Contains xs x → k.lane x ≡ l → k.closes x ≡ true → d ≤ k.place x
  late l d xs x none c here closes = dite (dec_le d (k.place x)) (λ le. le) (λ no. let n = none (k.place x) (omega arith) in let one = closes_here k l (k.place x) x closes here refl in let h = counts (closes_at k l (k.place x)) xs x c in absurd (omega arith))

  -- a word that is filled, and before whose place nothing closes, has the place stored
  stored_there : (l p : ℕ) (xs : List T) → FillsWord k l (word_of p) xs → NoneBefore l p xs → 0 < sum_by (at k l p) xs
  stored_there l p xs f none = ⊎_elim
      (λ all. let r = some_element (brings k l p) xs (all p refl) in let x : T = r.0 in let lit = brings_lit k l p x r.1 in let own = brings_own k x p lit.1 lit.2 (late l p xs x none r.2 lit.0) in
      let one = at_here k l p x lit.0 own in let h = counts (at k l p) xs x r.2 in omega arith)
      (λ below. let r = some_element (closes_below k l (word_of p)) xs below in let x : T = r.0 in let c = is_below k l (word_of p) x r.1 in let le = late l p xs x none r.2 c.1 c.0 in let lt = c.2 in absurd (omega arith)) f.1

  some_closing : (l : ℕ) (xs : List T) → FillsWord k l 7 xs → NoneBefore l places xs → ⊥
  some_closing l xs f none = ⊎_elim
      (λ all. let r = some_element (brings k l last_place) xs (all last_place refl) in let x : T = r.0 in let lit = brings_lit k l last_place x r.1 in let closes = brings_last k x lit.1 lit.2 in
      let le = late l places xs x none r.2 lit.0 closes in let w = lit.1 in absurd (omega arith))
      (λ below. let r = some_element (closes_below k l 7) xs below in let c = is_below k l 7 r.0 r.1 in let le = late l places xs r.0 none r.2 c.1 c.0 in let lt = c.2 in absurd (omega arith)) f.1

  pub filled_whole : (l : ℕ) (v : Actor T) → ((w : ℕ) → w < set_words → FillsWord k l w v.stored) → IsWhole k l v
  filled_whole l v all = ⊎_elim (λ (none : NoneBefore l places v.stored). absurd (some_closing l v.stored (all 7 (omega arith)) none))
      (λ (r : (c : ℕ) × (c < places) × (0 < sum_by (closes_at k l c) v.stored) × NoneBefore l c v.stored). let low = r.1 in
      (r.0, r.1, r.2, λ p lt. stored_there l p v.stored (all (word_of p) (omega arith)) (λ q lt'. r.3 q (omega arith)))) (searches l places v.stored)

  pub whole_filled : (l : ℕ) (v : Actor T) → IsWhole k l v → (w : ℕ) → w < set_words → FillsWord k l w v.stored
  whole_filled l v h w low = let c : ℕ = h.0 in let xs : List T = v.stored in let r = some_element (closes_at k l c) xs h.2 in let x : T = r.0 in let is = is_closing k l c x r.1 in let in_range = h.1 in dite (dec_le w (word_of c))
      (λ le. (
        low,
        inl (λ p word. dite (dec_le c p)
            (λ after. let same : word_of (k.place x) ≡ word_of p = ap word_of is.2 ∙ (let e : word_of c ≡ word_of p = omega arith in e) in let at_c = is.2 in let b = brings_here k l p x is.1 same in let lit = closing_lit k x p is.0 same (omega arith) in let n = counts (brings k l p) xs x r.2 in omega arith)
            (λ before. let s = some_element (at k l p) xs (h.3 p (omega arith)) in let y : T = s.0 in let there = is_at k l p y s.1 in let b = brings_here k l p y there.0 (ap word_of there.1) in let lit = mask_lit k y p (k.closes y) refl there.1 (omega arith) in
            let n = counts (brings k l p) xs y s.2 in omega arith)),
      ))
      (λ more. let at_c = is.2 in let lt : word_of (k.place x) < w = omega arith in (low, inr (let one = below_here k l w x is.0 is.1 lt in let n = counts (closes_below k l w) xs x r.2 in omega arith)))

  -- a summary that has what the pass filled is whole exactly where the lane is
  pub whole_summary : (l summary : ℕ) (v : Actor T) → ((w : ℕ) → bit_at summary w ≡ 1 → w < set_words) → HasFilled k l summary v.stored → (summary ≡ every_word) ↔ IsWhole k l v
  whole_summary l summary v small f = (
    (λ e. filled_whole l v (λ w low. (f w).0 (every_has summary e w low))),
    λ whole. has_every summary small (λ w low. (f w).1 (whole_filled l v whole w low)),
  )

  pub seen_whole : (l : ℕ) (v : Actor T) → IsDone k v → Contains v.seen (l, every_word) → IsWhole k l v
  seen_whole l v d c = filled_whole l v (λ w low. All-contains (λ (z : ℕ × ℕ). (w : ℕ) → bit_at z.1 w ≡ 1 → FillsWord k z.0 w v.stored) v.seen (l, every_word) d.seen c w (every_has every_word refl w low))
