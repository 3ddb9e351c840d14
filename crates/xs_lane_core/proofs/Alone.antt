-- Who has the whole share is alone: all that was stored and got is its own, and the summaries have what it filled.
use Rattle.std.proofs.Common.{◌≡◌, ◌≢◌, ℕ, zero, suc, ◌+◌, ◌-◌, ◌*◌, ◌^◌, ◌<◌, inl, inr, ⊎_elim, List, [], ◌∷◌, length, get_or, sum_by, sym, refl, ap, ◌∙◌, subst, arith, zero-mul}
use Rattle.std.specs.Int.{bit_at}
use Rattle.std.specs.List.{Contains}
use Rattle.std.proofs.lemmas.Nat.{pow-add}
use Rattle.std.proofs.lemmas.Nat.Bits.{bit_at-lt, bit_at_ones, same_from_bits_below}
use Rattle.std.proofs.lemmas.List.Sums.{sum_by-cons}
use mathlib.Core.Logic.{dite}
use native.Mathlib.Decide.{ℕ_discrete}
use Rattle.xs_lane_core.specs.Places.{word_of, place_bit, has, full_word}
use Rattle.xs_lane_core.specs.declared.values.Stand.{Stand}
use Rattle.xs_lane_core.specs.declared.values.Stand.TheVariants.{Idle, Saw, Holding, Laid, Owing, Pulling, Spent}
use Rattle.xs_lane_core.specs.Machine.{Placing, Actor, Machine, lane_at, actor_at, nobody}
use Rattle.xs_lane_core.specs.Sound.{over_stands, over_stored, over_got, owing, brings, closes_below, share, IsAlone, HasShare, WholeShare, IsDue, FillsWord, HasFilled, HomeFollows, IsSound}
use Rattle.xs_lane_core.proofs.Lists.{two_within}
use Rattle.xs_lane_core.proofs.Sets.{full_has}
use Rattle.xs_lane_core.proofs.Shares.{no_part}

module _ {A : Type 0} (f : A → ℕ) where
  sum_none : (l : List A) (d : A) → ((j : ℕ) → j < length l → f (get_or l j d) ≡ 0) → sum_by f l ≡ 0
  sum_none [] d h = refl
  sum_none (x ∷ xs) d h = let a = sum_by-cons f x xs in let b = h 0 (omega arith) in let c = sum_none xs d (λ j lt. h (suc j) (omega arith)) in omega arith

  sum_only : (l : List A) (i : ℕ) (d : A) → i < length l → ((j : ℕ) → j ≢ i → f (get_or l j d) ≡ 0) → sum_by f l ≡ f (get_or l i d)
  sum_only [] i d lt h = absurd (omega arith)
  sum_only (x ∷ xs) zero d lt h = let a = sum_by-cons f x xs in let c = sum_none xs d (λ j lt'. h (suc j) (λ q. omega arith)) in omega arith
  sum_only (x ∷ xs) (suc i) d lt h = let a = sum_by-cons f x xs in let b = h 0 (λ q. omega arith) in let c = sum_only xs i d (omega arith) (λ j ne. h (suc j) (λ q. ne (omega arith))) in omega arith

module _ {V : Type 0} where
  no_share : (v : Actor V) (s : Stand V) → HasShare v s → v.parts ≡ 0 → (s ≡ Spent) × (v.stored ≡ []) × (v.got ≡ [])
  no_share v Idle h e = absurd (omega arith)
  no_share v (Saw l) h e = absurd (omega arith)
  no_share v (Holding x) h e = absurd (omega arith)
  no_share v (Laid x) h e = absurd (omega arith)
  no_share v (Owing l o) h e = absurd (omega arith)
  no_share v (Pulling l j) h e = absurd (omega arith)
  no_share v Spent h e = (refl, h.1, h.3)

  pub others_spent : (m : Machine V) (a b : ℕ) → WholeShare m → a < length m.actors → IsAlone (actor_at m a) → b ≢ a → ((actor_at m b).stand ≡ Spent) × ((actor_at m b).stored ≡ []) × ((actor_at m b).got ≡ [])
  others_spent m a b w lt alone ne = let n : ℕ = w.scale in let v : Actor V = actor_at m a in let u : Actor V = actor_at m b in let le = w.fine a in
      let all : share n v ≡ 2 ^ n = ap (λ z. z * 2 ^ (n - v.halved)) alone ∙ (sym (pow-add 2 v.halved (n - v.halved)) ∙ ap (λ z. 2 ^ z) (let g : v.halved + (n - v.halved) ≡ n = omega arith in g)) in
      let two = two_within (share n) m.actors a b nobody (λ e. ne (sym e)) (zero-mul (2 ^ (n - 0))) in let whole = w.whole in
      no_share u u.stand (w.each b) (no_part u.parts (n - u.halved) (let g : share n u ≡ 0 = omega arith in g))

  pub alone_stands : (f : Stand V → ℕ) (m : Machine V) (a : ℕ) → f Spent ≡ 0 → WholeShare m → a < length m.actors → IsAlone (actor_at m a) → over_stands f m ≡ f (actor_at m a).stand
  alone_stands f m a none w lt alone = sum_only (λ (z : Actor V). f z.stand) m.actors a nobody lt (λ b ne. ap f (others_spent m a b w lt alone ne).0 ∙ none)

  pub alone_stored : (f : V → ℕ) (m : Machine V) (a : ℕ) → WholeShare m → a < length m.actors → IsAlone (actor_at m a) → over_stored f m ≡ sum_by f (actor_at m a).stored
  alone_stored f m a w lt alone = sum_only (λ (z : Actor V). sum_by f z.stored) m.actors a nobody lt (λ b ne. ap (sum_by f) (others_spent m a b w lt alone ne).1)

  pub alone_got : (f : V → ℕ) (m : Machine V) (a : ℕ) → WholeShare m → a < length m.actors → IsAlone (actor_at m a) → over_got f m ≡ sum_by f (actor_at m a).got
  alone_got f m a w lt alone = sum_only (λ (z : Actor V). sum_by f z.got) m.actors a nobody lt (λ b ne. ap (sum_by f) (others_spent m a b w lt alone ne).2)

  -- what is stored, the actor that is alone stored
  stored_by : (m : Machine V) (a b : ℕ) (x : V) → WholeShare m → a < length m.actors → IsAlone (actor_at m a) → Contains (actor_at m b).stored x → Contains (actor_at m a).stored x
  stored_by m a b x w lt alone c = dite (ℕ_discrete b a) (λ e. subst (λ i. Contains (actor_at m i).stored x) e c)
      (λ ne. let none = subst (λ xs. Contains xs x) (others_spent m a b w lt alone ne).1 c in let low = none.1 in absurd (omega arith))

  pub alone_is_stored : (m : Machine V) (a : ℕ) → WholeShare m → a < length m.actors → IsAlone (actor_at m a) → (x : V) → (b : ℕ) × Contains (actor_at m b).stored x → Contains (actor_at m a).stored x
  alone_is_stored m a w lt alone x h = stored_by m a h.0 x w lt alone h.1

  -- who is alone and stands so, is the only one that can act
  pub acts_alone : (m : Machine V) (a b : ℕ) (s : Stand V) → WholeShare m → a < length m.actors → b < length m.actors → IsAlone (actor_at m b) → (actor_at m a).stand ≡ s → s ≢ Spent → a ≡ b
  acts_alone m a b s w lt lt' alone stand there = dite (ℕ_discrete a b) (λ e. e) (λ ne. absurd (there (sym stand ∙ (others_spent m b a w lt' alone ne).0)))

module _ {V : Type 0} (k : Placing V) where
  word_full : (m : Machine V) (l w : ℕ) → HomeFollows k m → get_or (lane_at m l).home w 0 < 18446744073709551616 → ((p : ℕ) → word_of p ≡ w → 0 < over_stored (brings k l p) m) → get_or (lane_at m l).home w 0 ≡ full_word
  word_full m l w home small all = same_from_bits_below 64 (get_or (lane_at m l).home w 0) full_word small (omega arith) (λ q lt. let p : ℕ = 64 * w + q in let word : word_of p ≡ w = omega arith in let bit : place_bit p ≡ q = omega arith in
      let h = home l p in let some = all p word in let b : has (lane_at m l).home p ≡ bit_at (get_or (lane_at m l).home w 0) q = (λ i. bit_at (get_or (lane_at m l).home (word i) 0) (bit i)) in let o = bit_at_ones 64 q lt in omega arith)

  -- a word is due exactly where the values of who is alone fill it
  pub due_fills : (m : Machine V) (a l w : ℕ) → IsSound k m → a < length m.actors → IsAlone (actor_at m a) → IsDue k m l w → FillsWord k l w (actor_at m a).stored
  due_fills m a l w s lt alone d = (
    d.0,
    ⊎_elim
        (λ full. inl (λ p word. let h = s.home_follows l p in let one : has (lane_at m l).home p ≡ 1 = ap (λ z. bit_at (get_or (lane_at m l).home z 0) (place_bit p)) word ∙ full_has _ p full in
        let t = alone_stored (brings k l p) m a s.whole_share lt alone in omega arith))
        (λ below. let t = alone_stored (closes_below k l w) m a s.whole_share lt alone in inr (omega arith)) d.1,
  )

  pub fills_due : (m : Machine V) (a l w : ℕ) → IsSound k m → a < length m.actors → l < length m.lanes → IsAlone (actor_at m a) → FillsWord k l w (actor_at m a).stored → IsDue k m l w
  fills_due m a l w s lt lt' alone f = (
    f.0,
    ⊎_elim
        (λ all. inl (word_full m l w s.home_follows ((s.map_follows.wide l lt').small w) (λ p word. let h = all p word in let t = alone_stored (brings k l p) m a s.whole_share lt alone in omega arith)))
        (λ below. let t = alone_stored (closes_below k l w) m a s.whole_share lt alone in inr (omega arith)) f.1,
  )

  -- where who is alone owes nothing, the summary has what it filled
  pub alone_filled : (m : Machine V) (a l : ℕ) → IsSound k m → a < length m.actors → l < length m.lanes → IsAlone (actor_at m a) → ((w : ℕ) → owing l w (actor_at m a).stand ≡ 0) → HasFilled k l (lane_at m l).summary (actor_at m a).stored
  alone_filled m a l s lt lt' alone none w = (
    (λ lit. due_fills m a l w s lt alone (s.summary_follows.due l w lit)),
    λ f. let n = s.summary_follows.noted l w (fills_due m a l w s lt lt' alone f) in let o = alone_stands (owing l w) m a refl s.whole_share lt alone in let z = none w in let b = bit_at-lt (lane_at m l).summary w in omega arith,
  )
