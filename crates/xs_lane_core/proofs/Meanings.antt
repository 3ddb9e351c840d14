-- What soundness means in plain words: which value lies at a place, and which places are home.
use Rattle.std.proofs.Common.{◌≡◌, ◌≢◌, ◌↔◌, ℕ, ◌<◌, ◌≤◌, ◌⊎◌, inl, inr, ⊎_elim, Bool, true, false, true≢false, cond, eqb, eq-eqb, ne_eqb, get_or, Option, Some, None, sym, refl, ap, ◌∙◌, subst, arith}
use Rattle.std.specs.Int.{bit_at}
use Rattle.std.specs.List.{Contains}
use Rattle.std.proofs.lemmas.List.Sums.{get_or-le-sum_by}
use Rattle.std.proofs.lemmas.List.Elements.{All-contains}
use Rattle.std.proofs.lemmas.Nat.Bits.{bit_at-lt, bit_at-zero, bit_at_mask_below, bit_at_mask_inside}
use mathlib.Core.Logic.{dite}
use native.Mathlib.Decide.{ℕ_discrete, dec_le}
use Rattle.xs_lane_core.specs.Places.{places, last_place, set_words, word_of, place_bit, has, own_bit}
use Rattle.xs_lane_core.specs.declared.values.Stand.{Stand}
use Rattle.xs_lane_core.specs.declared.values.Stand.TheVariants.{Idle, Saw, Holding, Laid, Owing, Pulling, Spent}
use Rattle.xs_lane_core.specs.Machine.{Placing, Actor, Machine, lane_at, actor_at, value_at, nobody, mask}
use Rattle.xs_lane_core.specs.Sound.{over_stored, over_got, owing, closes_below, IsDue, laid, at, brings, lies, IsOf, StandIsOf, IsSound}
use Rattle.xs_lane_core.specs.Claim.{IsStored, ComesHome, IsFilled, IsSummed}
use Rattle.xs_lane_core.proofs.Lists.{some_term}
use Rattle.xs_lane_core.proofs.Sets.{bit_low, own_here}
use Rattle.xs_lane_core.proofs.Placed.{at_here, is_at, brings_here, brings_lit, brings_own, is_below, below_here, mask_of_closing, mask_of_last, mask_of_one}
use Rattle.xs_lane_core.proofs.Turns.{stand_within, got_within}
use Rattle.xs_lane_core.proofs.Finds.{some_stored, stored_counts, one_value}

module _ {V : Type 0} (k : Placing V) where
  stored_value : (m : Machine V) (s : IsSound k m) (v : V) → IsStored k m v → IsOf k s.value v
  stored_value m s v h = All-contains (IsOf k s.value) (actor_at m h.0).stored v (s.one_holder.stored h.0) h.1

  lying_value : (m : Machine V) (s : IsSound k m) (v : V) (o : Option V) → IsOf k s.value v → value_at m (k.lane v) (k.place v) ≡ o → 0 < lies o → o ≡ Some v
  lying_value m s v None is e lt = absurd (omega arith)
  lying_value m s v (Some u) is e lt = sym (s.map_follows.lying (k.lane v) (k.place v) u e) ∙ is

  -- a value that was laid lies at its place
  pub laid_lies : (m : Machine V) (a : ℕ) (v : V) → IsSound k m → (actor_at m a).stand ≡ Laid v → value_at m (k.lane v) (k.place v) ≡ Some v
  laid_lies m a v s stand = let l : ℕ = k.lane v in let p : ℕ = k.place v in let w = stand_within (laid k l p) m a refl in let g : laid k l p (actor_at m a).stand ≡ at k l p v = ap (laid k l p) stand in let one = at_here k l p v refl refl in
      let o = s.one_holder.once l p in let b = bit_at-lt (get_or (lane_at m l).taken (word_of p) 0) (place_bit p) in let c = s.map_follows.got_stored l p in let f = s.map_follows.filled l p in
      lying_value m s v (value_at m l p) (subst (StandIsOf k s.value) stand (s.one_holder.standing a)) refl (omega arith)

  -- a value that was stored and not got lies at its place
  pub stored_lies : (m : Machine V) (v : V) → IsSound k m → IsStored k m v → over_got (at k (k.lane v) (k.place v)) m ≡ 0 → value_at m (k.lane v) (k.place v) ≡ Some v
  stored_lies m v s h none = let l : ℕ = k.lane v in let p : ℕ = k.place v in let c = stored_counts k (at k l p) m h.0 v h.1 in let one = at_here k l p v refl refl in let f = s.map_follows.filled l p in
      lying_value m s v (value_at m l p) (stored_value m s v h) refl (omega arith)

  -- each value that was got was stored
  pub got_was_stored : (m : Machine V) (a : ℕ) (v : V) → IsSound k m → Contains (actor_at m a).got v → IsStored k m v
  got_was_stored m a v s h = let l : ℕ = k.lane v in let p : ℕ = k.place v in let c = get_or-le-sum_by (at k l p) (actor_at m a).got h.0 v h.1 in let e = ap (at k l p) h.2 in let w = got_within (at k l p) m a in let one = at_here k l p v refl refl in
      let g = s.map_follows.got_stored l p in let r = some_stored k (at k l p) m (omega arith) in let x : V = r.1 in let there = is_at k l p x r.2 in
      let same : x ≡ v = one_value k s.value x v (stored_value m s x (r.0, r.3)) (All-contains (IsOf k s.value) (actor_at m a).got v (s.map_follows.got a) h) there.0 there.1 in subst (IsStored k m) same (r.0, r.3)

  pub one_stored : (m : Machine V) (u v : V) → IsSound k m → IsStored k m u → IsStored k m v → k.lane u ≡ k.lane v → k.place u ≡ k.place v → u ≡ v
  one_stored m u v s h g = one_value k s.value u v (stored_value m s u h) (stored_value m s v g)

  who_laid : (l p : ℕ) (s : Stand V) → 0 < laid k l p s → (u : V) × (s ≡ Laid u) × (0 < at k l p u)
  who_laid l p Idle lt = absurd (omega arith)
  who_laid l p (Saw m) lt = absurd (omega arith)
  who_laid l p (Holding v) lt = absurd (omega arith)
  who_laid l p (Laid v) lt = (v, refl, lt)
  who_laid l p (Owing m o) lt = absurd (omega arith)
  who_laid l p (Pulling m j) lt = absurd (omega arith)
  who_laid l p Spent lt = absurd (omega arith)

  -- what lies at a place was laid there, or stored and not got
  pub lies_only : (m : Machine V) (l p : ℕ) (v : V) → IsSound k m → value_at m l p ≡ Some v → ((a : ℕ) × ((actor_at m a).stand ≡ Laid v)) ⊎ (IsStored k m v × (over_got (at k l p) m ≡ 0))
  lies_only m l p v s there = let one : lies (value_at m l p) ≡ 1 = ap lies there in let f = s.map_follows.filled l p in let o = s.one_holder.once l p in let b = bit_at-lt (get_or (lane_at m l).taken (word_of p) 0) (place_bit p) in
      let at_place = s.map_follows.lying l p v there in let own = s.one_holder.own l p v at_place in let is : IsOf k s.value v = (λ i. s.value (own.0 i) (own.1 i)) ∙ at_place in
      dite (ℕ_discrete (over_stored (at k l p) m) 0)
      (λ none. let r = some_term (λ (z : Actor V). laid k l p z.stand) m.actors nobody (omega arith) in let w = who_laid l p (actor_at m r.0).stand r.2 in let u : V = w.0 in let here = is_at k l p u w.2 in
      let same : u ≡ v = one_value k s.value u v (subst (StandIsOf k s.value) w.1 (s.one_holder.standing r.0)) is (here.0 ∙ sym own.0) (here.1 ∙ sym own.1) in inl (r.0, w.1 ∙ ap Laid same))
      (λ some_there. let r = some_stored k (at k l p) m (omega arith) in let x : V = r.1 in let here = is_at k l p x r.2 in
      let same : x ≡ v = one_value k s.value x v (stored_value m s x (r.0, r.3)) is (here.0 ∙ sym own.0) (here.1 ∙ sym own.1) in inr (subst (IsStored k m) same (r.0, r.3), omega arith))

  by_value : (m : Machine V) (l p a : ℕ) (x : V) (b : Bool) → k.closes x ≡ b → p < places → k.lane x ≡ l → word_of (k.place x) ≡ word_of p → 0 < bit_at (mask k x) (place_bit p) → Contains (actor_at m a).stored x → ComesHome k m l p
  by_value m l p a x true closes lt here word lit c = inr (
    x,
    (a, c),
    here,
    closes,
    word,
    dite (dec_le (k.place x) p) (λ le. le) (λ no. let n = ap (λ z. bit_at z (place_bit p)) (mask_of_closing k x closes) in let z = bit_at_mask_below (place_bit (k.place x)) 64 (place_bit p) (omega arith) in absurd (omega arith)),
  )
  by_value m l p a x false closes lt here word lit c = let own : k.place x ≡ p = brings_own k x p word lit (λ e. absurd (true≢false (sym e ∙ closes))) in let n = stored_counts k (at k l p) m a x c in let one = at_here k l p x here own in
      inl (dite (ℕ_discrete (k.place x) last_place) (λ last. let n = ap (λ z. bit_at z (place_bit p)) (mask_of_last k x closes last) in let z = bit_at-zero (place_bit p) in absurd (omega arith)) (λ ne. below p own lt ne), omega arith)
    where
      below : (p : ℕ) → k.place x ≡ p → p < places → k.place x ≢ last_place → p < last_place
      below p own lt ne = omega arith

  pub closing_lit : (x : V) (p : ℕ) → k.closes x ≡ true → word_of (k.place x) ≡ word_of p → k.place x ≤ p → bit_at (mask k x) (place_bit p) ≡ 1
  closing_lit x p closes word le = ap (λ z. bit_at z (place_bit p)) (mask_of_closing k x closes) ∙ bit_at_mask_inside (place_bit (k.place x)) 64 (place_bit p) (omega arith) (bit_low p)

  pub mask_lit : (x : V) (p : ℕ) (b : Bool) → k.closes x ≡ b → k.place x ≡ p → p < last_place → bit_at (mask k x) (place_bit p) ≡ 1
  mask_lit x p true closes own lt = closing_lit x p closes (ap word_of own) (omega arith)
  mask_lit x p false closes own lt = let low : k.place x < last_place = omega arith in ap (λ z. bit_at z (place_bit p)) (mask_of_one k x closes (other low)) ∙ (ap (λ q. bit_at (own_bit q) (place_bit p)) own ∙ own_here p)
    where
      other : k.place x < last_place → k.place x ≢ last_place
      other low e = omega arith

  pub home_is : (m : Machine V) (l p : ℕ) → IsSound k m → p < places → (has (lane_at m l).home p ≡ 1) ↔ ComesHome k m l p
  home_is m l p s lt = let h = s.home_follows l p in (
    (λ home. let r = some_stored k (brings k l p) m (omega arith) in let x : V = r.1 in let lit = brings_lit k l p x r.2 in by_value m l p r.0 x (k.closes x) refl lt lit.0 lit.1 lit.2 r.3),
    ⊎_elim
        (λ (t : (p < last_place) × (0 < over_stored (at k l p) m)). let r = some_stored k (at k l p) m t.1 in let x : V = r.1 in let there = is_at k l p x r.2 in let c = stored_counts k (brings k l p) m r.0 x r.3 in
        let e = brings_here k l p x there.0 (ap word_of there.1) in let one = mask_lit x p (k.closes x) refl there.1 t.0 in omega arith)
        (λ (t : (v : V) × IsStored k m v × (k.lane v ≡ l) × (k.closes v ≡ true) × (word_of (k.place v) ≡ word_of p) × (k.place v ≤ p)). let v : V = t.0 in let c = stored_counts k (brings k l p) m t.1.0 v t.1.1 in
        let e = brings_here k l p v t.2 t.4 in let one = closing_lit v p t.3 t.4 t.5 in omega arith),
  )

  pub summary_only : (m : Machine V) (l w : ℕ) → IsSound k m → bit_at (lane_at m l).summary w ≡ 1 → IsFilled k m l w
  summary_only m l w s lit = ⊎_elim inl (λ below. let r = some_stored k (closes_below k l w) m below in let c = is_below k l w r.1 r.2 in inr (r.1, (r.0, r.3), c.1, c.0, c.2)) (s.summary_follows.due l w lit).1

  who_owes : (l w : ℕ) (s : Stand V) → 0 < owing l w s → (o : ℕ) × (s ≡ Owing l o) × (bit_at o w ≡ 1)
  who_owes l w Idle lt = absurd (omega arith)
  who_owes l w (Saw m) lt = absurd (omega arith)
  who_owes l w (Holding v) lt = absurd (omega arith)
  who_owes l w (Laid v) lt = absurd (omega arith)
  who_owes l w (Owing m o) lt = dite (ℕ_discrete m l)
      (λ e. let c : cond {A = ℕ} (eqb m l) (bit_at o w) 0 ≡ bit_at o w = ap (λ (b : Bool). cond {A = ℕ} b (bit_at o w) 0) (eq-eqb m l e) in let b = bit_at-lt o w in (o, ap (λ z. Owing z o) e, omega arith))
      (λ ne. let c : cond {A = ℕ} (eqb m l) (bit_at o w) 0 ≡ 0 = ap (λ (b : Bool). cond {A = ℕ} b (bit_at o w) 0) (ne_eqb m l ne) in absurd (omega arith))
  who_owes l w (Pulling m j) lt = absurd (omega arith)
  who_owes l w Spent lt = absurd (omega arith)

  pub summary_each : (m : Machine V) (l w : ℕ) → IsSound k m → w < set_words → IsFilled k m l w → IsSummed k m l w
  summary_each m l w s low filled = let due : IsDue k m l w = (
    low,
    ⊎_elim inl
        (λ (t : (v : V) × IsStored k m v × (k.lane v ≡ l) × (k.closes v ≡ true) × (word_of (k.place v) < w)). let c = stored_counts k (closes_below k l w) m t.1.0 t.0 t.1.1 in let one = below_here k l w t.0 t.3 t.2 t.4 in inr (omega arith)) filled,
  ) in
      let n = s.summary_follows.noted l w due in let b = bit_at-lt (lane_at m l).summary w in dite (ℕ_discrete (bit_at (lane_at m l).summary w) 1) inl
      (λ ne. let r = some_term (λ (z : Actor V). owing l w z.stand) m.actors nobody (omega arith) in let o = who_owes l w (actor_at m r.0).stand r.2 in inr (r.0, o.0, o.1, o.2))
