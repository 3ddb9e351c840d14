-- Where a lane is whole, the values up to its least closing place are stored.
use Rattle.std.proofs.Common.{◌≡◌, ℕ, zero, suc, ◌<◌, ◌≤◌, ◌⊎◌, inl, inr, ⊎_elim, true, List, [], ◌∷◌, get_or, sum_by, Option, sym, refl, ap, ◌∙◌, arith}
use Rattle.std.specs.List.{Contains}
use Rattle.std.proofs.lemmas.List.Sums.{sum_by-cons, get_or-le-sum_by}
use Rattle.std.proofs.lemmas.List.Elements.{All-contains}
use mathlib.Core.Logic.{dite}
use native.Mathlib.Decide.{ℕ_discrete}
use Rattle.xs_lane_core.specs.Places.{places, last_place, word_of, has, HasEvery}
use Rattle.xs_lane_core.specs.Machine.{Placing, Actor, Machine, lane_at, actor_at, nobody}
use Rattle.xs_lane_core.specs.Sound.{over_stored, at, brings, closes_at, closes_below, IsOf, NoneClosesBefore, ClosesNotBefore, IsLeastClosing, IsSound}
use Rattle.xs_lane_core.proofs.Lists.{some_term}
use Rattle.xs_lane_core.proofs.Sets.{full_has}
use Rattle.xs_lane_core.proofs.Placed.{at_here, brings_lit, brings_own, brings_last, closes_here, is_below}
use Rattle.xs_lane_core.proofs.Turns.{stored_within}
use Rattle.xs_lane_core.proofs.Taking.{some_same}

module _ {A : Type 0} where
  pub some_element : (f : A → ℕ) (l : List A) → 0 < sum_by f l → (x : A) × (0 < f x) × Contains l x
  some_element f [] lt = absurd (omega arith)
  some_element f (x ∷ xs) lt = let c = sum_by-cons f x xs in dite (ℕ_discrete (f x) 0)
      (λ e. let r = some_element f xs (omega arith) in let t = r.2 in let t1 = t.1 in (r.0, r.1, (suc t.0, omega arith, t.2)))
      (λ ne. (x, omega arith, (0, omega arith, refl)))

module _ {V : Type 0} (k : Placing V) where
  pub some_stored : (f : V → ℕ) (m : Machine V) → 0 < over_stored f m → (a : ℕ) × (x : V) × (0 < f x) × Contains (actor_at m a).stored x
  some_stored f m lt = let r = some_term (λ (z : Actor V). sum_by f z.stored) m.actors nobody lt in let e = some_element f (actor_at m r.0).stored r.2 in (r.0, e.0, e.1, e.2)

  pub stored_counts : (f : V → ℕ) (m : Machine V) (a : ℕ) (x : V) → Contains (actor_at m a).stored x → f x ≤ over_stored f m
  stored_counts f m a x c = let h = get_or-le-sum_by f (actor_at m a).stored c.0 x c.1 in let e = ap f c.2 in let w = stored_within f m a in omega arith

  -- what stands at a place is one value
  pub one_value : (value : ℕ → ℕ → Option V) (u v : V) → IsOf k value u → IsOf k value v → k.lane u ≡ k.lane v → k.place u ≡ k.place v → u ≡ v
  one_value value u v h g a b = some_same u v (sym h ∙ ((λ i. value (a i) (b i)) ∙ g))

  -- each place that is home, and before which nothing closes, has a stored value
  pub finds : (m : Machine V) → IsSound k m → (l p : ℕ) → has (lane_at m l).home p ≡ 1 → NoneClosesBefore k m l p → (a : ℕ) × (x : V) × (k.lane x ≡ l) × (k.place x ≡ p) × Contains (actor_at m a).stored x
  finds m s l p home none = let h = s.home_follows l p in let r = some_stored (brings k l p) m (omega arith) in let x : V = r.1 in let lit = brings_lit k l p x r.2 in
      let own = brings_own k x p lit.1 lit.2 (All-contains (ClosesNotBefore k l p) (actor_at m r.0).stored x (none r.0) r.3 lit.0) in (r.0, x, lit.0, own, r.3)

  -- each place of a whole lane before which nothing closes has a stored value
  pub finds_whole : (m : Machine V) → IsSound k m → (l p : ℕ) → p < places → HasEvery (lane_at m l).summary → NoneClosesBefore k m l p → (a : ℕ) × (x : V) × (k.lane x ≡ l) × (k.place x ≡ p) × Contains (actor_at m a).stored x
  finds_whole m s l p low every none = let w : ℕ = word_of p in let due = s.summary_follows.due l w (every w (omega arith)) in ⊎_elim
      (λ full. finds m s l p (full_has _ p full) none)
      (λ below. let r = some_stored (closes_below k l w) m below in let x : V = r.1 in let c = is_below k l w x r.2 in
      let late = All-contains (ClosesNotBefore k l p) (actor_at m r.0).stored x (none r.0) r.3 c.1 c.0 in let lt = c.2 in absurd (omega arith)) due.1

  -- a lane that is whole has a closing value
  pub finds_closing : (m : Machine V) → IsSound k m → (l : ℕ) → HasEvery (lane_at m l).summary → (a : ℕ) × (x : V) × (k.lane x ≡ l) × (k.closes x ≡ true) × (k.place x < places) × Contains (actor_at m a).stored x
  finds_closing m s l every = let due = s.summary_follows.due l 7 (every 7 (omega arith)) in
      let there : (a : ℕ) (x : V) → k.lane x ≡ l → k.closes x ≡ true → Contains (actor_at m a).stored x → (a : ℕ) × (x : V) × (k.lane x ≡ l) × (k.closes x ≡ true) × (k.place x < places) × Contains (actor_at m a).stored x = λ a x here closes c.
      let is = All-contains (IsOf k s.value) (actor_at m a).stored x (s.one_holder.stored a) c in (a, x, here, closes, (s.one_holder.own (k.lane x) (k.place x) x is).2, c) in ⊎_elim
      (λ full. let home = full_has _ last_place full in let h = s.home_follows l last_place in let r = some_stored (brings k l last_place) m (omega arith) in let x : V = r.1 in
      let lit = brings_lit k l last_place x r.2 in there r.0 x lit.0 (brings_last k x lit.1 lit.2) r.3)
      (λ below. let r = some_stored (closes_below k l 7) m below in let c = is_below k l 7 r.1 r.2 in there r.0 r.1 c.1 c.0 r.3) due.1

  pub below_closing : (m : Machine V) → IsSound k m → (l d : ℕ) → HasEvery (lane_at m l).summary → NoneClosesBefore k m l d → d < places
  below_closing m s l d every none = let r = finds_closing m s l every in let le = All-contains (ClosesNotBefore k l d) (actor_at m r.0).stored r.1 (none r.0) r.5 r.2 r.3 in let lt = r.4 in omega arith

  none_one_further : (m : Machine V) (l d : ℕ) → NoneClosesBefore k m l d → over_stored (closes_at k l d) m ≡ 0 → NoneClosesBefore k m l (suc d)
  none_one_further m l d none sum a i e lt here closes = let x : V = get_or (actor_at m a).stored i e in let le = none a i e lt here closes in
      dite (ℕ_discrete (k.place x) d)
      (λ same. let one = closes_here k l d x closes here same in let h = get_or-le-sum_by (closes_at k l d) (actor_at m a).stored i e lt in let w = stored_within (closes_at k l d) m a in absurd (omega arith))
      (λ ne. omega arith)

  searches : (m : Machine V) (l n : ℕ) → NoneClosesBefore k m l n ⊎ ((c : ℕ) × (c < n) × IsLeastClosing k m l c)
  searches m l zero = inl (λ a i e lt here closes. omega arith)
  searches m l (suc n) = ⊎_elim
      (λ (none : NoneClosesBefore k m l n). dite (ℕ_discrete (over_stored (closes_at k l n) m) 0) (λ e. inl (none_one_further m l n none e)) (λ ne. inr (n, omega arith, (none, omega arith))))
      (λ (r : (c : ℕ) × (c < n) × IsLeastClosing k m l c). let lt = r.1 in inr (r.0, omega arith, r.2)) (searches m l n)

  -- a lane that is whole has a least closing place
  pub finds_least : (m : Machine V) → IsSound k m → (l : ℕ) → HasEvery (lane_at m l).summary → (c : ℕ) × (c < places) × IsLeastClosing k m l c
  finds_least m s l every = ⊎_elim (λ (none : NoneClosesBefore k m l places). let lt = below_closing m s l places every none in absurd (omega arith)) (λ (r : (c : ℕ) × (c < places) × IsLeastClosing k m l c). r) (searches m l places)

  -- all places up to the least closing one are stored
  pub whole_stored : (m : Machine V) (l : ℕ) → IsSound k m → HasEvery (lane_at m l).summary → (c : ℕ) × (c < places) × IsLeastClosing k m l c × ((p : ℕ) → p ≤ c → 0 < over_stored (at k l p) m)
  whole_stored m l s every = let r = finds_least m s l every in let lt = r.1 in (
    r.0,
    r.1,
    r.2,
    λ p le.
        let f = finds_whole m s l p (omega arith) every (λ a i d e here closes. let h = r.2.0 a i d e here closes in omega arith) in let c = stored_counts (at k l p) m f.0 f.1 f.4 in let one = at_here k l p f.1 f.2 f.3 in omega arith,
  )
