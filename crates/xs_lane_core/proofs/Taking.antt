-- The event Take keeps the machine sound where the place is free.
use Rattle.std.proofs.Common.{◌≡◌, ℕ, ◌+◌, ◌<◌, Bool, true, false, cond, ◌&&◌, eqb, List, ⊎_elim, length, length-set, get_or, sum_by, All, Option, Some, None, unwrap_or, sym, refl, ap, ◌∙◌, arith}
use Rattle.std.proofs.lemmas.List.Sums.{get_or-le-sum_by}
use Rattle.std.specs.Int.{bit_at}
use mathlib.Core.Logic.{dite}
use native.Mathlib.Decide.{ℕ_discrete}
use Rattle.xs_lane_core.specs.Places.{places, word_of, has}
use Rattle.xs_lane_core.specs.declared.values.Stand.{Stand}
use Rattle.xs_lane_core.specs.declared.values.Stand.TheVariants.{Idle, Saw, Holding, Laid, Owing, Pulling, Spent}
use Rattle.xs_lane_core.specs.Machine.{Placing, Lane, Actor, Machine, lane_in, lane_at, actor_at, value_at, no_lane, nobody, changed, with_taken, stands}
use Rattle.xs_lane_core.specs.Steps.{is_free}
use Rattle.xs_lane_core.specs.Sound.{over_stands, over_stored, over_got, pulling, owing, OwesDue, IsSized, IsAlone, IsFreshDebt, holding, laid, at, in_lane, brings, IsOf, StandIsOf, StandsAtWhole, PullsUpToClosing, PullsNext, NoneClosesBefore, ClosesNotBefore, SeenBelow, IsSound, lies}
use Rattle.xs_lane_core.proofs.Lists.{each_set, each_set_at}
use Rattle.xs_lane_core.proofs.Sets.{joins_here, joins_other}
use Rattle.xs_lane_core.proofs.Placed.{at_here, at_other_lane, at_other_place, at_cases}
use Rattle.xs_lane_core.proofs.Frames.{summary_stays, fresh_same, free_counts_none, counts_holding, counts_laid, counts_pulling, counts_owing, up_to_more, next_more}
use Rattle.xs_lane_core.proofs.Free.{free_has_part}
use Rattle.xs_lane_core.proofs.Turns.{part_same, stand_sum, stored_same, got_same, stand_within, stored_within, got_within, share_turns, Gains, below_more, whole_more, order_stays}

module _ {A : Type 0} where
  pub first_of_two : (b : Bool) (x y : A) → cond {A = ℕ} b 1 0 ≡ 1 → cond {A = A} b x y ≡ x
  first_of_two true x y e = refl
  first_of_two false x y e = absurd (omega arith)

  pub second_of_two : (b : Bool) (x y : A) → cond {A = ℕ} b 1 0 ≡ 0 → cond {A = A} b x y ≡ y
  second_of_two true x y e = absurd (omega arith)
  second_of_two false x y e = refl

  pub some_same : (x y : A) → Some x ≡ Some y → x ≡ y
  some_same x y e = ap (λ (o : Option A). unwrap_or o x) e

module _ {V : Type 0} (k : Placing V) where
  -- the values of the places, with that of one more
  with_one : (ℕ → ℕ → Option V) → V → ℕ → ℕ → Option V
  with_one value v l p = cond (eqb (k.lane v) l && eqb (k.place v) p) (Some v) (value l p)

  one_is : (value : ℕ → ℕ → Option V) (v : V) (l p : ℕ) → at k l p v ≡ 1 → with_one value v l p ≡ Some v
  unfolding with_one
  one_is value v l p e = first_of_two (eqb (k.lane v) l && eqb (k.place v) p) (Some v) (value l p) e

  one_not : (value : ℕ → ℕ → Option V) (v : V) (l p : ℕ) → at k l p v ≡ 0 → with_one value v l p ≡ value l p
  unfolding with_one
  one_not value v l p e = second_of_two (eqb (k.lane v) l && eqb (k.place v) p) (Some v) (value l p) e

  apart : (u v : V) → at k (k.lane v) (k.place v) u ≡ 0 → at k (k.lane u) (k.place u) v ≡ 0
  apart u v none = ⊎_elim (λ (x : (k.lane v ≡ k.lane u) × (k.place v ≡ k.place u) × (at k (k.lane u) (k.place u) v ≡ 1)). let h = at_here k (k.lane v) (k.place v) u (sym x.0) (sym x.1) in absurd (omega arith)) (λ (e : at k (k.lane u) (k.place u) v ≡ 0). e) (at_cases k (k.lane u) (k.place u) v)

  other_is : (value : ℕ → ℕ → Option V) (u v : V) → at k (k.lane v) (k.place v) u ≡ 0 → IsOf k value u → IsOf k (with_one value v) u
  other_is value u v none h = one_not value v (k.lane u) (k.place u) (apart u v none) ∙ h

  others_are : (value : ℕ → ℕ → Option V) (v : V) (us : List V) → sum_by (at k (k.lane v) (k.place v)) us ≡ 0 → All (IsOf k value) us → All (IsOf k (with_one value v)) us
  others_are value v us none all i d lt = other_is value (get_or us i d) v (let h = get_or-le-sum_by (at k (k.lane v) (k.place v)) us i d lt in omega arith) (all i d lt)

  stand_is : (value : ℕ → ℕ → Option V) (v : V) (s : Stand V) → holding k (k.lane v) (k.place v) s ≡ 0 → laid k (k.lane v) (k.place v) s ≡ 0 → StandIsOf k value s → StandIsOf k (with_one value v) s
  stand_is value v Idle none none' h = tt
  stand_is value v (Saw l) none none' h = tt
  stand_is value v (Holding u) none none' h = other_is value u v none h
  stand_is value v (Laid u) none none' h = other_is value u v none' h
  stand_is value v (Owing l o) none none' h = tt
  stand_is value v (Pulling l j) none none' h = tt
  stand_is value v Spent none none' h = tt

  pub takes_sound : (m : Machine V) (a : ℕ) (v : V) → IsSound k m → a < length m.actors → k.lane v < length m.lanes → k.place v < places → is_free (actor_at m a).stand ≡ true → has (lane_at m (k.lane v)).taken (k.place v) ≡ 0
      → IsSound k (changed m (k.lane v) (with_taken (lane_at m (k.lane v)) (k.place v)) a (stands (Holding v) (actor_at m a)))
  takes_sound m a v s lt lt' low free empty = let l : ℕ = k.lane v in let p : ℕ = k.place v in let x : Actor V = actor_at m a in let q : Actor V = stands (Holding v) x in let y : Lane V = with_taken (lane_at m l) p in
      let n : Machine V = changed m l y a q in let value : ℕ → ℕ → Option V = with_one s.value v in let wide = s.map_follows.wide l lt' in let room : word_of p < length (lane_at m l).taken = let t = wide.taken in omega arith in let none = s.one_holder.once l p in let few = s.map_follows.got_stored l p in
      let taken : (j r : ℕ) → has (lane_in n.lanes j).taken r ≡ has (lane_at m j).taken r + at k j r v = each_set_at (λ j z. (r : ℕ) → has z.taken r ≡ has (lane_at m j).taken r + at k j r v) m.lanes l y no_lane lt'
      (λ r. dite (ℕ_discrete r p)
      (λ e. let h : has y.taken r ≡ 1 = ap (has y.taken) e ∙ joins_here (lane_at m l).taken p room in let g = at_here k l r v refl (sym e) in let z : has (lane_at m l).taken r ≡ 0 = ap (has (lane_at m l).taken) e ∙ empty in omega arith)
      (λ ne. let h : has y.taken r ≡ has (lane_at m l).taken r = joins_other (lane_at m l).taken p r room ne in let g = at_other_place k l r v (λ e. ne (sym e)) in omega arith))
      (λ j ne r. let g = at_other_lane k j r v (λ e. ne (sym e)) in omega arith) in
      let home = part_same (λ (z : Lane V). z.home) m.lanes l y lt' refl in let summary = part_same (λ (z : Lane V). z.summary) m.lanes l y lt' refl in let claimed = part_same (λ (z : Lane V). z.claimed) m.lanes l y lt' refl in let values = part_same (λ (z : Lane V). z.values) m.lanes l y lt' refl in
      let lying : (j r : ℕ) → value_at n j r ≡ value_at m j r = λ j r. ap (λ (z : List (Option V)). get_or z r None) (values j) in
      let gains : Gains m.lanes n.lanes = record { taken = λ j r. let t = taken j r in omega arith; summary = λ j w. let t = ap (λ z. bit_at z w) (summary j) in omega arith; claimed = λ j e. claimed j ∙ e } in
      let hold : (j r : ℕ) → over_stands (holding k j r) n ≡ over_stands (holding k j r) m + at k j r v = λ j r. let e = stand_sum (holding k j r) m a q lt in let f = free_counts_none (holding k j r) (counts_holding k j r) x.stand free in omega arith in
      let lay : (j r : ℕ) → over_stands (laid k j r) n ≡ over_stands (laid k j r) m = λ j r. let e = stand_sum (laid k j r) m a q lt in let f = free_counts_none (laid k j r) (counts_laid k j r) x.stand free in omega arith in
      let pull : (j : ℕ) → over_stands (pulling j) n ≡ over_stands (pulling j) m = λ j. let e = stand_sum (pulling j) m a q lt in let f = free_counts_none (pulling j) (counts_pulling k j) x.stand free in omega arith in
      let stored : (f : V → ℕ) → over_stored f n ≡ over_stored f m = λ f. stored_same f m a q lt refl in let got : (f : V → ℕ) → over_got f n ≡ over_got f m = λ f. got_same f m a q lt refl in
      let none_before : (j d : ℕ) → NoneClosesBefore k m j d → NoneClosesBefore k n j d = λ j d h. each_set (λ (z : Actor V). All (ClosesNotBefore k j d) z.stored) m.actors a q nobody (h a) h in
      let next : (b : ℕ) → PullsNext k n (actor_at n b).stand = each_set (λ (z : Actor V). PullsNext k n z.stand) m.actors a q nobody tt (λ b. next_more k m n (λ j. got (in_lane k j)) (actor_at m b).stand (s.got_in_order.next b)) in record {
        value = value;
        one_holder = record {
          once = λ j r. let h = hold j r in let d = lay j r in let t = stored (at k j r) in let o = s.one_holder.once j r in let g = taken j r in omega arith;
          own = λ j r u e. ⊎_elim
              (λ (h : (k.lane v ≡ j) × (k.place v ≡ r) × (at k j r v ≡ 1)). let same : v ≡ u = some_same v u (sym (one_is s.value v j r h.2) ∙ e) in (sym (ap k.lane same) ∙ h.0, sym (ap k.place same) ∙ h.1, let b = h.1 in omega arith))
              (λ (h : at k j r v ≡ 0). s.one_holder.own j r u (sym (one_not s.value v j r h) ∙ e)) (at_cases k j r v);
          standing = each_set (λ (z : Actor V). StandIsOf k value z.stand) m.actors a q nobody (one_is s.value v l p (at_here k l p v refl refl))
              (λ b. stand_is s.value v (actor_at m b).stand (let h = stand_within (holding k l p) m b refl in omega arith) (let h = stand_within (laid k l p) m b refl in omega arith) (s.one_holder.standing b));
          stored = let all : (b : ℕ) → All (IsOf k value) (actor_at m b).stored = λ b. others_are s.value v (actor_at m b).stored (let h = stored_within (at k l p) m b in omega arith) (s.one_holder.stored b) in
              each_set (λ (z : Actor V). All (IsOf k value) z.stored) m.actors a q nobody (all a) all;
        };
        map_follows = record {
          wide = each_set_at (λ j z. j < length n.lanes → IsSized z) m.lanes l y no_lane lt' (λ h. record { taken = length-set (lane_at m l).taken (word_of p) _ ∙ wide.taken; home = wide.home; small = wide.small; values = wide.values }) (λ j ne h. s.map_follows.wide j (let g = length-set m.lanes l y in omega arith));
          lying = λ j r u e. let old : value_at m j r ≡ Some u = sym (lying j r) ∙ e in ⊎_elim
              (λ (h : (k.lane v ≡ j) × (k.place v ≡ r) × (at k j r v ≡ 1)). let there : value_at m l p ≡ Some u = (λ i. value_at m (h.0 i) (h.1 i)) ∙ old in
              let f = s.map_follows.filled l p in let c : lies (value_at m l p) ≡ 1 = ap lies there in absurd (omega arith))
              (λ (h : at k j r v ≡ 0). one_not s.value v j r h ∙ s.map_follows.lying j r u old) (at_cases k j r v);
          filled = λ j r. let c = ap lies (lying j r) in let d = lay j r in let t = stored (at k j r) in let g = got (at k j r) in let o = s.map_follows.filled j r in omega arith;
          got_stored = λ j r. let t = stored (at k j r) in let g = got (at k j r) in let o = s.map_follows.got_stored j r in omega arith;
          got = let all : (b : ℕ) → All (IsOf k value) (actor_at m b).got = λ b. others_are s.value v (actor_at m b).got (let h = got_within (at k l p) m b in omega arith) (s.map_follows.got b) in
              each_set (λ (z : Actor V). All (IsOf k value) z.got) m.actors a q nobody (all a) all;
        };
        home_follows = λ j r. let t = stored (brings k j r) in let o = s.home_follows j r in let h = ap (λ z. has z r) (home j) in omega arith;
        summary_follows = summary_stays k m n s.summary_follows (sym (length-set m.lanes l y)) home summary stored (λ j w. let e = stand_sum (owing j w) m a q lt in let f = free_counts_none (owing j w) (counts_owing k j w) x.stand free in omega arith)
            (λ more. each_set (λ (z : Actor V). OwesDue k n z.stand) m.actors a q nobody tt (λ b. more (actor_at m b).stand (s.summary_follows.debts b)))
            (each_set (λ (z : Actor V). IsAlone z → IsFreshDebt k n.lanes z.stored z.stand) m.actors a q nobody (λ _. tt) (λ b alone. fresh_same k m.lanes n.lanes (actor_at m b).stored (actor_at m b).stand summary (s.summary_follows.fresh b alone)));
        claimers = record {
          whole = each_set (λ (z : Actor V). StandsAtWhole n z.stand) m.actors a q nobody tt (λ b. whole_more m n gains (actor_at m b).stand (s.claimers.whole b));
          one = λ j. let d = pull j in let o = s.claimers.one j in let c : cond {A = ℕ} (lane_at n j).claimed 1 0 ≡ cond {A = ℕ} (lane_at m j).claimed 1 0 = ap (λ (b : Bool). cond {A = ℕ} b 1 0) (claimed j) in omega arith;
          up_to_closing = each_set (λ (z : Actor V). PullsUpToClosing k n z.stand) m.actors a q nobody tt (λ b. up_to_more k m n none_before (actor_at m b).stand (s.claimers.up_to_closing b));
        };
        got_in_order = order_stays k m n s.got_in_order got claimed pull next (λ j d le. none_before j d) (λ f. let t = stored f in omega arith);
        seen_below = each_set (SeenBelow n.lanes) m.actors a q nobody (let b = below_more m.lanes n.lanes x gains (s.seen_below a) in record { repeated = b.repeated; seen = b.seen; gone = b.gone }) (λ b. below_more m.lanes n.lanes (actor_at m b) gains (s.seen_below b));
        whole_share = share_turns m a q n.lanes s.whole_share lt refl refl (free_has_part x x.stand free (s.whole_share.each a));
      }
