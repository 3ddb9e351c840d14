-- An actor that holds a place may hold another value of the same place.
use Rattle.std.proofs.Common.{◌≡◌, ℕ, ◌<◌, cond, ◌&&◌, eqb, List, ⊎_elim, length, get_or, sum_by, All, Option, Some, sym, refl, ap, ◌∙◌, subst, arith}
use Rattle.std.proofs.lemmas.List.Sums.{get_or-le-sum_by}
use Rattle.std.proofs.lemmas.Nat.Bits.{bit_at-lt}
use Rattle.xs_lane_core.specs.Places.{word_of, place_bit}
use Rattle.xs_lane_core.specs.declared.values.Stand.{Stand}
use Rattle.xs_lane_core.specs.declared.values.Stand.TheVariants.{Idle, Saw, Holding, Laid, Owing, Pulling, Spent}
use Rattle.xs_lane_core.specs.Machine.{Placing, Actor, Machine, lane_at, actor_at, value_at, nobody, acted, stands}
use Rattle.xs_lane_core.specs.Sound.{over_stands, over_stored, over_got, pulling, owing, IsAlone, IsFreshDebt, OwesDue, holding, laid, at, in_lane, brings, IsOf, StandIsOf, StandsAtWhole, PullsUpToClosing, PullsNext, NoneClosesBefore, ClosesNotBefore, HasShare, SeenBelow, IsSound, lies}
use Rattle.xs_lane_core.proofs.Lists.{each_set, each_set_at, two_within}
use Rattle.xs_lane_core.proofs.Placed.{at_here, at_cases}
use Rattle.xs_lane_core.proofs.Frames.{summary_stays, up_to_more, next_more}
use Rattle.xs_lane_core.proofs.Taking.{first_of_two, second_of_two, some_same}
use Rattle.xs_lane_core.proofs.Turns.{stand_from, stored_same, got_same, stand_within, stored_within, got_within, share_turns, order_stays}

module _ {V : Type 0} (k : Placing V) where
  -- the values of the places, where that of one place is another
  instead : (ℕ → ℕ → Option V) → V → ℕ → ℕ → Option V
  instead value v l p = cond (eqb (k.lane v) l && eqb (k.place v) p) (Some v) (value l p)

  instead_here : (value : ℕ → ℕ → Option V) (v : V) (l p : ℕ) → at k l p v ≡ 1 → instead value v l p ≡ Some v
  unfolding instead
  instead_here value v l p e = first_of_two (eqb (k.lane v) l && eqb (k.place v) p) (Some v) (value l p) e

  instead_else : (value : ℕ → ℕ → Option V) (v : V) (l p : ℕ) → at k l p v ≡ 0 → instead value v l p ≡ value l p
  unfolding instead
  instead_else value v l p e = second_of_two (eqb (k.lane v) l && eqb (k.place v) p) (Some v) (value l p) e

  apart : (u v : V) → at k (k.lane v) (k.place v) u ≡ 0 → at k (k.lane u) (k.place u) v ≡ 0
  apart u v none = ⊎_elim (λ (x : (k.lane v ≡ k.lane u) × (k.place v ≡ k.place u) × (at k (k.lane u) (k.place u) v ≡ 1)). let h = at_here k (k.lane v) (k.place v) u (sym x.0) (sym x.1) in absurd (omega arith))
      (λ (e : at k (k.lane u) (k.place u) v ≡ 0). e) (at_cases k (k.lane u) (k.place u) v)

  other_is : (value : ℕ → ℕ → Option V) (u v : V) → at k (k.lane v) (k.place v) u ≡ 0 → IsOf k value u → IsOf k (instead value v) u
  other_is value u v none h = instead_else value v (k.lane u) (k.place u) (apart u v none) ∙ h

  others_are : (value : ℕ → ℕ → Option V) (v : V) (us : List V) → sum_by (at k (k.lane v) (k.place v)) us ≡ 0 → All (IsOf k value) us → All (IsOf k (instead value v)) us
  others_are value v us none all i d lt = other_is value (get_or us i d) v (let h = get_or-le-sum_by (at k (k.lane v) (k.place v)) us i d lt in omega arith) (all i d lt)

  stand_is : (value : ℕ → ℕ → Option V) (v : V) (s : Stand V) → holding k (k.lane v) (k.place v) s ≡ 0 → laid k (k.lane v) (k.place v) s ≡ 0 → StandIsOf k value s → StandIsOf k (instead value v) s
  stand_is value v Idle none none' h = tt
  stand_is value v (Saw l) none none' h = tt
  stand_is value v (Holding u) none none' h = other_is value u v none h
  stand_is value v (Laid u) none none' h = other_is value u v none' h
  stand_is value v (Owing l o) none none' h = tt
  stand_is value v (Pulling l j) none none' h = tt
  stand_is value v Spent none none' h = tt

  pub holds_another : (m : Machine V) (a : ℕ) (u v : V) → IsSound k m → a < length m.actors → (actor_at m a).stand ≡ Holding u → k.lane v ≡ k.lane u → k.place v ≡ k.place u → IsSound k (acted m a (stands (Holding v) (actor_at m a)))
  holds_another m a u v s lt stand same_lane same_place = let l : ℕ = k.lane v in let p : ℕ = k.place v in let x : Actor V = actor_at m a in let q : Actor V = stands (Holding v) x in let n : Machine V = acted m a q in
      let value : ℕ → ℕ → Option V = instead s.value v in
      let alike : (j r : ℕ) → at k j r v ≡ at k j r u = λ j r i. cond {A = ℕ} (eqb (same_lane i) j && eqb (same_place i) r) 1 0 in
      let mine : holding k l p x.stand ≡ 1 = ap (holding k l p) stand ∙ at_here k l p u (sym same_lane) (sym same_place) in
      let total = stand_within (holding k l p) m a refl in let once = s.one_holder.once l p in let bit = bit_at-lt (get_or (lane_at m l).taken (word_of p) 0) (place_bit p) in let few = s.map_follows.got_stored l p in
      let hold : (j r : ℕ) → over_stands (holding k j r) n ≡ over_stands (holding k j r) m = λ j r. let e = stand_from (holding k j r) m a q (Holding u) lt stand in let c = alike j r in omega arith in
      let lay : (j r : ℕ) → over_stands (laid k j r) n ≡ over_stands (laid k j r) m = λ j r. let e = stand_from (laid k j r) m a q (Holding u) lt stand in omega arith in
      let pull : (j : ℕ) → over_stands (pulling j) n ≡ over_stands (pulling j) m = λ j. let e = stand_from (pulling j) m a q (Holding u) lt stand in omega arith in
      let stored : (f : V → ℕ) → over_stored f n ≡ over_stored f m = λ f. stored_same f m a q lt refl in let got : (f : V → ℕ) → over_got f n ≡ over_got f m = λ f. got_same f m a q lt refl in
      let none_before : (j d : ℕ) → NoneClosesBefore k m j d → NoneClosesBefore k n j d = λ j d h. each_set (λ (z : Actor V). All (ClosesNotBefore k j d) z.stored) m.actors a q nobody (h a) h in
      let next : (b : ℕ) → PullsNext k n (actor_at n b).stand = each_set (λ (z : Actor V). PullsNext k n z.stand) m.actors a q nobody tt (λ b. next_more k m n (λ j. got (in_lane k j)) (actor_at m b).stand (s.got_in_order.next b)) in
      let is_u : IsOf k s.value u = subst (StandIsOf k s.value) stand (s.one_holder.standing a) in let low = (s.one_holder.own (k.lane u) (k.place u) u is_u).2 in
      record {
        value = value;
        one_holder = record {
          once = λ j r. let h = hold j r in let d = lay j r in let t = stored (at k j r) in let o = s.one_holder.once j r in omega arith;
          own = λ j r w e. ⊎_elim
              (λ (h : (k.lane v ≡ j) × (k.place v ≡ r) × (at k j r v ≡ 1)). let same : v ≡ w = some_same v w (sym (instead_here s.value v j r h.2) ∙ e) in (sym (ap k.lane same) ∙ h.0, sym (ap k.place same) ∙ h.1, let b = h.1 in omega arith))
              (λ (h : at k j r v ≡ 0). s.one_holder.own j r w (sym (instead_else s.value v j r h) ∙ e)) (at_cases k j r v);
          standing = each_set_at (λ b (z : Actor V). StandIsOf k value z.stand) m.actors a q nobody lt (instead_here s.value v l p (at_here k l p v refl refl))
              (λ b ne. stand_is s.value v (actor_at m b).stand (let h = two_within (λ (z : Actor V). holding k l p z.stand) m.actors a b nobody (λ e. ne (sym e)) refl in omega arith)
              (let h = stand_within (laid k l p) m b refl in omega arith) (s.one_holder.standing b));
          stored = let all : (b : ℕ) → All (IsOf k value) (actor_at m b).stored = λ b. others_are s.value v (actor_at m b).stored (let h = stored_within (at k l p) m b in omega arith) (s.one_holder.stored b) in
              each_set (λ (z : Actor V). All (IsOf k value) z.stored) m.actors a q nobody (all a) all;
        };
        map_follows = record {
          wide = s.map_follows.wide;
          lying = λ j r w e. ⊎_elim
              (λ (h : (k.lane v ≡ j) × (k.place v ≡ r) × (at k j r v ≡ 1)). let there : value_at m l p ≡ Some w = (λ i. value_at m (h.0 i) (h.1 i)) ∙ e in
              let f = s.map_follows.filled l p in let c : lies (value_at m l p) ≡ 1 = ap lies there in absurd (omega arith))
              (λ (h : at k j r v ≡ 0). instead_else s.value v j r h ∙ s.map_follows.lying j r w e) (at_cases k j r v);
          filled = λ j r. let d = lay j r in let t = stored (at k j r) in let g = got (at k j r) in let o = s.map_follows.filled j r in omega arith;
          got_stored = λ j r. let t = stored (at k j r) in let g = got (at k j r) in let o = s.map_follows.got_stored j r in omega arith;
          got = let all : (b : ℕ) → All (IsOf k value) (actor_at m b).got = λ b. others_are s.value v (actor_at m b).got (let h = got_within (at k l p) m b in omega arith) (s.map_follows.got b) in
              each_set (λ (z : Actor V). All (IsOf k value) z.got) m.actors a q nobody (all a) all;
        };
        home_follows = λ j r. let t = stored (brings k j r) in let o = s.home_follows j r in omega arith;
        summary_follows = summary_stays k m n s.summary_follows refl (λ j. refl) (λ j. refl) stored (λ j w. let e = stand_from (owing j w) m a q (Holding u) lt stand in omega arith)
            (λ more. each_set (λ (z : Actor V). OwesDue k n z.stand) m.actors a q nobody tt (λ b. more (actor_at m b).stand (s.summary_follows.debts b)))
            (each_set (λ (z : Actor V). IsAlone z → IsFreshDebt k m.lanes z.stored z.stand) m.actors a q nobody (λ _. tt) s.summary_follows.fresh);
        claimers = record {
          whole = each_set (λ (z : Actor V). StandsAtWhole m z.stand) m.actors a q nobody tt s.claimers.whole;
          one = λ j. let d = pull j in let o = s.claimers.one j in omega arith;
          up_to_closing = each_set (λ (z : Actor V). PullsUpToClosing k n z.stand) m.actors a q nobody tt (λ b. up_to_more k m n none_before (actor_at m b).stand (s.claimers.up_to_closing b));
        };
        got_in_order = order_stays k m n s.got_in_order got (λ j. refl) pull next (λ j d le. none_before j d) (λ f. let t = stored f in omega arith);
        seen_below = each_set (SeenBelow m.lanes) m.actors a q nobody (let b = s.seen_below a in record { repeated = b.repeated; seen = b.seen; gone = b.gone }) s.seen_below;
        whole_share = share_turns m a q n.lanes s.whole_share lt refl refl (subst (HasShare x) stand (s.whole_share.each a));
      }
