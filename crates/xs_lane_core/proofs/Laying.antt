-- The event Put keeps the machine sound.
use Rattle.std.proofs.Common.{◌≡◌, ℕ, ◌+◌, ◌<◌, ◌≤◌, Bool, cond, length, length-set, get_or, get_or-set_same, get_or-set_other, All, Some, None, sym, refl, ap, ◌∙◌, subst, arith}
use Rattle.std.proofs.lemmas.Nat.Bits.{bit_at-lt}
use Rattle.std.specs.Int.{bit_at}
use mathlib.Core.Logic.{dite}
use native.Mathlib.Decide.{ℕ_discrete}
use Rattle.xs_lane_core.specs.Places.{places, word_of, place_bit, has}
use Rattle.xs_lane_core.specs.declared.values.Stand.TheVariants.{Holding, Laid}
use Rattle.xs_lane_core.specs.Machine.{Placing, Lane, Actor, Machine, lane_at, actor_at, value_at, no_lane, nobody, changed, with_value, stands}
use Rattle.xs_lane_core.specs.Sound.{over_stands, over_stored, over_got, pulling, owing, OwesDue, IsSized, IsAlone, IsFreshDebt, holding, laid, at, in_lane, brings, StandIsOf, StandsAtWhole, PullsUpToClosing, PullsNext, NoneClosesBefore, ClosesNotBefore, HasShare, SeenBelow, IsSound, IsOf, lies}
use Rattle.xs_lane_core.proofs.Lists.{each_set, each_set_at}
use Rattle.xs_lane_core.proofs.Placed.{at_here, at_other_lane, at_other_place}
use Rattle.xs_lane_core.proofs.Frames.{summary_stays, fresh_same, up_to_more, next_more}
use Rattle.xs_lane_core.proofs.Turns.{part_same, stand_from, stored_same, got_same, stand_within, share_turns, Gains, below_more, whole_more, order_stays}
use Rattle.xs_lane_core.proofs.Taking.{some_same}

module _ {V : Type 0} (k : Placing V) where
  pub puts_sound : (m : Machine V) (a : ℕ) (v : V) → IsSound k m → a < length m.actors → k.lane v < length m.lanes → k.place v < places → (actor_at m a).stand ≡ Holding v
      → IsSound k (changed m (k.lane v) (with_value (lane_at m (k.lane v)) (k.place v) (Some v)) a (stands (Laid v) (actor_at m a)))
  puts_sound m a v s lt lt' low stand = let l : ℕ = k.lane v in let p : ℕ = k.place v in let x : Actor V = actor_at m a in let q : Actor V = stands (Laid v) x in let y : Lane V = with_value (lane_at m l) p (Some v) in
      let n : Machine V = changed m l y a q in let wide = s.map_follows.wide l lt' in let long = wide.values in let own : IsOf k s.value v = subst (StandIsOf k s.value) stand (s.one_holder.standing a) in
      let held : at k l p v ≤ over_stands (holding k l p) m = let h = stand_within (holding k l p) m a refl in let g = ap (holding k l p) stand in omega arith in
      let empty : lies (value_at m l p) ≡ 0 = let f = s.map_follows.filled l p in let o = s.one_holder.once l p in let b = bit_at-lt (get_or (lane_at m l).taken (word_of p) 0) (place_bit p) in let h = at_here k l p v refl refl in omega arith in
      let lying : (j r : ℕ) → lies (value_at n j r) ≡ lies (value_at m j r) + at k j r v = each_set_at (λ j z. (r : ℕ) → lies (get_or z.values r None) ≡ lies (value_at m j r) + at k j r v) m.lanes l y no_lane lt'
      (λ r. dite (ℕ_discrete r p)
      (λ e. let h : lies (get_or y.values r None) ≡ 1 = ap (λ i. lies (get_or y.values i None)) e ∙ ap lies (get_or-set_same (lane_at m l).values p (Some v) None (omega arith)) in
      let g = at_here k l r v refl (sym e) in let z : lies (value_at m l r) ≡ 0 = ap (λ i. lies (value_at m l i)) e ∙ empty in omega arith)
      (λ ne. let h = ap lies (get_or-set_other (lane_at m l).values p r (Some v) None ne) in let g = at_other_place k l r v (λ e. ne (sym e)) in omega arith))
      (λ j ne r. let g = at_other_lane k j r v (λ e. ne (sym e)) in omega arith) in
      let taken = part_same (λ (z : Lane V). z.taken) m.lanes l y lt' refl in let home = part_same (λ (z : Lane V). z.home) m.lanes l y lt' refl in let summary = part_same (λ (z : Lane V). z.summary) m.lanes l y lt' refl in let claimed = part_same (λ (z : Lane V). z.claimed) m.lanes l y lt' refl in
      let gains : Gains m.lanes n.lanes = record { taken = λ j r. let t = ap (λ z. has z r) (taken j) in omega arith; summary = λ j w. let t = ap (λ z. bit_at z w) (summary j) in omega arith; claimed = λ j e. claimed j ∙ e } in
      let hold : (j r : ℕ) → over_stands (holding k j r) n + at k j r v ≡ over_stands (holding k j r) m = λ j r. let e = stand_from (holding k j r) m a q (Holding v) lt stand in omega arith in
      let lay : (j r : ℕ) → over_stands (laid k j r) n ≡ over_stands (laid k j r) m + at k j r v = λ j r. let e = stand_from (laid k j r) m a q (Holding v) lt stand in omega arith in
      let pull : (j : ℕ) → over_stands (pulling j) n ≡ over_stands (pulling j) m = λ j. let e = stand_from (pulling j) m a q (Holding v) lt stand in omega arith in
      let stored : (f : V → ℕ) → over_stored f n ≡ over_stored f m = λ f. stored_same f m a q lt refl in let got : (f : V → ℕ) → over_got f n ≡ over_got f m = λ f. got_same f m a q lt refl in
      let none_before : (j d : ℕ) → NoneClosesBefore k m j d → NoneClosesBefore k n j d = λ j d h. each_set (λ (z : Actor V). All (ClosesNotBefore k j d) z.stored) m.actors a q nobody (h a) h in
      let next : (b : ℕ) → PullsNext k n (actor_at n b).stand = each_set (λ (z : Actor V). PullsNext k n z.stand) m.actors a q nobody tt (λ b. next_more k m n (λ j. got (in_lane k j)) (actor_at m b).stand (s.got_in_order.next b)) in record {
        value = s.value;
        one_holder = record {
          once = λ j r. let h = hold j r in let d = lay j r in let t = stored (at k j r) in let o = s.one_holder.once j r in let g = ap (λ z. has z r) (taken j) in omega arith;
          own = s.one_holder.own;
          standing = each_set (λ (z : Actor V). StandIsOf k s.value z.stand) m.actors a q nobody own s.one_holder.standing;
          stored = each_set (λ (z : Actor V). All (IsOf k s.value) z.stored) m.actors a q nobody (s.one_holder.stored a) s.one_holder.stored;
        };
        map_follows = record {
          wide = each_set_at (λ j z. j < length n.lanes → IsSized z) m.lanes l y no_lane lt' (λ h. record { taken = wide.taken; home = wide.home; small = wide.small; values = length-set (lane_at m l).values p (Some v) ∙ long }) (λ j ne h. s.map_follows.wide j (let g = length-set m.lanes l y in omega arith));
          lying = each_set_at (λ j z. (r : ℕ) (u : V) → get_or z.values r None ≡ Some u → s.value j r ≡ Some u) m.lanes l y no_lane lt'
              (λ r u. dite (ℕ_discrete r p)
              (λ e there. let same : v ≡ u = some_same v u (sym (get_or-set_same (lane_at m l).values p (Some v) None (omega arith)) ∙ (ap (λ i. get_or y.values i None) (sym e) ∙ there)) in ap (s.value l) e ∙ (own ∙ ap Some same))
              (λ ne there. s.map_follows.lying l r u (sym (get_or-set_other (lane_at m l).values p r (Some v) None ne) ∙ there)))
              (λ j ne. s.map_follows.lying j);
          filled = λ j r. let c = lying j r in let d = lay j r in let t = stored (at k j r) in let g = got (at k j r) in let o = s.map_follows.filled j r in omega arith;
          got_stored = λ j r. let t = stored (at k j r) in let g = got (at k j r) in let o = s.map_follows.got_stored j r in omega arith;
          got = each_set (λ (z : Actor V). All (IsOf k s.value) z.got) m.actors a q nobody (s.map_follows.got a) s.map_follows.got;
        };
        home_follows = λ j r. let t = stored (brings k j r) in let o = s.home_follows j r in let h = ap (λ z. has z r) (home j) in omega arith;
        summary_follows = summary_stays k m n s.summary_follows (sym (length-set m.lanes l y)) home summary stored (λ j w. let e = stand_from (owing j w) m a q (Holding v) lt stand in omega arith)
            (λ more. each_set (λ (z : Actor V). OwesDue k n z.stand) m.actors a q nobody tt (λ b. more (actor_at m b).stand (s.summary_follows.debts b)))
            (each_set (λ (z : Actor V). IsAlone z → IsFreshDebt k n.lanes z.stored z.stand) m.actors a q nobody (λ _. tt) (λ b alone. fresh_same k m.lanes n.lanes (actor_at m b).stored (actor_at m b).stand summary (s.summary_follows.fresh b alone)));
        claimers = record {
          whole = each_set (λ (z : Actor V). StandsAtWhole n z.stand) m.actors a q nobody tt (λ b. whole_more m n gains (actor_at m b).stand (s.claimers.whole b));
          one = λ j. let d = pull j in let o = s.claimers.one j in let c : cond {A = ℕ} (lane_at n j).claimed 1 0 ≡ cond {A = ℕ} (lane_at m j).claimed 1 0 = ap (λ (b : Bool). cond {A = ℕ} b 1 0) (claimed j) in omega arith;
          up_to_closing = each_set (λ (z : Actor V). PullsUpToClosing k n z.stand) m.actors a q nobody tt (λ b. up_to_more k m n none_before (actor_at m b).stand (s.claimers.up_to_closing b));
        };
        got_in_order = order_stays k m n s.got_in_order got claimed pull next (λ j d le. none_before j d) (λ f. let t = stored f in omega arith);
        seen_below = each_set (SeenBelow n.lanes) m.actors a q nobody (let b = below_more m.lanes n.lanes x gains (s.seen_below a) in record { repeated = b.repeated; seen = b.seen; gone = b.gone }) (λ b. below_more m.lanes n.lanes (actor_at m b) gains (s.seen_below b));
        whole_share = share_turns m a q n.lanes s.whole_share lt refl refl (subst (HasShare x) stand (s.whole_share.each a));
      }
