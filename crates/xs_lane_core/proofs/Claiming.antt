-- The event Claim keeps the machine sound where nobody claimed the lane.
use Rattle.std.proofs.Common.{◌≡◌, ◌≢◌, ℕ, ◌+◌, ◌-◌, ◌<◌, ◌≤◌, Bool, true, false, cond, ltb, eq-eqb, ne_eqb, List, length, length-set, get_or, All, Option, None, sym, refl, ap, ◌∙◌, subst, arith}
use Rattle.std.specs.Int.{bit_at}
use Rattle.xs_lane_core.specs.Places.{has}
use Rattle.xs_lane_core.specs.declared.values.Stand.TheVariants.{Saw, Pulling}
use Rattle.xs_lane_core.specs.Machine.{Placing, Lane, Actor, Machine, lane_at, actor_at, value_at, no_lane, nobody, changed, with_claim, stands}
use Rattle.xs_lane_core.specs.Sound.{over_stands, over_stored, over_got, pulling, owing, OwesDue, IsSized, IsAlone, IsFreshDebt, holding, laid, at, in_lane, brings, closes_at, drawn, claim_flag, StandIsOf, StandsAtWhole, PullsUpToClosing, PullsNext, NoneClosesBefore, ClosesNotBefore, IsLeastClosing, HasShare, SeenBelow, IsSound, IsOf, lies}
use Rattle.xs_lane_core.proofs.Lists.{each_set, each_set_at}
use Rattle.xs_lane_core.proofs.Frames.{summary_stays, fresh_same, up_to_more, next_more}
use Rattle.xs_lane_core.proofs.Turns.{part_same, stand_from, stored_same, got_same, share_turns, Gains, below_more, whole_more}

pub pulls_here : (V : Type 0) (l m j : ℕ) → l ≡ m → pulling {V = V} m (Pulling l j) ≡ 1
pulls_here V l m j e = ap (λ (b : Bool). cond {A = ℕ} b 1 0) (eq-eqb l m e)

pub pulls_elsewhere : (V : Type 0) (l m j : ℕ) → l ≢ m → pulling {V = V} m (Pulling l j) ≡ 0
pulls_elsewhere V l m j ne = ap (λ (b : Bool). cond {A = ℕ} b 1 0) (ne_eqb l m ne)

module _ {V : Type 0} (k : Placing V) where
  pub claims_sound : (m : Machine V) (a l : ℕ) → IsSound k m → a < length m.actors → l < length m.lanes → (actor_at m a).stand ≡ Saw l → (lane_at m l).claimed ≡ false
      → IsSound k (changed m l (with_claim (lane_at m l)) a (stands (Pulling l 0) (actor_at m a)))
  claims_sound m a l s lt lt' stand open_lane = let x : Actor V = actor_at m a in let q : Actor V = stands (Pulling l 0) x in let y : Lane V = with_claim (lane_at m l) in let n : Machine V = changed m l y a q in
      let taken = part_same (λ (z : Lane V). z.taken) m.lanes l y lt' refl in let home = part_same (λ (z : Lane V). z.home) m.lanes l y lt' refl in let summary = part_same (λ (z : Lane V). z.summary) m.lanes l y lt' refl in let values = part_same (λ (z : Lane V). z.values) m.lanes l y lt' refl in
      let lying : (j r : ℕ) → value_at n j r ≡ value_at m j r = λ j r. ap (λ (z : List (Option V)). get_or z r None) (values j) in
      let gains : Gains m.lanes n.lanes = record {
        taken = λ j r. let t = ap (λ z. has z r) (taken j) in omega arith;
        summary = λ j w. let t = ap (λ z. bit_at z w) (summary j) in omega arith;
        claimed = each_set_at (λ j z. (lane_at m j).claimed ≡ true → z.claimed ≡ true) m.lanes l y no_lane lt' (λ e. refl) (λ j ne e. e);
      } in
      let hold : (j r : ℕ) → over_stands (holding k j r) n ≡ over_stands (holding k j r) m = λ j r. let e = stand_from (holding k j r) m a q (Saw l) lt stand in omega arith in
      let lay : (j r : ℕ) → over_stands (laid k j r) n ≡ over_stands (laid k j r) m = λ j r. let e = stand_from (laid k j r) m a q (Saw l) lt stand in omega arith in
      let pull : (j : ℕ) → over_stands (pulling j) n ≡ over_stands (pulling j) m + pulling {V = V} j (Pulling l 0) = λ j. let e = stand_from (pulling j) m a q (Saw l) lt stand in omega arith in
      let none_pulls : over_stands (pulling l) m ≡ 0 = let o = s.claimers.one l in let c : claim_flag (lane_at m l).claimed ≡ 0 = ap claim_flag open_lane in omega arith in
      let stored : (f : V → ℕ) → over_stored f n ≡ over_stored f m = λ f. stored_same f m a q lt refl in let got : (f : V → ℕ) → over_got f n ≡ over_got f m = λ f. got_same f m a q lt refl in
      let drawn_same : (j : ℕ) → drawn k n j ≡ drawn k m j = λ j. got (in_lane k j) in let none_drawn : drawn k n l ≡ 0 = drawn_same l ∙ s.got_in_order.unclaimed l open_lane in
      let none_before : (j d : ℕ) → NoneClosesBefore k m j d → NoneClosesBefore k n j d = λ j d h. each_set (λ (z : Actor V). All (ClosesNotBefore k j d) z.stored) m.actors a q nobody (h a) h in
      let all_before : (b : ℕ) → All (ClosesNotBefore k l 0) (actor_at n b).stored = λ b i d h here closes. omega arith in
      let ended : (j : ℕ) → (lane_at n j).claimed ≡ true → over_stands (pulling j) n ≡ 0 → (0 < drawn k n j) × IsLeastClosing k n j (drawn k n j - 1) = each_set_at (λ j z. z.claimed ≡ true → over_stands (pulling j) n ≡ 0 → (0 < drawn k n j) × IsLeastClosing k n j (drawn k n j - 1)) m.lanes l y no_lane lt'
      (λ e none. let p = pull l in let h = pulls_here V l l 0 refl in absurd (omega arith))
      (λ j ne e none. let p = pull j in let o = s.got_in_order.ended j e (omega arith) in let d = drawn_same j in let o0 = o.0 in (
        omega arith,
        (
          (λ b. subst (λ d. All (ClosesNotBefore k j (d - 1)) (actor_at n b).stored) (sym d) (none_before j (drawn k m j - 1) o.1.0 b)),
          subst (λ d. 0 < over_stored (closes_at k j (d - 1)) n) (sym d) (let t = stored (closes_at k j (drawn k m j - 1)) in let o1 = o.1.1 in omega arith),
        ),
      )) in record {
        value = s.value;
        one_holder = record {
          once = λ j r. let h = hold j r in let d = lay j r in let t = stored (at k j r) in let o = s.one_holder.once j r in let g = ap (λ z. has z r) (taken j) in omega arith;
          own = s.one_holder.own;
          standing = each_set (λ (z : Actor V). StandIsOf k s.value z.stand) m.actors a q nobody tt s.one_holder.standing;
          stored = each_set (λ (z : Actor V). All (IsOf k s.value) z.stored) m.actors a q nobody (s.one_holder.stored a) s.one_holder.stored;
        };
        map_follows = record {
          wide = each_set_at (λ j z. j < length n.lanes → IsSized z) m.lanes l y no_lane lt' (λ h. let wide = s.map_follows.wide l lt' in record { taken = wide.taken; home = wide.home; small = wide.small; values = wide.values }) (λ j ne h. s.map_follows.wide j (let g = length-set m.lanes l y in omega arith));
          lying = λ j r u e. s.map_follows.lying j r u (sym (lying j r) ∙ e);
          filled = λ j r. let c = ap lies (lying j r) in let d = lay j r in let t = stored (at k j r) in let g = got (at k j r) in let o = s.map_follows.filled j r in omega arith;
          got_stored = λ j r. let t = stored (at k j r) in let g = got (at k j r) in let o = s.map_follows.got_stored j r in omega arith;
          got = each_set (λ (z : Actor V). All (IsOf k s.value) z.got) m.actors a q nobody (s.map_follows.got a) s.map_follows.got;
        };
        home_follows = λ j r. let t = stored (brings k j r) in let o = s.home_follows j r in let h = ap (λ z. has z r) (home j) in omega arith;
        summary_follows = summary_stays k m n s.summary_follows (sym (length-set m.lanes l y)) home summary stored (λ j w. let e = stand_from (owing j w) m a q (Saw l) lt stand in omega arith)
            (λ more. each_set (λ (z : Actor V). OwesDue k n z.stand) m.actors a q nobody tt (λ b. more (actor_at m b).stand (s.summary_follows.debts b)))
            (each_set (λ (z : Actor V). IsAlone z → IsFreshDebt k n.lanes z.stored z.stand) m.actors a q nobody (λ _. tt) (λ b alone. fresh_same k m.lanes n.lanes (actor_at m b).stored (actor_at m b).stand summary (s.summary_follows.fresh b alone)));
        claimers = record {
          whole = each_set (λ (z : Actor V). StandsAtWhole n z.stand) m.actors a q nobody (whole_more m n gains (Saw l) (subst (StandsAtWhole m) stand (s.claimers.whole a))) (λ b. whole_more m n gains (actor_at m b).stand (s.claimers.whole b));
          one = each_set_at (λ j z. over_stands (pulling j) n ≤ claim_flag z.claimed) m.lanes l y no_lane lt' (let p = pull l in let h = pulls_here V l l 0 refl in omega arith)
              (λ j ne. let p = pull j in let h = pulls_elsewhere V l j 0 (λ e. ne (sym e)) in let o = s.claimers.one j in omega arith);
          up_to_closing = each_set (λ (z : Actor V). PullsUpToClosing k n z.stand) m.actors a q nobody all_before (λ b. up_to_more k m n none_before (actor_at m b).stand (s.claimers.up_to_closing b));
        };
        got_in_order = record {
          first_ones = λ j r. got (at k j r) ∙ (s.got_in_order.first_ones j r ∙ ap (λ d. cond {A = ℕ} (ltb r d) 1 0) (sym (drawn_same j)));
          unclaimed = each_set_at (λ j z. z.claimed ≡ false → drawn k n j ≡ 0) m.lanes l y no_lane lt' (λ e. none_drawn) (λ j ne e. drawn_same j ∙ s.got_in_order.unclaimed j e);
          next = each_set (λ (z : Actor V). PullsNext k n z.stand) m.actors a q nobody (sym none_drawn) (λ b. next_more k m n drawn_same (actor_at m b).stand (s.got_in_order.next b));
          ended = ended;
        };
        seen_below = each_set (SeenBelow n.lanes) m.actors a q nobody (let b = below_more m.lanes n.lanes x gains (s.seen_below a) in record { repeated = b.repeated; seen = b.seen; gone = b.gone }) (λ b. below_more m.lanes n.lanes (actor_at m b) gains (s.seen_below b));
        whole_share = share_turns m a q n.lanes s.whole_share lt refl refl (subst (HasShare x) stand (s.whole_share.each a));
      }
