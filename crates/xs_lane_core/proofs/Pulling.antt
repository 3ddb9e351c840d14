-- The event Pull keeps the machine sound.
use Rattle.std.proofs.Common.{◌≡◌, ◌≢◌, ℕ, ◌+◌, ◌-◌, ◌<◌, ◌≤◌, Bool, true, false, true≢false, List, cond, if◌then◌else◌, ltb, length, length-set, get_or, get_or-set_same, get_or-set_other, All, Option, Some, None, is_some, sym, refl, ap, ◌∙◌, subst, arith}
use Rattle.std.proofs.lemmas.Bool.{lt-ltb, le-ltb}
use Rattle.std.proofs.lemmas.List.Sums.{sum_by_push}
use Rattle.std.proofs.lemmas.List.Elements.{All-push, All-contains}
use Rattle.std.specs.Int.{bit_at}
use mathlib.Core.Logic.{dite}
use native.Mathlib.Decide.{ℕ_discrete, dec_le}
use Rattle.xs_lane_core.specs.Places.{places, has, HasEvery}
use Rattle.xs_lane_core.specs.declared.values.Stand.{Stand}
use Rattle.xs_lane_core.specs.declared.values.Stand.TheVariants.{Idle, Saw, Holding, Laid, Owing, Pulling, Spent}
use Rattle.xs_lane_core.specs.Machine.{Placing, Lane, Actor, Machine, lane_at, actor_at, value_at, no_lane, nobody, changed, with_value, gets}
use Rattle.xs_lane_core.specs.Sound.{over_stands, over_stored, over_got, pulling, owing, OwesDue, IsSized, IsAlone, IsFreshDebt, holding, laid, at, in_lane, brings, closes_at, drawn, claim_flag, StandIsOf, StandsAtWhole, PullsUpToClosing, PullsNext, NoneClosesBefore, ClosesNotBefore, IsLeastClosing, HasShare, SeenBelow, IsSound, IsOf, lies}
use Rattle.xs_lane_core.proofs.Lists.{each_set, each_set_at, two_within}
use Rattle.xs_lane_core.proofs.Placed.{at_here, at_other_lane, at_other_place, in_lane_here, in_lane_other, closes_here}
use Rattle.xs_lane_core.proofs.Frames.{summary_stays, fresh_same, up_to_more}
use Rattle.xs_lane_core.proofs.Turns.{part_same, stand_from, stand_within, stored_same, got_sum, share_turns, Gains, below_more, whole_more}
use Rattle.xs_lane_core.proofs.Claiming.{pulls_here, pulls_elsewhere}
use Rattle.xs_lane_core.proofs.Finds.{finds_whole, stored_counts, one_value}

one_more : (q d b : ℕ) → (q ≡ d → b ≡ 1) → (q ≢ d → b ≡ 0) → cond {A = ℕ} (ltb q (d + 1)) 1 0 ≡ cond {A = ℕ} (ltb q d) 1 0 + b
one_more q d b here apart = dite (ℕ_discrete q d)
    (λ e. let x = here e in let a = ap (λ (b : Bool). cond {A = ℕ} b 1 0) (lt-ltb q (d + 1) (omega arith)) in let c = ap (λ (b : Bool). cond {A = ℕ} b 1 0) (le-ltb q d (omega arith)) in omega arith)
    (λ ne. let x = apart ne in dite (dec_le d q)
    (λ le. let a = ap (λ (b : Bool). cond {A = ℕ} b 1 0) (le-ltb q (d + 1) (omega arith)) in let c = ap (λ (b : Bool). cond {A = ℕ} b 1 0) (le-ltb q d le) in omega arith)
    (λ lt. let a = ap (λ (b : Bool). cond {A = ℕ} b 1 0) (lt-ltb q (d + 1) (omega arith)) in let c = ap (λ (b : Bool). cond {A = ℕ} b 1 0) (lt-ltb q d (omega arith)) in omega arith))

module _ {V : Type 0} (k : Placing V) where
  quiet_after : (b : Bool) (l j r p : ℕ) → (holding k r p (if b then Idle else Pulling l j) ≡ 0) × (laid k r p (if b then Idle else Pulling l j) ≡ 0)
  quiet_after true l j r p = (refl, refl)
  quiet_after false l j r p = (refl, refl)

  owes_none_after : (b : Bool) (l j r w : ℕ) → owing {V = V} r w (if b then Idle else Pulling l j) ≡ 0
  owes_none_after true l j r w = refl
  owes_none_after false l j r w = refl

  owes_after : (m : Machine V) (b : Bool) (l j : ℕ) → OwesDue k m (if b then Idle else Pulling l j)
  owes_after m true l j = tt
  owes_after m false l j = tt

  fresh_after : (lanes : List (Lane V)) (xs : List V) (b : Bool) (l j : ℕ) → IsFreshDebt k lanes xs (if b then Idle else Pulling l j)
  fresh_after lanes xs true l j = tt
  fresh_after lanes xs false l j = tt

  pulls_most : (b : Bool) (l j r : ℕ) → pulling {V = V} r (if b then Idle else Pulling l (j + 1)) ≤ pulling {V = V} r (Pulling l j)
  pulls_most true l j r = omega arith
  pulls_most false l j r = omega arith

  is_after : (value : ℕ → ℕ → Option V) (b : Bool) (l j : ℕ) → StandIsOf k value (if b then Idle else Pulling l j)
  is_after value true l j = tt
  is_after value false l j = tt

  whole_after : (m : Machine V) (b : Bool) (l j : ℕ) → HasEvery (lane_at m l).summary → StandsAtWhole m (if b then Idle else Pulling l j)
  whole_after m true l j h = tt
  whole_after m false l j h = h

  up_to_after : (m : Machine V) (b : Bool) (l j : ℕ) → (b ≡ false → NoneClosesBefore k m l j) → PullsUpToClosing k m (if b then Idle else Pulling l j)
  up_to_after m true l j h = tt
  up_to_after m false l j h = h refl

  next_after : (m : Machine V) (b : Bool) (l j : ℕ) → j ≡ drawn k m l → PullsNext k m (if b then Idle else Pulling l j)
  next_after m true l j h = tt
  next_after m false l j h = h

  share_after : (x : Actor V) (b : Bool) (l j : ℕ) → 0 < x.parts → HasShare x (if b then Idle else Pulling l j)
  share_after x true l j h = h
  share_after x false l j h = h

  goes_on : (b : Bool) (l j : ℕ) → b ≡ false → pulling {V = V} l (if b then Idle else Pulling l j) ≡ 1
  goes_on true l j e = absurd (true≢false e)
  goes_on false l j e = pulls_here V l l j refl

  closes_if_none : (b : Bool) (l j : ℕ) → pulling {V = V} l (if b then Idle else Pulling l j) ≡ 0 → b ≡ true
  closes_if_none true l j e = refl
  closes_if_none false l j e = let h = pulls_here V l l j refl in absurd (omega arith)

  -- other actors do not pull from this lane
  next_else : (m n : Machine V) (l : ℕ) → ((j : ℕ) → j ≢ l → drawn k n j ≡ drawn k m j) → (s : Stand V) → pulling l s ≡ 0 → PullsNext k m s → PullsNext k n s
  next_else m n l same Idle none h = tt
  next_else m n l same (Saw j) none h = tt
  next_else m n l same (Holding v) none h = tt
  next_else m n l same (Laid v) none h = tt
  next_else m n l same (Owing j o) none h = tt
  next_else m n l same (Pulling j d) none h = dite (ℕ_discrete j l) (λ e. let p = pulls_here V j l d e in absurd (omega arith)) (λ ne. h ∙ sym (same j ne))
  next_else m n l same Spent none h = tt

  -- where the value of d does not close, none closes before the next place
  one_further : (m : Machine V) (s : IsSound k m) (l d : ℕ) (v : V) → IsOf k s.value v → k.lane v ≡ l → k.place v ≡ d → k.closes v ≡ false → NoneClosesBefore k m l d → NoneClosesBefore k m l (d + 1)
  one_further m s l d v is here there open_value none a i e lt lane closes = let u : V = get_or (actor_at m a).stored i e in let le = none a i e lt lane closes in
      dite (ℕ_discrete (k.place u) d)
      (λ same. let eq : u ≡ v = one_value k s.value u v (s.one_holder.stored a i e lt) is (lane ∙ sym here) (same ∙ sym there) in absurd (true≢false (sym closes ∙ (ap k.closes eq ∙ open_value))))
      (λ ne. omega arith)

  pub pulls_sound : (m : Machine V) (a l j : ℕ) (v : V) → IsSound k m → a < length m.actors → l < length m.lanes → (actor_at m a).stand ≡ Pulling l j → value_at m l j ≡ Some v
      → IsSound k (changed m l (with_value (lane_at m l) j None) a (gets v (if k.closes v then Idle else Pulling l (j + 1)) (actor_at m a)))
  pulls_sound m a l j v s lt lt' stand there = let x : Actor V = actor_at m a in let after : Stand V = if k.closes v then Idle else Pulling l (j + 1) in let q : Actor V = gets v after x in let y : Lane V = with_value (lane_at m l) j None in
      let n : Machine V = changed m l y a q in let wide = s.map_follows.wide l lt' in let long = wide.values in let at_place = s.map_follows.lying l j v there in let own = s.one_holder.own l j v at_place in let here : k.lane v ≡ l = own.0 in let place : k.place v ≡ j = own.1 in
      let low : j < places = own.2 in let is : IsOf k s.value v = (λ i. s.value (here i) (place i)) ∙ at_place in
      let active : over_stands (pulling l) m ≡ 1 = let w = stand_within (pulling l) m a refl in let g : pulling l (actor_at m a).stand ≡ 1 = ap (pulling l) stand ∙ pulls_here V l l j refl in let o = s.claimers.one l in let c = one_or (lane_at m l).claimed in omega arith in
      let claimed_true : (lane_at m l).claimed ≡ true = is_claimed (lane_at m l).claimed (let o = s.claimers.one l in omega arith) in
      let every : HasEvery (lane_at m l).summary = subst (StandsAtWhole m) stand (s.claimers.whole a) in let up_to : NoneClosesBefore k m l j = subst (PullsUpToClosing k m) stand (s.claimers.up_to_closing a) in
      let at_next : j ≡ drawn k m l = subst (PullsNext k m) stand (s.got_in_order.next a) in let found = finds_whole k m s l j low every up_to in let u : V = found.1 in
      let same_value : u ≡ v = one_value k s.value u v (All-contains (IsOf k s.value) (actor_at m found.0).stored u (s.one_holder.stored found.0) found.4) is (found.2 ∙ sym here) (found.3 ∙ sym place) in
      let stored_here : 1 ≤ over_stored (at k l j) m = let h = stored_counts k (at k l j) m found.0 u found.4 in let g = at_here k l j u found.2 found.3 in omega arith in
      let none_got : over_got (at k l j) m ≡ 0 = s.got_in_order.first_ones l j ∙ ap (λ (b : Bool). cond {A = ℕ} b 1 0) (le-ltb j (drawn k m l) (omega arith)) in
      let lying : (i r : ℕ) → lies (value_at n i r) + at k i r v ≡ lies (value_at m i r) = each_set_at (λ i z. (r : ℕ) → lies (get_or z.values r None) + at k i r v ≡ lies (value_at m i r)) m.lanes l y no_lane lt'
      (λ r. dite (ℕ_discrete r j)
      (λ e. let h : lies (get_or y.values r None) ≡ 0 = ap (λ i. lies (get_or y.values i None)) e ∙ ap lies (get_or-set_same (lane_at m l).values j None None (omega arith)) in
      let g = at_here k l r v here (place ∙ sym e) in let z : lies (value_at m l r) ≡ 1 = ap (λ i. lies (value_at m l i)) e ∙ ap lies there in omega arith)
      (λ ne. let h = ap lies (get_or-set_other (lane_at m l).values j r None None ne) in let g = at_other_place k l r v (λ e. ne (sym e ∙ place)) in omega arith))
      (λ i ne r. let g = at_other_lane k i r v (λ e. ne (sym e ∙ here)) in omega arith) in
      let taken = part_same (λ (z : Lane V). z.taken) m.lanes l y lt' refl in let home = part_same (λ (z : Lane V). z.home) m.lanes l y lt' refl in let summary = part_same (λ (z : Lane V). z.summary) m.lanes l y lt' refl in let claimed = part_same (λ (z : Lane V). z.claimed) m.lanes l y lt' refl in
      let gains : Gains m.lanes n.lanes = record { taken = λ i r. let t = ap (λ z. has z r) (taken i) in omega arith; summary = λ i w. let t = ap (λ z. bit_at z w) (summary i) in omega arith; claimed = λ i e. claimed i ∙ e } in
      let hold : (i r : ℕ) → over_stands (holding k i r) n ≡ over_stands (holding k i r) m = λ i r. let e = stand_from (holding k i r) m a q (Pulling l j) lt stand in let h = (quiet_after (k.closes v) l (j + 1) i r).0 in omega arith in
      let lay : (i r : ℕ) → over_stands (laid k i r) n ≡ over_stands (laid k i r) m = λ i r. let e = stand_from (laid k i r) m a q (Pulling l j) lt stand in let h = (quiet_after (k.closes v) l (j + 1) i r).1 in omega arith in
      let pull : (i : ℕ) → over_stands (pulling i) n + pulling {V = V} i (Pulling l j) ≡ over_stands (pulling i) m + pulling i after = λ i. stand_from (pulling i) m a q (Pulling l j) lt stand in
      let pull_most : (i : ℕ) → pulling i after ≤ pulling {V = V} i (Pulling l j) = λ i. pulls_most (k.closes v) l j i in
      let stored : (f : V → ℕ) → over_stored f n ≡ over_stored f m = λ f. stored_same f m a q lt refl in
      let got : (f : V → ℕ) → over_got f n ≡ over_got f m + f v = λ f. let e = got_sum f m a q lt in let g = sum_by_push f x.got v in omega arith in
      let drawn_here : drawn k n l ≡ drawn k m l + 1 = let g = got (in_lane k l) in let h = in_lane_here k l v here in omega arith in
      let drawn_else : (i : ℕ) → i ≢ l → drawn k n i ≡ drawn k m i = λ i ne. let g = got (in_lane k i) in let h = in_lane_other k i v (λ e. ne (sym e ∙ here)) in omega arith in
      let none_before : (i d : ℕ) → NoneClosesBefore k m i d → NoneClosesBefore k n i d = λ i d h. each_set (λ (z : Actor V). All (ClosesNotBefore k i d) z.stored) m.actors a q nobody (h a) h in
      let first_ones : (i r : ℕ) → over_got (at k i r) n ≡ cond (ltb r (drawn k n i)) 1 0 = λ i r. let g = got (at k i r) in let o = s.got_in_order.first_ones i r in dite (ℕ_discrete i l)
      (λ e. let c : cond {A = ℕ} (ltb r (drawn k n i)) 1 0 ≡ cond {A = ℕ} (ltb r (drawn k m l + 1)) 1 0 = (λ t. cond {A = ℕ} (ltb r (drawn k n (e t))) 1 0) ∙ ap (λ d. cond {A = ℕ} (ltb r d) 1 0) drawn_here in
      let b : cond {A = ℕ} (ltb r (drawn k m i)) 1 0 ≡ cond {A = ℕ} (ltb r (drawn k m l)) 1 0 = (λ t. cond {A = ℕ} (ltb r (drawn k m (e t))) 1 0) in
      let w = one_more r (drawn k m l) (at k i r v) (λ h. at_here k i r v (here ∙ sym e) (place ∙ (at_next ∙ sym h))) (λ ne. at_other_place k i r v (λ h. ne (sym h ∙ (place ∙ at_next)))) in omega arith)
      (λ ne. let c : cond {A = ℕ} (ltb r (drawn k n i)) 1 0 ≡ cond {A = ℕ} (ltb r (drawn k m i)) 1 0 = ap (λ d. cond {A = ℕ} (ltb r d) 1 0) (drawn_else i ne) in let w = at_other_lane k i r v (λ e. ne (sym e ∙ here)) in omega arith) in
      let ended : (i : ℕ) → (lane_at n i).claimed ≡ true → over_stands (pulling i) n ≡ 0 → (0 < drawn k n i) × IsLeastClosing k n i (drawn k n i - 1) = each_set_at (λ i z. z.claimed ≡ true → over_stands (pulling i) n ≡ 0 → (0 < drawn k n i) × IsLeastClosing k n i (drawn k n i - 1)) m.lanes l y no_lane lt'
      (λ e none. let p = pull l in let h = pulls_here V l l j refl in let closes : k.closes v ≡ true = closes_if_none (k.closes v) l (j + 1) (omega arith) in let at_end : drawn k n l - 1 ≡ j = omega arith in (
        omega arith,
        subst (IsLeastClosing k n l) (sym at_end) (none_before l j up_to, (let c = stored_counts k (closes_at k l j) m found.0 u found.4 in let g = closes_here k l j u (ap k.closes same_value ∙ closes) found.2 found.3 in let t = stored (closes_at k l j) in omega arith)),
      ))
      (λ i ne e none. let p = pull i in let h = pulls_elsewhere V l i j (λ e. ne (sym e)) in let g = pull_most i in let o = s.got_in_order.ended i e (omega arith) in let d = drawn_else i ne in let o0 = o.0 in (
        omega arith,
        (
          (λ b. subst (λ d. All (ClosesNotBefore k i (d - 1)) (actor_at n b).stored) (sym d) (none_before i (drawn k m i - 1) o.1.0 b)),
          subst (λ d. 0 < over_stored (closes_at k i (d - 1)) n) (sym d) (let t = stored (closes_at k i (drawn k m i - 1)) in let o1 = o.1.1 in omega arith),
        ),
      )) in record {
        value = s.value;
        one_holder = record {
          once = λ i r. let h = hold i r in let d = lay i r in let t = stored (at k i r) in let o = s.one_holder.once i r in let g = ap (λ z. has z r) (taken i) in omega arith;
          own = s.one_holder.own;
          standing = each_set (λ (z : Actor V). StandIsOf k s.value z.stand) m.actors a q nobody (is_after s.value (k.closes v) l (j + 1)) s.one_holder.standing;
          stored = each_set (λ (z : Actor V). All (IsOf k s.value) z.stored) m.actors a q nobody (s.one_holder.stored a) s.one_holder.stored;
        };
        map_follows = record {
          wide = each_set_at (λ i z. i < length n.lanes → IsSized z) m.lanes l y no_lane lt' (λ h. record { taken = wide.taken; home = wide.home; small = wide.small; values = length-set (lane_at m l).values j None ∙ long }) (λ i ne h. s.map_follows.wide i (let g = length-set m.lanes l y in omega arith));
          lying = each_set_at (λ i z. (r : ℕ) (w : V) → get_or z.values r None ≡ Some w → s.value i r ≡ Some w) m.lanes l y no_lane lt'
              (λ r w. dite (ℕ_discrete r j)
              (λ e gone. absurd (true≢false (sym (ap is_some (sym (get_or-set_same (lane_at m l).values j None None (omega arith)) ∙ (ap (λ i. get_or y.values i None) (sym e) ∙ gone))))))
              (λ ne lie. s.map_follows.lying l r w (sym (get_or-set_other (lane_at m l).values j r None None ne) ∙ lie)))
              (λ i ne. s.map_follows.lying i);
          filled = λ i r. let c = lying i r in let d = lay i r in let t = stored (at k i r) in let g = got (at k i r) in let o = s.map_follows.filled i r in omega arith;
          got_stored = λ i r. let t = stored (at k i r) in let g = got (at k i r) in let o = s.map_follows.got_stored i r in dite (ℕ_discrete i l)
              (λ e. dite (ℕ_discrete r j)
              (λ f. let w = at_here k i r v (here ∙ sym e) (place ∙ sym f) in let c : over_got (at k i r) m ≡ 0 = (λ t. over_got (at k (e t) (f t)) m) ∙ none_got in let b : over_stored (at k i r) m ≡ over_stored (at k l j) m = (λ t. over_stored (at k (e t) (f t)) m) in omega arith)
              (λ nf. let w = at_other_place k i r v (λ h. nf (sym h ∙ place)) in omega arith))
              (λ ne. let w = at_other_lane k i r v (λ h. ne (sym h ∙ here)) in omega arith);
          got = each_set (λ (z : Actor V). All (IsOf k s.value) z.got) m.actors a q nobody (All-push (IsOf k s.value) x.got v (s.map_follows.got a) is) s.map_follows.got;
        };
        home_follows = λ i r. let t = stored (brings k i r) in let o = s.home_follows i r in let h = ap (λ z. has z r) (home i) in omega arith;
        summary_follows = summary_stays k m n s.summary_follows (sym (length-set m.lanes l y)) home summary stored (λ i w. let e = stand_from (owing i w) m a q (Pulling l j) lt stand in let h = owes_none_after (k.closes v) l (j + 1) i w in omega arith)
            (λ more. each_set (λ (z : Actor V). OwesDue k n z.stand) m.actors a q nobody (owes_after n (k.closes v) l (j + 1)) (λ b. more (actor_at m b).stand (s.summary_follows.debts b)))
            (each_set (λ (z : Actor V). IsAlone z → IsFreshDebt k n.lanes z.stored z.stand) m.actors a q nobody (λ _. fresh_after n.lanes x.stored (k.closes v) l (j + 1)) (λ b alone. fresh_same k m.lanes n.lanes (actor_at m b).stored (actor_at m b).stand summary (s.summary_follows.fresh b alone)));
        claimers = record {
          whole = each_set (λ (z : Actor V). StandsAtWhole n z.stand) m.actors a q nobody (whole_more m n gains after (whole_after m (k.closes v) l (j + 1) every)) (λ b. whole_more m n gains (actor_at m b).stand (s.claimers.whole b));
          one = λ i. let p = pull i in let g = pull_most i in let o = s.claimers.one i in let c = ap claim_flag (claimed i) in omega arith;
          up_to_closing = each_set (λ (z : Actor V). PullsUpToClosing k n z.stand) m.actors a q nobody (up_to_after n (k.closes v) l (j + 1) (λ open_value. none_before l (j + 1) (one_further m s l j v is here place open_value up_to)))
              (λ b. up_to_more k m n none_before (actor_at m b).stand (s.claimers.up_to_closing b));
        };
        got_in_order = record {
          first_ones = first_ones;
          unclaimed = λ i e. dite (ℕ_discrete i l) (λ h. absurd (true≢false (sym (ap (λ i. (lane_at m i).claimed) h ∙ claimed_true) ∙ (sym (claimed i) ∙ e)))) (λ ne. drawn_else i ne ∙ s.got_in_order.unclaimed i (sym (claimed i) ∙ e));
          next = each_set_at (λ b z. PullsNext k n z.stand) m.actors a q nobody lt (next_after n (k.closes v) l (j + 1) (omega arith))
              (λ b ne. next_else m n l drawn_else (actor_at m b).stand (let w = two_within (λ (z : Actor V). pulling l z.stand) m.actors b a nobody ne refl in let g : pulling l (actor_at m a).stand ≡ 1 = ap (pulling l) stand ∙ pulls_here V l l j refl in omega arith) (s.got_in_order.next b));
          ended = ended;
        };
        seen_below = each_set (SeenBelow n.lanes) m.actors a q nobody (let b = below_more m.lanes n.lanes x gains (s.seen_below a) in record { repeated = b.repeated; seen = b.seen; gone = b.gone }) (λ b. below_more m.lanes n.lanes (actor_at m b) gains (s.seen_below b));
        whole_share = share_turns m a q n.lanes s.whole_share lt refl refl (share_after q (k.closes v) l (j + 1) (subst (HasShare x) stand (s.whole_share.each a)));
      }
    where
      one_or : (b : Bool) → claim_flag b ≤ 1
      one_or true = omega arith
      one_or false = omega arith

      is_claimed : (b : Bool) → 1 ≤ claim_flag b → b ≡ true
      is_claimed true h = refl
      is_claimed false h = absurd (omega arith)
