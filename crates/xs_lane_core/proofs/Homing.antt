-- The event Home keeps the machine sound.
use Rattle.std.proofs.Common.{◌≡◌, ◌≢◌, ℕ, ◌+◌, ◌<◌, ◌≤◌, inl, inr, ⊎_elim, max, Bool, true, false, cond, if◌then◌else◌, eqb, eq-eqb, nat_eq, ltb, List, length, length-set, get_or, get_or-set_same, get_or-set_other, bit_or, All, Option, None, sym, refl, ap, ◌∙◌, subst, arith}
use Rattle.std.specs.Int.{bit_at}
use Rattle.std.proofs.lemmas.Bool.{lt-ltb, eqb-true}
use Rattle.std.proofs.lemmas.Nat.{or_lt}
use Rattle.std.proofs.lemmas.Nat.Bits.{bit_at-lt, bit_at-zero}
use Rattle.std.proofs.lemmas.List.Sums.{sum_by_push}
use Rattle.std.proofs.lemmas.List.Elements.{All-push}
use mathlib.Core.Logic.{dite}
use native.Mathlib.Decide.{ℕ_discrete, dec_le}
use Rattle.xs_lane_core.specs.Places.{places, set_words, word_of, place_bit, has, full_word}
use Rattle.xs_lane_core.specs.declared.values.Stand.{Stand}
use Rattle.xs_lane_core.specs.declared.values.Stand.TheVariants.{Idle, Laid, Owing}
use Rattle.xs_lane_core.specs.Machine.{Placing, Lane, Actor, Machine, lane_in, lane_at, actor_at, value_at, no_lane, nobody, changed, with_home, stores, owed, stand_owing, mask}
use Rattle.xs_lane_core.specs.Steps.{homed}
use Rattle.xs_lane_core.specs.Sound.{over_stands, over_stored, over_got, pulling, owing, holding, laid, at, in_lane, brings, closes_below, drawn, IsAlone, HasFilled, IsFreshDebt, IsDue, OwesDue, IsSized, StandIsOf, StandsAtWhole, PullsUpToClosing, PullsNext, NoneClosesBefore, ClosesNotBefore, HasShare, SeenBelow, IsSound, IsOf, lies}
use Rattle.xs_lane_core.proofs.Lists.{each_set, each_set_at}
use Rattle.xs_lane_core.proofs.Sets.{word_low, has_more, has_other, stays_full, owed_is, owed_above, owed_own}
use Rattle.xs_lane_core.proofs.Placed.{at_here, brings_here, brings_other, brings_other_word, is_below, below_here, mask_small}
use Rattle.xs_lane_core.proofs.Alone.{alone_filled}
use Rattle.xs_lane_core.proofs.Frames.{fresh_same, next_more, due_more, owes_more}
use Rattle.xs_lane_core.proofs.Turns.{lane_here, part_same, stand_from, stored_sum, got_same, stand_within, share_turns, Gains, below_more, whole_more, order_stays, up_to_stays}

module _ {V : Type 0} (k : Placing V) where
  brings_most : (l p : ℕ) (v : V) → brings k l p v ≤ 1
  brings_most l p v = dite (ℕ_discrete (k.lane v) l)
      (λ e. dite (ℕ_discrete (word_of (k.place v)) (word_of p)) (λ w. let h = brings_here k l p v e w in let b = bit_at-lt (mask k v) (place_bit p) in omega arith) (λ nw. let h = brings_other_word k l p v nw in omega arith))
      (λ ne. let h = brings_other k l p v ne in omega arith)

  -- what holds of who is idle and of who owes, holds of who comes home
  after_home : (Q : Stand V → Type 0) (b : Bool) (l o : ℕ) → Q Idle → Q (Owing l o) → Q (if b then Idle else Owing l o)
  after_home Q true l o idle owes = idle
  after_home Q false l o idle owes = owes

  owes_now : (b : Bool) (l o j w : ℕ) → nat_eq o 0 ≡ b → owing {V = V} j w (if b then Idle else Owing l o) ≡ cond {A = ℕ} (eqb l j) (bit_at o w) 0
  owes_now true l o j w e = sym (none (eqb l j) (ap (λ z. bit_at z w) (eqb-true o 0 e) ∙ bit_at-zero w))
    where
      none : (b : Bool) → bit_at o w ≡ 0 → cond {A = ℕ} b (bit_at o w) 0 ≡ 0
      none true z = z
      none false z = refl
  owes_now false l o j w e = refl

  pub homes_sound : (m : Machine V) (a : ℕ) (v : V) → IsSound k m → a < length m.actors → k.lane v < length m.lanes → (actor_at m a).stand ≡ Laid v → IsSound k (homed k m a v)
  homes_sound m a v s lt lt' stand = let l : ℕ = k.lane v in let p : ℕ = k.place v in let w : ℕ = word_of p in let x : Actor V = actor_at m a in let before : ℕ = get_or (lane_at m l).home w 0 in let after : ℕ = bit_or before (mask k v) in
      let o : ℕ = owed (k.closes v) w before after in let q : Actor V = stores v (stand_owing l o) x in let y : Lane V = with_home (lane_at m l) w (mask k v) in
      let n : Machine V = changed m l y a q in let wide = s.map_follows.wide l lt' in let own : IsOf k s.value v = subst (StandIsOf k s.value) stand (s.one_holder.standing a) in
      let low : p < places = (s.one_holder.own l p v own).2 in let low' : w < set_words = word_low p low in let room : w < length (lane_at m l).home = let t = wide.home in omega arith in
      let idle : (Q : Stand V → Type 0) → Q Idle → Q (Owing l o) → Q q.stand = λ Q. after_home Q (nat_eq o 0) l o in
      let down : at k l p v ≤ over_stands (laid k l p) m = let h = stand_within (laid k l p) m a refl in let g = ap (laid k l p) stand in omega arith in
      let fresh : over_got (at k l p) m ≡ 0 = let f = s.map_follows.got_stored l p in let u = s.one_holder.once l p in let b = bit_at-lt (get_or (lane_at m l).taken w 0) (place_bit p) in let h = at_here k l p v refl refl in omega arith in
      let beyond : drawn k m l ≤ p = dite (dec_le (drawn k m l) p) (λ le. le) (λ no. let g = s.got_in_order.first_ones l p in let h : cond {A = ℕ} (ltb p (drawn k m l)) 1 0 ≡ 1 = ap (λ (b : Bool). cond {A = ℕ} b 1 0) (lt-ltb p (drawn k m l) (omega arith)) in absurd (omega arith)) in
      let home : (j r : ℕ) → has (lane_in n.lanes j).home r ≡ max (has (lane_at m j).home r) (brings k j r v) = each_set_at (λ j z. (r : ℕ) → has z.home r ≡ max (has (lane_at m j).home r) (brings k j r v)) m.lanes l y no_lane lt'
      (λ r. dite (ℕ_discrete (word_of r) w)
      (λ e. let h = has_more (lane_at m l).home w (mask k v) r room e in let b = brings_here k l r v refl (sym e) in omega arith)
      (λ ne. let h = has_other (lane_at m l).home w (mask k v) r ne in let b = brings_other_word k l r v (λ e. ne (sym e)) in omega arith))
      (λ j ne r. let h = brings_other k j r v (λ e. ne (sym e)) in omega arith) in
      let taken = part_same (λ (z : Lane V). z.taken) m.lanes l y lt' refl in let summary = part_same (λ (z : Lane V). z.summary) m.lanes l y lt' refl in let claimed = part_same (λ (z : Lane V). z.claimed) m.lanes l y lt' refl in
      let values = part_same (λ (z : Lane V). z.values) m.lanes l y lt' refl in let lying : (j r : ℕ) → value_at n j r ≡ value_at m j r = λ j r. ap (λ (z : List (Option V)). get_or z r None) (values j) in
      let gains : Gains m.lanes n.lanes = record { taken = λ j r. let t = ap (λ z. has z r) (taken j) in omega arith; summary = λ j u. let t = ap (λ z. bit_at z u) (summary j) in omega arith; claimed = λ j e. claimed j ∙ e } in
      let hold : (j r : ℕ) → over_stands (holding k j r) n ≡ over_stands (holding k j r) m = λ j r. let e = stand_from (holding k j r) m a q (Laid v) lt stand in let z = idle (λ t. holding k j r t ≡ 0) refl refl in omega arith in
      let lay : (j r : ℕ) → over_stands (laid k j r) n + at k j r v ≡ over_stands (laid k j r) m = λ j r. let e = stand_from (laid k j r) m a q (Laid v) lt stand in let z = idle (λ t. laid k j r t ≡ 0) refl refl in omega arith in
      let pull : (j : ℕ) → over_stands (pulling j) n ≡ over_stands (pulling j) m = λ j. let e = stand_from (pulling j) m a q (Laid v) lt stand in let z = idle (λ t. pulling j t ≡ 0) refl refl in omega arith in
      let owes : (j u : ℕ) → over_stands (owing j u) n ≡ over_stands (owing j u) m + cond {A = ℕ} (eqb l j) (bit_at o u) 0 = λ j u. let e = stand_from (owing j u) m a q (Laid v) lt stand in let z = owes_now (nat_eq o 0) l o j u refl in omega arith in
      let stored : (f : V → ℕ) → over_stored f n ≡ over_stored f m + f v = λ f. let e = stored_sum f m a q lt in let g = sum_by_push f x.stored v in omega arith in
      let got : (f : V → ℕ) → over_got f n ≡ over_got f m = λ f. got_same f m a q lt refl in
      let none_before : (j d : ℕ) → d ≤ drawn k m j → NoneClosesBefore k m j d → NoneClosesBefore k n j d = λ j d le h. each_set (λ (z : Actor V). All (ClosesNotBefore k j d) z.stored) m.actors a q nobody
      (All-push (ClosesNotBefore k j d) x.stored v (h a) (λ here closes. let g : drawn k m l ≡ drawn k m j = ap (drawn k m) here in omega arith)) h in
      let next : (b : ℕ) → PullsNext k n (actor_at n b).stand = each_set (λ (z : Actor V). PullsNext k n z.stand) m.actors a q nobody (idle (PullsNext k n) tt tt) (λ b. next_more k m n (λ j. got (in_lane k j)) (actor_at m b).stand (s.got_in_order.next b)) in
      let here : get_or (lane_at n l).home w 0 ≡ after = ap (λ (z : Lane V). get_or z.home w 0) (lane_here m.lanes l y lt') ∙ get_or-set_same (lane_at m l).home w after 0 room in
      let elsewhere : (j u : ℕ) → (j ≡ l → u ≢ w) → get_or (lane_at n j).home u 0 ≡ get_or (lane_at m j).home u 0 = each_set_at (λ j z. (u : ℕ) → (j ≡ l → u ≢ w) → get_or z.home u 0 ≡ get_or (lane_at m j).home u 0) m.lanes l y no_lane lt'
      (λ u ne. get_or-set_other (lane_at m l).home w u after 0 (ne refl)) (λ j ne u _. refl) in
      let stays : (j u : ℕ) → get_or (lane_at m j).home u 0 ≡ full_word → get_or (lane_at n j).home u 0 ≡ full_word = λ j u full. dite (ℕ_discrete j l)
      (λ e. dite (ℕ_discrete u w)
      (λ f. let old : before ≡ full_word = (λ t. get_or (lane_at m (sym e t)).home (sym f t) 0) ∙ full in (λ t. get_or (lane_at n (e t)).home (f t) 0) ∙ (here ∙ stays_full before (mask k v) old (mask_small k v)))
      (λ nf. elsewhere j u (λ _. nf) ∙ full))
      (λ ne. elsewhere j u (λ e. absurd (ne e)) ∙ full) in
      let more : (j u : ℕ) → IsDue k m j u → IsDue k n j u = due_more k m n stays (λ f. let t = stored f in omega arith) in
      let by_old : (j u : ℕ) → IsDue k m j u → 0 < bit_at (lane_at n j).summary u + over_stands (owing j u) n = λ j u d. let h = s.summary_follows.noted j u d in let e = ap (λ z. bit_at z u) (summary j) in let g = owes j u in omega arith in
      let by_new : (j u : ℕ) → l ≡ j → bit_at o u ≡ 1 → 0 < bit_at (lane_at n j).summary u + over_stands (owing j u) n = λ j u e lit. let g = owes j u in let c : cond {A = ℕ} (eqb l j) (bit_at o u) 0 ≡ bit_at o u = ap (λ (b : Bool). cond {A = ℕ} b (bit_at o u) 0) (eq-eqb l j e) in omega arith in
      let noted : (j u : ℕ) → IsDue k n j u → 0 < bit_at (lane_at n j).summary u + over_stands (owing j u) n = λ j u d. ⊎_elim
      (λ full. dite (ℕ_discrete j l)
      (λ e. dite (ℕ_discrete u w)
      (λ f. dite (ℕ_discrete before full_word)
      (λ old. by_old j u (d.0, inl ((λ t. get_or (lane_at m (e t)).home (f t) 0) ∙ old)))
      (λ fresh_word. let full' : after ≡ full_word = sym here ∙ ((λ t. get_or (lane_at n (sym e t)).home (sym f t) 0) ∙ full) in by_new j u (sym e) (ap (λ z. bit_at o z) f ∙ owed_own (k.closes v) w before after fresh_word full')))
      (λ nf. by_old j u (d.0, inl (sym (elsewhere j u (λ _. nf)) ∙ full))))
      (λ ne. by_old j u (d.0, inl (sym (elsewhere j u (λ e. absurd (ne e))) ∙ full))))
      (λ below. dite (ℕ_discrete (over_stored (closes_below k j u) m) 0)
      (λ none. let t = stored (closes_below k j u) in let c = is_below k j u v (omega arith) in by_new j u c.1 (ap (λ (b : Bool). bit_at (owed b w before after) u) c.0 ∙ owed_above w before after u c.2 d.0))
      (λ some_below. by_old j u (d.0, inr (omega arith)))) d.1 in
      let owes_due : (u : ℕ) → bit_at o u ≡ 1 → IsDue k n l u = λ u lit. let h = owed_is (k.closes v) w before after u low' lit in (
        h.0,
        ⊎_elim
            (λ (c : (k.closes v ≡ true) × (w < u)). let t = stored (closes_below k l u) in let g = below_here k l u v c.0 refl c.1 in inr (omega arith))
            (λ (c : (u ≡ w) × (after ≡ full_word)). inl (ap (λ z. get_or (lane_at n l).home z 0) c.0 ∙ (here ∙ c.1))) h.1,
      ) in record {
        value = s.value;
        one_holder = record {
          once = λ j r. let h = hold j r in let d = lay j r in let t = stored (at k j r) in let u = s.one_holder.once j r in let g = ap (λ z. has z r) (taken j) in omega arith;
          own = s.one_holder.own;
          standing = each_set (λ (z : Actor V). StandIsOf k s.value z.stand) m.actors a q nobody (idle (StandIsOf k s.value) tt tt) s.one_holder.standing;
          stored = each_set (λ (z : Actor V). All (IsOf k s.value) z.stored) m.actors a q nobody (All-push (IsOf k s.value) x.stored v (s.one_holder.stored a) own) s.one_holder.stored;
        };
        map_follows = record {
          wide = each_set_at (λ j z. j < length n.lanes → IsSized z) m.lanes l y no_lane lt' (λ h. record { taken = wide.taken; home = length-set (lane_at m l).home w after ∙ wide.home; values = wide.values; small = each_set_at (λ u (z : ℕ). z < 18446744073709551616) (lane_at m l).home w after 0 room (or_lt 64 before (mask k v) (wide.small w) (mask_small k v)) (λ u _. wide.small u) }) (λ j ne h. s.map_follows.wide j (let g = length-set m.lanes l y in omega arith));
          lying = λ j r u e. s.map_follows.lying j r u (sym (lying j r) ∙ e);
          filled = λ j r. let c = ap lies (lying j r) in let d = lay j r in let t = stored (at k j r) in let g = got (at k j r) in let u = s.map_follows.filled j r in omega arith;
          got_stored = λ j r. let t = stored (at k j r) in let g = got (at k j r) in let u = s.map_follows.got_stored j r in omega arith;
          got = each_set (λ (z : Actor V). All (IsOf k s.value) z.got) m.actors a q nobody (s.map_follows.got a) s.map_follows.got;
        };
        home_follows = λ j r. let t = stored (brings k j r) in let u = s.home_follows j r in let h = home j r in let b = brings_most j r v in omega arith;
        summary_follows = record {
          due = λ j u lit. more j u (s.summary_follows.due j u (ap (λ z. bit_at z u) (sym (summary j)) ∙ lit));
          noted = noted;
          debts = each_set (λ (z : Actor V). OwesDue k n z.stand) m.actors a q nobody (idle (OwesDue k n) tt (let g = length-set m.lanes l y in omega arith, owes_due))
              (λ b. owes_more k m n (sym (length-set m.lanes l y)) more (actor_at m b).stand (s.summary_follows.debts b));
          fresh = each_set (λ (z : Actor V). IsAlone z → IsFreshDebt k n.lanes z.stored z.stand) m.actors a q nobody
              (λ alone. idle (IsFreshDebt k n.lanes q.stored) tt (x.stored, v, refl, subst (λ z. HasFilled k l z x.stored) (sym (summary l)) (alone_filled k m a l s lt lt' alone (λ u. ap (owing l u) stand))))
              (λ b alone. fresh_same k m.lanes n.lanes (actor_at m b).stored (actor_at m b).stand summary (s.summary_follows.fresh b alone));
        };
        claimers = record {
          whole = each_set (λ (z : Actor V). StandsAtWhole n z.stand) m.actors a q nobody (idle (StandsAtWhole n) tt tt) (λ b. whole_more m n gains (actor_at m b).stand (s.claimers.whole b));
          one = λ j. let d = pull j in let u = s.claimers.one j in let c : cond {A = ℕ} (lane_at n j).claimed 1 0 ≡ cond {A = ℕ} (lane_at m j).claimed 1 0 = ap (λ (b : Bool). cond {A = ℕ} b 1 0) (claimed j) in omega arith;
          up_to_closing = each_set (λ (z : Actor V). PullsUpToClosing k n z.stand) m.actors a q nobody (idle (PullsUpToClosing k n) tt tt) (λ b. up_to_stays k m n none_before (actor_at m b).stand (s.got_in_order.next b) (s.claimers.up_to_closing b));
        };
        got_in_order = order_stays k m n s.got_in_order got claimed pull next none_before (λ f. let t = stored f in omega arith);
        seen_below = each_set (SeenBelow n.lanes) m.actors a q nobody (let b = below_more m.lanes n.lanes x gains (s.seen_below a) in record { repeated = b.repeated; seen = b.seen; gone = b.gone }) (λ b. below_more m.lanes n.lanes (actor_at m b) gains (s.seen_below b));
        whole_share = let part : 0 < x.parts = subst (HasShare x) stand (s.whole_share.each a) in share_turns m a q n.lanes s.whole_share lt refl refl (idle (HasShare q) part part);
      }
