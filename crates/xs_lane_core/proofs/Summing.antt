-- The event Sum keeps the machine sound.
use Rattle.std.proofs.Common.{◌≡◌, ℕ, ◌+◌, ◌<◌, max, Bool, true, false, true≢false, cond, eqb, eq-eqb, ne_eqb, List, length, length-set, get_or, All, Option, None, sym, refl, ap, ◌∙◌, subst, arith}
use Rattle.std.specs.Int.{bit_at}
use Rattle.std.proofs.lemmas.Nat.Bits.{bit_at-lt, bit_at_or}
use Rattle.std.proofs.lemmas.List.Elements.{All-push}
use mathlib.Core.Logic.{dite}
use native.Mathlib.Decide.{ℕ_discrete, dec_le}
use Rattle.xs_lane_core.specs.Places.{has, with_words, IsWithin}
use Rattle.xs_lane_core.specs.declared.values.Stand.{Stand}
use Rattle.xs_lane_core.specs.declared.values.Stand.TheVariants.{Idle, Saw, Holding, Laid, Owing, Pulling, Spent}
use Rattle.xs_lane_core.specs.Machine.{Placing, Lane, Actor, Machine, lane_in, lane_at, actor_at, value_at, no_lane, nobody, changed, with_summary, sees}
use Rattle.xs_lane_core.specs.Sound.{over_stands, over_stored, over_got, pulling, owing, holding, laid, at, in_lane, brings, IsAlone, IsFreshDebt, IsDue, OwesDue, IsSized, StandIsOf, StandsAtWhole, PullsUpToClosing, PullsNext, NoneClosesBefore, ClosesNotBefore, HasShare, SeenBelow, IsSound, IsOf, lies}
use Rattle.xs_lane_core.proofs.Lists.{each_set, each_set_at, past}
use Rattle.xs_lane_core.proofs.Alone.{acts_alone}
use Rattle.xs_lane_core.proofs.Frames.{up_to_more, next_more, due_more, owes_more}
use Rattle.xs_lane_core.proofs.Turns.{lane_here, part_same, stand_from, stored_same, got_same, share_turns, Gains, below_more, whole_more, order_stays}

abbrev is_owing : {V : Type 0} → Stand V → Bool
is_owing Idle = false
is_owing (Saw l) = false
is_owing (Holding v) = false
is_owing (Laid v) = false
is_owing (Owing l o) = true
is_owing (Pulling l j) = false
is_owing Spent = false

module _ {V : Type 0} (k : Placing V) where
  pub sums_sound : (m : Machine V) (a l o : ℕ) → IsSound k m → a < length m.actors → l < length m.lanes → (actor_at m a).stand ≡ Owing l o
      → IsSound k (changed m l (with_summary (lane_at m l) o) a (sees Idle l (with_words (lane_at m l).summary o) (actor_at m a)))
  sums_sound m a l o s lt lt' stand = let x : Actor V = actor_at m a in let new : ℕ = with_words (lane_at m l).summary o in let q : Actor V = sees Idle l new x in let y : Lane V = with_summary (lane_at m l) o in let n : Machine V = changed m l y a q in
      let wide = s.map_follows.wide l lt' in let debt : OwesDue k m (Owing l o) = subst (OwesDue k m) stand (s.summary_follows.debts a) in
      let taken = part_same (λ (z : Lane V). z.taken) m.lanes l y lt' refl in let home = part_same (λ (z : Lane V). z.home) m.lanes l y lt' refl in let claimed = part_same (λ (z : Lane V). z.claimed) m.lanes l y lt' refl in
      let values = part_same (λ (z : Lane V). z.values) m.lanes l y lt' refl in let lying : (j r : ℕ) → value_at n j r ≡ value_at m j r = λ j r. ap (λ (z : List (Option V)). get_or z r None) (values j) in
      let joined : (j w : ℕ) → bit_at (lane_at n j).summary w ≡ max (bit_at (lane_at m j).summary w) (cond {A = ℕ} (eqb l j) (bit_at o w) 0) = each_set_at (λ j z. (w : ℕ) → bit_at z.summary w ≡ max (bit_at (lane_at m j).summary w) (cond {A = ℕ} (eqb l j) (bit_at o w) 0)) m.lanes l y no_lane lt'
      (λ w. let b = bit_at_or (lane_at m l).summary o w in let c : cond {A = ℕ} (eqb l l) (bit_at o w) 0 ≡ bit_at o w = ap (λ (b : Bool). cond {A = ℕ} b (bit_at o w) 0) (eq-eqb l l refl) in omega arith)
      (λ j ne w. let c : cond {A = ℕ} (eqb l j) (bit_at o w) 0 ≡ 0 = ap (λ (b : Bool). cond {A = ℕ} b (bit_at o w) 0) (ne_eqb l j (λ e. ne (sym e))) in omega arith) in
      let gains : Gains m.lanes n.lanes = record { taken = λ j r. let t = ap (λ z. has z r) (taken j) in omega arith; summary = λ j w. let t = joined j w in omega arith; claimed = λ j e. claimed j ∙ e } in
      let hold : (j r : ℕ) → over_stands (holding k j r) n ≡ over_stands (holding k j r) m = λ j r. let e = stand_from (holding k j r) m a q (Owing l o) lt stand in omega arith in
      let lay : (j r : ℕ) → over_stands (laid k j r) n ≡ over_stands (laid k j r) m = λ j r. let e = stand_from (laid k j r) m a q (Owing l o) lt stand in omega arith in
      let pull : (j : ℕ) → over_stands (pulling j) n ≡ over_stands (pulling j) m = λ j. let e = stand_from (pulling j) m a q (Owing l o) lt stand in omega arith in
      let owes : (j w : ℕ) → over_stands (owing j w) n + cond {A = ℕ} (eqb l j) (bit_at o w) 0 ≡ over_stands (owing j w) m = λ j w. let e = stand_from (owing j w) m a q (Owing l o) lt stand in omega arith in
      let stored : (f : V → ℕ) → over_stored f n ≡ over_stored f m = λ f. stored_same f m a q lt refl in let got : (f : V → ℕ) → over_got f n ≡ over_got f m = λ f. got_same f m a q lt refl in
      let none_before : (j d : ℕ) → NoneClosesBefore k m j d → NoneClosesBefore k n j d = λ j d h. each_set (λ (z : Actor V). All (ClosesNotBefore k j d) z.stored) m.actors a q nobody (h a) h in
      let next : (b : ℕ) → PullsNext k n (actor_at n b).stand = each_set (λ (z : Actor V). PullsNext k n z.stand) m.actors a q nobody tt (λ b. next_more k m n (λ j. got (in_lane k j)) (actor_at m b).stand (s.got_in_order.next b)) in
      let more : (j w : ℕ) → IsDue k m j w → IsDue k n j w = due_more k m n (λ j w e. ap (λ z. get_or z w 0) (home j) ∙ e) (λ f. let t = stored f in omega arith) in
      let back : (j w : ℕ) → IsDue k n j w → IsDue k m j w = due_more k n m (λ j w e. ap (λ z. get_or z w 0) (sym (home j)) ∙ e) (λ f. let t = stored f in omega arith) in
      let paid : (j w : ℕ) → cond {A = ℕ} (eqb l j) (bit_at o w) 0 ≡ 1 → IsDue k m j w = λ j w lit. dite (ℕ_discrete l j)
      (λ e. let c : cond {A = ℕ} (eqb l j) (bit_at o w) 0 ≡ bit_at o w = ap (λ (b : Bool). cond {A = ℕ} b (bit_at o w) 0) (eq-eqb l j e) in subst (λ z. IsDue k m z w) e (debt.1 w (sym c ∙ lit)))
      (λ ne. let c : cond {A = ℕ} (eqb l j) (bit_at o w) 0 ≡ 0 = ap (λ (b : Bool). cond {A = ℕ} b (bit_at o w) 0) (ne_eqb l j ne) in absurd (omega arith)) in record {
        value = s.value;
        one_holder = record {
          once = λ j r. let h = hold j r in let d = lay j r in let t = stored (at k j r) in let u = s.one_holder.once j r in let g = ap (λ z. has z r) (taken j) in omega arith;
          own = s.one_holder.own;
          standing = each_set (λ (z : Actor V). StandIsOf k s.value z.stand) m.actors a q nobody tt s.one_holder.standing;
          stored = each_set (λ (z : Actor V). All (IsOf k s.value) z.stored) m.actors a q nobody (s.one_holder.stored a) s.one_holder.stored;
        };
        map_follows = record {
          wide = each_set_at (λ j z. j < length n.lanes → IsSized z) m.lanes l y no_lane lt' (λ h. record { taken = wide.taken; home = wide.home; values = wide.values; small = wide.small }) (λ j ne h. s.map_follows.wide j (let g = length-set m.lanes l y in omega arith));
          lying = λ j r u e. s.map_follows.lying j r u (sym (lying j r) ∙ e);
          filled = λ j r. let c = ap lies (lying j r) in let d = lay j r in let t = stored (at k j r) in let g = got (at k j r) in let u = s.map_follows.filled j r in omega arith;
          got_stored = λ j r. let t = stored (at k j r) in let g = got (at k j r) in let u = s.map_follows.got_stored j r in omega arith;
          got = each_set (λ (z : Actor V). All (IsOf k s.value) z.got) m.actors a q nobody (s.map_follows.got a) s.map_follows.got;
        };
        home_follows = λ j r. let t = stored (brings k j r) in let u = s.home_follows j r in let h = ap (λ z. has z r) (home j) in omega arith;
        summary_follows = record {
          due = λ j w lit. let e = joined j w in dite (ℕ_discrete (bit_at (lane_at m j).summary w) 1) (λ old. more j w (s.summary_follows.due j w old))
              (λ ne. let b = bit_at-lt (lane_at m j).summary w in let c = bit_at-lt (lane_at n j).summary w in more j w (paid j w (omega arith)));
          noted = λ j w d. let h = s.summary_follows.noted j w (back j w d) in let e = joined j w in let g = owes j w in omega arith;
          debts = each_set (λ (z : Actor V). OwesDue k n z.stand) m.actors a q nobody tt (λ b. owes_more k m n (sym (length-set m.lanes l y)) more (actor_at m b).stand (s.summary_follows.debts b));
          fresh = each_set_at (λ b (z : Actor V). IsAlone z → IsFreshDebt k n.lanes z.stored z.stand) m.actors a q nobody lt (λ _. tt)
              (λ b ne alone. dite (dec_le (length m.actors) b)
              (λ le. subst (λ (z : Actor V). IsFreshDebt k n.lanes z.stored z.stand) (sym (past m.actors b nobody le)) tt)
              (λ no. absurd (ne (sym (acts_alone m a b (Owing l o) s.whole_share lt (omega arith) alone stand (λ e. true≢false (ap is_owing e)))))));
        };
        claimers = record {
          whole = each_set (λ (z : Actor V). StandsAtWhole n z.stand) m.actors a q nobody tt (λ b. whole_more m n gains (actor_at m b).stand (s.claimers.whole b));
          one = λ j. let d = pull j in let u = s.claimers.one j in let c : cond {A = ℕ} (lane_at n j).claimed 1 0 ≡ cond {A = ℕ} (lane_at m j).claimed 1 0 = ap (λ (b : Bool). cond {A = ℕ} b 1 0) (claimed j) in omega arith;
          up_to_closing = each_set (λ (z : Actor V). PullsUpToClosing k n z.stand) m.actors a q nobody tt (λ b. up_to_more k m n none_before (actor_at m b).stand (s.claimers.up_to_closing b));
        };
        got_in_order = order_stays k m n s.got_in_order got claimed pull next (λ j d le. none_before j d) (λ f. let t = stored f in omega arith);
        seen_below = each_set (SeenBelow n.lanes) m.actors a q nobody
            (let b = below_more m.lanes n.lanes x gains (s.seen_below a) in record {
              repeated = b.repeated;
              seen = All-push (λ (z : ℕ × ℕ). IsWithin z.1 (lane_in n.lanes z.0).summary) x.seen (l, new) b.seen (λ w. let h = ap (λ (z : Lane V). bit_at z.summary w) (lane_here m.lanes l y lt') in omega arith);
              gone = b.gone;
            })
            (λ b. below_more m.lanes n.lanes (actor_at m b) gains (s.seen_below b));
        whole_share = share_turns m a q n.lanes s.whole_share lt refl refl (subst (HasShare x) stand (s.whole_share.each a));
      }
