-- A step that changes no lane, and of no actor where it stands in a lane, what it stored or what it got.
use Rattle.std.proofs.Common.{◌≡◌, ℕ, ◌-◌, ◌*◌, ◌^◌, ◌<◌, ◌≤◌, true, true≢false, cond, ltb, inl, inr, ⊎_elim, get_or, List, length, set, sum_by, All, sym, refl, ap, ◌∙◌, subst, arith}
use Rattle.std.specs.Int.{bit_at}
use Rattle.std.proofs.lemmas.List.Sums.{sum_by-set}
use Rattle.xs_lane_core.specs.Places.{full_word, HasEvery}
use Rattle.xs_lane_core.specs.declared.values.Stand.{Stand}
use Rattle.xs_lane_core.specs.declared.values.Stand.TheVariants.{Idle, Saw, Holding, Laid, Owing, Pulling, Spent}
use Rattle.xs_lane_core.specs.Machine.{Placing, Lane, Actor, Machine, lane_in, lane_at, actor_at, nobody, acted}
use Rattle.xs_lane_core.specs.Steps.{is_free}
use Rattle.xs_lane_core.specs.Sound.{over_stands, over_stored, over_got, pulling, owing, holding, laid, at, in_lane, brings, closes_at, closes_below, drawn, share, IsAlone, HasFilled, IsFreshDebt, IsDue, OwesDue, SummaryFollows, IsOf, StandIsOf, StandsAtWhole, PullsUpToClosing, PullsNext, NoneClosesBefore, ClosesNotBefore, HasShare, SeenBelow, WholeShare, IsSound}
use Rattle.xs_lane_core.proofs.Lists.{each_set}

module _ {V : Type 0} where
  -- a function that counts nothing for who is free
  pub record CountsNoneFree (f : Stand V → ℕ) : Type 0 where
    pub idle : f Idle ≡ 0
    pub saw : (l : ℕ) → f (Saw l) ≡ 0
    pub spent : f Spent ≡ 0

  pub free_counts_none : (f : Stand V → ℕ) → CountsNoneFree f → (s : Stand V) → is_free s ≡ true → f s ≡ 0
  free_counts_none f c Idle e = c.idle
  free_counts_none f c (Saw l) e = c.saw l
  free_counts_none f c (Holding v) e = absurd (true≢false (sym e))
  free_counts_none f c (Laid v) e = absurd (true≢false (sym e))
  free_counts_none f c (Owing l o) e = absurd (true≢false (sym e))
  free_counts_none f c (Pulling l j) e = absurd (true≢false (sym e))
  free_counts_none f c Spent e = c.spent

module _ {V : Type 0} (k : Placing V) where
  pub counts_holding : (l p : ℕ) → CountsNoneFree (holding k l p)
  counts_holding l p = record { idle = refl; saw = λ m. refl; spent = refl }

  pub counts_laid : (l p : ℕ) → CountsNoneFree (laid k l p)
  counts_laid l p = record { idle = refl; saw = λ m. refl; spent = refl }

  pub counts_pulling : (l : ℕ) → CountsNoneFree {V = V} (pulling l)
  counts_pulling l = record { idle = refl; saw = λ m. refl; spent = refl }

  pub counts_owing : (l w : ℕ) → CountsNoneFree {V = V} (owing l w)
  counts_owing l w = record { idle = refl; saw = λ m. refl; spent = refl }

  pub up_to_more : (m n : Machine V) → ((l d : ℕ) → NoneClosesBefore k m l d → NoneClosesBefore k n l d) → (s : Stand V) → PullsUpToClosing k m s → PullsUpToClosing k n s
  up_to_more m n more Idle h = tt
  up_to_more m n more (Saw l) h = tt
  up_to_more m n more (Holding v) h = tt
  up_to_more m n more (Laid v) h = tt
  up_to_more m n more (Owing l o) h = tt
  up_to_more m n more (Pulling l j) h = more l j h
  up_to_more m n more Spent h = tt

  pub next_more : (m n : Machine V) → ((l : ℕ) → drawn k n l ≡ drawn k m l) → (s : Stand V) → PullsNext k m s → PullsNext k n s
  next_more m n same Idle h = tt
  next_more m n same (Saw l) h = tt
  next_more m n same (Holding v) h = tt
  next_more m n same (Laid v) h = tt
  next_more m n same (Owing l o) h = tt
  next_more m n same (Pulling l j) h = h ∙ sym (same l)
  next_more m n same Spent h = tt

  -- what is due stays due, where full words stay full and stored values stay stored
  pub due_more : (m n : Machine V) → ((l w : ℕ) → get_or (lane_at m l).home w 0 ≡ full_word → get_or (lane_at n l).home w 0 ≡ full_word) → ((f : V → ℕ) → over_stored f m ≤ over_stored f n) → (l w : ℕ) → IsDue k m l w → IsDue k n l w
  due_more m n full more l w d = (d.0, ⊎_elim (λ h. inl (full l w h)) (λ h. let t = more (closes_below k l w) in inr (omega arith)) d.1)

  pub owes_more : (m n : Machine V) → length m.lanes ≡ length n.lanes → ((l w : ℕ) → IsDue k m l w → IsDue k n l w) → (s : Stand V) → OwesDue k m s → OwesDue k n s
  owes_more m n long more Idle h = tt
  owes_more m n long more (Saw l) h = tt
  owes_more m n long more (Holding v) h = tt
  owes_more m n long more (Laid v) h = tt
  owes_more m n long more (Owing l o) h = (let lt = h.0 in omega arith, λ w lit. more l w (h.1 w lit))
  owes_more m n long more (Pulling l j) h = tt
  owes_more m n long more Spent h = tt

  -- the summaries still follow, where no word, no summary, no stored value and no debt changes
  pub summary_stays : (m n : Machine V) → SummaryFollows k m → length m.lanes ≡ length n.lanes → ((l : ℕ) → (lane_at n l).home ≡ (lane_at m l).home) → ((l : ℕ) → (lane_at n l).summary ≡ (lane_at m l).summary)
      → ((f : V → ℕ) → over_stored f n ≡ over_stored f m) → ((l w : ℕ) → over_stands (owing l w) n ≡ over_stands (owing l w) m) → (((s : Stand V) → OwesDue k m s → OwesDue k n s) → (a : ℕ) → OwesDue k n (actor_at n a).stand) → ((a : ℕ) → IsAlone (actor_at n a) → IsFreshDebt k n.lanes (actor_at n a).stored (actor_at n a).stand) → SummaryFollows k n
  summary_stays m n f long home summary stored owes debts fresh =
      let more : (l w : ℕ) → IsDue k m l w → IsDue k n l w = due_more m n (λ l w e. ap (λ z. get_or z w 0) (home l) ∙ e) (λ g. let t = stored g in omega arith) in
      let back : (l w : ℕ) → IsDue k n l w → IsDue k m l w = due_more n m (λ l w e. ap (λ z. get_or z w 0) (sym (home l)) ∙ e) (λ g. let t = stored g in omega arith) in record {
        due = λ l w lit. more l w (f.due l w (ap (λ z. bit_at z w) (sym (summary l)) ∙ lit));
        noted = λ l w d. let h = f.noted l w (back l w d) in let e = ap (λ z. bit_at z w) (summary l) in let o = owes l w in omega arith;
        debts = debts (owes_more m n long more);
        fresh = fresh;
      }

  -- what is known of the debt of who is alone
  abbrev pub FreshOf : List (Lane V) → Actor V → Type 0
  FreshOf lanes a = IsFreshDebt k lanes a.stored a.stand

  -- from one machine to another with the same lanes: what is counted stays, and what holds of each stays
  pub record Frame (m n : Machine V) : Type 1 where
    pub stand_sums : (f : Stand V → ℕ) → CountsNoneFree f → over_stands f n ≡ over_stands f m
    pub stored_sums : (f : V → ℕ) → over_stored f n ≡ over_stored f m
    pub got_sums : (f : V → ℕ) → over_got f n ≡ over_got f m
    pub stored : (P : V → Type 0) → ((a : ℕ) → All P (actor_at m a).stored) → (a : ℕ) → All P (actor_at n a).stored
    pub got : (P : V → Type 0) → ((a : ℕ) → All P (actor_at m a).got) → (a : ℕ) → All P (actor_at n a).got
    pub standing : (Q : Stand V → Type 0) → Q Idle → Q Spent → ((l : ℕ) → HasEvery (lane_at m l).summary → Q (Saw l)) → ((a : ℕ) → Q (actor_at m a).stand) → (a : ℕ) → Q (actor_at n a).stand
    pub below : (a : ℕ) → SeenBelow m.lanes (actor_at n a)
    pub fresh : (a : ℕ) → IsAlone (actor_at n a) → FreshOf m.lanes (actor_at n a)
    pub share : WholeShare n

  -- who is free owes nothing
  pub fresh_free : (lanes : List (Lane V)) (xs : List V) (s : Stand V) → is_free s ≡ true → IsFreshDebt k lanes xs s
  fresh_free lanes xs Idle e = tt
  fresh_free lanes xs (Saw l) e = tt
  fresh_free lanes xs (Holding v) e = absurd (true≢false (sym e))
  fresh_free lanes xs (Laid v) e = absurd (true≢false (sym e))
  fresh_free lanes xs (Owing l o) e = absurd (true≢false (sym e))
  fresh_free lanes xs (Pulling l j) e = absurd (true≢false (sym e))
  fresh_free lanes xs Spent e = tt

  -- a debt stays fresh, where no summary changes
  pub fresh_same : (old new : List (Lane V)) (xs : List V) (s : Stand V) → ((l : ℕ) → (lane_in new l).summary ≡ (lane_in old l).summary) → IsFreshDebt k old xs s → IsFreshDebt k new xs s
  fresh_same old new xs Idle e h = tt
  fresh_same old new xs (Saw l) e h = tt
  fresh_same old new xs (Holding v) e h = tt
  fresh_same old new xs (Laid v) e h = tt
  fresh_same old new xs (Owing l o) e h = (h.0, h.1, h.2, subst (λ z. HasFilled k l z h.0) (sym (e l)) h.3)
  fresh_same old new xs (Pulling l j) e h = tt
  fresh_same old new xs Spent e h = tt

  pub framed : (m : Machine V) (actors : List (Actor V)) → IsSound k m → Frame m record { lanes = m.lanes; actors = actors } → IsSound k record { lanes = m.lanes; actors = actors }
  framed m actors s f = let n : Machine V = record { lanes = m.lanes; actors = actors } in
      let none_before : (l d : ℕ) → NoneClosesBefore k m l d → NoneClosesBefore k n l d = λ l d. f.stored (ClosesNotBefore k l d) in
      let drawn_same : (l : ℕ) → drawn k n l ≡ drawn k m l = λ l. f.got_sums (in_lane k l) in record {
        value = s.value;
        one_holder = record {
          once = λ l p. let h = f.stand_sums (holding k l p) (counts_holding l p) in let d = f.stand_sums (laid k l p) (counts_laid l p) in let t = f.stored_sums (at k l p) in let o = s.one_holder.once l p in omega arith;
          own = s.one_holder.own;
          standing = f.standing (StandIsOf k s.value) tt tt (λ l h. tt) s.one_holder.standing;
          stored = f.stored (IsOf k s.value) s.one_holder.stored;
        };
        map_follows = record {
          wide = s.map_follows.wide;
          lying = s.map_follows.lying;
          filled = λ l p. let d = f.stand_sums (laid k l p) (counts_laid l p) in let t = f.stored_sums (at k l p) in let g = f.got_sums (at k l p) in let o = s.map_follows.filled l p in omega arith;
          got_stored = λ l p. let t = f.stored_sums (at k l p) in let g = f.got_sums (at k l p) in let o = s.map_follows.got_stored l p in omega arith;
          got = f.got (IsOf k s.value) s.map_follows.got;
        };
        home_follows = λ l p. let t = f.stored_sums (brings k l p) in let o = s.home_follows l p in omega arith;
        summary_follows = summary_stays m n s.summary_follows refl (λ l. refl) (λ l. refl) f.stored_sums (λ l w. f.stand_sums (owing l w) (counts_owing l w)) (λ more. f.standing (OwesDue k n) tt tt (λ l h. tt) (λ a. more (actor_at m a).stand (s.summary_follows.debts a))) f.fresh;
        claimers = record {
          whole = f.standing (StandsAtWhole m) tt tt (λ l h. h) s.claimers.whole;
          one = λ l. let d = f.stand_sums (pulling l) (counts_pulling l) in let o = s.claimers.one l in omega arith;
          up_to_closing = f.standing (PullsUpToClosing k n) tt tt (λ l h. tt) (λ a. up_to_more m n none_before (actor_at m a).stand (s.claimers.up_to_closing a));
        };
        got_in_order = record {
          first_ones = λ l p. f.got_sums (at k l p) ∙ (s.got_in_order.first_ones l p ∙ ap (λ d. cond {A = ℕ} (ltb p d) 1 0) (sym (drawn_same l)));
          unclaimed = λ l e. drawn_same l ∙ s.got_in_order.unclaimed l e;
          next = f.standing (PullsNext k n) tt tt (λ l h. tt) (λ a. next_more m n drawn_same (actor_at m a).stand (s.got_in_order.next a));
          ended = λ l e none. let o = s.got_in_order.ended l e (sym (f.stand_sums (pulling l) (counts_pulling l)) ∙ none) in let d = drawn_same l in let o0 = o.0 in (
            omega arith,
            (
              (λ a. subst (λ d. All (ClosesNotBefore k l (d - 1)) (actor_at n a).stored) (sym d) (none_before l (drawn k m l - 1) o.1.0 a)),
              subst (λ d. 0 < over_stored (closes_at k l (d - 1)) n) (sym d) (let t = f.stored_sums (closes_at k l (drawn k m l - 1)) in let o1 = o.1.1 in omega arith),
            ),
          );
        };
        seen_below = f.below;
        whole_share = f.share;
      }

  -- one actor that is free stays free
  pub stays_free : (m : Machine V) (a : ℕ) (p : Actor V) → IsSound k m → a < length m.actors → is_free (actor_at m a).stand ≡ true → is_free p.stand ≡ true → 0 < p.parts
      → p.stored ≡ (actor_at m a).stored → p.got ≡ (actor_at m a).got → p.parts ≡ (actor_at m a).parts → p.halved ≡ (actor_at m a).halved
      → StandsAtWhole m p.stand → SeenBelow m.lanes p → IsSound k (acted m a p)
  stays_free m a p s lt free free' part stored got parts halved whole below = let n : Machine V = acted m a p in framed m (set m.actors a p) s record {
    stand_sums = λ f c. let e = sum_by-set (λ (x : Actor V). f x.stand) m.actors a p nobody lt in let o = free_counts_none f c (actor_at m a).stand free in let o' = free_counts_none f c p.stand free' in omega arith;
    stored_sums = λ f. let e = sum_by-set (λ (x : Actor V). sum_by f x.stored) m.actors a p nobody lt in let o : sum_by f p.stored ≡ sum_by f (actor_at m a).stored = ap (sum_by f) stored in omega arith;
    got_sums = λ f. let e = sum_by-set (λ (x : Actor V). sum_by f x.got) m.actors a p nobody lt in let o : sum_by f p.got ≡ sum_by f (actor_at m a).got = ap (sum_by f) got in omega arith;
    stored = λ P h. each_set (λ (x : Actor V). All P x.stored) m.actors a p nobody (subst (All P) (sym stored) (h a)) h;
    got = λ P h. each_set (λ (x : Actor V). All P x.got) m.actors a p nobody (subst (All P) (sym got) (h a)) h;
    standing = λ Q idle spent saw h. each_set (λ (x : Actor V). Q x.stand) m.actors a p nobody (free_stand Q idle spent saw p.stand free' whole) h;
    below = each_set (SeenBelow m.lanes) m.actors a p nobody below s.seen_below;
    fresh = each_set (λ (x : Actor V). IsAlone x → FreshOf m.lanes x) m.actors a p nobody (λ _. fresh_free m.lanes p.stored p.stand free') s.summary_follows.fresh;
    share = let w = s.whole_share in record {
      scale = w.scale;
      fine = each_set (λ (x : Actor V). x.halved ≤ w.scale) m.actors a p nobody (let h = w.fine a in omega arith) w.fine;
      whole = let e = sum_by-set (share w.scale) m.actors a p nobody lt in let o : share w.scale p ≡ share w.scale (actor_at m a) = (λ i. parts i * 2 ^ (w.scale - halved i)) in let t = w.whole in omega arith;
      each = each_set (λ (x : Actor V). HasShare x x.stand) m.actors a p nobody (free_share p p.stand free' part) w.each;
    };
  }
    where
      free_stand : (Q : Stand V → Type 0) → Q Idle → Q Spent → ((l : ℕ) → HasEvery (lane_at m l).summary → Q (Saw l)) → (s : Stand V) → is_free s ≡ true → StandsAtWhole m s → Q s
      free_stand Q idle spent saw Idle e w = idle
      free_stand Q idle spent saw (Saw l) e w = saw l w
      free_stand Q idle spent saw (Holding v) e w = absurd (true≢false (sym e))
      free_stand Q idle spent saw (Laid v) e w = absurd (true≢false (sym e))
      free_stand Q idle spent saw (Owing l o) e w = absurd (true≢false (sym e))
      free_stand Q idle spent saw (Pulling l j) e w = absurd (true≢false (sym e))
      free_stand Q idle spent saw Spent e w = spent

      free_share : (p : Actor V) (s : Stand V) → is_free s ≡ true → 0 < p.parts → HasShare p s
      free_share p Idle e h = h
      free_share p (Saw l) e h = h
      free_share p (Holding v) e h = h
      free_share p (Laid v) e h = h
      free_share p (Owing l o) e h = absurd (true≢false (sym e))
      free_share p (Pulling l j) e h = h
      free_share p Spent e h = absurd (true≢false (sym e))
