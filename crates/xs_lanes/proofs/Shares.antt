-- The table at the start, and the steps that cut a pass in two and make one of two.
use Rattle.std.proofs.Common.{◌≡◌, ◌≢◌, ℕ, zero, suc, ◌+◌, ◌*◌, ◌<◌, true, true≢false, List, [], ◌∷◌, ◌++◌, length, map, replicate, get_or, get_or-set_other, set, length-set, sum_by, Option, Some, None, is_some, sym, refl, ap, ◌∙◌, subst, arith}
use Rattle.std.proofs.lemmas.List.{length-replicate, length-map}
use Rattle.std.proofs.lemmas.List.Sums.{sum_by-set, sum_by_push, sum_by-append}
use mathlib.Core.Option.{some}
use lib.ListN.{get_elem?}
use Rattle.atomic_table.specs.Table.{Splits, Joins, opening}
use Rattle.atomic_table.proofs.Lists.{set_else}
use Rattle.xs_lane_core.specs.Places.{set_words}
use Rattle.xs_lane_core.specs.Machine.{Placing, Lane, Actor, Machine, lane_at, actor_at, empty_lane, no_lane, newcomer, nobody, start, halves, copied, joined}
use Rattle.xs_lane_core.specs.Steps.{is_free}
use Rattle.xs_lane_core.specs.Sound.{drawn, in_lane}
use Rattle.xs_lane_core.proofs.Free.{splits_sound, joins_sound}
use Rattle.xs_lane_core.proofs.Keeps.{start_sound}
use Rattle.xs_lanes.specs.Filing.{lane_word, summary_word, claim_word, drawn_word, slot_at, ShowsLane, Filed}
use Rattle.xs_lanes.proofs.Lists.{at_view}
use Rattle.xs_lanes.proofs.Shown.{shows_acted}

module _ {A : Type 0} where
  replicate_at : (n i : ℕ) (x d : A) → i < n → get_or (replicate n x) i d ≡ x
  replicate_at zero i x d lt = absurd (omega arith)
  replicate_at (suc n) zero x d lt = refl
  replicate_at (suc n) (suc i) x d lt = replicate_at n i x d (omega arith)

  all_home : (n i : ℕ) (x : A) → i < n → get_elem? (map some (replicate n x)) i ≡ some (some x)
  all_home zero i x lt = absurd (omega arith)
  all_home (suc n) zero x lt = refl
  all_home (suc n) (suc i) x lt = all_home n i x (omega arith)

  none_there : (n i : ℕ) (x : A) → get_or (replicate n None) i None ≢ Some x
  none_there zero i x e = true≢false (sym (ap is_some e))
  none_there (suc n) zero x e = true≢false (sym (ap is_some e))
  none_there (suc n) (suc i) x e = none_there n i x e

module _ {T : Type 0} (k : Placing T) where
  -- what was drawn of a lane stays where an actor is split, and where two are joined
  pub drawn_split : (m : Machine T) (a : ℕ) → a < length m.actors → (l : ℕ) → drawn k record { lanes = m.lanes; actors = set m.actors a (halves (actor_at m a)) ++ copied (actor_at m a) ∷ [] } l ≡ drawn k m l
  drawn_split m a lt l = let e = sum_by-set (λ (z : Actor T). sum_by (in_lane k l) z.got) m.actors a (halves (actor_at m a)) nobody lt in
      let g = sum_by_push (λ (z : Actor T). sum_by (in_lane k l) z.got) (set m.actors a (halves (actor_at m a))) (copied (actor_at m a)) in omega arith

  pub drawn_joined : (m : Machine T) (a b : ℕ) → a < length m.actors → b < length m.actors → a ≢ b → (l : ℕ) → drawn k record { lanes = m.lanes; actors = set (set m.actors a (joined (actor_at m a) (actor_at m b))) b nobody } l ≡ drawn k m l
  drawn_joined m a b lt lt' ne l = let x : Actor T = actor_at m a in let y : Actor T = actor_at m b in let first : List (Actor T) = set m.actors a (joined x y) in let long : length first ≡ length m.actors = length-set m.actors a (joined x y) in
      let last : get_or first b nobody ≡ y = get_or-set_other m.actors a b (joined x y) nobody (λ e. ne (sym e)) in
      let e = sum_by-set (λ (z : Actor T). sum_by (in_lane k l) z.got) m.actors a (joined x y) nobody lt in let g = sum_by-set (λ (z : Actor T). sum_by (in_lane k l) z.got) first b nobody nobody (omega arith) in
      let c : sum_by (in_lane k l) (get_or first b nobody).got ≡ sum_by (in_lane k l) y.got = ap (λ (z : Actor T). sum_by (in_lane k l) z.got) last in let d = sum_by-append (in_lane k l) x.got y.got in omega arith

  pub splits : (id : ℕ) (v : Actor T) → is_free v.stand ≡ true → Splits (Filed k) id v (halves v) (copied v)
  splits id v free s r at = let m : Machine T = record { lanes = r.lanes; actors = s.views } in let here = at_view s.views id v nobody at in let lt : id < length s.views = here.0 in let mine : actor_at m id ≡ v = here.1 in
      let first : List (Actor T) = set s.views id (halves (actor_at m id)) in
      let whole : Filed k record { words = s.words; homes = s.homes; views = first ++ copied (actor_at m id) ∷ [] } = record {
        lanes = r.lanes;
        shows = shows_acted k s.words s.homes m (first ++ copied (actor_at m id) ∷ []) r.shows (drawn_split m id lt);
        sound = splits_sound k m id r.sound lt (ap (λ (z : Actor T). is_free z.stand) mine ∙ free);
      } in
      subst (λ (z : Actor T). Filed k record { words = s.words; homes = s.homes; views = set s.views id (halves z) ++ copied z ∷ [] }) mine whole

  pub joins : (id : ℕ) (v : Actor T) (other : ℕ) (w : Actor T) → is_free v.stand ≡ true → is_free w.stand ≡ true → Joins (Filed k) id v other w (joined v w) nobody
  joins id v other w free free' s r at ne there = let m : Machine T = record { lanes = r.lanes; actors = s.views } in let here = at_view s.views id v nobody at in let lt : id < length s.views = here.0 in let mine : actor_at m id ≡ v = here.1 in
      let that = at_view s.views other w nobody (sym (set_else s.views id other (joined v w) ne) ∙ there) in let lt' : other < length s.views = that.0 in let theirs : actor_at m other ≡ w = that.1 in
      let x : Actor T = actor_at m id in let y : Actor T = actor_at m other in let first : List (Actor T) = set s.views id (joined x y) in
      let whole : Filed k record { words = s.words; homes = s.homes; views = set first other nobody } = record {
        lanes = r.lanes;
        shows = shows_acted k s.words s.homes m (set first other nobody) r.shows (drawn_joined m id other lt lt' (λ e. ne (sym e)));
        sound = joins_sound k m id other r.sound lt lt' (λ e. ne (sym e)) (ap (λ (z : Actor T). is_free z.stand) mine ∙ free) (ap (λ (z : Actor T). is_free z.stand) theirs ∙ free');
      } in
      subst (λ (z : Actor T). Filed k record { words = s.words; homes = s.homes; views = set (set s.views id (joined z w)) other nobody }) mine
      (subst (λ (z : Actor T). Filed k record { words = s.words; homes = s.homes; views = set (set s.views id (joined x z)) other nobody }) theirs whole)

  pub opens : (n w c : ℕ) → w ≡ 19 * n → c ≡ 512 * n → Filed k (opening (replicate w 0) (replicate c None) newcomer)
  opens n w c e e' = let m : Machine T = start n in let long : length m.lanes ≡ n = length-replicate n (empty_lane {V = T}) in
      let empty : (l : ℕ) → l < n → lane_at m l ≡ empty_lane = λ l lt. replicate_at n l (empty_lane {V = T}) no_lane lt in record {
        lanes = replicate n empty_lane;
        shows = record {
          count = length-replicate w 0 ∙ (e ∙ ap (λ i. 19 * i) (sym long));
          lane = λ l lt. subst (λ (x : Lane T). ShowsLane (replicate w 0) l x 0) (sym (empty l (omega arith))) record {
            taken = λ c low. replicate_at w (lane_word l c) 0 0 (omega arith) ∙ sym (replicate_at set_words c 0 0 low);
            home = λ c low. replicate_at w (lane_word l (8 + c)) 0 0 (omega arith) ∙ sym (replicate_at set_words c 0 0 low);
            summary = replicate_at w (summary_word l) 0 0 (omega arith);
            claimed = replicate_at w (claim_word l) 0 0 (omega arith);
            drawn = replicate_at w (drawn_word l) 0 0 (omega arith);
          };
          slots = record {
            count = length-map (replicate c None) some ∙ (length-replicate {A = Option T} c None ∙ (e' ∙ ap (λ i. 512 * i) (sym long)));
            lying = λ l p x lt there. absurd (none_there 512 p x (ap (λ (y : Lane T). get_or y.values p None) (sym (empty l (omega arith))) ∙ there));
            free = λ l p lt low _. all_home c (slot_at l p) None (omega arith);
          };
        };
        sound = start_sound k n;
      }
