-- Each step on a word keeps the rule of the table.
use Rattle.std.proofs.Common.{◌≡◌, ℕ, ◌*◌, ◌<◌, Bool, true, false, if◌then◌else◌, nat_eq, length, get_or, set, Option, Some, sym, refl, ap, ◌∙◌, subst, arith}
use mathlib.Core.Option.{none}
use Rattle.atomic_table.specs.Table.{Me, keeps, step, Allows}
use Rattle.xs_lane_core.specs.Places.{places, every_word}
use Rattle.xs_lane_core.specs.declared.values.Stand.TheVariants.{Idle, Saw}
use Rattle.xs_lane_core.specs.Machine.{Placing, Actor, Machine, lane_at, actor_at, value_at, nobody, acted, sees}
use Rattle.xs_lane_core.specs.Steps.{is_free}
use Rattle.xs_lane_core.specs.Sound.{in_lane, IsAlone, IsSound}
use Rattle.xs_lane_core.proofs.Free.{looks_sound}
use Rattle.xs_lane_core.proofs.Turns.{got_same}
use Rattle.xs_lanes.specs.Filing.{summary_word, ShowsMachine, Filed}
use Rattle.xs_lanes.specs.Knowing.{IsChoice, FindsSummary}
use Rattle.xs_lanes.specs.Plays.{stand_seen, looked}
use Rattle.xs_lanes.proofs.Lists.{at_view, set_same}
use Rattle.xs_lanes.proofs.Shown.{shows_acted}
use Rattle.xs_lanes.proofs.Knows.{finds_choice, finds_summary}

-- who has looked is free
pub seen_free : (T : Type 0) (l mask : ℕ) → is_free {V = T} (stand_seen l mask) ≡ true
seen_free T l mask = by_test (nat_eq mask every_word)
  where
    by_test : (b : Bool) → is_free {V = T} (if b then Saw l else Idle) ≡ true
    by_test true = refl
    by_test false = refl

module _ {T : Type 0} (k : Placing T) where
  -- values lie at places of their lane alone
  pub narrow : (m : Machine T) → IsSound k m → (l p : ℕ) (x : T) → value_at m l p ≡ Some x → p < places
  narrow m s l p x e = (s.one_holder.own l p x (s.map_follows.lying l p x e)).2

  look_at : (n id : ℕ) (me : Me (Option T) (Actor T)) (l : ℕ) → is_free me.0.stand ≡ true → 512 * l < n → Allows (Filed k) n id me (summary_word l) (λ y. y) (looked k (step n (summary_word l) 0 0 none) me)
  look_at n id me l free inside s r wide at _ = let m : Machine T = record { lanes = r.lanes; actors = s.views } in let here = at_view s.views id me.0 nobody at in let lt : id < length s.views = here.0 in
      let mine : actor_at m id ≡ me.0 = here.1 in let count = r.shows.slots.count in let lt' : l < length r.lanes = omega arith in
      let free' : is_free (actor_at m id).stand ≡ true = ap (λ (v : Actor T). is_free v.stand) mine ∙ free in
      let h : ℕ = (lane_at m l).summary in let found : get_or s.words (summary_word l) 0 ≡ h = (r.shows.lane l lt').summary in
      let q : Actor T = sees (stand_seen l h) l h (actor_at m id) in (
        q,
        keeps,
        tt,
        record {
          lanes = r.lanes;
          shows = subst (λ ws. ShowsMachine k ws s.homes (acted m id q)) (sym (set_same s.words (summary_word l) 0)) (shows_acted k s.words s.homes m (set s.views id q) r.shows (λ j. got_same (in_lane k j) m id q lt refl));
          sound = looks_sound k m id l r.sound lt free';
        },
        λ l' e. subst (λ j. FindsSummary k me.0 j (get_or s.words (summary_word l) 0) × (IsAlone me.0 → IsChoice k me.0) × (q ≡ sees (stand_seen j (get_or s.words (summary_word l) 0)) j (get_or s.words (summary_word l) 0) me.0) × (me.1 ≡ me.1)) (let w : l ≡ l' = omega arith in w)
            (subst (λ u. FindsSummary k me.0 l u × (IsAlone me.0 → IsChoice k me.0) × (q ≡ sees (stand_seen l u) l u me.0) × (me.1 ≡ me.1)) (sym found)
            (subst (λ (v : Actor T). FindsSummary k v l h × (IsAlone v → IsChoice k v) × (q ≡ sees (stand_seen l h) l h v) × (me.1 ≡ me.1)) mine
            (finds_summary k m id l r.sound lt lt' free', finds_choice k m id r.sound lt free', refl, refl))),
      )

  pub looks : (n id : ℕ) (me : Me (Option T) (Actor T)) (l w : ℕ) → is_free me.0.stand ≡ true → 512 * l < n → w ≡ summary_word l → Allows (Filed k) n id me w (λ y. y) (looked k (step n w 0 0 none) me)
  looks n id me l w free inside e = subst (λ w. Allows (Filed k) n id me w (λ y. y) (looked k (step n w 0 0 none) me)) (sym e) (look_at n id me l free inside)
