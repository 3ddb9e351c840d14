-- The step Home keeps the rule of the table: the value in the slot is put at its place, and is home.
use Rattle.std.proofs.Common.{◌≡◌, ℕ, ◌+◌, ◌*◌, ◌<◌, List, ◌∷◌, length, get_or, get_or-set_same, get_or-set_other, set, Option, Some, None, bit_or, sym, refl, ap, ◌∙◌, subst, arith}
use Rattle.std.proofs.lemmas.Nat.Bits.{bit_at-lt}
use mathlib.Core.Option.{some, none}
use mathlib.Core.Option as maybe
use mathlib.Core.Logic.{dite}
use native.Mathlib.Decide.{ℕ_discrete}
use Rattle.atomic_table.specs.Table.{Me, gives, step, Allows}
use Rattle.xs_lane_core.specs.Places.{places, set_words, word_of, place_bit, has}
use Rattle.xs_lane_core.specs.declared.values.Stand.TheVariants.{Holding}
use Rattle.xs_lane_core.specs.Machine.{Placing, Lane, Actor, Machine, lane_at, actor_at, nobody, changed, stores, stand_owing, mask}
use Rattle.xs_lane_core.specs.Steps.{Answer, debt_of}
use Rattle.xs_lane_core.specs.Sound.{holding, in_lane, IsSound}
use Rattle.xs_lane_core.proofs.Placed.{at_here}
use Rattle.xs_lane_core.proofs.Sets.{word_low}
use Rattle.xs_lane_core.proofs.Turns.{got_same, stand_within}
use Rattle.xs_lane_core.proofs.Keeps.{put_keeps, home_keeps}
use Rattle.xs_lanes.specs.Filing.{lane_word, home_word, slot_at, ShowsSlots, ShowsMachine, Filed}
use Rattle.xs_lanes.specs.Knowing.{FindsHome}
use Rattle.xs_lanes.specs.Debts.{debt_after}
use Rattle.xs_lanes.specs.Plays.{came_home}
use Rattle.xs_lanes.proofs.Lists.{at_view}
use Rattle.xs_lanes.proofs.Events.{brought, filed, held_homes_is}
use Rattle.xs_lanes.proofs.Held.{holds_another}
use Rattle.xs_lanes.proofs.Shown.{word_else, set_after, slots_after, shows_changed}
use Rattle.xs_lanes.proofs.Knows.{finds_home}
use Rattle.xs_lanes.proofs.Steps.{narrow}

module _ {T : Type 0} (k : Placing T) where
  pub home_sound : (m : Machine T) (a : ℕ) (u x : T) → IsSound k m → a < length m.actors → k.lane x < length m.lanes → k.place x < places → (actor_at m a).stand ≡ Holding u → k.lane x ≡ k.lane u → k.place x ≡ k.place u → IsSound k (filed k m a x)
  home_sound m a u x s lt lt' low stand same_lane same_place = subst (λ (r : Machine T × Answer T). IsSound k r.0) (held_homes_is k m a x lt lt' low) (home_keeps k _ a (put_keeps k _ a (holds_another k m a u x s lt stand same_lane same_place)))

  -- the slot comes home with the value
  home_slots : (homes : List (maybe.Option (Option T))) (m : Machine T) (x : T) (a : ℕ) (q : Actor T) → IsSound k m → ShowsSlots homes m → k.lane x < length m.lanes → k.place x < places → has (lane_at m (k.lane x)).taken (k.place x) ≡ 1
      → ShowsSlots (set homes (slot_at (k.lane x) (k.place x)) (some (Some x))) (changed m (k.lane x) (brought (lane_at m (k.lane x)) (k.place x) x (mask k x)) a q)
  home_slots homes m x a q s shows lt low held = let l : ℕ = k.lane x in let p : ℕ = k.place x in let values : List (Option T) = (lane_at m l).values in
      let there : get_or (set values p (Some x)) p None ≡ Some x = get_or-set_same values p (Some x) None (let w = (s.map_follows.wide l lt).values in omega arith) in
      slots_after homes m l p a (brought (lane_at m l) p x (mask k x)) q (some (Some x)) shows (λ j r u. narrow k m s j r u) lt low
      (λ r u ne e. sym (get_or-set_other values p r (Some x) None ne) ∙ e)
      (λ r ne e. e)
      (λ u e. ap some (sym there ∙ e))
      (λ e. absurd (omega arith))
      (λ r u e. dite (ℕ_discrete r p) (λ h. (let g : r ≡ p = h in omega arith)) (λ ne. narrow k m s l r u (sym (get_or-set_other values p r (Some x) None ne) ∙ e)))

  -- the home word gains the places
  pub home_shows : (words : List ℕ) (homes : List (maybe.Option (Option T))) (m : Machine T) (a : ℕ) (x : T) → ShowsMachine k words homes m → IsSound k m → a < length m.actors → k.lane x < length m.lanes → k.place x < places → has (lane_at m (k.lane x)).taken (k.place x) ≡ 1
      → ShowsMachine k (set words (home_word (k.lane x) (k.place x)) (bit_or (get_or words (home_word (k.lane x) (k.place x)) 0) (mask k x))) (set homes (slot_at (k.lane x) (k.place x)) (some (Some x))) (filed k m a x)
  home_shows words homes m a x shows s lt lt' low held = let l : ℕ = k.lane x in let p : ℕ = k.place x in let c : ℕ = word_of p in let y : Lane T = brought (lane_at m l) p x (mask k x) in
      let q : Actor T = stores x (stand_owing l (debt_of k m x)) (actor_at m a) in let got = λ (j : ℕ). got_same (in_lane k j) m a q lt refl in let old = shows.lane l lt' in let count = shows.count in let low' : c < set_words = word_low p low in
      let room : c < length (lane_at m l).home = let t = (s.map_follows.wide l lt').home in omega arith in
      let z : ℕ = bit_or (get_or (lane_at m l).home c 0) (mask k x) in let new : bit_or (get_or words (home_word l p) 0) (mask k x) ≡ z = ap (λ u. bit_or u (mask k x)) (old.home c low') in
      subst (λ u. ShowsMachine k (set words (home_word l p) u) (set homes (slot_at l p) (some (Some x))) (changed m l y a q)) (sym new)
      (shows_changed k words homes (set homes (slot_at l p) (some (Some x))) m l (8 + c) z a y q shows lt' (omega arith) record {
        taken = λ w h. word_else words l (8 + c) z l w (λ _ e. omega arith) (omega arith) (omega arith) ∙ old.taken w h;
        home = set_after (λ w. lane_word l (8 + w)) (λ v w e. omega arith) words (lane_at m l).home c z old.home (omega arith) room;
        summary = word_else words l (8 + c) z l 16 (λ _ e. omega arith) (omega arith) (omega arith) ∙ old.summary;
        claimed = word_else words l (8 + c) z l 17 (λ _ e. omega arith) (omega arith) (omega arith) ∙ old.claimed;
        drawn = word_else words l (8 + c) z l 18 (λ _ e. omega arith) (omega arith) (omega arith) ∙ (old.drawn ∙ sym (got l));
      } (λ j ne. got j) (home_slots homes m x a q s shows.slots lt' low held))

  -- a place that is held is taken
  pub held_taken : (m : Machine T) (a : ℕ) (u x : T) → IsSound k m → (actor_at m a).stand ≡ Holding u → k.lane x ≡ k.lane u → k.place x ≡ k.place u → has (lane_at m (k.lane x)).taken (k.place x) ≡ 1
  held_taken m a u x s stand same_lane same_place = let l : ℕ = k.lane x in let p : ℕ = k.place x in let o = s.one_holder.once l p in let w = stand_within (holding k l p) m a refl in
      let c : holding k l p (actor_at m a).stand ≡ 1 = ap (holding k l p) stand ∙ at_here k l p u (sym same_lane) (sym same_place) in let b = bit_at-lt (get_or (lane_at m l).taken (word_of p) 0) (place_bit p) in omega arith

  Tells : Actor T → Actor T → T → ℕ → Type 0
  Tells q v x r = FindsHome k v (k.lane x) (word_of (k.place x)) r × (q ≡ stores x (stand_owing (k.lane x) (debt_after k x r)) v)

  home_at : (n id : ℕ) (v : Actor T) (u x : T) (more : List (ℕ × Option T)) → v.stand ≡ Holding u → k.lane x ≡ k.lane u → k.place x ≡ k.place u → 512 * k.lane x < n → k.place x < places
      → Allows (Filed k) n id (v, (slot_at (k.lane x) (k.place x), Some x) ∷ more) (home_word (k.lane x) (k.place x)) (λ y. bit_or y (mask k x))
      (came_home k (step n (home_word (k.lane x) (k.place x)) (mask k x) 0 none) (v, (slot_at (k.lane x) (k.place x), Some x) ∷ more))
  unfolding Tells
  home_at n id v u x more stand same_lane same_place inside low s r wide at _ = let l : ℕ = k.lane x in let p : ℕ = k.place x in let m : Machine T = record { lanes = r.lanes; actors = s.views } in let here = at_view s.views id v nobody at in
      let lt : id < length s.views = here.0 in let mine : actor_at m id ≡ v = here.1 in let count = r.shows.slots.count in let lt' : l < length r.lanes = omega arith in
      let stand' : (actor_at m id).stand ≡ Holding u = ap (λ (z : Actor T). z.stand) mine ∙ stand in let word : ℕ = get_or s.words (home_word l p) 0 in
      let h : ℕ = get_or (lane_at m l).home (word_of p) 0 in let found : word ≡ h = (r.shows.lane l lt').home (word_of p) (word_low p low) in
      let y : Lane T = brought (lane_at m l) p x (mask k x) in let q : Actor T = stores x (stand_owing l (debt_of k m x)) (actor_at m id) in (
        q,
        gives,
        tt,
        record {
          lanes = set r.lanes l y;
          shows = home_shows s.words s.homes m id x r.shows r.sound lt lt' low (held_taken m id u x r.sound stand' same_lane same_place);
          sound = home_sound m id u x r.sound lt lt' low stand' same_lane same_place;
        },
        λ x' e'. let same : x ≡ x' = ap (λ (t : List T). get_or t 0 x) e' in
            let t = subst (λ z. Tells q v z word) same (subst (λ u. Tells q v x u) (sym found) (subst (λ (z : Actor T). Tells q z x h) mine (finds_home k m id l (word_of p) r.sound lt lt', refl))) in (t.0, t.1, refl),
      )

  pub comes_home : (n id : ℕ) (me : Me (Option T) (Actor T)) (u x : T) (more : List (ℕ × Option T)) (w b : ℕ) → me.0.stand ≡ Holding u → k.lane x ≡ k.lane u → k.place x ≡ k.place u → 512 * k.lane x < n → k.place x < places
      → me.1 ≡ (slot_at (k.lane x) (k.place x), Some x) ∷ more → w ≡ home_word (k.lane x) (k.place x) → b ≡ mask k x → Allows (Filed k) n id me w (λ y. bit_or y b) (came_home k (step n w b 0 none) me)
  comes_home n id me u x more w b stand same_lane same_place inside low out e e' = subst (λ c. Allows (Filed k) n id (me.0, c) w (λ y. bit_or y b) (came_home k (step n w b 0 none) (me.0, c))) (sym out)
      (subst (λ w. Allows (Filed k) n id (me.0, (slot_at (k.lane x) (k.place x), Some x) ∷ more) w (λ y. bit_or y b) (came_home k (step n w b 0 none) (me.0, (slot_at (k.lane x) (k.place x), Some x) ∷ more))) (sym e)
      (subst (λ b. Allows (Filed k) n id (me.0, (slot_at (k.lane x) (k.place x), Some x) ∷ more) (home_word (k.lane x) (k.place x)) (λ y. bit_or y b) (came_home k (step n (home_word (k.lane x) (k.place x)) b 0 none) (me.0, (slot_at (k.lane x) (k.place x), Some x) ∷ more))) (sym e')
      (home_at n id me.0 u x more stand same_lane same_place inside low)))
