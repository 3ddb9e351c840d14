-- The steps that draw the next value of a claimed lane, and give its slot back, keep the rule of the table.
use Rattle.std.proofs.Common.{◌≡◌, ◌≢◌, ℕ, ◌+◌, ◌*◌, ◌^◌, ◌%◌, ◌<◌, true≢false, if◌then◌else◌, List, ◌∷◌, length, get_or, get_or-set_same, get_or-set_other, set, Option, Some, None, is_some, sym, refl, ap, ◌∙◌, subst, arith, mod-eq_of_lt}
use Rattle.std.proofs.lemmas.List.Sums.{sum_by_push}
use Rattle.std.proofs.lemmas.Nat.Bits.{bit_at-lt}
use mathlib.Core.Option.{some, none}
use mathlib.Core.Option as maybe
use mathlib.Core.Logic.{dite}
use native.Mathlib.Decide.{ℕ_discrete}
use Rattle.atomic_table.specs.Table.{Me, takes, gives, step, Allows}
use Rattle.atomic_table.proofs.Lists.{set_again}
use Rattle.xs_lane_core.specs.Places.{places, word_of, place_bit, HasEvery}
use Rattle.xs_lane_core.specs.declared.values.Stand.{Stand}
use Rattle.xs_lane_core.specs.declared.values.Stand.TheVariants.{Idle, Saw, Holding, Laid, Owing, Pulling, Spent}
use Rattle.xs_lane_core.specs.Machine.{Placing, Lane, Actor, Machine, lane_at, actor_at, value_at, nobody, changed, with_value, gets}
use Rattle.xs_lane_core.specs.Sound.{at, in_lane, drawn, lies, StandsAtWhole, PullsNext, IsSound}
use Rattle.xs_lane_core.proofs.Gives.{gives_some, pulls_given}
use Rattle.xs_lane_core.proofs.Placed.{in_lane_here, in_lane_other}
use Rattle.xs_lane_core.proofs.Pulling.{pulls_sound}
use Rattle.xs_lane_core.proofs.Turns.{got_sum, got_within}
use Rattle.xs_lanes.specs.Filing.{drawn_word, slot_at, ShowsSlots, ShowsMachine, Filed}
use Rattle.xs_lanes.specs.Claiming.{got_at}
use Rattle.xs_lanes.specs.Plays.{drew, gave_back}
use Rattle.xs_lanes.proofs.Lists.{at_view, set_same}
use Rattle.xs_lanes.proofs.Shown.{word_else, slots_after, slots_back, shows_changed}
use Rattle.xs_lanes.proofs.Steps.{narrow}
use Rattle.xs_lanes.proofs.Takes.{empty_place}

none_some : {A : Type 0} (x : A) → None ≢ Some x
none_some x e = true≢false (sym (ap is_some e))

-- the place that is pulled next
abbrev next_place : {T : Type 0} → Stand T → ℕ
next_place Idle = 0
next_place (Saw l) = 0
next_place (Holding x) = 0
next_place (Laid x) = 0
next_place (Owing l o) = 0
next_place (Pulling l j) = j
next_place Spent = 0

same_place : {T : Type 0} (s s' : Stand T) → s ≡ s' → next_place s ≡ next_place s'
same_place s s' e = ap next_place e

module _ {T : Type 0} (k : Placing T) where
  -- the value that is pulled next lies at its place
  pub next_value : (m : Machine T) (a l j : ℕ) → IsSound k m → (actor_at m a).stand ≡ Pulling l j → (x : T) × (value_at m l j ≡ Some x)
  next_value m a l j s stand = let every : HasEvery (lane_at m l).summary = subst (StandsAtWhole m) stand (s.claimers.whole a) in let g = gives_some k m s l every in let r = pulls_given k m s a l j g.0 g.1 stand in (r.0, r.1)

  -- the slot of the next value goes out
  pull_slots : (homes : List (maybe.Option (Option T))) (m : Machine T) (l j a : ℕ) (x : T) (q : Actor T) → IsSound k m → ShowsSlots homes m → l < length m.lanes → value_at m l j ≡ Some x
      → ShowsSlots (set homes (slot_at l j) none) (changed m l (with_value (lane_at m l) j None) a q)
  pull_slots homes m l j a x q s shows lt there = let values : List (Option T) = (lane_at m l).values in let low = narrow k m s l j x there in
      let gone : get_or (set values j None) j None ≡ None = get_or-set_same values j None None (let w = (s.map_follows.wide l lt).values in omega arith) in
      slots_after homes m l j a (with_value (lane_at m l) j None) q none shows (λ i r u. narrow k m s i r u) lt low
      (λ r u ne e. sym (get_or-set_other values j r None None ne) ∙ e)
      (λ r ne e. e)
      (λ u e. absurd (none_some u (sym gone ∙ e)))
      (λ e. absurd (empty_place k m l j x s e there))
      (λ r u e. dite (ℕ_discrete r j) (λ h. (let g : r ≡ j = h in omega arith)) (λ ne. narrow k m s l r u (sym (get_or-set_other values j r None None ne) ∙ e)))

  -- the drawn word counts one more
  pub pull_shows : (words : List ℕ) (homes : List (maybe.Option (Option T))) (m : Machine T) (a l j : ℕ) (x : T) (s' : Stand T) → ShowsMachine k words homes m → IsSound k m → a < length m.actors → l < length m.lanes → j ≡ drawn k m l → k.lane x ≡ l → value_at m l j ≡ Some x
      → ShowsMachine k (set words (drawn_word l) (j + 1)) (set homes (slot_at l j) none) (changed m l (with_value (lane_at m l) j None) a (gets x s' (actor_at m a)))
  pull_shows words homes m a l j x s' shows s lt lt' next own there = let q : Actor T = gets x s' (actor_at m a) in let y : Lane T = with_value (lane_at m l) j None in
      let sums : (i : ℕ) → drawn k (changed m l y a q) i ≡ drawn k m i + in_lane k i x = λ i. let g = got_sum (in_lane k i) m a q lt in let p = sum_by_push (in_lane k i) (actor_at m a).got x in omega arith in
      let old = shows.lane l lt' in let count = shows.count in
      shows_changed k words homes (set homes (slot_at l j) none) m l 18 (j + 1) a y q shows lt' (omega arith) record {
        taken = λ w h. word_else words l 18 (j + 1) l w (λ _ e. omega arith) (omega arith) (omega arith) ∙ old.taken w h;
        home = λ w h. word_else words l 18 (j + 1) l (8 + w) (λ _ e. omega arith) (omega arith) (omega arith) ∙ old.home w h;
        summary = word_else words l 18 (j + 1) l 16 (λ _ e. omega arith) (omega arith) (omega arith) ∙ old.summary;
        claimed = word_else words l 18 (j + 1) l 17 (λ _ e. omega arith) (omega arith) (omega arith) ∙ old.claimed;
        drawn = get_or-set_same words (drawn_word l) (j + 1) 0 (omega arith) ∙ (let g = sums l in let o = in_lane_here k l x own in omega arith);
      } (λ i ne. let g = sums i in let o = in_lane_other k i x (λ e. ne (sym e ∙ own)) in omega arith) (pull_slots homes m l j a x q s shows.slots lt' there)

  Tells : Me (Option T) (Actor T) → Me (Option T) (Actor T) → Actor T → ℕ → ℕ → ℕ → Type 0
  Tells me m' v l j r = (r ≡ j) × (j < places) × ((x : T) × (k.lane x ≡ l) × (k.place x ≡ j) × (m'.0 ≡ gets x (if k.closes x then Idle else Pulling l (j + 1)) v) × (m'.1 ≡ (slot_at l j, Some x) ∷ me.1))

  pull_at : (n id : ℕ) (me : Me (Option T) (Actor T)) (l j : ℕ) → me.0.stand ≡ Pulling l j → 512 * l < n → Allows (Filed k) n id me (drawn_word l) (λ y. (y + 1) % 2 ^ 64) (drew k (step n (drawn_word l) 1 0 none) me)
  unfolding Tells
  pull_at n id me l j stand inside s r wide at _ = let m : Machine T = record { lanes = r.lanes; actors = s.views } in let here = at_view s.views id me.0 nobody at in
      let lt : id < length s.views = here.0 in let mine : actor_at m id ≡ me.0 = here.1 in let count = r.shows.slots.count in let lt' : l < length r.lanes = omega arith in
      let stand' : (actor_at m id).stand ≡ Pulling l j = ap (λ (v : Actor T). v.stand) mine ∙ stand in
      let v = next_value m id l j r.sound stand' in let x : T = v.0 in let there : value_at m l j ≡ Some x = v.1 in let low : j < places = narrow k m r.sound l j x there in
      let own = r.sound.one_holder.own l j x (r.sound.map_follows.lying l j x there) in let next : j ≡ drawn k m l = subst (PullsNext k m) stand' (r.sound.got_in_order.next id) in
      let word : ℕ = get_or s.words (drawn_word l) 0 in let found : word ≡ j = (r.shows.lane l lt').drawn ∙ sym next in
      let after : (word + 1) % 2 ^ 64 ≡ j + 1 = mod-eq_of_lt (let w : word + 1 < 18446744073709551616 = omega arith in w) ∙ ap (λ i. i + 1) found in
      let s' : Stand T = if k.closes x then Idle else Pulling l (j + 1) in let q : Actor T = gets x s' (actor_at m id) in (
        q,
        takes (slot_at l j) (Some x),
        r.shows.slots.lying l j x lt' there,
        record {
          lanes = set r.lanes l (with_value (lane_at m l) j None);
          shows = subst (λ z. ShowsMachine k (set s.words (drawn_word l) z) (set s.homes (slot_at l j) none) (changed m l (with_value (lane_at m l) j None) id q)) (sym after) (pull_shows s.words s.homes m id l j x s' r.shows r.sound lt lt' next own.0 there);
          sound = pulls_sound k m id l j x r.sound lt lt' stand' there;
        },
        λ l' j' e e'. subst (λ i. Tells me (q, (slot_at l j, Some x) ∷ me.1) me.0 i j' word) (let w : l ≡ l' = omega arith in w)
            (subst (λ i. Tells me (q, (slot_at l j, Some x) ∷ me.1) me.0 l i word) (same_place _ _ (sym stand ∙ e'))
            (subst (λ (z : Actor T). Tells me (q, (slot_at l j, Some x) ∷ me.1) z l j word) mine (found, low, (x, own.0, own.1, refl, refl)))),
      )

  pub pulls_next : (n id : ℕ) (me : Me (Option T) (Actor T)) (l j w : ℕ) → me.0.stand ≡ Pulling l j → 512 * l < n → w ≡ drawn_word l → Allows (Filed k) n id me w (λ y. (y + 1) % 2 ^ 64) (drew k (step n w 1 0 none) me)
  pulls_next n id me l j w stand inside e = subst (λ w. Allows (Filed k) n id me w (λ y. (y + 1) % 2 ^ 64) (drew k (step n w 1 0 none) me)) (sym e) (pull_at n id me l j stand inside)

  -- no value lies where one was got
  got_gone : (m : Machine T) (a l p : ℕ) (x : T) → IsSound k m → 0 < got_at k l p (actor_at m a) → value_at m l p ≢ Some x
  got_gone m a l p x s lt e = let f = s.map_follows.filled l p in let o = s.one_holder.once l p in let b = bit_at-lt (get_or (lane_at m l).taken (word_of p) 0) (place_bit p) in let g = s.map_follows.got_stored l p in let w = got_within (at k l p) m a in
      let c : lies (value_at m l p) ≡ 1 = ap lies e in absurd (omega arith)

  back_at : (n id w : ℕ) (v : Actor T) (l p : ℕ) (more : List (ℕ × Option T)) → 512 * l < n → p < places → 0 < got_at k l p v → Allows (Filed k) n id (v, (slot_at l p, None) ∷ more) w (λ y. y) (gave_back k (step n w 0 0 none) (v, (slot_at l p, None) ∷ more))
  back_at n id w v l p more inside low got s r wide at _ = let m : Machine T = record { lanes = r.lanes; actors = s.views } in let here = at_view s.views id v nobody at in
      let mine : actor_at m id ≡ v = here.1 in let count = r.shows.slots.count in let lt' : l < length r.lanes = omega arith in
      let got' : 0 < got_at k l p (actor_at m id) = subst (λ (z : Actor T). 0 < got_at k l p z) (sym mine) got in
      let slots : ShowsSlots (set s.homes (slot_at l p) (some None)) m = slots_back s.homes m l p r.shows.slots (λ j i u. narrow k m r.sound j i u) lt' low (λ x. got_gone m id l p x r.sound got') in
      let whole : Filed k record { words = s.words; homes = set s.homes (slot_at l p) (some None); views = s.views } = record { lanes = r.lanes; shows = record { count = r.shows.count; lane = r.shows.lane; slots = slots }; sound = r.sound } in (
        v,
        gives,
        tt,
        subst (λ ws. Filed k record { words = ws; homes = set s.homes (slot_at l p) (some None); views = set s.views id v }) (sym (set_same s.words w 0))
            (subst (λ us. Filed k record { words = s.words; homes = set s.homes (slot_at l p) (some None); views = us }) (sym (set_again s.views id v at)) whole),
        (refl, refl, (m, id, r.sound, mine, here.0)),
      )

  pub gives_back : (n id w : ℕ) (me : Me (Option T) (Actor T)) (l p : ℕ) (more : List (ℕ × Option T)) → 512 * l < n → p < places → 0 < got_at k l p me.0 → me.1 ≡ (slot_at l p, None) ∷ more → Allows (Filed k) n id me w (λ y. y) (gave_back k (step n w 0 0 none) me)
  gives_back n id w me l p more inside low got out = subst (λ c. Allows (Filed k) n id (me.0, c) w (λ y. y) (gave_back k (step n w 0 0 none) (me.0, c))) (sym out) (back_at n id w me.0 l p more inside low got)
