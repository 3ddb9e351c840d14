-- The step Claim keeps the rule of the table.
use Rattle.std.proofs.Common.{◌≡◌, ◌≢◌, ℕ, ◌+◌, ◌*◌, ◌<◌, min, Bool, true, false, List, length, get_or, get_or-set_same, set, Option, sym, refl, ap, ◌∙◌, subst, arith}
use Rattle.std.proofs.lemmas.List.Elements.{All-contains}
use mathlib.Core.Option.{none}
use mathlib.Core.Option as maybe
use mathlib.Core.Logic.{dite}
use native.Mathlib.Decide.{ℕ_discrete}
use Rattle.atomic_table.specs.Table.{Me, keeps, step, Allows}
use Rattle.xs_lane_core.specs.declared.values.Stand.TheVariants.{Saw, Pulling}
use Rattle.xs_lane_core.specs.Machine.{Placing, Lane, Actor, Machine, lane_in, lane_at, actor_at, nobody, acted, changed, with_claim, stands, finds_gone}
use Rattle.xs_lane_core.specs.Steps.{is_free}
use Rattle.xs_lane_core.specs.Sound.{pulling, in_lane, claim_flag, IsAlone, IsSound}
use Rattle.xs_lane_core.proofs.Alone.{alone_stands, alone_got}
use Rattle.xs_lane_core.proofs.Frames.{free_counts_none, counts_pulling}
use Rattle.xs_lane_core.proofs.Free.{gone_sound}
use Rattle.xs_lane_core.proofs.Claiming.{claims_sound}
use Rattle.xs_lane_core.proofs.Turns.{got_same, got_within}
use Rattle.xs_lanes.specs.Filing.{claim_word, ShowsMachine, Filed}
use Rattle.xs_lanes.specs.Claiming.{got_in, FindsClaim}
use Rattle.xs_lanes.specs.Plays.{claimed}
use Rattle.xs_lanes.proofs.Lists.{at_view, set_same}
use Rattle.xs_lanes.proofs.Shown.{word_else, slots_kept, shows_changed, shows_acted}

pub flag_off : (b : Bool) → claim_flag b ≡ 0 → b ≡ false
flag_off true e = absurd (omega arith)
flag_off false e = refl

pub flag_on : (b : Bool) → claim_flag b ≢ 0 → b ≡ true
flag_on true e = refl
flag_on false e = absurd (e refl)

module _ {T : Type 0} (k : Placing T) where
  got_claimed : (m : Machine T) (a l : ℕ) (b : Bool) → IsSound k m → (lane_at m l).claimed ≡ b → 0 < got_in k l (actor_at m a) → claim_flag b ≡ 1
  got_claimed m a l true s e lt = refl
  got_claimed m a l false s e lt = let u = s.got_in_order.unclaimed l e in let w = got_within (in_lane k l) m a in absurd (omega arith)

  alone_claimed : (m : Machine T) (a l : ℕ) (b : Bool) → IsSound k m → a < length m.actors → is_free (actor_at m a).stand ≡ true → IsAlone (actor_at m a) → (lane_at m l).claimed ≡ b → claim_flag b ≡ min 1 (got_in k l (actor_at m a))
  alone_claimed m a l true s lt free alone e = let g = alone_got (in_lane k l) m a s.whole_share lt alone in let p = alone_stands (pulling l) m a refl s.whole_share lt alone in
      let z = free_counts_none (pulling l) (counts_pulling k l) (actor_at m a).stand free in let o = (s.got_in_order.ended l e (p ∙ z)).0 in omega arith
  alone_claimed m a l false s lt free alone e = let g = alone_got (in_lane k l) m a s.whole_share lt alone in let u = s.got_in_order.unclaimed l e in omega arith

  pub finds_claim : (m : Machine T) (a l : ℕ) → IsSound k m → a < length m.actors → is_free (actor_at m a).stand ≡ true → FindsClaim k (actor_at m a) l (claim_flag (lane_at m l).claimed)
  finds_claim m a l s lt free = record {
    got = got_claimed m a l (lane_at m l).claimed s refl;
    gone = λ c. ap claim_flag (All-contains (λ (j : ℕ). (lane_in m.lanes j).claimed ≡ true) (actor_at m a).gone l (s.seen_below a).gone c);
    alone = λ alone. alone_claimed m a l (lane_at m l).claimed s lt free alone refl;
  }

  -- the claimed word of a lane that nobody claimed
  pub claim_shows : (words : List ℕ) (homes : List (maybe.Option (Option T))) (m : Machine T) (a l : ℕ) → ShowsMachine k words homes m → a < length m.actors → l < length m.lanes
      → ShowsMachine k (set words (claim_word l) 1) homes (changed m l (with_claim (lane_at m l)) a (stands (Pulling l 0) (actor_at m a)))
  claim_shows words homes m a l s lt lt' = let q : Actor T = stands (Pulling l 0) (actor_at m a) in let y : Lane T = with_claim (lane_at m l) in let got = λ (j : ℕ). got_same (in_lane k j) m a q lt refl in let old = s.lane l lt' in let count = s.count in
      shows_changed k words homes homes m l 17 1 a y q s lt' (omega arith) record {
        taken = λ w h. word_else words l 17 1 l w (λ _ e. omega arith) (omega arith) (omega arith) ∙ old.taken w h;
        home = λ w h. word_else words l 17 1 l (8 + w) (λ _ e. omega arith) (omega arith) (omega arith) ∙ old.home w h;
        summary = word_else words l 17 1 l 16 (λ _ e. omega arith) (omega arith) (omega arith) ∙ old.summary;
        claimed = get_or-set_same words (claim_word l) 1 0 (omega arith);
        drawn = word_else words l 17 1 l 18 (λ _ e. omega arith) (omega arith) (omega arith) ∙ (old.drawn ∙ sym (got l));
      } (λ j ne. got j) (slots_kept homes m l a y q s.slots lt' refl refl)

  -- or of one that was claimed before
  pub gone_shows : (words : List ℕ) (homes : List (maybe.Option (Option T))) (m : Machine T) (a l : ℕ) → ShowsMachine k words homes m → a < length m.actors → l < length m.lanes → (lane_at m l).claimed ≡ true
      → ShowsMachine k (set words (claim_word l) 1) homes (acted m a (finds_gone l (actor_at m a)))
  gone_shows words homes m a l s lt lt' set_before = let q : Actor T = finds_gone l (actor_at m a) in let one : get_or words (claim_word l) 0 ≡ 1 = (s.lane l lt').claimed ∙ ap claim_flag set_before in
      subst (λ ws. ShowsMachine k ws homes (acted m a q)) (sym (ap (set words (claim_word l)) (sym one) ∙ set_same words (claim_word l) 0)) (shows_acted k words homes m (set m.actors a q) s (λ j. got_same (in_lane k j) m a q lt refl))

  Tells : Me (Option T) (Actor T) → Me (Option T) (Actor T) → Actor T → ℕ → ℕ → Type 0
  Tells me m' v l r = FindsClaim k v l r × (r ≡ 0 → m'.0 ≡ stands (Pulling l 0) v) × (r ≢ 0 → m'.0 ≡ finds_gone l v) × (m'.1 ≡ me.1)

  claim_at : (n id : ℕ) (me : Me (Option T) (Actor T)) (l : ℕ) → me.0.stand ≡ Saw l → 512 * l < n → Allows (Filed k) n id me (claim_word l) (λ _. 1) (claimed k (step n (claim_word l) 1 0 none) me)
  unfolding Tells
  claim_at n id me l stand inside s r wide at _ = let m : Machine T = record { lanes = r.lanes; actors = s.views } in let here = at_view s.views id me.0 nobody at in
      let lt : id < length s.views = here.0 in let mine : actor_at m id ≡ me.0 = here.1 in let count = r.shows.slots.count in let lt' : l < length r.lanes = omega arith in
      let stand' : (actor_at m id).stand ≡ Saw l = ap (λ (v : Actor T). v.stand) mine ∙ stand in let free : is_free (actor_at m id).stand ≡ true = ap is_free stand' in
      let word : ℕ = get_or s.words (claim_word l) 0 in let found : word ≡ claim_flag (lane_at m l).claimed = (r.shows.lane l lt').claimed in
      let finds : FindsClaim k (actor_at m id) l word = subst (FindsClaim k (actor_at m id) l) (sym found) (finds_claim m id l r.sound lt free) in
      let tell : (m' : Me (Option T) (Actor T)) → Tells me m' (actor_at m id) l word → claimed k (step n (claim_word l) 1 0 none) me word m' = λ m' h l' e.
      subst (λ j. Tells me m' me.0 j word) (let w : l ≡ l' = omega arith in w) (subst (λ (v : Actor T). Tells me m' v l word) mine h) in
      dite (ℕ_discrete word 0)
      (λ z. let q : Actor T = stands (Pulling l 0) (actor_at m id) in let off : (lane_at m l).claimed ≡ false = flag_off (lane_at m l).claimed (sym found ∙ z) in (
        q,
        keeps,
        tt,
        record { lanes = set r.lanes l (with_claim (lane_at m l)); shows = claim_shows s.words s.homes m id l r.shows lt lt'; sound = claims_sound k m id l r.sound lt lt' stand' off },
        tell (q, me.1) (finds, (λ _. refl), (λ ne. absurd (ne z)), refl),
      ))
      (λ ne. let q : Actor T = finds_gone l (actor_at m id) in let on : (lane_at m l).claimed ≡ true = flag_on (lane_at m l).claimed (λ e. ne (found ∙ e)) in (
        q,
        keeps,
        tt,
        record { lanes = r.lanes; shows = gone_shows s.words s.homes m id l r.shows lt lt' on; sound = gone_sound k m id l r.sound lt free on },
        tell (q, me.1) (finds, (λ z. absurd (ne z)), (λ _. refl), refl),
      ))

  pub claims_lane : (n id : ℕ) (me : Me (Option T) (Actor T)) (l w : ℕ) → me.0.stand ≡ Saw l → 512 * l < n → w ≡ claim_word l → Allows (Filed k) n id me w (λ _. 1) (claimed k (step n w 1 0 none) me)
  claims_lane n id me l w stand inside e = subst (λ w. Allows (Filed k) n id me w (λ _. 1) (claimed k (step n w 1 0 none) me)) (sym e) (claim_at n id me l stand inside)
