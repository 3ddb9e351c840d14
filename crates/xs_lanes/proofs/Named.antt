-- Each kind of step is the event of its name.
use Rattle.std.proofs.Common.{◌≡◌, ℕ, ◌<◌, Bool, true, false, List, length, set, Option, sym, refl, ap, ◌∙◌, subst}
use Rattle.std.specs.Int.{bit_at}
use mathlib.Core.Option as maybe
use Rattle.xs_lane_core.specs.Places.{word_of, place_bit, has}
use Rattle.xs_lane_core.specs.declared.values.Stand.TheVariants.{Saw}
use Rattle.xs_lane_core.specs.Machine.{Placing, Machine, lane_at, actor_at}
use Rattle.xs_lane_core.specs.Steps.{Answer, claims}
use Rattle.xs_lane_core.specs.Sound.{drawn, in_lane, OwesDue, PullsNext}
use Rattle.xs_lane_core.proofs.Cases.{looks_case, splits_case, joins_case}
use Rattle.xs_lane_core.proofs.Keeps.{take_keeps, put_keeps, home_keeps, sum_keeps, look_keeps, claim_keeps, pull_keeps, split_keeps, join_keeps}
use Rattle.xs_lane_core.proofs.Sets.{word_low}
use Rattle.xs_lane_core.proofs.Turns.{got_same}
use Rattle.xs_lanes.specs.Filing.{claim_word, ShowsMachine}
use Rattle.xs_lanes.specs.Events.{TakesAsEvent, ComesHomeAsEvent, SumsAsEvent, LooksAsEvent, ClaimsAsEvent, PullsAsEvent, SplitsAsEvent, JoinsAsEvent}
use Rattle.xs_lanes.proofs.Shown.{shows_acted}
use Rattle.xs_lanes.proofs.Held.{holds_another}
use Rattle.xs_lanes.proofs.Events.{takes_free_is, takes_held_is, held_homes_is, sums_is, claims_open_is, claims_gone_is, pulls_is}
use Rattle.xs_lanes.proofs.Takes.{take_shows, held_shows}
use Rattle.xs_lanes.proofs.Summed.{sum_shows}
use Rattle.xs_lanes.proofs.Claims.{claim_shows, gone_shows}
use Rattle.xs_lanes.proofs.Draws.{next_value, pull_shows}
use Rattle.xs_lanes.proofs.Homes.{home_shows, held_taken}
use Rattle.xs_lanes.proofs.Shares.{drawn_split, drawn_joined}

module _ {T : Type 0} (k : Placing T) where
  shown_by : (words : List ℕ) (homes : List (maybe.Option (Option T))) (r q : Machine T × Answer T) → r ≡ q → ShowsMachine k words homes q.0 → ShowsMachine k words homes r.0
  shown_by words homes r q e h = subst (λ (r : Machine T × Answer T). ShowsMachine k words homes r.0) (sym e) h

  pub takes_as_event : TakesAsEvent k
  takes_as_event words homes m a x s may = let p : ℕ = k.place x in let word = (s.shows.lane (k.lane x) may.lane).taken (word_of p) (word_low p may.place) in (
    (λ e. let empty : has (lane_at m (k.lane x)).taken p ≡ 0 = ap (λ u. bit_at u (place_bit p)) (sym word) ∙ e in record {
      shows = shown_by _ _ _ _ (takes_free_is k m a x may.actor may.lane may.place may.free empty) (take_shows k words homes m a x s.shows s.sound may.actor may.lane may.place empty);
      sound = take_keeps k m a x s.sound;
    }),
    λ e. let held : has (lane_at m (k.lane x)).taken p ≡ 1 = ap (λ u. bit_at u (place_bit p)) (sym word) ∙ e in record {
      shows = shown_by _ _ _ _ (takes_held_is k m a x may.actor may.lane may.place may.free held) (held_shows k words homes m a x s.shows may.actor may.lane may.place held);
      sound = take_keeps k m a x s.sound;
    },
  )

  pub comes_home_as_event : ComesHomeAsEvent k
  comes_home_as_event words homes_at m a u x s lt lt' low stand same_lane same_place = let held = holds_another k m a u x s.sound lt stand same_lane same_place in (
    held,
    record {
      shows = shown_by _ _ _ _ (held_homes_is k m a x lt lt' low) (home_shows k words homes_at m a x s.shows s.sound lt lt' low (held_taken k m a u x s.sound stand same_lane same_place));
      sound = home_keeps k _ a (put_keeps k _ a held);
    },
  )

  pub sums_as_event : SumsAsEvent k
  sums_as_event words homes m a l o s lt stand = let lt' = (subst (OwesDue k m) stand (s.sound.summary_follows.debts a)).0 in record {
    shows = shown_by _ _ _ _ (sums_is m a l o lt lt' stand) (sum_shows k words homes m a l o s.shows lt lt');
    sound = sum_keeps k m a s.sound;
  }

  pub looks_as_event : LooksAsEvent k
  looks_as_event words homes m a l s = record {
    shows = looks_case (λ r. ShowsMachine k words homes r.0) m a l s.shows (λ lt lt' free. shows_acted k words homes m _ s.shows (λ j. got_same (in_lane k j) m a _ lt refl));
    sound = look_keeps k m a l s.sound;
  }

  pub splits_as_event : SplitsAsEvent k
  splits_as_event words homes m a s = record {
    shows = splits_case (λ r. ShowsMachine k words homes r.0) m a s.shows (λ lt free. shows_acted k words homes m _ s.shows (drawn_split k m a lt));
    sound = split_keeps k m a s.sound;
  }

  pub joins_as_event : JoinsAsEvent k
  joins_as_event words homes m a b s = record {
    shows = joins_case (λ r. ShowsMachine k words homes r.0) m a b s.shows (λ lt lt' ne free free'. shows_acted k words homes m _ s.shows (drawn_joined k m a b lt lt' ne));
    sound = join_keeps k m a b s.sound;
  }

  by_flag : (words : List ℕ) (homes : List (maybe.Option (Option T))) (m : Machine T) (a l : ℕ) (b : Bool) → ShowsMachine k words homes m → a < length m.actors → l < length m.lanes → (actor_at m a).stand ≡ Saw l → (lane_at m l).claimed ≡ b → ShowsMachine k (set words (claim_word l) 1) homes (claims m a).0
  by_flag words homes m a l true s lt lt' stand e = shown_by _ _ _ _ (claims_gone_is k m a l lt lt' stand e) (gone_shows k words homes m a l s lt lt' e)
  by_flag words homes m a l false s lt lt' stand e = shown_by _ _ _ _ (claims_open_is k m a l lt lt' stand e) (claim_shows k words homes m a l s lt lt')

  pub claims_as_event : ClaimsAsEvent k
  claims_as_event words homes m a l s lt lt' stand = record { shows = by_flag words homes m a l (lane_at m l).claimed s.shows lt lt' stand refl; sound = claim_keeps k m a s.sound }

  pub pulls_as_event : PullsAsEvent k
  pulls_as_event words homes m a l j s lt lt' stand = let v = next_value k m a l j s.sound stand in let x : T = v.0 in let own = s.sound.one_holder.own l j x (s.sound.map_follows.lying l j x v.1) in
      let next : j ≡ drawn k m l = subst (PullsNext k m) stand (s.sound.got_in_order.next a) in (
        (s.shows.lane l lt').drawn ∙ sym next,
        record { shows = shown_by _ _ _ _ (pulls_is k m a l j x lt lt' own.2 stand v.1) (pull_shows k words homes m a l j x _ s.shows s.sound lt lt' next own.0 v.1); sound = pull_keeps k m a s.sound },
      )
