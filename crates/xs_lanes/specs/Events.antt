-- Each kind of step changes what the table shows as the event of its name changes the machine.
use Rattle.std.specs.Prelude.{◌≡◌, ℕ, ◌+◌, ◌<◌, true, List, length, slice_index, slice_set, bit_or, Option, Some}
use Rattle.std.specs.Int.{bit_at}
use mathlib.Core.Option.{some, none}
use mathlib.Core.Option as maybe
use Rattle.xs_lane_core.specs.Places.{places, place_bit, own_bit, with_words}
use Rattle.xs_lane_core.specs.declared.values.Stand.TheVariants.{Saw, Holding, Owing, Pulling}
use Rattle.xs_lane_core.specs.Machine.{Placing, Machine, actor_at, stands, acted, mask}
use Rattle.xs_lane_core.specs.Steps.{is_free, takes, puts, homes, sums, looks, claims, pulls, splits, joins}
use Rattle.xs_lane_core.specs.Sound.{IsSound}
use Rattle.xs_lanes.specs.Filing.{taken_word, home_word, summary_word, claim_word, drawn_word, slot_at, ShowsMachine}

module _ {T : Type 0} (k : Placing T) where
  -- the words and slots show a sound machine
  pub record ShowsSound (words : List ℕ) (homes : List (maybe.Option (Option T))) (m : Machine T) : Type 0 where
    pub shows : ShowsMachine k words homes m
    pub sound : IsSound k m

  -- the place of the value x may be taken
  pub record MayTake (m : Machine T) (a : ℕ) (x : T) : Type 0 where
    pub actor : a < length m.actors
    pub lane : k.lane x < length m.lanes
    pub place : k.place x < places
    pub free : is_free (actor_at m a).stand ≡ true

  -- The taken word gains the place. Where it was free, its slot is out.
  abbrev pub TakesAsEvent : Type 0
  TakesAsEvent = (words : List ℕ) (homes : List (maybe.Option (Option T))) (m : Machine T) (a : ℕ) (x : T) → ShowsSound words homes m → MayTake m a x →
      let i = taken_word (k.lane x) (k.place x) in let new = slice_set words i (bit_or (slice_index words i) (own_bit (k.place x))) in
      (bit_at (slice_index words i) (place_bit (k.place x)) ≡ 0 → ShowsSound new (slice_set homes (slot_at (k.lane x) (k.place x)) none) (takes k m a x).0)
      × (bit_at (slice_index words i) (place_bit (k.place x)) ≡ 1 → ShowsSound new homes (takes k m a x).0)

  -- A place that is out stands as held. Which value it is shows when the value is moved into the slot: it is put, and with the home word's gain it is home and so is its slot.
  abbrev pub ComesHomeAsEvent : Type 0
  ComesHomeAsEvent = (words : List ℕ) (homes_at : List (maybe.Option (Option T))) (m : Machine T) (a : ℕ) (u x : T) → ShowsSound words homes_at m → a < length m.actors → k.lane x < length m.lanes → k.place x < places
      → (actor_at m a).stand ≡ Holding u → k.lane x ≡ k.lane u → k.place x ≡ k.place u →
      let i = home_word (k.lane x) (k.place x) in let held = acted m a (stands (Holding x) (actor_at m a)) in
      IsSound k held × ShowsSound (slice_set words i (bit_or (slice_index words i) (mask k x))) (slice_set homes_at (slot_at (k.lane x) (k.place x)) (some (Some x))) (homes k (puts k held a).0 a).0

  -- The summary gains the words that are owed.
  abbrev pub SumsAsEvent : Type 0
  SumsAsEvent = (words : List ℕ) (homes : List (maybe.Option (Option T))) (m : Machine T) (a l o : ℕ) → ShowsSound words homes m → a < length m.actors → (actor_at m a).stand ≡ Owing l o
      → ShowsSound (slice_set words (summary_word l) (with_words (slice_index words (summary_word l)) o)) homes (sums m a).0

  -- No word changes at a look, a split and a join.
  abbrev pub LooksAsEvent : Type 0
  LooksAsEvent = (words : List ℕ) (homes : List (maybe.Option (Option T))) (m : Machine T) (a l : ℕ) → ShowsSound words homes m → ShowsSound words homes (looks m a l).0

  abbrev pub SplitsAsEvent : Type 0
  SplitsAsEvent = (words : List ℕ) (homes : List (maybe.Option (Option T))) (m : Machine T) (a : ℕ) → ShowsSound words homes m → ShowsSound words homes (splits m a).0

  abbrev pub JoinsAsEvent : Type 0
  JoinsAsEvent = (words : List ℕ) (homes : List (maybe.Option (Option T))) (m : Machine T) (a b : ℕ) → ShowsSound words homes m → ShowsSound words homes (joins m a b).0

  -- The claimed word becomes 1. Where it was 0 the lane is the actor's, else it is gone.
  abbrev pub ClaimsAsEvent : Type 0
  ClaimsAsEvent = (words : List ℕ) (homes : List (maybe.Option (Option T))) (m : Machine T) (a l : ℕ) → ShowsSound words homes m → a < length m.actors → l < length m.lanes → (actor_at m a).stand ≡ Saw l
      → ShowsSound (slice_set words (claim_word l) 1) homes (claims m a).0

  -- The drawn word counts one more, from the place that is pulled, and the slot of this place is out.
  abbrev pub PullsAsEvent : Type 0
  PullsAsEvent = (words : List ℕ) (homes : List (maybe.Option (Option T))) (m : Machine T) (a l j : ℕ) → ShowsSound words homes m → a < length m.actors → l < length m.lanes → (actor_at m a).stand ≡ Pulling l j
      → (slice_index words (drawn_word l) ≡ j) × ShowsSound (slice_set words (drawn_word l) (j + 1)) (slice_set homes (slot_at l j) none) (pulls k m a).0
