-- The rule of the table: between any two steps its words, its slots and the views of all passes show a sound lane machine.
-- A lane has nineteen words and 512 slots. A place is out from its take to its home step, and stands so long as held by its pass.
use Rattle.std.specs.Prelude.{◌≡◌, ℕ, ◌+◌, ◌*◌, ◌<◌, Bool, List, length, Option, Some, None, slice_index}
use mathlib.Core.Option.{some, none}
use mathlib.Core.Option as maybe
use lib.ListN.{get_elem?}
use Rattle.atomic_table.specs.Table.{State}
use Rattle.xs_lane_core.specs.Places.{places, set_words, word_of, has}
use Rattle.xs_lane_core.specs.Machine.{Placing, Lane, Actor, Machine, lane_at, value_at}
use Rattle.xs_lane_core.specs.Sound.{IsSound, drawn, claim_flag}

-- what the values of a type tell
abbrev pub placing : {T : Type 0} → (T → ℕ) → (T → ℕ) → (T → Bool) → Placing T
placing lane place closes = record { lane = lane; place = place; closes = closes }

-- where the words of a lane stand in the table: eight of the places that are taken, eight of those that are home, the summary, the flag of its claim, and how many values were drawn
abbrev pub lane_word : ℕ → ℕ → ℕ
lane_word l i = 19 * l + i

abbrev pub taken_word : ℕ → ℕ → ℕ
taken_word l p = lane_word l (word_of p)

abbrev pub home_word : ℕ → ℕ → ℕ
home_word l p = lane_word l (8 + word_of p)

abbrev pub summary_word : ℕ → ℕ
summary_word l = lane_word l 16

abbrev pub claim_word : ℕ → ℕ
claim_word l = lane_word l 17

abbrev pub drawn_word : ℕ → ℕ
drawn_word l = lane_word l 18

-- the slot of a place
abbrev pub slot_at : ℕ → ℕ → ℕ
slot_at l p = 512 * l + p

module _ {T : Type 0} where
  -- a slot at home has the value that lies at its place, and one of a place that nobody took is at home and empty
  pub record ShowsSlots (homes : List (maybe.Option (Option T))) (m : Machine T) : Type 0 where
    pub count : length homes ≡ 512 * length m.lanes
    pub lying : (l p : ℕ) (x : T) → l < length m.lanes → value_at m l p ≡ Some x → get_elem? homes (slot_at l p) ≡ some (some (Some x))
    pub free : (l p : ℕ) → l < length m.lanes → p < places → has (lane_at m l).taken p ≡ 0 → get_elem? homes (slot_at l p) ≡ some (some None)

  -- the words of a lane of which so many values were drawn
  pub record ShowsLane (words : List ℕ) (l : ℕ) (x : Lane T) (count : ℕ) : Type 0 where
    pub taken : (w : ℕ) → w < set_words → slice_index words (lane_word l w) ≡ slice_index x.taken w
    pub home : (w : ℕ) → w < set_words → slice_index words (lane_word l (8 + w)) ≡ slice_index x.home w
    pub summary : slice_index words (summary_word l) ≡ x.summary
    pub claimed : slice_index words (claim_word l) ≡ claim_flag x.claimed
    pub drawn : slice_index words (drawn_word l) ≡ count

module _ {T : Type 0} (k : Placing T) where
  pub record ShowsMachine (words : List ℕ) (homes : List (maybe.Option (Option T))) (m : Machine T) : Type 0 where
    pub count : length words ≡ 19 * length m.lanes
    pub lane : (l : ℕ) → l < length m.lanes → ShowsLane words l (lane_at m l) (drawn k m l)
    pub slots : ShowsSlots homes m

  pub record Filed (s : State (Option T) (Actor T)) : Type 0 where
    pub lanes : List (Lane T)
    pub shows : ShowsMachine s.words s.homes record { lanes = lanes; actors = s.views }
    pub sound : IsSound k record { lanes = lanes; actors = s.views }
