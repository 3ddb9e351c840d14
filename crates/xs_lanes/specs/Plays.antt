-- What each step tells: of the step, the pass before, the number found and the pass after. Each view is changed as the event of the same name changes its actor.
use Rattle.std.specs.Prelude.{◌≡◌, ◌≢◌, ℕ, ◌+◌, ◌<◌, if◌then◌else◌, nat_eq, List, [], ◌∷◌, Option, Some, None, option_to_list}
use Rattle.atomic_table.specs.Table.{Me, Step, rest}
use Rattle.xs_lane_core.specs.Places.{places, word_of, place_bit, own_bit, every_word, with_words}
use Rattle.xs_lane_core.specs.declared.values.Stand.{Stand}
use Rattle.xs_lane_core.specs.declared.values.Stand.TheVariants.{Idle, Saw, Holding, Owing, Pulling}
use Rattle.xs_lane_core.specs.Machine.{Placing, Actor, stands, repeats, stores, sees, finds_gone, gets, stand_owing}
use Rattle.std.specs.Int.{bit_at}
use Rattle.xs_lane_core.specs.Sound.{IsAlone}
use Rattle.xs_lanes.specs.Filing.{taken_word, summary_word, claim_word, drawn_word, slot_at}
use Rattle.xs_lanes.specs.Knowing.{IsChoice, FindsTaken, FindsHome, FindsSummary}
use Rattle.xs_lanes.specs.Debts.{debt_after}
use Rattle.xs_lanes.specs.Claiming.{FindsClaim, IsActor}

-- who sees a lane whole may claim it
abbrev pub stand_seen : {T : Type 0} → ℕ → ℕ → Stand T
stand_seen l set = if nat_eq set every_word then Saw l else Idle

-- the value in the slot that was taken last
abbrev pub first_item : {T : Type 0} → List (ℕ × Option T) → List T
first_item [] = []
first_item (e ∷ es) = option_to_list e.1

module _ {T : Type 0} (k : Placing T) where
  -- Take: the place was free and its slot is out with the pass, which now holds it; or it was taken
  abbrev pub took : Step (Option T) → Me (Option T) (Actor T) → ℕ → Me (Option T) (Actor T) → Type 0
  took st m r m' = (l p : ℕ) → p < places → st.word ≡ taken_word l p → st.first ≡ own_bit p → let bit = bit_at r (place_bit p) in FindsTaken k m.0 l p bit × (IsAlone m.0 → IsChoice k m.0)
      × (bit ≡ 0 → (x : T) × (k.lane x ≡ l) × (k.place x ≡ p) × (m'.0 ≡ stands (Holding x) m.0) × (m'.1 ≡ (slot_at l p, None) ∷ m.1))
      × (bit ≡ 1 → (m'.0 ≡ repeats l p m.0) × (m'.1 ≡ m.1))

  -- Home: the value of the slot that was taken last is home, and what it fills is owed
  abbrev pub came_home : Step (Option T) → Me (Option T) (Actor T) → ℕ → Me (Option T) (Actor T) → Type 0
  came_home st m r m' = (x : T) → first_item m.1 ≡ x ∷ [] → FindsHome k m.0 (k.lane x) (word_of (k.place x)) r × (m'.0 ≡ stores x (stand_owing (k.lane x) (debt_after k x r)) m.0) × (m'.1 ≡ rest m.1)

  -- Sum: what the pass owed for the value that it stored last is in the summary
  abbrev pub summed : Step (Option T) → Me (Option T) (Actor T) → ℕ → Me (Option T) (Actor T) → Type 0
  summed st m r m' = (l o : ℕ) (x : T) (v : Actor T) → m.0 ≡ stores x (Owing l o) v → FindsSummary k v l r × (m'.0 ≡ sees Idle l (with_words r o) m.0) × (m'.1 ≡ m.1)

  -- Look
  abbrev pub looked : Step (Option T) → Me (Option T) (Actor T) → ℕ → Me (Option T) (Actor T) → Type 0
  looked st m r m' = (l : ℕ) → st.word ≡ summary_word l → FindsSummary k m.0 l r × (IsAlone m.0 → IsChoice k m.0) × (m'.0 ≡ sees (stand_seen l r) l r m.0) × (m'.1 ≡ m.1)

  -- Claim: the lane was free and is the pass's, which pulls its first value next; or it was claimed
  abbrev pub claimed : Step (Option T) → Me (Option T) (Actor T) → ℕ → Me (Option T) (Actor T) → Type 0
  claimed st m r m' = (l : ℕ) → st.word ≡ claim_word l → FindsClaim k m.0 l r × (r ≡ 0 → m'.0 ≡ stands (Pulling l 0) m.0) × (r ≢ 0 → m'.0 ≡ finds_gone l m.0) × (m'.1 ≡ m.1)

  -- Pull: the value of the next place is the pass's, in a slot that is out with it
  abbrev pub drew : Step (Option T) → Me (Option T) (Actor T) → ℕ → Me (Option T) (Actor T) → Type 0
  drew st m r m' = (l j : ℕ) → st.word ≡ drawn_word l → m.0.stand ≡ Pulling l j → (r ≡ j) × (j < places)
      × ((x : T) × (k.lane x ≡ l) × (k.place x ≡ j) × (m'.0 ≡ gets x (if k.closes x then Idle else Pulling l (j + 1)) m.0) × (m'.1 ≡ (slot_at l j, Some x) ∷ m.1))

  -- the slot of a value that was got is home again, and empty
  abbrev pub gave_back : Step (Option T) → Me (Option T) (Actor T) → ℕ → Me (Option T) (Actor T) → Type 0
  gave_back st m r m' = (m'.0 ≡ m.0) × (m'.1 ≡ rest m.1) × IsActor k m.0
