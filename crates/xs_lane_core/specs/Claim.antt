-- The values that a claim of a whole lane gives, and the places that are home.
use Rattle.std.specs.Prelude.{◌≡◌, ℕ, suc, true, false, List, [], ◌∷◌, ◌<◌, ◌≤◌, ◌⊎◌, slice_index}
use Rattle.std.specs.Int.{bit_at}
use Rattle.std.specs.List.{Contains}
use Rattle.xs_lane_core.specs.declared.values.Stand.TheVariants.{Owing}
use Rattle.xs_lane_core.specs.Places.{last_place, word_of, full_word}
use Rattle.xs_lane_core.specs.Sound.{over_stored, at}
use Rattle.xs_lane_core.specs.Machine.{Placing, Machine, lane_at, actor_at}

module _ {V : Type 0} (k : Placing V) where
  -- some actor stored the value
  abbrev pub IsStored : Machine V → V → Type 0
  IsStored m v = (a : ℕ) × Contains (actor_at m a).stored v

  -- the stored values of the lane from a place on, in order, up to the first that closes
  abbrev pub GivesFrom : Machine V → ℕ → ℕ → List V → Type 0
  GivesFrom m l p [] = ⊥
  GivesFrom m l p (v ∷ vs) = IsStored m v × (k.lane v ≡ l) × (k.place v ≡ p) × (k.closes v ≡ true → vs ≡ []) × (k.closes v ≡ false → GivesFrom m l (suc p) vs)

  abbrev pub ClaimGives : Machine V → ℕ → List V → Type 0
  ClaimGives m l vs = GivesFrom m l 0 vs

  -- the place is stored and not the last one, or a stored value closes the lane at it or before it in its word
  abbrev pub ComesHome : Machine V → ℕ → ℕ → Type 0
  ComesHome m l p = ((p < last_place) × (0 < over_stored (at k l p) m)) ⊎ ((v : V) × IsStored m v × (k.lane v ≡ l) × (k.closes v ≡ true) × (word_of (k.place v) ≡ word_of p) × (k.place v ≤ p))

  -- the home set of the word is full, or a stored value closes the lane in a word below it
  abbrev pub IsFilled : Machine V → ℕ → ℕ → Type 0
  IsFilled m l w = (slice_index (lane_at m l).home w ≡ full_word) ⊎ ((v : V) × IsStored m v × (k.lane v ≡ l) × (k.closes v ≡ true) × (word_of (k.place v) < w))

  -- the word is in the summary, or an actor owes it
  abbrev pub IsSummed : Machine V → ℕ → ℕ → Type 0
  IsSummed m l w = (bit_at (lane_at m l).summary w ≡ 1) ⊎ ((a o : ℕ) × ((actor_at m a).stand ≡ Owing l o) × (bit_at o w ≡ 1))
