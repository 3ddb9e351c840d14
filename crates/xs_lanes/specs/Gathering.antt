-- Shares by place: of n passes that were split off one after the other the i-th has 1 of 2 ^ (i + 1) parts, and the first pass keeps 1 of 2 ^ n. They are joined from the last to the first.
use Rattle.std.specs.Prelude.{◌≡◌, ℕ, ◌+◌, ◌-◌, ◌^◌, ◌<◌, ◌≤◌, List, [], ◌∷◌, length, slice_index_or}
use Rattle.xs_lane_core.specs.Machine.{Actor, joined}

module _ {T : Type 0} where
  abbrev pub HasPart : ℕ → Actor T → Type 0
  HasPart i v = (v.parts ≡ 1) × (v.halved ≡ i)

  -- who joined all but the first k of n passes has this share
  abbrev pub HasRest : ℕ → ℕ → Actor T → Type 0
  HasRest n k v = (k ≤ n) × (v.halved ≡ n) × (v.parts ≡ 2 ^ (n - k))

  abbrev pub HavePartsInTurn : List (Actor T) → Type 0
  HavePartsInTurn ws = (i : ℕ) (d : Actor T) → i < length ws → HasPart (i + 1) (slice_index_or ws i d)

  -- the first pass, after it joined the others, the last one first
  abbrev pub gathered : Actor T → List (Actor T) → Actor T
  gathered v [] = v
  gathered v (w ∷ ws) = joined (gathered v ws) w
