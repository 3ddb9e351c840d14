-- What the words tell at the end, where the pass v has the whole share, and what holds of all that the passes did.
use Rattle.std.specs.Prelude.{◌≡◌, ℕ, ◌<◌, ◌≤◌, ◌↔◌, min, List, length, slice_index, All}
use Rattle.std.specs.Int.{bit_at}
use Rattle.std.specs.List.{Contains}
use Rattle.xs_lane_core.specs.Places.{places, place_bit, every_word}
use Rattle.xs_lane_core.specs.Machine.{Placing, Actor}
use Rattle.xs_lane_core.specs.Sound.{FillsWord}
use Rattle.xs_lanes.specs.Filing.{taken_word, summary_word, claim_word}
use Rattle.xs_lanes.specs.Knowing.{IsChoice, IsWhole, stored_at}
use Rattle.xs_lanes.specs.Claiming.{got_in, got_at}

module _ {T : Type 0} (k : Placing T) where
  pub record Settled (words : List ℕ) (v : Actor T) : Type 0 where
    pub taken : (l p : ℕ) → p < places → taken_word l p < length words → bit_at (slice_index words (taken_word l p)) (place_bit p) ≡ stored_at k l p v
    pub whole : (l : ℕ) → summary_word l < length words → (slice_index words (summary_word l) ≡ every_word) ↔ IsWhole k l v
    pub claimed : (l : ℕ) → claim_word l < length words → slice_index words (claim_word l) ≡ min 1 (got_in k l v)

  -- Each place has one stored value. What was got is stored, and was got once; who found a lane gone did so where it was got; and each summary that was seen has only words that the stored values fill.
  pub record IsDone (v : Actor T) : Type 0 where
    pub choice : IsChoice k v
    pub got : All (Contains v.stored) v.got
    pub once : (l p : ℕ) → got_at k l p v ≤ 1
    pub gone : All (λ l. 0 < got_in k l v) v.gone
    pub seen : All (λ z. (w : ℕ) → bit_at z.1 w ≡ 1 → FillsWord k z.0 w v.stored) v.seen

  -- the words at the end, and all that the passes did
  pub record IsEnd (words : List ℕ) (v : Actor T) : Type 0 where
    pub settled : Settled words v
    pub done : IsDone v

-- what contracts see of lanes that are closed: how many they are, and what all passes did
pub record ClosedLanes (T : Type 0) : Type 0 where
  pub count : ℕ
  pub actor : Actor T
