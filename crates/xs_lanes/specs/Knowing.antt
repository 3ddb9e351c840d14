-- What a pass knows of the lanes, and what it finds in a word beside it.
use Rattle.std.specs.Prelude.{◌≡◌, ℕ, ◌<◌, ◌≤◌, min, sum_by, All}
use Rattle.std.specs.Int.{bit_at}
use Rattle.std.specs.List.{Contains}
use Rattle.xs_lane_core.specs.Places.{places, set_words, word_of, place_bit, IsWithin}
use Rattle.xs_lane_core.specs.Machine.{Placing, Actor}
use Rattle.xs_lane_core.specs.Sound.{IsAlone, at, brings, closes_at, HasFilled}

-- the share is the same before and after
abbrev pub SameShare : {T : Type 0} → Actor T → Actor T → Type 0
SameShare v w = (w.parts ≡ v.parts) × (w.halved ≡ v.halved)

module _ {T : Type 0} (k : Placing T) where
  -- how many values the pass stored at the place, and how many of its stored values bring the place home
  abbrev pub stored_at : ℕ → ℕ → Actor T → ℕ
  stored_at l p v = sum_by (at k l p) v.stored

  abbrev pub brought_at : ℕ → ℕ → Actor T → ℕ
  brought_at l p v = sum_by (brings k l p) v.stored

  -- the stored values are a choice of what was put: no place has two of them, and each place that was repeated has one
  pub record IsChoice (v : Actor T) : Type 0 where
    pub one : (l p : ℕ) → stored_at l p v ≤ 1
    pub repeated : All (λ z. stored_at z.0 z.1 v ≡ 1) v.repeated

  -- Some place of the lane closes it, and all places below are stored.
  abbrev pub IsWhole : ℕ → Actor T → Type 0
  IsWhole l v = (c : ℕ) × (c < places) × (0 < sum_by (closes_at k l c) v.stored) × ((p : ℕ) → p < c → 0 < stored_at l p v)

  -- The bit of a place in a taken word: it is set where the pass stored or repeated the place, and where the pass is alone, only there.
  pub record FindsTaken (v : Actor T) (l p bit : ℕ) : Type 0 where
    pub stored : 0 < stored_at l p v → bit ≡ 1
    pub repeated : Contains v.repeated (l, p) → bit ≡ 1
    pub alone : IsAlone v → bit ≡ stored_at l p v

  -- A word of a home set: where the pass is alone, it has the places that its stored values bring there, and no other.
  pub record FindsHome (v : Actor T) (l w word : ℕ) : Type 0 where
    pub small : word < 18446744073709551616
    pub alone : IsAlone v → (p : ℕ) → word_of p ≡ w → bit_at word (place_bit p) ≡ min 1 (brought_at l p v)

  -- A summary: it has all that the pass saw there, and where the pass is alone, the words that its stored values fill, and no other.
  pub record FindsSummary (v : Actor T) (l summary : ℕ) : Type 0 where
    pub seen : (old : ℕ) → Contains v.seen (l, old) → IsWithin old summary
    pub low : (w : ℕ) → bit_at summary w ≡ 1 → w < set_words
    pub alone : IsAlone v → HasFilled k l summary v.stored
