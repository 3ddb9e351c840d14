-- What `put` answers.
use Rattle.std.specs.Prelude.{◌≡◌, ◌≢◌, ℕ, ◌⊎◌, Bool, MatchBool}
use Rattle.std.specs.List.{Contains}
use Rattle.xs_lane_core.specs.Places.{word_of, every_word, with_words}
use Rattle.xs_lane_core.specs.declared.values.Stand.TheVariants.{Idle, Holding, Owing}
use Rattle.xs_lane_core.specs.Machine.{Placing, Actor, stands, repeats, stores, sees, stand_owing}
use Rattle.xs_lane_core.specs.Sound.{IsAlone}
use Rattle.xs_lanes.specs.declared.lanes.Put.{Put}
use Rattle.xs_lanes.specs.declared.lanes.Put.TheVariants.{Stored, Made, Repeat}
use Rattle.xs_lanes.specs.Knowing.{stored_at, FindsHome, FindsSummary}
use Rattle.xs_lanes.specs.Debts.{debt_after}

-- the pass stored a value, and owes these words to the lane's summary
abbrev pub IsOwing : {T : Type 0} → ℕ → ℕ → Actor T → Type 0
IsOwing {T = T} l words v = (u : Actor T) × (x : T) × (v ≡ stores x (Owing l words) u)

module _ {T : Type 0} (k : Placing T) where
  -- the pass v has stored x: the place was free, and `before` was home in its word
  pub record HasStored (v : Actor T) (x : T) (before : ℕ) : Type 0 where
    pub fresh : stored_at k (k.lane x) (k.place x) v ≡ 0
    pub not_repeated : ¬ Contains v.repeated (k.lane x, k.place x)
    pub found : FindsHome k v (k.lane x) (word_of (k.place x)) before

  -- the pass v has stored x, and what that fills has joined the summary, where this stood before; it is now w
  pub record HasSummed (v : Actor T) (x : T) (w : Actor T) (before summary : ℕ) : Type 0 where
    pub stored : HasStored v x before
    pub owes : debt_after k x before ≢ 0
    pub found : FindsSummary k v (k.lane x) summary
    pub view : w ≡ sees Idle (k.lane x) (with_words summary (debt_after k x before)) (stores x Idle v)

  -- the pass v offered x and was given this answer, and is now w
  abbrev pub Answers : Actor T → T → Actor T → Put T → Type 0
  Answers v x w Stored = ((before : ℕ) × HasStored v x before × (debt_after k x before ≡ 0) × (w ≡ stores x Idle v))
      ⊎ ((before summary : ℕ) × HasSummed v x w before summary × ((summary ≡ every_word) ⊎ (with_words summary (debt_after k x before) ≢ every_word)))
  Answers v x w Made = (before summary : ℕ) × HasSummed v x w before summary × (summary ≢ every_word) × (with_words summary (debt_after k x before) ≡ every_word)
  Answers v x w (Repeat y) = (y ≡ x) × (w ≡ repeats (k.lane x) (k.place x) v) × (IsAlone v → stored_at k (k.lane x) (k.place x) v ≡ 1)

  -- the value is home, and the pass, which was v, owes these words
  abbrev pub HasBrought : Actor T → T → Actor T → ℕ → Type 0
  HasBrought v x w words = (before : ℕ) × FindsHome k v (k.lane x) (word_of (k.place x)) before × (words ≡ debt_after k x before) × (w ≡ stores x (stand_owing (k.lane x) words) v)

  -- The words that the pass v owed, which had stored x last, have joined the summary, and it is now w. The answer tells whether the lane is whole by them.
  abbrev pub HasJoined : Actor T → ℕ → ℕ → Actor T → Bool → Type 0
  HasJoined v l words w made = (u : Actor T) (x : T) → v ≡ stores x (Owing l words) u → (summary : ℕ) × FindsSummary k u l summary × (w ≡ sees Idle l (with_words summary words) v)
      × MatchBool made ((summary ≢ every_word) × (with_words summary words ≡ every_word)) ((summary ≡ every_word) ⊎ (with_words summary words ≢ every_word))

  -- the place was free, and its slot is out with the pass, which is now w
  pub record HasTaken (v w : Actor T) (l p : ℕ) : Type 0 where
    pub fresh : stored_at k l p v ≡ 0
    pub not_repeated : ¬ Contains v.repeated (l, p)
    pub held : T
    pub lane : k.lane held ≡ l
    pub place : k.place held ≡ p
    pub view : w ≡ stands (Holding held) v

  -- the pass holds the place
  abbrev pub Holds : Actor T → ℕ → ℕ → Type 0
  Holds w l p = (x : T) × (w.stand ≡ Holding x) × (k.lane x ≡ l) × (k.place x ≡ p)
