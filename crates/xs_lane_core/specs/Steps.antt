-- What each event does to the machine, and what it answers ("The lane machine" in docs/DESIGN.md).
use Rattle.std.specs.Prelude.{ℕ, ◌+◌, Bool, true, false, not, ◌&&◌, if◌then◌else◌, nat_eq, nat_lt, bit_or, [], ◌∷◌, ◌++◌, length, slice_index, slice_set, Option, Some, None}
use Rattle.xs_lane_core.specs.Places.{places, word_of, has, every_word, with_words}
use Rattle.xs_lane_core.specs.declared.values.Stand.{Stand}
use Rattle.xs_lane_core.specs.declared.values.Stand.TheVariants.{Idle, Saw, Holding, Laid, Owing, Pulling, Spent}
use Rattle.xs_lane_core.specs.Machine.{Placing, Machine, lane_at, actor_at, value_at, acted, changed, with_taken, with_home, with_summary, with_claim, with_value, stands, repeats, stores, sees, finds_gone, gets, halves, copied, joined, nobody, owed, stand_owing, mask}

pub data Answer (V : Type 0) : Type 0 where
  Taken : Answer V
  Back : V → Answer V
  Lies : Answer V
  Owes : Answer V
  Stored : Answer V
  Made : Answer V
  Seen : ℕ → Answer V
  Claimed : Answer V
  Gone : Answer V
  Pulled : V → Answer V
  Split : ℕ → Answer V
  Joined : Answer V
  Refused : Answer V

module _ {V : Type 0} where
  -- what happens where the test holds; else the event is refused and nothing changes
  abbrev pub allowed : Machine V → Bool → Machine V × Answer V → Machine V × Answer V
  allowed m test next = if test then next else (m, Refused)

  abbrev pub is_free : Stand V → Bool
  is_free Idle = true
  is_free (Saw l) = true
  is_free (Holding v) = false
  is_free (Laid v) = false
  is_free (Owing l o) = false
  is_free (Pulling l j) = false
  is_free Spent = false

  -- what the words that join a summary make of its lane
  abbrev pub sum_answer : ℕ → ℕ → Answer V
  sum_answer before after = if not (nat_eq before every_word) && nat_eq after every_word then Made else Stored

module _ {V : Type 0} (k : Placing V) where
  -- Take: the value's place, where nobody has taken it; else the value is back
  abbrev pub takes_here : Machine V → ℕ → V → Machine V × Answer V
  takes_here m a v = let x = lane_at m (k.lane v) in
      if nat_eq (has x.taken (k.place v)) 0
      then (changed m (k.lane v) (with_taken x (k.place v)) a (stands (Holding v) (actor_at m a)), Taken)
      else (acted m a (repeats (k.lane v) (k.place v) (actor_at m a)), Back v)

  abbrev pub takes : Machine V → ℕ → V → Machine V × Answer V
  takes m a v = allowed m (nat_lt a (length m.actors)) (allowed m (nat_lt (k.lane v) (length m.lanes)) (allowed m (nat_lt (k.place v) places) (allowed m (is_free (actor_at m a).stand) (takes_here m a v))))

  -- Put: the value lies at its place
  abbrev pub puts_here : Machine V → ℕ → Stand V → Machine V × Answer V
  puts_here m a (Holding v) = allowed m (nat_lt (k.lane v) (length m.lanes)) (allowed m (nat_lt (k.place v) places)
      (changed m (k.lane v) (with_value (lane_at m (k.lane v)) (k.place v) (Some v)) a (stands (Laid v) (actor_at m a)), Lies))
  puts_here m a Idle = (m, Refused)
  puts_here m a (Saw l) = (m, Refused)
  puts_here m a (Laid v) = (m, Refused)
  puts_here m a (Pulling l j) = (m, Refused)
  puts_here m a (Owing l o) = (m, Refused)
  puts_here m a Spent = (m, Refused)

  abbrev pub puts : Machine V → ℕ → Machine V × Answer V
  puts m a = allowed m (nat_lt a (length m.actors)) (puts_here m a (actor_at m a).stand)

  -- the words that a value that comes home owes to the summary
  abbrev pub debt_of : Machine V → V → ℕ
  debt_of m v = let before = slice_index (lane_at m (k.lane v)).home (word_of (k.place v)) in owed (k.closes v) (word_of (k.place v)) before (bit_or before (mask k v))

  -- the value is stored, and the places that it brings are home
  abbrev pub homed : Machine V → ℕ → V → Machine V
  homed m a v = changed m (k.lane v) (with_home (lane_at m (k.lane v)) (word_of (k.place v)) (mask k v)) a (stores v (stand_owing (k.lane v) (debt_of m v)) (actor_at m a))

  -- Home: the value is stored, and what it fills is owed to the summary
  abbrev pub homes_here : Machine V → ℕ → Stand V → Machine V × Answer V
  homes_here m a (Laid v) = allowed m (nat_lt (k.lane v) (length m.lanes)) (allowed m (nat_lt (k.place v) places) (homed m a v, if nat_eq (debt_of m v) 0 then Stored else Owes))
  homes_here m a Idle = (m, Refused)
  homes_here m a (Saw l) = (m, Refused)
  homes_here m a (Holding v) = (m, Refused)
  homes_here m a (Pulling l j) = (m, Refused)
  homes_here m a (Owing l o) = (m, Refused)
  homes_here m a Spent = (m, Refused)

  abbrev pub homes : Machine V → ℕ → Machine V × Answer V
  homes m a = allowed m (nat_lt a (length m.actors)) (homes_here m a (actor_at m a).stand)

  -- Pull: the value of the next place, until one closes
  abbrev pub pulled : Machine V → ℕ → ℕ → ℕ → Option V → Machine V × Answer V
  pulled m a l j (Some v) = (changed m l (with_value (lane_at m l) j None) a (gets v (if k.closes v then Idle else Pulling l (j + 1)) (actor_at m a)), Pulled v)
  pulled m a l j None = (m, Refused)

  abbrev pub pulls_here : Machine V → ℕ → Stand V → Machine V × Answer V
  pulls_here m a (Pulling l j) = allowed m (nat_lt l (length m.lanes)) (allowed m (nat_lt j places) (pulled m a l j (value_at m l j)))
  pulls_here m a Idle = (m, Refused)
  pulls_here m a (Saw l) = (m, Refused)
  pulls_here m a (Holding v) = (m, Refused)
  pulls_here m a (Laid v) = (m, Refused)
  pulls_here m a (Owing l o) = (m, Refused)
  pulls_here m a Spent = (m, Refused)

  abbrev pub pulls : Machine V → ℕ → Machine V × Answer V
  pulls m a = allowed m (nat_lt a (length m.actors)) (pulls_here m a (actor_at m a).stand)

module _ {V : Type 0} where
  -- Sum: the words that are owed join the summary
  abbrev pub sums_here : Machine V → ℕ → Stand V → Machine V × Answer V
  sums_here m a (Owing l o) = allowed m (nat_lt l (length m.lanes)) (
      let x = lane_at m l in let summary = with_words x.summary o in
      (changed m l (with_summary x o) a (sees Idle l summary (actor_at m a)), sum_answer x.summary summary))
  sums_here m a Idle = (m, Refused)
  sums_here m a (Saw l) = (m, Refused)
  sums_here m a (Holding v) = (m, Refused)
  sums_here m a (Laid v) = (m, Refused)
  sums_here m a (Pulling l j) = (m, Refused)
  sums_here m a Spent = (m, Refused)

  abbrev pub sums : Machine V → ℕ → Machine V × Answer V
  sums m a = allowed m (nat_lt a (length m.actors)) (sums_here m a (actor_at m a).stand)

  -- Look: the summary of the lane
  abbrev pub looks : Machine V → ℕ → ℕ → Machine V × Answer V
  looks m a l = allowed m (nat_lt a (length m.actors)) (allowed m (nat_lt l (length m.lanes)) (allowed m (is_free (actor_at m a).stand) (
      let summary = (lane_at m l).summary in (acted m a (sees (if nat_eq summary every_word then Saw l else Idle) l summary (actor_at m a)), Seen summary))))

  -- Claim: the lane, where nobody has claimed it; else it is gone
  abbrev pub claims_here : Machine V → ℕ → Stand V → Machine V × Answer V
  claims_here m a (Saw l) = allowed m (nat_lt l (length m.lanes)) (
      if (lane_at m l).claimed
      then (acted m a (finds_gone l (actor_at m a)), Gone)
      else (changed m l (with_claim (lane_at m l)) a (stands (Pulling l 0) (actor_at m a)), Claimed))
  claims_here m a Idle = (m, Refused)
  claims_here m a (Holding v) = (m, Refused)
  claims_here m a (Laid v) = (m, Refused)
  claims_here m a (Pulling l j) = (m, Refused)
  claims_here m a (Owing l o) = (m, Refused)
  claims_here m a Spent = (m, Refused)

  abbrev pub claims : Machine V → ℕ → Machine V × Answer V
  claims m a = allowed m (nat_lt a (length m.actors)) (claims_here m a (actor_at m a).stand)

  -- Split: a new actor with half of the share, which knows what this one saw
  abbrev pub splits : Machine V → ℕ → Machine V × Answer V
  splits m a = allowed m (nat_lt a (length m.actors)) (allowed m (is_free (actor_at m a).stand)
      (record { lanes = m.lanes; actors = slice_set m.actors a (halves (actor_at m a)) ++ copied (actor_at m a) ∷ [] }, Split (length m.actors)))

  -- Join: the one has what both had, and the other is spent
  abbrev pub joins : Machine V → ℕ → ℕ → Machine V × Answer V
  joins m a b = allowed m (nat_lt a (length m.actors)) (allowed m (nat_lt b (length m.actors)) (allowed m (not (nat_eq a b)) (allowed m (is_free (actor_at m a).stand) (allowed m (is_free (actor_at m b).stand)
      (record { lanes = m.lanes; actors = slice_set (slice_set m.actors a (joined (actor_at m a) (actor_at m b))) b nobody }, Joined)))))
