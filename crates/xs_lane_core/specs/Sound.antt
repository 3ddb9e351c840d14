-- What holds of the machine after every list of events ("Invariant" in docs/DESIGN.md).
use Rattle.std.specs.Int.{bit_at}
use Rattle.std.specs.Prelude.{◌≡◌, ℕ, ◌+◌, ◌-◌, ◌*◌, ◌^◌, ◌<◌, ◌≤◌, min, Bool, true, false, cond, ◌&&◌, eqb, ltb, List, [], All, sum_by, length, slice_index, ◌⊎◌, ◌↔◌, ◌∷◌, ◌++◌, Option, Some, None}
use Rattle.xs_lane_core.specs.Places.{places, set_words, word_of, place_bit, has, full_word, IsWithin, HasEvery}
use Rattle.xs_lane_core.specs.declared.values.Stand.{Stand}
use Rattle.xs_lane_core.specs.declared.values.Stand.TheVariants.{Idle, Saw, Holding, Laid, Owing, Pulling, Spent}
use Rattle.xs_lane_core.specs.Machine.{Placing, Lane, Actor, Machine, lane_in, lane_at, actor_at, value_at, mask}

module _ {V : Type 0} where
  -- sums over all actors: of where they stand, of all that they stored, and of all that they got
  abbrev pub over_stands : (Stand V → ℕ) → Machine V → ℕ
  over_stands f m = sum_by (λ a. f a.stand) m.actors

  abbrev pub over_stored : (V → ℕ) → Machine V → ℕ
  over_stored f m = sum_by (λ a. sum_by f a.stored) m.actors

  abbrev pub over_got : (V → ℕ) → Machine V → ℕ
  over_got f m = sum_by (λ a. sum_by f a.got) m.actors

  -- 1 where an actor pulls from the lane, else 0
  abbrev pub pulling : ℕ → Stand V → ℕ
  pulling l Idle = 0
  pulling l (Saw m) = 0
  pulling l (Holding v) = 0
  pulling l (Laid v) = 0
  pulling l (Pulling m j) = cond (eqb m l) 1 0
  pulling l (Owing m o) = 0
  pulling l Spent = 0

  -- 1 where an actor owes the word to the lane's summary, else 0
  abbrev pub owing : ℕ → ℕ → Stand V → ℕ
  owing l w Idle = 0
  owing l w (Saw m) = 0
  owing l w (Holding v) = 0
  owing l w (Laid v) = 0
  owing l w (Owing m o) = cond (eqb m l) (bit_at o w) 0
  owing l w (Pulling m j) = 0
  owing l w Spent = 0

  -- the words of the two sets, and the places of the map
  pub record IsSized (x : Lane V) : Type 0 where
    pub taken : length x.taken ≡ set_words
    pub home : length x.home ≡ set_words
    pub values : length x.values ≡ places
    pub small : (w : ℕ) → slice_index x.home w < 18446744073709551616

  -- 1 where a value lies there, else 0
  abbrev pub lies : Option V → ℕ
  lies None = 0
  lies (Some v) = 1

  -- the actor has the whole share
  abbrev pub IsAlone : Actor V → Type 0
  IsAlone a = a.parts ≡ 2 ^ a.halved

  -- a share in parts of which 2 ^ n are the whole
  abbrev pub share : ℕ → Actor V → ℕ
  share n a = a.parts * 2 ^ (n - a.halved)

  -- who saw a lane whole, or pulls from it, stands so at a lane that is whole
  abbrev pub StandsAtWhole : Machine V → Stand V → Type 0
  StandsAtWhole m Idle = Unit {0}
  StandsAtWhole m (Saw l) = HasEvery (lane_at m l).summary
  StandsAtWhole m (Holding v) = Unit {0}
  StandsAtWhole m (Laid v) = Unit {0}
  StandsAtWhole m (Owing l o) = Unit {0}
  StandsAtWhole m (Pulling l j) = HasEvery (lane_at m l).summary
  StandsAtWhole m Spent = Unit {0}

-- 1 where the lane is claimed, else 0
abbrev pub claim_flag : Bool → ℕ
claim_flag b = cond b 1 0

module _ {V : Type 0} (k : Placing V) where
  -- 1 where the value is of this lane and place, else 0
  abbrev pub at : ℕ → ℕ → V → ℕ
  at l p v = cond (eqb (k.lane v) l && eqb (k.place v) p) 1 0

  abbrev pub in_lane : ℕ → V → ℕ
  in_lane l v = cond (eqb (k.lane v) l) 1 0

  -- 1 where the value brings the place of the lane home, else 0
  abbrev pub brings : ℕ → ℕ → V → ℕ
  brings l p v = cond (eqb (k.lane v) l && eqb (word_of (k.place v)) (word_of p)) (bit_at (mask k v) (place_bit p)) 0

  -- 1 where the value closes the lane at this place, else 0
  abbrev pub closes_at : ℕ → ℕ → V → ℕ
  closes_at l p v = cond (k.closes v) (at l p v) 0

  -- 1 where the value closes the lane in a word below this one, else 0
  abbrev pub closes_below : ℕ → ℕ → V → ℕ
  closes_below l w v = cond (k.closes v && eqb (k.lane v) l && ltb (word_of (k.place v)) w) 1 0

  abbrev pub holding : ℕ → ℕ → Stand V → ℕ
  holding l p Idle = 0
  holding l p (Saw m) = 0
  holding l p (Holding v) = at l p v
  holding l p (Laid v) = 0
  holding l p (Pulling m j) = 0
  holding l p (Owing l' o) = 0
  holding l p Spent = 0

  abbrev pub laid : ℕ → ℕ → Stand V → ℕ
  laid l p Idle = 0
  laid l p (Saw m) = 0
  laid l p (Holding v) = 0
  laid l p (Laid v) = at l p v
  laid l p (Pulling m j) = 0
  laid l p (Owing l' o) = 0
  laid l p Spent = 0

  -- how many places of the lane were got
  abbrev pub drawn : Machine V → ℕ → ℕ
  drawn m l = over_got (in_lane l) m

  -- the value is the one of its lane and place
  abbrev pub IsOf : (ℕ → ℕ → Option V) → V → Type 0
  IsOf value v = value (k.lane v) (k.place v) ≡ Some v

  abbrev pub StandIsOf : (ℕ → ℕ → Option V) → Stand V → Type 0
  StandIsOf value Idle = Unit {0}
  StandIsOf value (Saw m) = Unit {0}
  StandIsOf value (Holding v) = IsOf value v
  StandIsOf value (Laid v) = IsOf value v
  StandIsOf value (Pulling m j) = Unit {0}
  StandIsOf value (Owing l' o) = Unit {0}
  StandIsOf value Spent = Unit {0}

  -- Each taken place stands exactly once among what the actors hold, have laid and have stored, and no other place does. What stands at a place is the value of that place.
  pub record OneHolder (value : ℕ → ℕ → Option V) (m : Machine V) : Type 0 where
    pub once : (l p : ℕ) → over_stands (holding l p) m + over_stands (laid l p) m + over_stored (at l p) m ≡ has (lane_at m l).taken p
    pub own : (l p : ℕ) (v : V) → value l p ≡ Some v → (k.lane v ≡ l) × (k.place v ≡ p) × (p < places)
    pub standing : (a : ℕ) → StandIsOf value (actor_at m a).stand
    pub stored : (a : ℕ) → All (IsOf value) (actor_at m a).stored

  -- The map holds a place exactly where it is laid, or stored and not got, and holds the value of that place. Each got value is the stored value of its place.
  pub record MapFollows (value : ℕ → ℕ → Option V) (m : Machine V) : Type 0 where
    pub wide : (l : ℕ) → l < length m.lanes → IsSized (lane_at m l)
    pub lying : (l p : ℕ) (v : V) → value_at m l p ≡ Some v → value l p ≡ Some v
    pub filled : (l p : ℕ) → lies (value_at m l p) + over_got (at l p) m ≡ over_stands (laid l p) m + over_stored (at l p) m
    pub got_stored : (l p : ℕ) → over_got (at l p) m ≤ over_stored (at l p) m
    pub got : (a : ℕ) → All (IsOf value) (actor_at m a).got

  -- The places that are home are those that the stored values bring.
  abbrev pub HomeFollows : Machine V → Type 0
  HomeFollows m = (l p : ℕ) → has (lane_at m l).home p ≡ min 1 (over_stored (brings l p) m)

  -- the word of the lane is full, or a stored value closes the lane in a word below it
  abbrev pub IsDue : Machine V → ℕ → ℕ → Type 0
  IsDue m l w = (w < set_words) × ((slice_index (lane_at m l).home w ≡ full_word) ⊎ (0 < over_stored (closes_below l w) m))

  -- the values fill the word of the lane: they bring all its places home, or one of them closes the lane in a word below it
  abbrev pub FillsWord : ℕ → ℕ → List V → Type 0
  FillsWord l w xs = (w < set_words) × (((p : ℕ) → word_of p ≡ w → 0 < sum_by (brings l p) xs) ⊎ (0 < sum_by (closes_below l w) xs))

  -- a summary has the words that these values fill, and no other
  abbrev pub HasFilled : ℕ → ℕ → List V → Type 0
  HasFilled l summary xs = (w : ℕ) → (bit_at summary w ≡ 1) ↔ FillsWord l w xs

  -- where the debt is of the value that was stored last, the summary is still that of the others
  abbrev pub IsFreshDebt : List (Lane V) → List V → Stand V → Type 0
  IsFreshDebt lanes stored Idle = Unit {0}
  IsFreshDebt lanes stored (Saw l) = Unit {0}
  IsFreshDebt lanes stored (Holding v) = Unit {0}
  IsFreshDebt lanes stored (Laid v) = Unit {0}
  IsFreshDebt lanes stored (Owing l o) = (xs : List V) × (x : V) × (stored ≡ xs ++ x ∷ []) × HasFilled l (lane_in lanes l).summary xs
  IsFreshDebt lanes stored (Pulling l j) = Unit {0}
  IsFreshDebt lanes stored Spent = Unit {0}

  -- who owes words, owes those that are due
  abbrev pub OwesDue : Machine V → Stand V → Type 0
  OwesDue m Idle = Unit {0}
  OwesDue m (Saw l) = Unit {0}
  OwesDue m (Holding v) = Unit {0}
  OwesDue m (Laid v) = Unit {0}
  OwesDue m (Owing l o) = (l < length m.lanes) × ((w : ℕ) → bit_at o w ≡ 1 → IsDue m l w)
  OwesDue m (Pulling l j) = Unit {0}
  OwesDue m Spent = Unit {0}

  -- Only words that are due are in a summary. Each that is due is there, or an actor owes it. Nobody sums up before an actor that is alone.
  pub record SummaryFollows (m : Machine V) : Type 0 where
    pub due : (l w : ℕ) → bit_at (lane_at m l).summary w ≡ 1 → IsDue m l w
    pub noted : (l w : ℕ) → IsDue m l w → 0 < bit_at (lane_at m l).summary w + over_stands (owing l w) m
    pub debts : (a : ℕ) → OwesDue m (actor_at m a).stand
    pub fresh : (a : ℕ) → IsAlone (actor_at m a) → IsFreshDebt m.lanes (actor_at m a).stored (actor_at m a).stand

  abbrev pub ClosesNotBefore : ℕ → ℕ → V → Type 0
  ClosesNotBefore l d v = k.lane v ≡ l → k.closes v ≡ true → d ≤ k.place v

  -- no stored value closes the lane before this place
  abbrev pub NoneClosesBefore : Machine V → ℕ → ℕ → Type 0
  NoneClosesBefore m l d = (a : ℕ) → All (ClosesNotBefore l d) (actor_at m a).stored

  abbrev pub IsLeastClosing : Machine V → ℕ → ℕ → Type 0
  IsLeastClosing m l c = NoneClosesBefore m l c × (0 < over_stored (closes_at l c) m)

  abbrev pub PullsUpToClosing : Machine V → Stand V → Type 0
  PullsUpToClosing m Idle = Unit {0}
  PullsUpToClosing m (Saw l) = Unit {0}
  PullsUpToClosing m (Holding v) = Unit {0}
  PullsUpToClosing m (Laid v) = Unit {0}
  PullsUpToClosing m (Pulling l j) = NoneClosesBefore m l j
  PullsUpToClosing m (Owing l' o) = Unit {0}
  PullsUpToClosing m Spent = Unit {0}

  -- A lane is pulled from only where it is whole and claimed, by one actor, and no further than to its least closing place.
  pub record Claimers (m : Machine V) : Type 0 where
    pub whole : (a : ℕ) → StandsAtWhole m (actor_at m a).stand
    pub one : (l : ℕ) → over_stands (pulling l) m ≤ claim_flag (lane_at m l).claimed
    pub up_to_closing : (a : ℕ) → PullsUpToClosing m (actor_at m a).stand

  abbrev pub PullsNext : Machine V → Stand V → Type 0
  PullsNext m Idle = Unit {0}
  PullsNext m (Saw l) = Unit {0}
  PullsNext m (Holding v) = Unit {0}
  PullsNext m (Laid v) = Unit {0}
  PullsNext m (Pulling l j) = j ≡ drawn m l
  PullsNext m (Owing l' o) = Unit {0}
  PullsNext m Spent = Unit {0}

  -- The places that were got of a lane are the first ones, each once: none before the claim, then up to where the claimer stands, and in the end up to the least closing place.
  pub record GotInOrder (m : Machine V) : Type 0 where
    pub first_ones : (l p : ℕ) → over_got (at l p) m ≡ cond (ltb p (drawn m l)) 1 0
    pub unclaimed : (l : ℕ) → (lane_at m l).claimed ≡ false → drawn m l ≡ 0
    pub next : (a : ℕ) → PullsNext m (actor_at m a).stand
    pub ended : (l : ℕ) → (lane_at m l).claimed ≡ true → over_stands (pulling l) m ≡ 0 → (0 < drawn m l) × IsLeastClosing m l (drawn m l - 1)

module _ {V : Type 0} where
  -- Each repeated place is taken, each set that was seen is within the summary, each lane that was found gone is claimed.
  pub record SeenBelow (lanes : List (Lane V)) (a : Actor V) : Type 0 where
    pub repeated : All (λ x. has (lane_in lanes x.0).taken x.1 ≡ 1) a.repeated
    pub seen : All (λ x. IsWithin x.1 (lane_in lanes x.0).summary) a.seen
    pub gone : All (λ l. (lane_in lanes l).claimed ≡ true) a.gone

  abbrev pub HasShare : Actor V → Stand V → Type 0
  HasShare a Idle = 0 < a.parts
  HasShare a (Saw l) = 0 < a.parts
  HasShare a (Holding v) = 0 < a.parts
  HasShare a (Laid v) = 0 < a.parts
  HasShare a (Owing l o) = 0 < a.parts
  HasShare a (Pulling l j) = 0 < a.parts
  HasShare a Spent = (a.parts ≡ 0) × (a.stored ≡ []) × (a.repeated ≡ []) × (a.got ≡ []) × (a.gone ≡ []) × (a.seen ≡ [])

  -- The shares have the sum 1. An actor has a share over 0, and a spent one has share 0 and empty lists.
  pub record WholeShare (m : Machine V) : Type 0 where
    pub scale : ℕ
    pub fine : (a : ℕ) → (actor_at m a).halved ≤ scale
    pub whole : sum_by (share scale) m.actors ≡ 2 ^ scale
    pub each : (a : ℕ) → HasShare (actor_at m a) (actor_at m a).stand

-- `value` tells for each place that was taken the one value that is ever there.
pub record IsSound {V : Type 0} (k : Placing V) (m : Machine V) : Type 0 where
  pub value : ℕ → ℕ → Option V
  pub one_holder : OneHolder k value m
  pub map_follows : MapFollows k value m
  pub home_follows : HomeFollows k m
  pub summary_follows : SummaryFollows k m
  pub claimers : Claimers k m
  pub got_in_order : GotInOrder k m
  pub seen_below : (a : ℕ) → SeenBelow m.lanes (actor_at m a)
  pub whole_share : WholeShare m
