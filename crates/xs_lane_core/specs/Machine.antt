-- The lane machine as plain data ("States" in docs/DESIGN.md): lanes, which all actors share, and what each actor did.
use Rattle.std.specs.Prelude.{ℕ, ◌+◌, ◌-◌, ◌*◌, ◌^◌, max, Bool, true, false, cond, eqb, if◌then◌else◌, nat_eq, not, ◌&&◌, bit_or, List, [], ◌∷◌, ◌++◌, replicate, slice_index_or, slice_set, Option, None}
use Rattle.xs_lane_core.specs.Places.{places, last_place, set_words, word_of, own_bit, onward, full_word, with_bits, words_above, with_words}
use Rattle.xs_lane_core.specs.declared.values.Stand.{Stand}
use Rattle.xs_lane_core.specs.declared.values.Stand.TheVariants.{Idle, Owing, Spent}

-- what a value tells: its lane, its place there, and whether the lane ends with it
pub record Placing (V : Type 0) : Type 0 where
  pub lane : V → ℕ
  pub place : V → ℕ
  pub closes : V → Bool

pub record Lane (V : Type 0) : Type 0 where
  pub taken : List ℕ  -- the places that some actor has taken
  pub home : List ℕ  -- the places that are home
  pub summary : ℕ  -- the words that are told to be full
  pub claimed : Bool
  pub values : List (Option V)  -- for each place the value that lies there

pub record Actor (V : Type 0) : Type 0 where
  pub stand : Stand V
  pub stored : List V  -- the values that it brought home
  pub repeated : List (ℕ × ℕ)  -- lane and place of those that it was given back
  pub got : List V  -- the values that it pulled
  pub gone : List ℕ  -- the lanes that it found claimed
  pub seen : List (ℕ × ℕ)  -- lane and summary, for each summary that it saw
  pub parts : ℕ  -- its share is parts / 2 ^ halved
  pub halved : ℕ

pub record Machine (V : Type 0) : Type 0 where
  pub lanes : List (Lane V)
  pub actors : List (Actor V)

-- two shares in parts of the finer of the two
abbrev pub joined_parts : ℕ → ℕ → ℕ → ℕ → ℕ
joined_parts parts halved more halved_more = parts * 2 ^ (max halved halved_more - halved) + more * 2 ^ (max halved halved_more - halved_more)

module _ {V : Type 0} where
  abbrev pub empty_lane : Lane V
  empty_lane = record { taken = replicate set_words 0; home = replicate set_words 0; summary = 0; claimed = false; values = replicate places None }

  abbrev pub no_lane : Lane V
  no_lane = record { taken = []; home = []; summary = 0; claimed = false; values = [] }

  abbrev pub newcomer : Actor V
  newcomer = record { stand = Idle; stored = []; repeated = []; got = []; gone = []; seen = []; parts = 1; halved = 0 }

  -- an actor that was joined into another
  abbrev pub nobody : Actor V
  nobody = record { stand = Spent; stored = []; repeated = []; got = []; gone = []; seen = []; parts = 0; halved = 0 }

  -- some empty lanes, and one actor that has the whole share
  abbrev pub start : ℕ → Machine V
  start lanes = record { lanes = replicate lanes empty_lane; actors = newcomer ∷ [] }

  abbrev pub lane_in : List (Lane V) → ℕ → Lane V
  lane_in lanes l = slice_index_or lanes l no_lane

  abbrev pub lane_at : Machine V → ℕ → Lane V
  lane_at m l = lane_in m.lanes l

  abbrev pub actor_at : Machine V → ℕ → Actor V
  actor_at m a = slice_index_or m.actors a nobody

  -- the value that lies at a place
  abbrev pub value_at : Machine V → ℕ → ℕ → Option V
  value_at m l p = slice_index_or (lane_at m l).values p None

  -- one actor changes
  abbrev pub acted : Machine V → ℕ → Actor V → Machine V
  acted m a p = record { lanes = m.lanes; actors = slice_set m.actors a p }

  -- one actor and one lane change
  abbrev pub changed : Machine V → ℕ → Lane V → ℕ → Actor V → Machine V
  changed m l x a p = record { lanes = slice_set m.lanes l x; actors = slice_set m.actors a p }

  -- what each event changes in a lane
  abbrev pub with_taken : Lane V → ℕ → Lane V
  with_taken x p = record { taken = with_bits x.taken (word_of p) (own_bit p); home = x.home; summary = x.summary; claimed = x.claimed; values = x.values }

  abbrev pub with_home : Lane V → ℕ → ℕ → Lane V
  with_home x w more = record { taken = x.taken; home = with_bits x.home w more; summary = x.summary; claimed = x.claimed; values = x.values }

  abbrev pub with_summary : Lane V → ℕ → Lane V
  with_summary x more = record { taken = x.taken; home = x.home; summary = with_words x.summary more; claimed = x.claimed; values = x.values }

  abbrev pub with_claim : Lane V → Lane V
  with_claim x = record { taken = x.taken; home = x.home; summary = x.summary; claimed = true; values = x.values }

  abbrev pub with_value : Lane V → ℕ → Option V → Lane V
  with_value x p v = record { taken = x.taken; home = x.home; summary = x.summary; claimed = x.claimed; values = slice_set x.values p v }

  -- what each event changes in an actor
  abbrev pub stands : Stand V → Actor V → Actor V
  stands s a = record { stand = s; stored = a.stored; repeated = a.repeated; got = a.got; gone = a.gone; seen = a.seen; parts = a.parts; halved = a.halved }

  abbrev pub repeats : ℕ → ℕ → Actor V → Actor V
  repeats l p a = record { stand = Idle; stored = a.stored; repeated = a.repeated ++ (l, p) ∷ []; got = a.got; gone = a.gone; seen = a.seen; parts = a.parts; halved = a.halved }

  abbrev pub stores : V → Stand V → Actor V → Actor V
  stores v s a = record { stand = s; stored = a.stored ++ v ∷ []; repeated = a.repeated; got = a.got; gone = a.gone; seen = a.seen; parts = a.parts; halved = a.halved }

  abbrev pub sees : Stand V → ℕ → ℕ → Actor V → Actor V
  sees s l set a = record { stand = s; stored = a.stored; repeated = a.repeated; got = a.got; gone = a.gone; seen = a.seen ++ (l, set) ∷ []; parts = a.parts; halved = a.halved }

  abbrev pub finds_gone : ℕ → Actor V → Actor V
  finds_gone l a = record { stand = Idle; stored = a.stored; repeated = a.repeated; got = a.got; gone = a.gone ++ l ∷ []; seen = a.seen; parts = a.parts; halved = a.halved }

  abbrev pub gets : V → Stand V → Actor V → Actor V
  gets v s a = record { stand = s; stored = a.stored; repeated = a.repeated; got = a.got ++ v ∷ []; gone = a.gone; seen = a.seen; parts = a.parts; halved = a.halved }

  -- the two halves of a split: the one keeps what it did, the other knows what it saw
  abbrev pub halves : Actor V → Actor V
  halves a = record { stand = a.stand; stored = a.stored; repeated = a.repeated; got = a.got; gone = a.gone; seen = a.seen; parts = a.parts; halved = a.halved + 1 }

  abbrev pub copied : Actor V → Actor V
  copied a = record { stand = Idle; stored = []; repeated = []; got = []; gone = a.gone; seen = a.seen; parts = a.parts; halved = a.halved + 1 }

  abbrev pub joined : Actor V → Actor V → Actor V
  joined a b =
      record {
        stand = a.stand;
        stored = a.stored ++ b.stored;
        repeated = a.repeated ++ b.repeated;
        got = a.got ++ b.got;
        gone = a.gone ++ b.gone;
        seen = a.seen ++ b.seen;
        parts = joined_parts a.parts a.halved b.parts b.halved;
        halved = max a.halved b.halved;
      }

-- the words that are owed where a value comes home in its word: those above, where it closes, and its own, where that is full by it
abbrev pub owed : Bool → ℕ → ℕ → ℕ → ℕ
owed closes word before after = bit_or (cond closes (words_above word) 0) (cond (not (nat_eq before full_word) && nat_eq after full_word) (2 ^ word) 0)

-- who owes nothing is idle
abbrev pub stand_owing : {V : Type 0} → ℕ → ℕ → Stand V
stand_owing l words = if nat_eq words 0 then Idle else Owing l words

-- the places that a value brings home in its word: its own, or where it closes all from its own on. The last place comes home only by a value that closes
abbrev pub home_bits : Bool → ℕ → ℕ
home_bits closes place = cond closes (onward place) (cond (eqb place last_place) 0 (own_bit place))

module _ {V : Type 0} (k : Placing V) where
  abbrev pub mask : V → ℕ
  mask x = home_bits (k.closes x) (k.place x)
