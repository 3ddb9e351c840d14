-- What the lane machine answers where an actor with the whole share does one call.
use Rattle.std.specs.Prelude.{◌≡◌, ℕ, ◌<◌, length}
use Rattle.xs_lane_core.specs.Machine.{Placing, Actor, Machine, actor_at}
use Rattle.xs_lane_core.specs.Steps.{Answer, Taken, Back, Lies, Owes, Stored, Made, Seen, Claimed, Gone, Pulled, Split, Joined, Refused, takes, puts, homes, sums, looks}
use Rattle.xs_lane_core.specs.Sound.{IsSound, IsAlone}
use Rattle.xs_lanes.specs.declared.lanes.Put.{Put}
use Rattle.xs_lanes.specs.declared.lanes.Put.TheVariants as put

abbrev pub answer_of : {T : Type 0} → Put T → Answer T
answer_of put.Stored = Stored
answer_of put.Made = Made
answer_of (put.Repeat x) = Back x

module _ {T : Type 0} (k : Placing T) where
  -- Sum, where something is owed
  abbrev pub sum_on : ℕ → Machine T → Answer T → Answer T
  sum_on a m Owes = (sums m a).1
  sum_on a m Taken = Taken
  sum_on a m (Back x) = Back x
  sum_on a m Lies = Lies
  sum_on a m Stored = Stored
  sum_on a m Made = Made
  sum_on a m (Seen set) = Seen set
  sum_on a m Claimed = Claimed
  sum_on a m Gone = Gone
  sum_on a m (Pulled x) = Pulled x
  sum_on a m (Split b) = Split b
  sum_on a m Joined = Joined
  sum_on a m Refused = Refused

  -- Home, and what follows it
  abbrev pub home_on : ℕ → Machine T → Answer T
  home_on a m = sum_on a (homes k m a).0 (homes k m a).1

  -- Take, and where the place was free Put and what follows it
  abbrev pub put_on : ℕ → Machine T → Answer T → Answer T
  put_on a m Taken = home_on a (puts k m a).0
  put_on a m Owes = Owes
  put_on a m (Back x) = Back x
  put_on a m Lies = Lies
  put_on a m Stored = Stored
  put_on a m Made = Made
  put_on a m (Seen set) = Seen set
  put_on a m Claimed = Claimed
  put_on a m Gone = Gone
  put_on a m (Pulled x) = Pulled x
  put_on a m (Split b) = Split b
  put_on a m Joined = Joined
  put_on a m Refused = Refused

  abbrev pub put_answer : Machine T → ℕ → T → Answer T
  put_answer m a x = put_on a (takes k m a x).0 (takes k m a x).1

  -- a sound machine of so many lanes, in which the actor a is this one
  pub record HasActor (lanes : ℕ) (v : Actor T) (m : Machine T) (a : ℕ) : Type 0 where
    pub sound : IsSound k m
    pub wide : length m.lanes ≡ lanes
    pub inside : a < length m.actors
    pub is : actor_at m a ≡ v

  -- Every machine in which an actor with the whole share is this one answers so.
  abbrev pub PutExactly : ℕ → Actor T → T → Put T → Type 0
  PutExactly lanes v x answer = IsAlone v → (m : Machine T) (a : ℕ) → HasActor lanes v m a → put_answer m a x ≡ answer_of answer

  abbrev pub LookExactly : ℕ → Actor T → ℕ → ℕ → Type 0
  LookExactly lanes v l set = IsAlone v → (m : Machine T) (a : ℕ) → HasActor lanes v m a → (looks m a l).1 ≡ Seen set
