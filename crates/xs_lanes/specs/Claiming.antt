-- What a pass that claims a lane finds and gets.
use Rattle.std.specs.Prelude.{◌≡◌, ◌≢◌, ℕ, suc, ◌+◌, ◌<◌, min, true, false, if◌then◌else◌, List, [], ◌∷◌, ◌++◌, length, Option, None, sum_by}
use Rattle.std.specs.List.{Contains}
use Rattle.atomic_table.specs.Table.{Me}
use Rattle.xs_lane_core.specs.Places.{places, every_word}
use Rattle.xs_lane_core.specs.declared.values.Stand.{Stand}
use Rattle.xs_lane_core.specs.declared.values.Stand.TheVariants.{Idle, Pulling}
use Rattle.xs_lane_core.specs.Machine.{Placing, Actor, Machine, actor_at, sees, finds_gone, gets}
use Rattle.xs_lane_core.specs.Sound.{at, in_lane, IsAlone, IsSound}
use Rattle.xs_lane_core.specs.Claim.{ClaimGives}
use Rattle.xs_lanes.specs.Filing.{slot_at}
use Rattle.xs_lanes.specs.Knowing.{FindsSummary}

module _ {T : Type 0} where
  -- the pass got these values too, and stands so
  abbrev pub gets_all : List T → Stand T → Actor T → Actor T
  gets_all xs s v = record { stand = s; stored = v.stored; repeated = v.repeated; got = v.got ++ xs; gone = v.gone; seen = v.seen; parts = v.parts; halved = v.halved }

module _ {T : Type 0} (k : Placing T) where
  -- how many values the pass got of the lane, and of the place
  abbrev pub got_in : ℕ → Actor T → ℕ
  got_in l v = sum_by (in_lane k l) v.got

  abbrev pub got_at : ℕ → ℕ → Actor T → ℕ
  got_at l p v = sum_by (at k l p) v.got

  -- The flag of a lane: it is set where the pass got the lane or found it gone, and where the pass is alone, only where it got it.
  pub record FindsClaim (v : Actor T) (l flag : ℕ) : Type 0 where
    pub got : 0 < got_in l v → flag ≡ 1
    pub gone : Contains v.gone l → flag ≡ 1
    pub alone : IsAlone v → flag ≡ min 1 (got_in l v)

  -- the pass is an actor of a sound machine
  abbrev pub IsActor : Actor T → Type 0
  IsActor v = (m : Machine T) × (a : ℕ) × IsSound k m × (actor_at m a ≡ v) × (a < length m.actors)

  -- values of the lane at one place after the other, of which none closes it
  abbrev pub IsOpenRun : ℕ → ℕ → List T → Type 0
  IsOpenRun l p [] = Unit {0}
  IsOpenRun l p (x ∷ xs) = (k.lane x ≡ l) × (k.place x ≡ p) × (k.closes x ≡ false) × IsOpenRun l (suc p) xs

  -- the same, where the last one closes it
  abbrev pub IsRun : ℕ → ℕ → List T → Type 0
  IsRun l p [] = ⊥
  IsRun l p (x ∷ xs) = (k.lane x ≡ l) × (k.place x ≡ p) × (k.closes x ≡ true → xs ≡ []) × (k.closes x ≡ false → IsRun l (suc p) xs)

  -- In a sound machine in which the pass w is an actor these values are stored, and a claim of the lane gives them. No later step changes what it gives.
  abbrev pub IsClaimOf : ℕ → List T → Actor T → Type 0
  IsClaimOf l xs w = (m : Machine T) × (a : ℕ) × IsSound k m × (actor_at m a ≡ w) × (a < length m.actors) × ClaimGives k m l xs

  -- The pass v claimed the lane, got the values xs and is now w. They are the stored values of the lane from its first place to its least closing one.
  pub record HasGot (v : Actor T) (l : ℕ) (xs : List T) (w : Actor T) : Type 0 where
    pub fresh : got_in l v ≡ 0
    pub not_gone : ¬ Contains v.gone l
    pub found : FindsSummary k v l every_word
    pub run : IsRun l 0 xs
    pub stored : IsClaimOf l xs w
    pub view : w ≡ gets_all xs Idle (sees Idle l every_word v)

  -- the pass v found the lane claimed
  pub record HasFoundGone (v : Actor T) (l : ℕ) (w : Actor T) : Type 0 where
    pub found : FindsSummary k v l every_word
    pub alone : IsAlone v → 0 < got_in l v
    pub view : w ≡ finds_gone l (sees Idle l every_word v)

  -- the pass v found these words in the summary, which are not all
  pub record HasSeenPart (v : Actor T) (l set : ℕ) (w : Actor T) : Type 0 where
    pub part : set ≢ every_word
    pub found : FindsSummary k v l set
    pub view : w ≡ sees Idle l set v

  -- the pass pulls from the lane
  abbrev pub IsPulling : ℕ → Actor T → Type 0
  IsPulling l v = (j : ℕ) × (v.stand ≡ Pulling l j)

  -- who got a value pulls the next one, where it did not close the lane
  abbrev pub stand_after : ℕ → ℕ → T → Stand T
  stand_after l j x = if k.closes x then Idle else Pulling l (j + 1)

  -- the pass v got the value x of the place j, and is now w
  pub record HasDrawn (v : Actor T) (l j : ℕ) (x : T) (w : Actor T) : Type 0 where
    pub lane : k.lane x ≡ l
    pub place : k.place x ≡ j
    pub low : j < places
    pub view : w ≡ gets x (stand_after l j x) v

  -- the slot of a place of which the pass got the value is out with it, and empty
  abbrev pub OwesSlot : ℕ → Me (Option T) (Actor T) → Type 0
  OwesSlot l me = (p : ℕ) × (p < places) × (0 < got_at l p me.0) × (me.1 ≡ (slot_at l p, None) ∷ [])
