-- What `claim` answers.
use Rattle.std.specs.Prelude.{◌≡◌, ℕ, List, []}
use Rattle.xs_lane_core.specs.Machine.{Placing, Actor, Machine}
use Rattle.xs_lane_core.specs.Steps.{looks, claims}
use Rattle.xs_lane_core.specs.Steps as answer
use Rattle.xs_lane_core.specs.Claim.{ClaimGives}
use Rattle.xs_lane_core.specs.Sound.{IsAlone}
use Rattle.xs_lanes.specs.Exact.{HasActor}
use Rattle.xs_lanes.specs.declared.claim.Claim.{Claim}
use Rattle.xs_lanes.specs.declared.claim.Claim.TheVariants.{Got, NotWhole, Gone}
use Rattle.xs_lanes.specs.Claiming.{HasGot, HasFoundGone, HasSeenPart}

module _ {T : Type 0} (k : Placing T) where
  -- the pass v was answered so for the lane, with these values, and is now w
  abbrev pub ClaimAnswers : Actor T → ℕ → Claim → List T → Actor T → Type 0
  ClaimAnswers v l Got xs w = HasGot k v l xs w
  ClaimAnswers v l (NotWhole set) xs w = (xs ≡ []) × HasSeenPart k v l set w
  ClaimAnswers v l Gone xs w = (xs ≡ []) × HasFoundGone k v l w

  -- what the machine answers to a Look and a Claim of the actor a, and which values its Pulls give
  abbrev pub ClaimsLike : Machine T → ℕ → ℕ → Claim → List T → Type 0
  ClaimsLike m a l Got xs = ((claims (looks m a l).0 a).1 ≡ answer.Claimed) × ClaimGives k m l xs
  ClaimsLike m a l (NotWhole set) xs = (looks m a l).1 ≡ answer.Seen set
  ClaimsLike m a l Gone xs = (claims (looks m a l).0 a).1 ≡ answer.Gone

  -- Every machine in which an actor with the whole share is this one answers so.
  abbrev pub ClaimExactly : ℕ → Actor T → ℕ → Claim → List T → Type 0
  ClaimExactly lanes v l result xs = IsAlone v → (m : Machine T) (a : ℕ) → HasActor k lanes v m a → ClaimsLike m a l result xs
