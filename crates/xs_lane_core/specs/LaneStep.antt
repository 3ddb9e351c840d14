-- The step of the machine over numbered values, and whole lists of events.
use Rattle.std.specs.Prelude.{Bool, true, false, not, ◌&&◌, nat_eq, nat_lt, List, [], ◌∷◌, length}
use Rattle.xs_lane_core.specs.Places.{places}
use Rattle.xs_lane_core.specs.declared.values.Numbered.{Numbered}
use Rattle.xs_lane_core.specs.declared.values.Event.{Event}
use Rattle.xs_lane_core.specs.declared.values.Event.TheVariants as event
use Rattle.xs_lane_core.specs.declared.values.Outcome.{Outcome}
use Rattle.xs_lane_core.specs.declared.values.Outcome.TheVariants as outcome
use Rattle.xs_lane_core.specs.declared.values.Stand.{Stand}
use Rattle.xs_lane_core.specs.declared.values.Stand.TheVariants.{Idle, Saw, Holding, Laid, Owing, Pulling, Spent}
use Rattle.xs_lane_core.specs.Machine.{Placing, Machine, actor_at}
use Rattle.xs_lane_core.specs.Steps.{Answer, Taken, Back, Lies, Owes, Stored, Made, Seen, Claimed, Gone, Pulled, Split, Joined, Refused, is_free, takes, puts, homes, sums, looks, claims, pulls, splits, joins}

abbrev pub numbered : Placing Numbered
numbered = record { lane = λ v. v.lane; place = λ v. v.place; closes = λ v. v.closes }

abbrev pub outcome_of : Answer Numbered → Outcome
outcome_of Taken = outcome.Taken
outcome_of (Back v) = outcome.Back v
outcome_of Lies = outcome.Laid
outcome_of Owes = outcome.Owing
outcome_of Stored = outcome.Stored
outcome_of Made = outcome.Made
outcome_of (Seen mask) = outcome.Seen mask
outcome_of Claimed = outcome.Claimed
outcome_of Gone = outcome.Gone
outcome_of (Pulled v) = outcome.Pulled v
outcome_of (Split a) = outcome.Split a
outcome_of Joined = outcome.Joined
outcome_of Refused = outcome.Refused

abbrev pub told : Machine Numbered × Answer Numbered → Machine Numbered × Outcome
told r = (r.0, outcome_of r.1)

-- what the event leaves, and what is answered
abbrev pub lane_step : Machine Numbered → Event → Machine Numbered × Outcome
lane_step m (event.Take a v) = told (takes numbered m a v)
lane_step m (event.Put a) = told (puts numbered m a)
lane_step m (event.Home a) = told (homes numbered m a)
lane_step m (event.Sum a) = told (sums m a)
lane_step m (event.Look a l) = told (looks m a l)
lane_step m (event.Claim a) = told (claims m a)
lane_step m (event.Pull a) = told (pulls numbered m a)
lane_step m (event.Split a) = told (splits m a)
lane_step m (event.Join a b) = told (joins m a b)

-- the machine after a list of events
abbrev pub run : Machine Numbered → List Event → Machine Numbered
run m [] = m
run m (e ∷ es) = run (lane_step m e).0 es

-- what is answered to each of them
abbrev pub answers : Machine Numbered → List Event → List Outcome
answers m [] = []
answers m (e ∷ es) = (lane_step m e).1 ∷ answers (lane_step m e).0 es

abbrev pub is_holding : Stand Numbered → Bool
is_holding (Holding v) = true
is_holding Idle = false
is_holding (Saw l) = false
is_holding (Laid v) = false
is_holding (Pulling l j) = false
is_holding (Owing l o) = false
is_holding Spent = false

abbrev pub has_laid : Stand Numbered → Bool
has_laid (Laid v) = true
has_laid Idle = false
has_laid (Saw l) = false
has_laid (Holding v) = false
has_laid (Pulling l j) = false
has_laid (Owing l o) = false
has_laid Spent = false

abbrev pub is_owing : Stand Numbered → Bool
is_owing (Owing l o) = true
is_owing Idle = false
is_owing (Saw l) = false
is_owing (Holding v) = false
is_owing (Laid v) = false
is_owing (Pulling l j) = false
is_owing Spent = false

abbrev pub has_seen : Stand Numbered → Bool
has_seen (Saw l) = true
has_seen Idle = false
has_seen (Holding v) = false
has_seen (Laid v) = false
has_seen (Pulling l j) = false
has_seen (Owing l o) = false
has_seen Spent = false

abbrev pub is_pulling : Stand Numbered → Bool
is_pulling (Pulling l j) = true
is_pulling Idle = false
is_pulling (Saw l) = false
is_pulling (Holding v) = false
is_pulling (Laid v) = false
is_pulling (Owing l o) = false
is_pulling Spent = false

-- the actors, the lane and the place that the event names are there, and the actors stand as it needs
abbrev pub allows : Machine Numbered → Event → Bool
allows m (event.Take a v) = nat_lt a (length m.actors) && nat_lt v.lane (length m.lanes) && nat_lt v.place places && is_free (actor_at m a).stand
allows m (event.Put a) = nat_lt a (length m.actors) && is_holding (actor_at m a).stand
allows m (event.Home a) = nat_lt a (length m.actors) && has_laid (actor_at m a).stand
allows m (event.Sum a) = nat_lt a (length m.actors) && is_owing (actor_at m a).stand
allows m (event.Look a l) = nat_lt a (length m.actors) && nat_lt l (length m.lanes) && is_free (actor_at m a).stand
allows m (event.Claim a) = nat_lt a (length m.actors) && has_seen (actor_at m a).stand
allows m (event.Pull a) = nat_lt a (length m.actors) && is_pulling (actor_at m a).stand
allows m (event.Split a) = nat_lt a (length m.actors) && is_free (actor_at m a).stand
allows m (event.Join a b) = nat_lt a (length m.actors) && nat_lt b (length m.actors) && not (nat_eq a b) && is_free (actor_at m a).stand && is_free (actor_at m b).stand
