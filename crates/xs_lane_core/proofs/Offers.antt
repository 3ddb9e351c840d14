-- Only values that were offered are stored.
use Rattle.std.proofs.Common.{◌≡◌, ℕ, zero, suc, ◌+◌, Bool, true, false, if◌then◌else◌, nat_eq, List, [], ◌∷◌, set, All, refl, subst, arith}
use Rattle.std.specs.List.{Contains}
use Rattle.std.proofs.lemmas.List.Elements.{All-nil, All-append, All-push, All-contains}
use Rattle.xs_lane_core.specs.Places.{every_word, with_words}
use Rattle.xs_lane_core.specs.declared.values.Numbered.{Numbered}
use Rattle.xs_lane_core.specs.declared.values.Event.{Event}
use Rattle.xs_lane_core.specs.declared.values.Event.TheVariants as event
use Rattle.xs_lane_core.specs.declared.values.Stand.{Stand}
use Rattle.xs_lane_core.specs.declared.values.Stand.TheVariants.{Idle, Saw, Holding, Laid, Owing, Pulling, Spent}
use Rattle.xs_lane_core.specs.Machine.{Placing, Actor, Machine, lane_at, actor_at, nobody, start, stands, repeats, stores, sees, finds_gone, gets, halves, copied, joined, stand_owing}
use Rattle.xs_lane_core.specs.Steps.{takes, puts, debt_of, homes, sums, looks, claims, pulls, splits, joins}
use Rattle.xs_lane_core.specs.LaneStep.{numbered, lane_step, run}
use Rattle.xs_lane_core.specs.Claim.{IsStored}
use Rattle.xs_lane_core.specs.Offered.{IsOffered}
use Rattle.xs_lane_core.proofs.Lists.{each_set, each_push}
use Rattle.xs_lane_core.proofs.Cases.{takes_case, puts_case, homes_case, sums_case, looks_case, claims_case, pulls_case, splits_case, joins_case}

module _ {V : Type 0} (P : V → Type 0) where
  -- P holds of the value that an actor has at hand
  StandHas : Stand V → Type 0
  StandHas Idle = Unit {0}
  StandHas (Saw l) = Unit {0}
  StandHas (Holding v) = P v
  StandHas (Laid v) = P v
  StandHas (Owing l o) = Unit {0}
  StandHas (Pulling l j) = Unit {0}
  StandHas Spent = Unit {0}

  -- P holds of each value that an actor has at hand or has stored
  record Has (a : Actor V) : Type 0 where
    stand : StandHas a.stand
    stored : All P a.stored

  abbrev EachHas : Machine V → Type 0
  EachHas m = (a : ℕ) → Has (actor_at m a)

  has_none : Has nobody
  unfolding StandHas
  has_none = record { stand = tt; stored = All-nil P }

  idle_or : (b : Bool) (s : Stand V) → StandHas s → StandHas (if b then s else Idle)
  unfolding StandHas
  idle_or true s h = h
  idle_or false s h = tt

  or_idle : (b : Bool) (s : Stand V) → StandHas s → StandHas (if b then Idle else s)
  unfolding StandHas
  or_idle true s h = tt
  or_idle false s h = h

  owing_has : (b : Bool) (l o : ℕ) → StandHas (if b then Idle else Owing l o)
  unfolding StandHas
  owing_has true l o = tt
  owing_has false l o = tt

  look_has : (m : Machine V) (a l : ℕ) → EachHas m → EachHas (looks m a l).0
  unfolding StandHas
  look_has m a l h = looks_case (λ r. EachHas r.0) m a l h (λ _ _ _. each_set Has m.actors a (sees (if nat_eq (lane_at m l).summary every_word then Saw l else Idle) l (lane_at m l).summary (actor_at m a)) nobody
      record { stand = idle_or (nat_eq (lane_at m l).summary every_word) (Saw l) tt; stored = (h a).stored } h)

  sum_has : (m : Machine V) (a : ℕ) → EachHas m → EachHas (sums m a).0
  unfolding StandHas
  sum_has m a h = sums_case (λ r. EachHas r.0) m a h (λ l o _ _ _. each_set Has m.actors a (sees Idle l (with_words (lane_at m l).summary o) (actor_at m a)) nobody record { stand = tt; stored = (h a).stored } h)

  claim_has : (m : Machine V) (a : ℕ) → EachHas m → EachHas (claims m a).0
  unfolding StandHas
  claim_has m a h = claims_case (λ r. EachHas r.0) m a h
      (λ l _ _ _ _. each_set Has m.actors a (finds_gone l (actor_at m a)) nobody record { stand = tt; stored = (h a).stored } h)
      (λ l _ _ _ _. each_set Has m.actors a (stands (Pulling l 0) (actor_at m a)) nobody record { stand = tt; stored = (h a).stored } h)

  split_has : (m : Machine V) (a : ℕ) → EachHas m → EachHas (splits m a).0
  unfolding StandHas
  split_has m a h = splits_case (λ r. EachHas r.0) m a h (λ _ _. each_push Has (set m.actors a (halves (actor_at m a))) (copied (actor_at m a)) nobody record { stand = tt; stored = All-nil P }
      (each_set Has m.actors a (halves (actor_at m a)) nobody record { stand = (h a).stand; stored = (h a).stored } h))

  join_has : (m : Machine V) (a b : ℕ) → EachHas m → EachHas (joins m a b).0
  join_has m a b h = joins_case (λ r. EachHas r.0) m a b h (λ _ _ _ _ _. each_set Has (set m.actors a (joined (actor_at m a) (actor_at m b))) b nobody nobody has_none
      (each_set Has m.actors a (joined (actor_at m a) (actor_at m b)) nobody record { stand = (h a).stand; stored = All-append P (actor_at m a).stored (actor_at m b).stored (h a).stored (h b).stored } h))

module _ {V : Type 0} (k : Placing V) (P : V → Type 0) where
  take_has : (m : Machine V) (a : ℕ) (v : V) → P v → EachHas P m → EachHas P (takes k m a v).0
  unfolding StandHas
  take_has m a v p h = takes_case k (λ r. EachHas P r.0) m a v h
      (λ _ _ _ _ _. each_set (Has P) m.actors a (stands (Holding v) (actor_at m a)) nobody record { stand = p; stored = (h a).stored } h)
      (λ _ _ _ _ _. each_set (Has P) m.actors a (repeats (k.lane v) (k.place v) (actor_at m a)) nobody record { stand = tt; stored = (h a).stored } h)

  put_has : (m : Machine V) (a : ℕ) → EachHas P m → EachHas P (puts k m a).0
  unfolding StandHas
  put_has m a h = puts_case k (λ r. EachHas P r.0) m a h (λ v _ _ _ e. each_set (Has P) m.actors a (stands (Laid v) (actor_at m a)) nobody record { stand = subst (StandHas P) e (h a).stand; stored = (h a).stored } h)

  home_has : (m : Machine V) (a : ℕ) → EachHas P m → EachHas P (homes k m a).0
  unfolding StandHas
  home_has m a h = homes_case k (λ r. EachHas P r.0) m a h (λ v _ _ e. each_set (Has P) m.actors a (stores v (stand_owing (k.lane v) (debt_of k m v)) (actor_at m a)) nobody
      record { stand = owing_has P (nat_eq (debt_of k m v) 0) (k.lane v) (debt_of k m v); stored = All-push P (actor_at m a).stored v (h a).stored (subst (StandHas P) e (h a).stand) } h)

  pull_has : (m : Machine V) (a : ℕ) → EachHas P m → EachHas P (pulls k m a).0
  unfolding StandHas
  pull_has m a h = pulls_case k (λ r. EachHas P r.0) m a h (λ l j v _ _ _ _. each_set (Has P) m.actors a (gets v (if k.closes v then Idle else Pulling l (j + 1)) (actor_at m a)) nobody
      record { stand = or_idle P (k.closes v) (Pulling l (j + 1)) tt; stored = (h a).stored } h)

module _ (P : Numbered → Type 0) where
  step_has : (m : Machine Numbered) (e : Event) → ((a : ℕ) (v : Numbered) → e ≡ event.Take a v → P v) → EachHas P m → EachHas P (lane_step m e).0
  step_has m (event.Take a v) offers h = take_has numbered P m a v (offers a v refl) h
  step_has m (event.Put a) offers h = put_has numbered P m a h
  step_has m (event.Home a) offers h = home_has numbered P m a h
  step_has m (event.Sum a) offers h = sum_has P m a h
  step_has m (event.Look a l) offers h = look_has P m a l h
  step_has m (event.Claim a) offers h = claim_has P m a h
  step_has m (event.Pull a) offers h = pull_has numbered P m a h
  step_has m (event.Split a) offers h = split_has P m a h
  step_has m (event.Join a b) offers h = join_has P m a b h

  run_has : (es : List Event) (m : Machine Numbered) → ((a : ℕ) (v : Numbered) → Contains es (event.Take a v) → P v) → EachHas P m → EachHas P (run m es)
  run_has [] m offers h = h
  run_has (e ∷ es) m offers h = run_has es (lane_step m e).0 (λ a v c. let lt = c.1 in offers a v (suc c.0, omega arith, c.2)) (step_has m e (λ a v is. offers a v (0, omega arith, is)) h)

  start_has : (lanes : ℕ) → EachHas P (start lanes)
  unfolding StandHas
  start_has lanes zero = record { stand = tt; stored = All-nil P }
  start_has lanes (suc a) = has_none P

pub stored_was_offered : (lanes : ℕ) (events : List Event) (v : Numbered) → IsStored numbered (run (start lanes) events) v → IsOffered events v
stored_was_offered lanes events v h = All-contains (IsOffered events) (actor_at (run (start lanes) events) h.0).stored v
    (run_has (IsOffered events) events (start lanes) (λ a v c. (a, c)) (start_has (IsOffered events) lanes) h.0).stored h.1
