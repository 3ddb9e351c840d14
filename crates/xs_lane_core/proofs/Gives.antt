-- What a claim of a whole lane gives is one list of values, and no later event changes it.
use Rattle.std.proofs.Common.{◌≡◌, ◌≢◌, ℕ, zero, suc, ◌+◌, ◌<◌, ◌≤◌, Bool, true, false, true≢false, List, [], ◌∷◌, ◌++◌, length, get_or, get_or-set_same, get_or-set_other, set, Option, Some, None, sym, refl, ap, ap₂, ◌∙◌, subst, arith}
use Rattle.std.specs.List.{Contains, slice_get}
use Rattle.std.proofs.Math.ListN.{get_or-append}
use Rattle.std.proofs.lemmas.List.Elements.{All-contains, Contains-append_left, Contains-append_right}
use mathlib.Core.Logic.{dite}
use native.Mathlib.Decide.{ℕ_discrete, dec_le}
use Rattle.xs_lane_core.specs.Places.{places, HasEvery}
use Rattle.xs_lane_core.specs.declared.values.Numbered.{Numbered}
use Rattle.xs_lane_core.specs.declared.values.Event.{Event}
use Rattle.xs_lane_core.specs.declared.values.Event.TheVariants as event
use Rattle.xs_lane_core.specs.declared.values.Stand.TheVariants.{Pulling}
use Rattle.xs_lane_core.specs.Machine.{Placing, Actor, Machine, lane_at, actor_at, value_at, nobody, joined}
use Rattle.xs_lane_core.specs.Steps.{takes, puts, homes, sums, looks, claims, pulls, splits, joins}
use Rattle.xs_lane_core.specs.Sound.{lies, PullsUpToClosing, IsOf, NoneClosesBefore, ClosesNotBefore, IsLeastClosing, closes_at, IsSound}
use Rattle.xs_lane_core.specs.LaneStep.{numbered, lane_step, run}
use Rattle.xs_lane_core.specs.Claim.{IsStored, GivesFrom, ClaimGives}
use Rattle.xs_lane_core.proofs.Placed.{is_closing}
use Rattle.xs_lane_core.proofs.Finds.{finds_whole, finds_least, some_stored, one_value}
use Rattle.xs_lane_core.proofs.Refusals.{next_lies}
use Rattle.xs_lane_core.proofs.Cases.{takes_case, puts_case, homes_case, sums_case, looks_case, claims_case, pulls_case, splits_case, joins_case}

none_of_nobody : (V : Type 0) (m : Machine V) (a : ℕ) (v : V) → Contains (actor_at m a).stored v → a < length m.actors
none_of_nobody V m a v c = dite (dec_le (length m.actors) a) (λ le. let e : length (actor_at m a).stored ≡ 0 = ap (λ (z : Actor V). length z.stored) (past m.actors a nobody le) in let lt = c.1 in absurd (omega arith)) (λ no. omega arith)
  where
    past : (l : List (Actor V)) (i : ℕ) (d : Actor V) → length l ≤ i → get_or l i d ≡ d
    past [] i d le = refl
    past (x ∷ xs) zero d le = absurd (omega arith)
    past (x ∷ xs) (suc i) d le = past xs i d (omega arith)

module _ {V : Type 0} (k : Placing V) where
  -- an actor changes, and still has what it stored
  stored_stays : (m : Machine V) (a : ℕ) (q : Actor V) (v : V) → (Contains (actor_at m a).stored v → Contains q.stored v) → IsStored k m v → IsStored k record { lanes = m.lanes; actors = set m.actors a q } v
  stored_stays m a q v more h = dite (ℕ_discrete h.0 a)
      (λ e. let c : Contains (actor_at m a).stored v = subst (λ b. Contains (actor_at m b).stored v) e h.1 in (a, subst (λ (z : Actor V). Contains z.stored v) (sym (get_or-set_same m.actors a q nobody (none_of_nobody V m a v c))) (more c)))
      (λ ne. (h.0, subst (λ (z : Actor V). Contains z.stored v) (sym (get_or-set_other m.actors a h.0 q nobody ne)) h.1))

  stored_pushed : (m : Machine V) (q : Actor V) (v : V) → IsStored k m v → IsStored k record { lanes = m.lanes; actors = m.actors ++ q ∷ [] } v
  stored_pushed m q v h = (h.0, subst (λ (z : Actor V). Contains z.stored v) (sym (get_or-append m.actors (q ∷ []) nobody h.0 (none_of_nobody V m h.0 v h.1))) h.1)

  stored_joined : (m : Machine V) (a b : ℕ) (v : V) → a < length m.actors → a ≢ b → IsStored k m v → IsStored k record { lanes = m.lanes; actors = set (set m.actors a (joined (actor_at m a) (actor_at m b))) b nobody } v
  stored_joined m a b v lt ne h = let x : Actor V = actor_at m a in let y : Actor V = actor_at m b in let z : Actor V = joined x y in let first = set m.actors a z in
      let there : get_or (set first b nobody) a nobody ≡ z = get_or-set_other first b a nobody nobody ne ∙ get_or-set_same m.actors a z nobody lt in
      let in_a : Contains z.stored v → IsStored k record { lanes = m.lanes; actors = set first b nobody } v = λ c. (a, subst (λ (z : Actor V). Contains z.stored v) (sym there) c) in
      dite (ℕ_discrete h.0 a) (λ e. in_a (Contains-append_left x.stored y.stored v (subst (λ i. Contains (actor_at m i).stored v) e h.1)))
      (λ na. dite (ℕ_discrete h.0 b) (λ e. in_a (Contains-append_right x.stored y.stored v (subst (λ i. Contains (actor_at m i).stored v) e h.1)))
      (λ nb. (h.0, subst (λ (z : Actor V). Contains z.stored v) (sym (get_or-set_other first b h.0 nobody nobody nb ∙ get_or-set_other m.actors a h.0 z nobody na)) h.1)))

  pub take_stores : (m : Machine V) (a : ℕ) (u v : V) → IsStored k m v → IsStored k (takes k m a u).0 v
  take_stores m a u v h = takes_case k (λ r. IsStored k r.0 v) m a u h (λ _ _ _ _ _. stored_stays m a _ v (λ c. c) h) (λ _ _ _ _ _. stored_stays m a _ v (λ c. c) h)

  pub put_stores : (m : Machine V) (a : ℕ) (v : V) → IsStored k m v → IsStored k (puts k m a).0 v
  put_stores m a v h = puts_case k (λ r. IsStored k r.0 v) m a h (λ u _ _ _ _. stored_stays m a _ v (λ c. c) h)

  pub home_stores : (m : Machine V) (a : ℕ) (v : V) → IsStored k m v → IsStored k (homes k m a).0 v
  home_stores m a v h = homes_case k (λ r. IsStored k r.0 v) m a h (λ u _ _ _. stored_stays m a _ v (λ c. Contains-append_left (actor_at m a).stored (u ∷ []) v c) h)

  pub sum_stores : (m : Machine V) (a : ℕ) (v : V) → IsStored k m v → IsStored k (sums m a).0 v
  sum_stores m a v h = sums_case (λ r. IsStored k r.0 v) m a h (λ l o _ _ _. stored_stays m a _ v (λ c. c) h)

  pub look_stores : (m : Machine V) (a l : ℕ) (v : V) → IsStored k m v → IsStored k (looks m a l).0 v
  look_stores m a l v h = looks_case (λ r. IsStored k r.0 v) m a l h (λ _ _ _. stored_stays m a _ v (λ c. c) h)

  pub claim_stores : (m : Machine V) (a : ℕ) (v : V) → IsStored k m v → IsStored k (claims m a).0 v
  claim_stores m a v h = claims_case (λ r. IsStored k r.0 v) m a h (λ l _ _ _ _. stored_stays m a _ v (λ c. c) h) (λ l _ _ _ _. stored_stays m a _ v (λ c. c) h)

  pub pull_stores : (m : Machine V) (a : ℕ) (v : V) → IsStored k m v → IsStored k (pulls k m a).0 v
  pull_stores m a v h = pulls_case k (λ r. IsStored k r.0 v) m a h (λ l j u _ _ _ _. stored_stays m a _ v (λ c. c) h)

  pub split_stores : (m : Machine V) (a : ℕ) (v : V) → IsStored k m v → IsStored k (splits m a).0 v
  split_stores m a v h = splits_case (λ r. IsStored k r.0 v) m a h (λ _ _. stored_pushed record { lanes = m.lanes; actors = set m.actors a _ } _ v (stored_stays m a _ v (λ c. c) h))

  pub join_stores : (m : Machine V) (a b : ℕ) (v : V) → IsStored k m v → IsStored k (joins m a b).0 v
  join_stores m a b v h = joins_case (λ r. IsStored k r.0 v) m a b h (λ lt _ ne _ _. stored_joined m a b v lt ne h)

  -- what is given stays, where what is stored stays
  pub gives_more : (m n : Machine V) → ((v : V) → IsStored k m v → IsStored k n v) → (vs : List V) (l p : ℕ) → GivesFrom k m l p vs → GivesFrom k n l p vs
  gives_more m n more [] l p g = g
  gives_more m n more (v ∷ vs) l p g = (more v g.0, g.1, g.2, g.3, λ e. gives_more m n more vs l (suc p) (g.4 e))

  stored_is : (m : Machine V) (s : IsSound k m) (v : V) → IsStored k m v → IsOf k s.value v
  stored_is m s v h = All-contains (IsOf k s.value) (actor_at m h.0).stored v (s.one_holder.stored h.0) h.1

  same_rest : (v w : V) (vs ws : List V) (b : Bool) → k.closes v ≡ b → v ≡ w → (k.closes v ≡ true → vs ≡ []) → (k.closes w ≡ true → ws ≡ []) → (k.closes v ≡ false → k.closes w ≡ false → vs ≡ ws) → vs ≡ ws
  same_rest v w vs ws true e same f g h = f e ∙ sym (g (sym (ap k.closes same) ∙ e))
  same_rest v w vs ws false e same f g h = h e (sym (ap k.closes same) ∙ e)

  gives_one_from : (m : Machine V) → IsSound k m → (vs ws : List V) (l p : ℕ) → GivesFrom k m l p vs → GivesFrom k m l p ws → vs ≡ ws
  gives_one_from m s [] ws l p g h = absurd g
  gives_one_from m s (v ∷ vs) [] l p g h = absurd h
  gives_one_from m s (v ∷ vs) (w ∷ ws) l p g h = let same : v ≡ w = one_value k s.value v w (stored_is m s v g.0) (stored_is m s w h.0) (g.1 ∙ sym h.1) (g.2 ∙ sym h.2) in
      ap₂ (λ x xs. x ∷ xs) same (same_rest v w vs ws (k.closes v) refl same g.3 h.3 (λ e f. gives_one_from m s vs ws l (suc p) (g.4 e) (h.4 f)))

  pub gives_one : (m : Machine V) → IsSound k m → (l : ℕ) (vs ws : List V) → ClaimGives k m l vs → ClaimGives k m l ws → vs ≡ ws
  gives_one m s l vs ws = gives_one_from m s vs ws l 0

  none_before_less : (m : Machine V) (l c p : ℕ) → p ≤ c → NoneClosesBefore k m l c → NoneClosesBefore k m l p
  none_before_less m l c p le none a i d lt here closes = let h = none a i d lt here closes in omega arith

  -- the stored value of a place up to the least closing one
  found_at : (m : Machine V) → IsSound k m → (l c p : ℕ) → HasEvery (lane_at m l).summary → c < places → IsLeastClosing k m l c → p ≤ c → (v : V) × IsStored k m v × (k.lane v ≡ l) × (k.place v ≡ p)
  found_at m s l c p every lt least le = let r = finds_whole k m s l p (omega arith) every (none_before_less m l c p le least.0) in (r.1, (r.0, r.4), r.2, r.3)

  closing_found : (m : Machine V) → IsSound k m → (l c : ℕ) → IsLeastClosing k m l c → (v : V) → IsStored k m v → k.lane v ≡ l → k.place v ≡ c → k.closes v ≡ true
  closing_found m s l c least v h here there = let r = some_stored k (closes_at k l c) m least.1 in let u : V = r.1 in let g = is_closing k l c u r.2 in
      let same : u ≡ v = one_value k s.value u v (stored_is m s u (r.0, r.3)) (stored_is m s v h) (g.1 ∙ sym here) (g.2 ∙ sym there) in sym (ap k.closes same) ∙ g.0

  with_rest : (m : Machine V) (l p : ℕ) (v : V) (b : Bool) → k.closes v ≡ b → IsStored k m v → k.lane v ≡ l → k.place v ≡ p → (vs : List V) × GivesFrom k m l (suc p) vs → (vs : List V) × GivesFrom k m l p vs
  with_rest m l p v true closes h here there rest = (v ∷ [], (h, here, there, (λ _. refl), λ open_value. absurd (true≢false (sym closes ∙ open_value))))
  with_rest m l p v false open_value h here there rest = (v ∷ rest.0, (h, here, there, (λ closes. absurd (true≢false (sym closes ∙ open_value))), λ _. rest.1))

  gives_up_to : (m : Machine V) → IsSound k m → (l c : ℕ) → HasEvery (lane_at m l).summary → c < places → IsLeastClosing k m l c → (more p : ℕ) → p + more ≡ c → (vs : List V) × GivesFrom k m l p vs
  gives_up_to m s l c every lt least zero p e = let r = found_at m s l c p every lt least (omega arith) in let closes = closing_found m s l c least r.0 r.1 r.2 (r.3 ∙ (let g : p ≡ c = omega arith in g)) in
      (r.0 ∷ [], (r.1, r.2, r.3, (λ _. refl), λ open_value. absurd (true≢false (sym closes ∙ open_value))))
  gives_up_to m s l c every lt least (suc more) p e = let r = found_at m s l c p every lt least (omega arith) in with_rest m l p r.0 (k.closes r.0) refl r.1 r.2 r.3 (gives_up_to m s l c every lt least more (suc p) (omega arith))

  pub gives_some : (m : Machine V) → IsSound k m → (l : ℕ) → HasEvery (lane_at m l).summary → (vs : List V) × ClaimGives k m l vs
  gives_some m s l every = let r = finds_least k m s l every in gives_up_to m s l r.0 every r.1 r.2 r.0 0 (omega arith)

module _ {V : Type 0} (k : Placing V) where
  -- the value at a place before which nothing closes is in the list
  gives_at : (m : Machine V) → IsSound k m → (vs : List V) (l p i : ℕ) → GivesFrom k m l p vs → NoneClosesBefore k m l (p + i) → (v : V) × (slice_get vs i ≡ Some v) × IsStored k m v × (k.lane v ≡ l) × (k.place v ≡ p + i)
  gives_at m s [] l p i g none = absurd g
  gives_at m s (v ∷ vs) l p zero g none = (v, refl, g.0, g.1, g.2 ∙ (let e : p ≡ p + 0 = omega arith in e))
  gives_at m s (v ∷ vs) l p (suc i) g none = let open_value : k.closes v ≡ false = by_end (k.closes v) refl in let e : p + suc i ≡ suc p + i = omega arith in
      let r = gives_at m s vs l (suc p) i (g.4 open_value) (subst (NoneClosesBefore k m l) e none) in (r.0, r.1, r.2, r.3, r.4 ∙ sym e)
    where
      by_end : (b : Bool) → k.closes v ≡ b → k.closes v ≡ false
      by_end true e = let h = All-contains (ClosesNotBefore k l (p + suc i)) (actor_at m g.0.0).stored v (none g.0.0) g.0.1 g.1 e in let at_p = g.2 in absurd (omega arith)
      by_end false e = e

  lies_some : (o : Option V) → lies o ≡ 1 → (v : V) × (o ≡ Some v)
  lies_some None e = absurd (omega arith)
  lies_some (Some v) e = (v, refl)

  -- what is pulled next is the next value of the list
  pub pulls_given : (m : Machine V) → IsSound k m → (a l j : ℕ) (vs : List V) → ClaimGives k m l vs → (actor_at m a).stand ≡ Pulling l j → (v : V) × (value_at m l j ≡ Some v) × (slice_get vs j ≡ Some v)
  pulls_given m s a l j vs g stand = let up_to : NoneClosesBefore k m l j = subst (PullsUpToClosing k m) stand (s.claimers.up_to_closing a) in let n = next_lies k m a l j s stand in let o = lies_some (value_at m l j) n.1 in
      let zero_j : j ≡ 0 + j = omega arith in let r = gives_at m s vs l 0 j g (subst (NoneClosesBefore k m l) zero_j up_to) in let at_place = s.map_follows.lying l j o.0 o.1 in let is = stored_is k m s r.0 r.2 in let here : s.value l j ≡ Some r.0 = (λ i. s.value (sym r.3 i) ((zero_j ∙ sym r.4) i)) ∙ is in
      (o.0, o.1, r.1 ∙ (sym here ∙ at_place))

step_stores : (m : Machine Numbered) (e : Event) (v : Numbered) → IsStored numbered m v → IsStored numbered (lane_step m e).0 v
step_stores m (event.Take a u) v = take_stores numbered m a u v
step_stores m (event.Put a) v = put_stores numbered m a v
step_stores m (event.Home a) v = home_stores numbered m a v
step_stores m (event.Sum a) v = sum_stores numbered m a v
step_stores m (event.Look a l) v = look_stores numbered m a l v
step_stores m (event.Claim a) v = claim_stores numbered m a v
step_stores m (event.Pull a) v = pull_stores numbered m a v
step_stores m (event.Split a) v = split_stores numbered m a v
step_stores m (event.Join a b) v = join_stores numbered m a b v

pub run_stores : (es : List Event) (m : Machine Numbered) (v : Numbered) → IsStored numbered m v → IsStored numbered (run m es) v
run_stores [] m v h = h
run_stores (e ∷ es) m v h = run_stores es (lane_step m e).0 v (step_stores m e v h)

pub run_gives : (m : Machine Numbered) (es : List Event) (l : ℕ) (vs : List Numbered) → ClaimGives numbered m l vs → ClaimGives numbered (run m es) l vs
run_gives m es l vs = gives_more numbered m (run m es) (run_stores es m) vs l 0
