-- A refused event changes nothing, and an event of a sound machine is refused exactly where it is not allowed.
use Rattle.std.proofs.Common.{◌≡◌, ◌↔◌, ℕ, zero, suc, ◌<◌, ◌≤◌, Bool, true, false, true≢false, not, ◌&&◌, cond, if◌then◌else◌, nat_eq, nat_lt, List, [], ◌∷◌, ◌++◌, length, get_or, set, Option, Some, None, sym, refl, ap, ◌∙◌, subst, arith}
use Rattle.std.specs.Int.{bit_at}
use Rattle.std.proofs.lemmas.Bool.{lt-ltb, le-ltb}
use Rattle.std.proofs.lemmas.Nat.Bits.{bit_at-zero}
use mathlib.Core.Logic.{dite}
use native.Mathlib.Decide.{dec_le}
use Rattle.xs_lane_core.specs.Places.{places, place_bit, has, with_words, HasEvery, every_word}
use Rattle.xs_lane_core.specs.declared.values.Numbered.{Numbered}
use Rattle.xs_lane_core.specs.declared.values.Event.{Event}
use Rattle.xs_lane_core.specs.declared.values.Event.TheVariants as event
use Rattle.xs_lane_core.specs.declared.values.Outcome.{Outcome}
use Rattle.xs_lane_core.specs.declared.values.Outcome.TheVariants as outcome
use Rattle.xs_lane_core.specs.declared.values.Stand.{Stand}
use Rattle.xs_lane_core.specs.declared.values.Stand.TheVariants.{Idle, Saw, Holding, Laid, Owing, Pulling, Spent}
use Rattle.xs_lane_core.specs.Machine.{Placing, Lane, Machine, lane_at, actor_at, value_at, no_lane, nobody, mask, acted, changed, with_taken, stands, repeats, sees, halves, copied, joined}
use Rattle.xs_lane_core.specs.Steps.{Answer, Taken, Back, Lies, Owes, Stored, Made, Seen, Claimed, Gone, Pulled, Split, Joined, Refused, allowed, is_free, debt_of, sum_answer, takes, puts_here, puts, homes_here, homes, sums_here, sums, looks, claims_here, claims, pulled, pulls_here, pulls, splits, joins, takes_here}
use Rattle.xs_lane_core.specs.Sound.{holding, laid, at, drawn, OwesDue, lies, IsOf, StandIsOf, StandsAtWhole, PullsUpToClosing, PullsNext, NoneClosesBefore, IsSound}
use Rattle.xs_lane_core.specs.LaneStep.{numbered, outcome_of, lane_step, allows, is_holding, has_laid, is_owing, has_seen, is_pulling}
use Rattle.xs_lane_core.proofs.Placed.{at_here}
use Rattle.xs_lane_core.proofs.Turns.{stand_within}
use Rattle.xs_lane_core.proofs.Finds.{finds_whole, below_closing, stored_counts}
use Rattle.xs_lane_core.proofs.Cases.{takes_case, puts_case, homes_case, sums_case, looks_case, claims_case, pulls_case, splits_case, joins_case}

is_refusal : {V : Type 0} → Answer V → Bool
is_refusal Taken = false
is_refusal (Back v) = false
is_refusal Lies = false
is_refusal Owes = false
is_refusal Stored = false
is_refusal Made = false
is_refusal (Seen mask) = false
is_refusal Claimed = false
is_refusal Gone = false
is_refusal (Pulled v) = false
is_refusal (Split a) = false
is_refusal Joined = false
is_refusal Refused = true

refuses : Outcome → Bool
refuses outcome.Taken = false
refuses (outcome.Back v) = false
refuses outcome.Laid = false
refuses outcome.Owing = false
refuses outcome.Stored = false
refuses outcome.Made = false
refuses (outcome.Seen mask) = false
refuses outcome.Claimed = false
refuses outcome.Gone = false
refuses (outcome.Pulled v) = false
refuses (outcome.Split a) = false
refuses outcome.Joined = false
refuses outcome.Refused = true

home_told : (V : Type 0) (b : Bool) → is_refusal {V = V} (if b then Stored else Owes) ≡ false
unfolding is_refusal
home_told V true = refl
home_told V false = refl

sum_told : (V : Type 0) (before after : ℕ) → is_refusal {V = V} (sum_answer before after) ≡ false
unfolding is_refusal
sum_told V before after = by (not (nat_eq before every_word) && nat_eq after every_word)
  where
    by : (b : Bool) → is_refusal {V = V} (if b then Made else Stored) ≡ false
    by true = refl
    by false = refl

module _ {V : Type 0} where
  unchanged : (m n : Machine V) (x : Answer V) → is_refusal x ≡ false → x ≡ Refused → n ≡ m
  unfolding is_refusal
  unchanged m n x e r = absurd (true≢false (sym (ap is_refusal r) ∙ e))

  pub sum_refused : (m : Machine V) (a : ℕ) → (sums m a).1 ≡ Refused → (sums m a).0 ≡ m
  sum_refused m a = sums_case (λ r. r.1 ≡ Refused → r.0 ≡ m) m a (λ _. refl) (λ l o _ _ _. let x = lane_at m l in unchanged m _ (sum_answer x.summary (with_words x.summary o)) (sum_told V x.summary (with_words x.summary o)))

  pub look_refused : (m : Machine V) (a l : ℕ) → (looks m a l).1 ≡ Refused → (looks m a l).0 ≡ m
  unfolding is_refusal
  look_refused m a l = looks_case (λ r. r.1 ≡ Refused → r.0 ≡ m) m a l (λ _. refl) (λ _ _ _. unchanged m _ (Seen _) refl)

  pub claim_refused : (m : Machine V) (a : ℕ) → (claims m a).1 ≡ Refused → (claims m a).0 ≡ m
  unfolding is_refusal
  claim_refused m a = claims_case (λ r. r.1 ≡ Refused → r.0 ≡ m) m a (λ _. refl) (λ l _ _ _ _. unchanged m _ Gone refl) (λ l _ _ _ _. unchanged m _ Claimed refl)

  pub split_refused : (m : Machine V) (a : ℕ) → (splits m a).1 ≡ Refused → (splits m a).0 ≡ m
  unfolding is_refusal
  split_refused m a = splits_case (λ r. r.1 ≡ Refused → r.0 ≡ m) m a (λ _. refl) (λ _ _. unchanged m _ (Split _) refl)

  pub join_refused : (m : Machine V) (a b : ℕ) → (joins m a b).1 ≡ Refused → (joins m a b).0 ≡ m
  unfolding is_refusal
  join_refused m a b = joins_case (λ r. r.1 ≡ Refused → r.0 ≡ m) m a b (λ _. refl) (λ _ _ _ _ _. unchanged m _ Joined refl)

module _ {V : Type 0} (k : Placing V) where
  pub take_refused : (m : Machine V) (a : ℕ) (v : V) → (takes k m a v).1 ≡ Refused → (takes k m a v).0 ≡ m
  unfolding is_refusal
  take_refused m a v = takes_case k (λ r. r.1 ≡ Refused → r.0 ≡ m) m a v (λ _. refl) (λ _ _ _ _ _. unchanged m _ Taken refl) (λ _ _ _ _ _. unchanged m _ (Back v) refl)

  pub put_refused : (m : Machine V) (a : ℕ) → (puts k m a).1 ≡ Refused → (puts k m a).0 ≡ m
  unfolding is_refusal
  put_refused m a = puts_case k (λ r. r.1 ≡ Refused → r.0 ≡ m) m a (λ _. refl) (λ v _ _ _ _. unchanged m _ Lies refl)

  pub home_refused : (m : Machine V) (a : ℕ) → (homes k m a).1 ≡ Refused → (homes k m a).0 ≡ m
  home_refused m a = homes_case k (λ r. r.1 ≡ Refused → r.0 ≡ m) m a (λ _. refl) (λ v _ _ _. unchanged m _ (if nat_eq (debt_of k m v) 0 then Stored else Owes) (home_told V (nat_eq (debt_of k m v) 0)))

  pub pull_refused : (m : Machine V) (a : ℕ) → (pulls k m a).1 ≡ Refused → (pulls k m a).0 ≡ m
  unfolding is_refusal
  pull_refused m a = pulls_case k (λ r. r.1 ≡ Refused → r.0 ≡ m) m a (λ _. refl) (λ l j v _ _ _ _. unchanged m _ (Pulled v) refl)

told_refused : (x : Answer Numbered) → outcome_of x ≡ outcome.Refused → x ≡ Refused
unfolding refuses
told_refused Taken e = absurd (true≢false (sym (ap refuses e)))
told_refused (Back v) e = absurd (true≢false (sym (ap refuses e)))
told_refused Lies e = absurd (true≢false (sym (ap refuses e)))
told_refused Owes e = absurd (true≢false (sym (ap refuses e)))
told_refused Stored e = absurd (true≢false (sym (ap refuses e)))
told_refused Made e = absurd (true≢false (sym (ap refuses e)))
told_refused (Seen mask) e = absurd (true≢false (sym (ap refuses e)))
told_refused Claimed e = absurd (true≢false (sym (ap refuses e)))
told_refused Gone e = absurd (true≢false (sym (ap refuses e)))
told_refused (Pulled v) e = absurd (true≢false (sym (ap refuses e)))
told_refused (Split a) e = absurd (true≢false (sym (ap refuses e)))
told_refused Joined e = absurd (true≢false (sym (ap refuses e)))
told_refused Refused e = refl

pub step_refused : (m : Machine Numbered) (e : Event) → (lane_step m e).1 ≡ outcome.Refused → (lane_step m e).0 ≡ m
step_refused m (event.Take a v) r = take_refused numbered m a v (told_refused _ r)
step_refused m (event.Put a) r = put_refused numbered m a (told_refused _ r)
step_refused m (event.Home a) r = home_refused numbered m a (told_refused _ r)
step_refused m (event.Sum a) r = sum_refused m a (told_refused _ r)
step_refused m (event.Look a l) r = look_refused m a l (told_refused _ r)
step_refused m (event.Claim a) r = claim_refused m a (told_refused _ r)
step_refused m (event.Pull a) r = pull_refused numbered m a (told_refused _ r)
step_refused m (event.Split a) r = split_refused m a (told_refused _ r)
step_refused m (event.Join a b) r = join_refused m a b (told_refused _ r)

-- refused exactly where the test fails
abbrev Exactly : {V : Type 0} → Machine V × Answer V → Bool → Type 0
Exactly r test = is_refusal r.1 ≡ not test

module _ {V : Type 0} where
  tested : (m : Machine V) (test : Bool) (next : Machine V × Answer V) → is_refusal next.1 ≡ false → Exactly (allowed m test next) test
  unfolding is_refusal
  tested m true next e = e
  tested m false next e = refl

  tested_then : (m : Machine V) (test more : Bool) (next : Machine V × Answer V) → (test ≡ true → Exactly next more) → Exactly (allowed m test next) (test && more)
  unfolding is_refusal
  tested_then m true more next e = e refl
  tested_then m false more next e = refl

  passes : (m : Machine V) (test : Bool) (next : Machine V × Answer V) → test ≡ true → is_refusal next.1 ≡ false → is_refusal (allowed m test next).1 ≡ false
  passes m true next t e = e
  passes m false next t e = absurd (true≢false (sym t))

  either_told : (test : Bool) (x y : Machine V × Answer V) → is_refusal x.1 ≡ false → is_refusal y.1 ≡ false → is_refusal (if test then x else y).1 ≡ false
  either_told true x y e f = e
  either_told false x y e f = f

  lane_there : (m : Machine V) (l : ℕ) (f : Lane V → ℕ) → f no_lane ≡ 0 → 0 < f (lane_at m l) → nat_lt l (length m.lanes) ≡ true
  lane_there m l f none lit = dite (dec_le (length m.lanes) l)
      (λ le. let e : f (lane_at m l) ≡ f no_lane = ap f (past m.lanes l no_lane le) in absurd (omega arith))
      (λ no. lt-ltb l (length m.lanes) (omega arith))
    where
      past : (xs : List (Lane V)) (i : ℕ) (d : Lane V) → length xs ≤ i → get_or xs i d ≡ d
      past [] i d le = refl
      past (x ∷ xs) zero d le = absurd (omega arith)
      past (x ∷ xs) (suc i) d le = past xs i d (omega arith)

  taken_there : (m : Machine V) (l p : ℕ) → 0 < has (lane_at m l).taken p → nat_lt l (length m.lanes) ≡ true
  taken_there m l p = lane_there m l (λ z. has z.taken p) (bit_at-zero (place_bit p))

  whole_there : (m : Machine V) (l : ℕ) → HasEvery (lane_at m l).summary → nat_lt l (length m.lanes) ≡ true
  whole_there m l every = lane_there m l (λ z. bit_at z.summary 0) (bit_at-zero 0) (let h = every 0 (omega arith) in omega arith)

module _ {V : Type 0} (k : Placing V) where
  held_there : (m : Machine V) (a : ℕ) (v : V) → IsSound k m → (actor_at m a).stand ≡ Holding v → (nat_lt (k.lane v) (length m.lanes) ≡ true) × (nat_lt (k.place v) places ≡ true)
  held_there m a v s stand = let l : ℕ = k.lane v in let p : ℕ = k.place v in let h = stand_within (holding k l p) m a refl in let g : holding k l p (actor_at m a).stand ≡ at k l p v = ap (holding k l p) stand in let one = at_here k l p v refl refl in
      let o = s.one_holder.once l p in let is : IsOf k s.value v = subst (StandIsOf k s.value) stand (s.one_holder.standing a) in
      (taken_there m l p (omega arith), lt-ltb p places (s.one_holder.own l p v is).2)

  laid_there : (m : Machine V) (a : ℕ) (v : V) → IsSound k m → (actor_at m a).stand ≡ Laid v → (nat_lt (k.lane v) (length m.lanes) ≡ true) × (nat_lt (k.place v) places ≡ true)
  laid_there m a v s stand = let l : ℕ = k.lane v in let p : ℕ = k.place v in let h = stand_within (laid k l p) m a refl in let g : laid k l p (actor_at m a).stand ≡ at k l p v = ap (laid k l p) stand in let one = at_here k l p v refl refl in
      let o = s.one_holder.once l p in let is : IsOf k s.value v = subst (StandIsOf k s.value) stand (s.one_holder.standing a) in
      (taken_there m l p (omega arith), lt-ltb p places (s.one_holder.own l p v is).2)

  -- the value that is pulled next lies at its place
  pub next_lies : (m : Machine V) (a l j : ℕ) → IsSound k m → (actor_at m a).stand ≡ Pulling l j → (j < places) × (lies (value_at m l j) ≡ 1)
  next_lies m a l j s stand = let every : HasEvery (lane_at m l).summary = subst (StandsAtWhole m) stand (s.claimers.whole a) in let up_to : NoneClosesBefore k m l j = subst (PullsUpToClosing k m) stand (s.claimers.up_to_closing a) in
      let at_next : j ≡ drawn k m l = subst (PullsNext k m) stand (s.got_in_order.next a) in let low = below_closing k m s l j every up_to in let found = finds_whole k m s l j low every up_to in
      let c = stored_counts k (at k l j) m found.0 found.1 found.4 in let one = at_here k l j found.1 found.2 found.3 in
      let none = s.got_in_order.first_ones l j ∙ ap (λ (b : Bool). cond {A = ℕ} b 1 0) (le-ltb j (drawn k m l) (omega arith)) in let f = s.map_follows.filled l j in let most = lies_most (value_at m l j) in (low, omega arith)
    where
      lies_most : (o : Option V) → lies o ≤ 1
      lies_most None = omega arith
      lies_most (Some v) = omega arith

  pulled_told : (m : Machine V) (a l j : ℕ) (o : Option V) → lies o ≡ 1 → is_refusal (pulled k m a l j o).1 ≡ false
  unfolding is_refusal
  pulled_told m a l j (Some v) e = refl
  pulled_told m a l j None e = absurd (omega arith)

puts_exactly : (m : Machine Numbered) (a : ℕ) (s : Stand Numbered) → IsSound numbered m → (actor_at m a).stand ≡ s → Exactly (puts_here numbered m a s) (is_holding s)
unfolding is_refusal
puts_exactly m a (Holding v) s e = let h = held_there numbered m a v s e in passes m _ _ h.0 (passes m _ _ h.1 refl)
puts_exactly m a Idle s e = refl
puts_exactly m a (Saw l) s e = refl
puts_exactly m a (Laid v) s e = refl
puts_exactly m a (Owing l o) s e = refl
puts_exactly m a (Pulling l j) s e = refl
puts_exactly m a Spent s e = refl

homes_exactly : (m : Machine Numbered) (a : ℕ) (s : Stand Numbered) → IsSound numbered m → (actor_at m a).stand ≡ s → Exactly (homes_here numbered m a s) (has_laid s)
unfolding is_refusal
homes_exactly m a (Laid v) s e = let h = laid_there numbered m a v s e in passes m _ _ h.0 (passes m _ _ h.1 (home_told Numbered (nat_eq (debt_of numbered m v) 0)))
homes_exactly m a Idle s e = refl
homes_exactly m a (Saw l) s e = refl
homes_exactly m a (Holding v) s e = refl
homes_exactly m a (Owing l o) s e = refl
homes_exactly m a (Pulling l j) s e = refl
homes_exactly m a Spent s e = refl

sums_exactly : (m : Machine Numbered) (a : ℕ) (s : Stand Numbered) → IsSound numbered m → (actor_at m a).stand ≡ s → Exactly (sums_here m a s) (is_owing s)
unfolding is_refusal
sums_exactly m a (Owing l o) s e = let debt : OwesDue numbered m (Owing l o) = subst (OwesDue numbered m) e (s.summary_follows.debts a) in
    passes m _ _ (lt-ltb l (length m.lanes) debt.0) (sum_told Numbered (lane_at m l).summary (with_words (lane_at m l).summary o))
sums_exactly m a Idle s e = refl
sums_exactly m a (Saw l) s e = refl
sums_exactly m a (Holding v) s e = refl
sums_exactly m a (Laid v) s e = refl
sums_exactly m a (Pulling l j) s e = refl
sums_exactly m a Spent s e = refl

claims_exactly : (m : Machine Numbered) (a : ℕ) (s : Stand Numbered) → IsSound numbered m → (actor_at m a).stand ≡ s → Exactly (claims_here m a s) (has_seen s)
unfolding is_refusal
claims_exactly m a (Saw l) s e = passes m _ _ (whole_there m l (subst (StandsAtWhole m) e (s.claimers.whole a))) (either_told (lane_at m l).claimed _ _ refl refl)
claims_exactly m a Idle s e = refl
claims_exactly m a (Holding v) s e = refl
claims_exactly m a (Laid v) s e = refl
claims_exactly m a (Owing l o) s e = refl
claims_exactly m a (Pulling l j) s e = refl
claims_exactly m a Spent s e = refl

pulls_exactly : (m : Machine Numbered) (a : ℕ) (s : Stand Numbered) → IsSound numbered m → (actor_at m a).stand ≡ s → Exactly (pulls_here numbered m a s) (is_pulling s)
unfolding is_refusal
pulls_exactly m a (Pulling l j) s e = let n = next_lies numbered m a l j s e in passes m _ _ (whole_there m l (subst (StandsAtWhole m) e (s.claimers.whole a))) (passes m _ _ (lt-ltb j places n.0) (pulled_told numbered m a l j (value_at m l j) n.1))
pulls_exactly m a Idle s e = refl
pulls_exactly m a (Saw l) s e = refl
pulls_exactly m a (Holding v) s e = refl
pulls_exactly m a (Laid v) s e = refl
pulls_exactly m a (Owing l o) s e = refl
pulls_exactly m a Spent s e = refl

exactly_of : (x : Answer Numbered) (test : Bool) → is_refusal x ≡ not test → (outcome_of x ≡ outcome.Refused) ↔ (test ≡ false)
unfolding is_refusal
exactly_of x test e = ((λ r. from test (sym e ∙ ap is_refusal (told_refused x r))), λ t. ap outcome_of (is x (e ∙ ap not t)))
  where
    from : (b : Bool) → not b ≡ true → b ≡ false
    from true h = sym h
    from false h = refl

    is : (x : Answer Numbered) → is_refusal x ≡ true → x ≡ Refused
    is Taken h = absurd (true≢false (sym h))
    is (Back v) h = absurd (true≢false (sym h))
    is Lies h = absurd (true≢false (sym h))
    is Owes h = absurd (true≢false (sym h))
    is Stored h = absurd (true≢false (sym h))
    is Made h = absurd (true≢false (sym h))
    is (Seen mask) h = absurd (true≢false (sym h))
    is Claimed h = absurd (true≢false (sym h))
    is Gone h = absurd (true≢false (sym h))
    is (Pulled v) h = absurd (true≢false (sym h))
    is (Split a) h = absurd (true≢false (sym h))
    is Joined h = absurd (true≢false (sym h))
    is Refused h = refl

module _ {V : Type 0} where
  two_tests : (m : Machine V) (b c : Bool) (next : Machine V × Answer V) → is_refusal next.1 ≡ false → Exactly (allowed m b (allowed m c next)) (b && c)
  unfolding is_refusal
  two_tests m true true next e = e
  two_tests m true false next e = refl
  two_tests m false c next e = refl

  three_tests : (m : Machine V) (b c d : Bool) (next : Machine V × Answer V) → is_refusal next.1 ≡ false → Exactly (allowed m b (allowed m c (allowed m d next))) (b && c && d)
  unfolding is_refusal
  three_tests m true true true next e = e
  three_tests m true true false next e = refl
  three_tests m true false d next e = refl
  three_tests m false c d next e = refl

  four_tests : (m : Machine V) (b c d f : Bool) (next : Machine V × Answer V) → is_refusal next.1 ≡ false → Exactly (allowed m b (allowed m c (allowed m d (allowed m f next)))) (b && c && d && f)
  unfolding is_refusal
  four_tests m true true true true next e = e
  four_tests m true true true false next e = refl
  four_tests m true true false f next e = refl
  four_tests m true false d f next e = refl
  four_tests m false c d f next e = refl

  five_tests : (m : Machine V) (b c d f g : Bool) (next : Machine V × Answer V) → is_refusal next.1 ≡ false → Exactly (allowed m b (allowed m c (allowed m d (allowed m f (allowed m g next))))) (b && c && d && f && g)
  unfolding is_refusal
  five_tests m true true true true true next e = e
  five_tests m true true true true false next e = refl
  five_tests m true true true false g next e = refl
  five_tests m true true false f g next e = refl
  five_tests m true false d f g next e = refl
  five_tests m false c d f g next e = refl

take_told : (m : Machine Numbered) (a : ℕ) (v : Numbered) → is_refusal (takes_here numbered m a v).1 ≡ false
unfolding is_refusal
take_told m a v = either_told (nat_eq (has (lane_at m v.lane).taken v.place) 0)
    (changed m v.lane (with_taken (lane_at m v.lane) v.place) a (stands (Holding v) (actor_at m a)), Taken)
    (acted m a (repeats v.lane v.place (actor_at m a)), Back v) refl refl

take_exactly : (m : Machine Numbered) (a : ℕ) (v : Numbered) → Exactly (takes numbered m a v) (allows m (event.Take a v))
take_exactly m a v = four_tests m (nat_lt a (length m.actors)) (nat_lt v.lane (length m.lanes)) (nat_lt v.place places) (is_free (actor_at m a).stand) (takes_here numbered m a v) (take_told m a v)

look_exactly : (m : Machine Numbered) (a l : ℕ) → Exactly (looks m a l) (allows m (event.Look a l))
unfolding is_refusal
look_exactly m a l = three_tests m (nat_lt a (length m.actors)) (nat_lt l (length m.lanes)) (is_free (actor_at m a).stand)
    (acted m a (sees (if nat_eq (lane_at m l).summary every_word then Saw l else Idle) l (lane_at m l).summary (actor_at m a)), Seen (lane_at m l).summary) refl

split_exactly : (m : Machine Numbered) (a : ℕ) → Exactly (splits m a) (allows m (event.Split a))
unfolding is_refusal
split_exactly m a = two_tests m (nat_lt a (length m.actors)) (is_free (actor_at m a).stand) (record { lanes = m.lanes; actors = set m.actors a (halves (actor_at m a)) ++ copied (actor_at m a) ∷ [] }, Split (length m.actors)) refl

join_exactly : (m : Machine Numbered) (a b : ℕ) → Exactly (joins m a b) (allows m (event.Join a b))
unfolding is_refusal
join_exactly m a b = five_tests m (nat_lt a (length m.actors)) (nat_lt b (length m.actors)) (not (nat_eq a b)) (is_free (actor_at m a).stand) (is_free (actor_at m b).stand)
    (record { lanes = m.lanes; actors = set (set m.actors a (joined (actor_at m a) (actor_at m b))) b nobody }, Joined) refl

put_exactly : (m : Machine Numbered) (a : ℕ) → IsSound numbered m → Exactly (puts numbered m a) (allows m (event.Put a))
put_exactly m a s = tested_then m (nat_lt a (length m.actors)) (is_holding (actor_at m a).stand) (puts_here numbered m a (actor_at m a).stand) (λ _. puts_exactly m a (actor_at m a).stand s refl)

home_exactly : (m : Machine Numbered) (a : ℕ) → IsSound numbered m → Exactly (homes numbered m a) (allows m (event.Home a))
home_exactly m a s = tested_then m (nat_lt a (length m.actors)) (has_laid (actor_at m a).stand) (homes_here numbered m a (actor_at m a).stand) (λ _. homes_exactly m a (actor_at m a).stand s refl)

sum_exactly : (m : Machine Numbered) (a : ℕ) → IsSound numbered m → Exactly (sums m a) (allows m (event.Sum a))
sum_exactly m a s = tested_then m (nat_lt a (length m.actors)) (is_owing (actor_at m a).stand) (sums_here m a (actor_at m a).stand) (λ _. sums_exactly m a (actor_at m a).stand s refl)

claim_exactly : (m : Machine Numbered) (a : ℕ) → IsSound numbered m → Exactly (claims m a) (allows m (event.Claim a))
claim_exactly m a s = tested_then m (nat_lt a (length m.actors)) (has_seen (actor_at m a).stand) (claims_here m a (actor_at m a).stand) (λ _. claims_exactly m a (actor_at m a).stand s refl)

pull_exactly : (m : Machine Numbered) (a : ℕ) → IsSound numbered m → Exactly (pulls numbered m a) (allows m (event.Pull a))
pull_exactly m a s = tested_then m (nat_lt a (length m.actors)) (is_pulling (actor_at m a).stand) (pulls_here numbered m a (actor_at m a).stand) (λ _. pulls_exactly m a (actor_at m a).stand s refl)

pub step_exactly : (m : Machine Numbered) (e : Event) → IsSound numbered m → ((lane_step m e).1 ≡ outcome.Refused) ↔ (allows m e ≡ false)
step_exactly m (event.Take a v) s = exactly_of (takes numbered m a v).1 (allows m (event.Take a v)) (take_exactly m a v)
step_exactly m (event.Put a) s = exactly_of (puts numbered m a).1 (allows m (event.Put a)) (put_exactly m a s)
step_exactly m (event.Home a) s = exactly_of (homes numbered m a).1 (allows m (event.Home a)) (home_exactly m a s)
step_exactly m (event.Sum a) s = exactly_of (sums m a).1 (allows m (event.Sum a)) (sum_exactly m a s)
step_exactly m (event.Look a l) s = exactly_of (looks m a l).1 (allows m (event.Look a l)) (look_exactly m a l)
step_exactly m (event.Claim a) s = exactly_of (claims m a).1 (allows m (event.Claim a)) (claim_exactly m a s)
step_exactly m (event.Pull a) s = exactly_of (pulls numbered m a).1 (allows m (event.Pull a)) (pull_exactly m a s)
step_exactly m (event.Split a) s = exactly_of (splits m a).1 (allows m (event.Split a)) (split_exactly m a)
step_exactly m (event.Join a b) s = exactly_of (joins m a b).1 (allows m (event.Join a b)) (join_exactly m a b)
