-- What each event of the machine does where it is allowed.
use Rattle.std.proofs.Common.{◌≡◌, ℕ, ◌+◌, ◌<◌, Bool, true, false, if◌then◌else◌, nat_eq, nat_lt, eq-eqb, ne_eqb, length, length-set, get_or, get_or-set_same, set, bit_or, Option, Some, None, ap, ◌∙◌, arith}
use Rattle.std.proofs.lemmas.Bool.{lt-ltb}
use Rattle.xs_lane_core.specs.Places.{places, word_of, has, every_word, with_words}
use Rattle.xs_lane_core.specs.declared.values.Stand.{Stand}
use Rattle.xs_lane_core.specs.declared.values.Stand.TheVariants.{Idle, Saw, Holding, Laid, Owing, Pulling}
use Rattle.xs_lane_core.specs.Machine.{Placing, Lane, Actor, Machine, lane_at, actor_at, value_at, nobody, acted, changed, with_taken, with_home, with_summary, with_claim, with_value, stands, repeats, stores, sees, finds_gone, gets, owed, stand_owing, mask}
use Rattle.xs_lane_core.specs.Steps.{Answer, Taken, Back, Lies, Owes, Stored, Seen, Claimed, Gone, Pulled, allowed, is_free, takes, puts_here, puts, debt_of, homed, homes_here, homes, sum_answer, sums_here, sums, looks, claims_here, claims, pulled, pulls_here, pulls}
use Rattle.xs_lane_core.proofs.Turns.{lane_here}
use Rattle.xs_lanes.proofs.Lists.{set_twice}

module _ {T : Type 0} where
  allowed_is : (m : Machine T) (test : Bool) (next : Machine T × Answer T) → test ≡ true → allowed m test next ≡ next
  allowed_is m test next e = ap (λ (t : Bool). allowed m t next) e

  -- the lane where the value x lies at the place p, and these places are home in its word
  abbrev pub brought : Lane T → ℕ → T → ℕ → Lane T
  brought y p x more = with_home (with_value y p (Some x)) (word_of p) more

  pub sums_is : (m : Machine T) (a l o : ℕ) → a < length m.actors → l < length m.lanes → (actor_at m a).stand ≡ Owing l o
      → sums m a ≡ (changed m l (with_summary (lane_at m l) o) a (sees Idle l (with_words (lane_at m l).summary o) (actor_at m a)), sum_answer (lane_at m l).summary (with_words (lane_at m l).summary o))
  sums_is m a l o lt lt' stand = allowed_is m (nat_lt a (length m.actors)) _ (lt-ltb _ _ lt) ∙ (ap (sums_here m a) stand ∙ allowed_is m (nat_lt l (length m.lanes)) _ (lt-ltb _ _ lt'))

  pub looks_is : (m : Machine T) (a l : ℕ) → a < length m.actors → l < length m.lanes → is_free (actor_at m a).stand ≡ true
      → looks m a l ≡ (acted m a (sees (if nat_eq (lane_at m l).summary every_word then Saw l else Idle) l (lane_at m l).summary (actor_at m a)), Seen (lane_at m l).summary)
  looks_is m a l lt lt' free = allowed_is m (nat_lt a (length m.actors)) _ (lt-ltb _ _ lt) ∙ (allowed_is m (nat_lt l (length m.lanes)) _ (lt-ltb _ _ lt') ∙ allowed_is m (is_free (actor_at m a).stand) _ free)

module _ {T : Type 0} (k : Placing T) where
  takes_allowed : (m : Machine T) (a : ℕ) (x : T) (next : Machine T × Answer T) → a < length m.actors → k.lane x < length m.lanes → k.place x < places → is_free (actor_at m a).stand ≡ true
      → allowed m (nat_lt a (length m.actors)) (allowed m (nat_lt (k.lane x) (length m.lanes)) (allowed m (nat_lt (k.place x) places) (allowed m (is_free (actor_at m a).stand) next))) ≡ next
  takes_allowed m a x next lt lt' low free = allowed_is m (nat_lt a (length m.actors)) _ (lt-ltb _ _ lt) ∙ (allowed_is m (nat_lt (k.lane x) (length m.lanes)) _ (lt-ltb _ _ lt')
      ∙ (allowed_is m (nat_lt (k.place x) places) _ (lt-ltb _ _ low) ∙ allowed_is m (is_free (actor_at m a).stand) next free))

  pub takes_free_is : (m : Machine T) (a : ℕ) (x : T) → a < length m.actors → k.lane x < length m.lanes → k.place x < places → is_free (actor_at m a).stand ≡ true → has (lane_at m (k.lane x)).taken (k.place x) ≡ 0
      → takes k m a x ≡ (changed m (k.lane x) (with_taken (lane_at m (k.lane x)) (k.place x)) a (stands (Holding x) (actor_at m a)), Taken)
  takes_free_is m a x lt lt' low free empty = takes_allowed m a x _ lt lt' low free
      ∙ ap (λ (t : Bool). if t then (changed m (k.lane x) (with_taken (lane_at m (k.lane x)) (k.place x)) a (stands (Holding x) (actor_at m a)), Taken) else (acted m a (repeats (k.lane x) (k.place x) (actor_at m a)), Back x)) (eq-eqb _ 0 empty)

  pub takes_held_is : (m : Machine T) (a : ℕ) (x : T) → a < length m.actors → k.lane x < length m.lanes → k.place x < places → is_free (actor_at m a).stand ≡ true → has (lane_at m (k.lane x)).taken (k.place x) ≡ 1
      → takes k m a x ≡ (acted m a (repeats (k.lane x) (k.place x) (actor_at m a)), Back x)
  takes_held_is m a x lt lt' low free held = takes_allowed m a x _ lt lt' low free
      ∙ ap (λ (t : Bool). if t then (changed m (k.lane x) (with_taken (lane_at m (k.lane x)) (k.place x)) a (stands (Holding x) (actor_at m a)), Taken) else (acted m a (repeats (k.lane x) (k.place x) (actor_at m a)), Back x)) (ne_eqb _ 0 (λ e. omega arith))

  puts_is : (m : Machine T) (a : ℕ) (x : T) → a < length m.actors → k.lane x < length m.lanes → k.place x < places → (actor_at m a).stand ≡ Holding x
      → puts k m a ≡ (changed m (k.lane x) (with_value (lane_at m (k.lane x)) (k.place x) (Some x)) a (stands (Laid x) (actor_at m a)), Lies)
  puts_is m a x lt lt' low stand = allowed_is m (nat_lt a (length m.actors)) _ (lt-ltb _ _ lt) ∙ (ap (puts_here k m a) stand ∙ (allowed_is m (nat_lt (k.lane x) (length m.lanes)) _ (lt-ltb _ _ lt') ∙ allowed_is m (nat_lt (k.place x) places) _ (lt-ltb _ _ low)))

  homes_is : (m : Machine T) (a : ℕ) (x : T) → a < length m.actors → k.lane x < length m.lanes → k.place x < places → (actor_at m a).stand ≡ Laid x → homes k m a ≡ (homed k m a x, if nat_eq (debt_of k m x) 0 then Stored else Owes)
  homes_is m a x lt lt' low stand = allowed_is m (nat_lt a (length m.actors)) _ (lt-ltb _ _ lt) ∙ (ap (homes_here k m a) stand ∙ (allowed_is m (nat_lt (k.lane x) (length m.lanes)) _ (lt-ltb _ _ lt') ∙ allowed_is m (nat_lt (k.place x) places) _ (lt-ltb _ _ low)))

  -- the machine after Put and Home
  abbrev pub filed : Machine T → ℕ → T → Machine T
  filed m a x = changed m (k.lane x) (brought (lane_at m (k.lane x)) (k.place x) x (mask k x)) a (stores x (stand_owing (k.lane x) (debt_of k m x)) (actor_at m a))

  -- Put and Home, one after the other
  pub put_homes_is : (m : Machine T) (a : ℕ) (x : T) → a < length m.actors → k.lane x < length m.lanes → k.place x < places → (actor_at m a).stand ≡ Holding x
      → homes k (puts k m a).0 a ≡ (filed m a x, if nat_eq (debt_of k m x) 0 then Stored else Owes)
  put_homes_is m a x lt lt' low stand = let l : ℕ = k.lane x in let p : ℕ = k.place x in let y : Lane T = lane_at m l in let y1 : Lane T = with_value y p (Some x) in let v : Actor T = actor_at m a in let q : Actor T = stands (Laid x) v in
      let n : Machine T = changed m l y1 a q in let long : length n.actors ≡ length m.actors = length-set m.actors a q in let wide : length n.lanes ≡ length m.lanes = length-set m.lanes l y1 in
      let is : actor_at n a ≡ q = get_or-set_same m.actors a q nobody lt in let here : lane_at n l ≡ y1 = lane_here m.lanes l y1 lt' in let s : Stand T = stand_owing l (debt_of k m x) in
      let same : debt_of k n x ≡ debt_of k m x = ap (λ (z : Lane T). owed (k.closes x) (word_of p) (get_or z.home (word_of p) 0) (bit_or (get_or z.home (word_of p) 0) (mask k x))) here in
      ap (λ (r : Machine T × Answer T). homes k r.0 a) (puts_is m a x lt lt' low stand) ∙ (homes_is n a x (omega arith) (omega arith) low (ap (λ (z : Actor T). z.stand) is)
      ∙ ((λ i. (changed n l (with_home (here i) (word_of p) (mask k x)) a (stores x (stand_owing l (same i)) (is i)), if nat_eq (same i) 0 then Stored else Owes))
      ∙ (λ i. (record { lanes = set_twice m.lanes l y1 (brought y p x (mask k x)) i; actors = set_twice m.actors a q (stores x s v) i }, if nat_eq (debt_of k m x) 0 then Stored else Owes))))

  -- the same, where it shows only now which value is held
  pub held_homes_is : (m : Machine T) (a : ℕ) (x : T) → a < length m.actors → k.lane x < length m.lanes → k.place x < places
      → homes k (puts k (acted m a (stands (Holding x) (actor_at m a))) a).0 a ≡ (filed m a x, if nat_eq (debt_of k m x) 0 then Stored else Owes)
  held_homes_is m a x lt lt' low = let l : ℕ = k.lane x in let y : Lane T = lane_at m l in let v : Actor T = actor_at m a in let q : Actor T = stands (Holding x) v in let n : Machine T = acted m a q in
      let long : length n.actors ≡ length m.actors = length-set m.actors a q in let is : actor_at n a ≡ q = get_or-set_same m.actors a q nobody lt in let s : Stand T = stand_owing l (debt_of k m x) in let answer : Answer T = if nat_eq (debt_of k m x) 0 then Stored else Owes in
      put_homes_is n a x (omega arith) lt' low (ap (λ (z : Actor T). z.stand) is)
      ∙ ((λ i. (changed n l (brought y (k.place x) x (mask k x)) a (stores x s (is i)), answer))
      ∙ (λ i. (record { lanes = set m.lanes l (brought y (k.place x) x (mask k x)); actors = set_twice m.actors a q (stores x s v) i }, answer)))

  pub claims_open_is : (m : Machine T) (a l : ℕ) → a < length m.actors → l < length m.lanes → (actor_at m a).stand ≡ Saw l → (lane_at m l).claimed ≡ false
      → claims m a ≡ (changed m l (with_claim (lane_at m l)) a (stands (Pulling l 0) (actor_at m a)), Claimed)
  claims_open_is m a l lt lt' stand e = allowed_is m (nat_lt a (length m.actors)) _ (lt-ltb _ _ lt) ∙ (ap (claims_here m a) stand ∙ (allowed_is m (nat_lt l (length m.lanes)) _ (lt-ltb _ _ lt')
      ∙ ap (λ (t : Bool). if t then (acted m a (finds_gone l (actor_at m a)), Gone) else (changed m l (with_claim (lane_at m l)) a (stands (Pulling l 0) (actor_at m a)), Claimed)) e))

  pub claims_gone_is : (m : Machine T) (a l : ℕ) → a < length m.actors → l < length m.lanes → (actor_at m a).stand ≡ Saw l → (lane_at m l).claimed ≡ true → claims m a ≡ (acted m a (finds_gone l (actor_at m a)), Gone)
  claims_gone_is m a l lt lt' stand e = allowed_is m (nat_lt a (length m.actors)) _ (lt-ltb _ _ lt) ∙ (ap (claims_here m a) stand ∙ (allowed_is m (nat_lt l (length m.lanes)) _ (lt-ltb _ _ lt')
      ∙ ap (λ (t : Bool). if t then (acted m a (finds_gone l (actor_at m a)), Gone) else (changed m l (with_claim (lane_at m l)) a (stands (Pulling l 0) (actor_at m a)), Claimed)) e))

  pub pulls_is : (m : Machine T) (a l j : ℕ) (x : T) → a < length m.actors → l < length m.lanes → j < places → (actor_at m a).stand ≡ Pulling l j → value_at m l j ≡ Some x
      → pulls k m a ≡ (changed m l (with_value (lane_at m l) j None) a (gets x (if k.closes x then Idle else Pulling l (j + 1)) (actor_at m a)), Pulled x)
  pulls_is m a l j x lt lt' low stand there = allowed_is m (nat_lt a (length m.actors)) _ (lt-ltb _ _ lt) ∙ (ap (pulls_here k m a) stand ∙ (allowed_is m (nat_lt l (length m.lanes)) _ (lt-ltb _ _ lt')
      ∙ (allowed_is m (nat_lt j places) _ (lt-ltb _ _ low) ∙ ap (λ (o : Option T). pulled k m a l j o) there)))
