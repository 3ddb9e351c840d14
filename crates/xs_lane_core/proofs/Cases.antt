-- What holds of a refusal and of each effect of an event holds of the event.
use Rattle.std.proofs.Common.{◌≡◌, ◌≢◌, ℕ, ◌+◌, ◌<◌, Bool, true, false, not, if◌then◌else◌, nat_eq, nat_lt, List, get_or, [], ◌∷◌, ◌++◌, length, set, Option, Some, None, sym, refl, arith}
use Rattle.std.proofs.lemmas.Bool.{ltb-true, eqb-true, eqb-false}
use Rattle.std.proofs.lemmas.Nat.Bits.{bit_at-lt}
use Rattle.xs_lane_core.specs.Places.{places, word_of, place_bit, has, every_word, with_words}
use Rattle.xs_lane_core.specs.declared.values.Stand.{Stand}
use Rattle.xs_lane_core.specs.declared.values.Stand.TheVariants.{Idle, Saw, Holding, Laid, Owing, Pulling, Spent}
use Rattle.xs_lane_core.specs.Machine.{Placing, Machine, lane_at, actor_at, value_at, acted, changed, with_taken, with_summary, with_claim, with_value, stands, repeats, sees, finds_gone, gets, halves, copied, joined, nobody}
use Rattle.xs_lane_core.specs.Steps.{Answer, Taken, Back, Lies, Owes, Stored, Seen, Claimed, Gone, Pulled, Split, Joined, Refused, allowed, is_free, takes, puts_here, puts, debt_of, homed, homes_here, homes, sum_answer, sums_here, sums, looks, claims_here, claims, pulled, pulls_here, pulls, splits, joins}

apart_test : (a b : ℕ) → not (nat_eq a b) ≡ true → a ≢ b
apart_test a b e = eqb-false a b (not_true (nat_eq a b) e)
  where
    not_true : (t : Bool) → not t ≡ true → t ≡ false
    not_true true e = sym e
    not_true false e = refl

taken_place : (n : List ℕ) (p : ℕ) → nat_eq (has n p) 0 ≡ false → has n p ≡ 1
taken_place n p e = let ne = eqb-false (has n p) 0 e in let b = bit_at-lt (get_or n (word_of p) 0) (place_bit p) in one (has n p) b ne
  where
    one : (x : ℕ) → x < 2 → x ≢ 0 → x ≡ 1
    one x lt ne = omega arith

module _ {V : Type 0} where
  pub allowed_case : (G : Machine V × Answer V → Type 0) (m : Machine V) (test : Bool) (next : Machine V × Answer V) → G (m, Refused) → (test ≡ true → G next) → G (allowed m test next)
  allowed_case G m true next r h = h refl
  allowed_case G m false next r h = r

  either_case : (G : Machine V × Answer V → Type 0) (test : Bool) (x y : Machine V × Answer V) → (test ≡ true → G x) → (test ≡ false → G y) → G (if test then x else y)
  either_case G true x y f g = f refl
  either_case G false x y f g = g refl

  pub looks_case : (G : Machine V × Answer V → Type 0) (m : Machine V) (a l : ℕ) → G (m, Refused)
      → (a < length m.actors → l < length m.lanes → is_free (actor_at m a).stand ≡ true → G (acted m a (sees (if nat_eq (lane_at m l).summary every_word then Saw l else Idle) l (lane_at m l).summary (actor_at m a)), Seen (lane_at m l).summary))
      → G (looks m a l)
  looks_case G m a l r h = allowed_case G m (nat_lt a (length m.actors)) _ r (λ t. allowed_case G m (nat_lt l (length m.lanes)) _ r (λ u. allowed_case G m (is_free (actor_at m a).stand) _ r (λ f. h (ltb-true _ _ t) (ltb-true _ _ u) f)))

  sums_here_case : (G : Machine V × Answer V → Type 0) (m : Machine V) (a : ℕ) (s : Stand V) → (actor_at m a).stand ≡ s → G (m, Refused)
      → ((l o : ℕ) → l < length m.lanes → (actor_at m a).stand ≡ Owing l o → G (
        changed m l (with_summary (lane_at m l) o) a (sees Idle l (with_words (lane_at m l).summary o) (actor_at m a)),
        sum_answer (lane_at m l).summary (with_words (lane_at m l).summary o),
      ))
      → G (sums_here m a s)
  sums_here_case G m a (Owing l o) e r h = allowed_case G m (nat_lt l (length m.lanes)) _ r (λ u. h l o (ltb-true _ _ u) e)
  sums_here_case G m a Idle e r h = r
  sums_here_case G m a (Saw l) e r h = r
  sums_here_case G m a (Holding v) e r h = r
  sums_here_case G m a (Laid v) e r h = r
  sums_here_case G m a (Pulling l j) e r h = r
  sums_here_case G m a Spent e r h = r

  pub sums_case : (G : Machine V × Answer V → Type 0) (m : Machine V) (a : ℕ) → G (m, Refused)
      → ((l o : ℕ) → a < length m.actors → l < length m.lanes → (actor_at m a).stand ≡ Owing l o → G (
        changed m l (with_summary (lane_at m l) o) a (sees Idle l (with_words (lane_at m l).summary o) (actor_at m a)),
        sum_answer (lane_at m l).summary (with_words (lane_at m l).summary o),
      ))
      → G (sums m a)
  sums_case G m a r h = allowed_case G m (nat_lt a (length m.actors)) _ r (λ t. sums_here_case G m a (actor_at m a).stand refl r (λ l o. h l o (ltb-true _ _ t)))

  claims_here_case : (G : Machine V × Answer V → Type 0) (m : Machine V) (a : ℕ) (s : Stand V) → (actor_at m a).stand ≡ s → G (m, Refused)
      → ((l : ℕ) → l < length m.lanes → (actor_at m a).stand ≡ Saw l → (lane_at m l).claimed ≡ true → G (acted m a (finds_gone l (actor_at m a)), Gone))
      → ((l : ℕ) → l < length m.lanes → (actor_at m a).stand ≡ Saw l → (lane_at m l).claimed ≡ false → G (changed m l (with_claim (lane_at m l)) a (stands (Pulling l 0) (actor_at m a)), Claimed))
      → G (claims_here m a s)
  claims_here_case G m a (Saw l) e r f g = allowed_case G m (nat_lt l (length m.lanes)) _ r (λ u. either_case G (lane_at m l).claimed _ _ (λ c. f l (ltb-true _ _ u) e c) (λ c. g l (ltb-true _ _ u) e c))
  claims_here_case G m a Idle e r f g = r
  claims_here_case G m a (Holding v) e r f g = r
  claims_here_case G m a (Laid v) e r f g = r
  claims_here_case G m a (Pulling l j) e r f g = r
  claims_here_case G m a (Owing l o) e r f g = r
  claims_here_case G m a Spent e r f g = r

  pub claims_case : (G : Machine V × Answer V → Type 0) (m : Machine V) (a : ℕ) → G (m, Refused)
      → ((l : ℕ) → a < length m.actors → l < length m.lanes → (actor_at m a).stand ≡ Saw l → (lane_at m l).claimed ≡ true → G (acted m a (finds_gone l (actor_at m a)), Gone))
      → ((l : ℕ) → a < length m.actors → l < length m.lanes → (actor_at m a).stand ≡ Saw l → (lane_at m l).claimed ≡ false → G (changed m l (with_claim (lane_at m l)) a (stands (Pulling l 0) (actor_at m a)), Claimed))
      → G (claims m a)
  claims_case G m a r f g = allowed_case G m (nat_lt a (length m.actors)) _ r (λ t. claims_here_case G m a (actor_at m a).stand refl r (λ l. f l (ltb-true _ _ t)) (λ l. g l (ltb-true _ _ t)))

  pub splits_case : (G : Machine V × Answer V → Type 0) (m : Machine V) (a : ℕ) → G (m, Refused)
      → (a < length m.actors → is_free (actor_at m a).stand ≡ true → G (record { lanes = m.lanes; actors = set m.actors a (halves (actor_at m a)) ++ copied (actor_at m a) ∷ [] }, Split (length m.actors)))
      → G (splits m a)
  splits_case G m a r h = allowed_case G m (nat_lt a (length m.actors)) _ r (λ t. allowed_case G m (is_free (actor_at m a).stand) _ r (λ f. h (ltb-true _ _ t) f))

  pub joins_case : (G : Machine V × Answer V → Type 0) (m : Machine V) (a b : ℕ) → G (m, Refused)
      → (a < length m.actors → b < length m.actors → a ≢ b → is_free (actor_at m a).stand ≡ true → is_free (actor_at m b).stand ≡ true → G (record { lanes = m.lanes; actors = set (set m.actors a (joined (actor_at m a) (actor_at m b))) b nobody }, Joined))
      → G (joins m a b)
  joins_case G m a b r h = allowed_case G m (nat_lt a (length m.actors)) _ r (λ t. allowed_case G m (nat_lt b (length m.actors)) _ r (λ u. allowed_case G m (not (nat_eq a b)) _ r (λ n. allowed_case G m (is_free (actor_at m a).stand) _ r
      (λ f. allowed_case G m (is_free (actor_at m b).stand) _ r (λ g. h (ltb-true _ _ t) (ltb-true _ _ u) (apart_test a b n) f g)))))

module _ {V : Type 0} (k : Placing V) where
  pub takes_case : (G : Machine V × Answer V → Type 0) (m : Machine V) (a : ℕ) (v : V) → G (m, Refused)
      → (a < length m.actors → k.lane v < length m.lanes → k.place v < places → is_free (actor_at m a).stand ≡ true → has (lane_at m (k.lane v)).taken (k.place v) ≡ 0
      → G (changed m (k.lane v) (with_taken (lane_at m (k.lane v)) (k.place v)) a (stands (Holding v) (actor_at m a)), Taken))
      → (a < length m.actors → k.lane v < length m.lanes → k.place v < places → is_free (actor_at m a).stand ≡ true → has (lane_at m (k.lane v)).taken (k.place v) ≡ 1
      → G (acted m a (repeats (k.lane v) (k.place v) (actor_at m a)), Back v))
      → G (takes k m a v)
  takes_case G m a v r f g = allowed_case G m (nat_lt a (length m.actors)) _ r (λ t. allowed_case G m (nat_lt (k.lane v) (length m.lanes)) _ r (λ u. allowed_case G m (nat_lt (k.place v) places) _ r (λ p. allowed_case G m (is_free (actor_at m a).stand) _ r
      (λ free. either_case G (nat_eq (has (lane_at m (k.lane v)).taken (k.place v)) 0) _ _ (λ e. f (ltb-true _ _ t) (ltb-true _ _ u) (ltb-true _ _ p) free (eqb-true _ _ e)) (λ e. g (ltb-true _ _ t) (ltb-true _ _ u) (ltb-true _ _ p) free (taken_place (lane_at m (k.lane v)).taken (k.place v) e))))))

  puts_here_case : (G : Machine V × Answer V → Type 0) (m : Machine V) (a : ℕ) (s : Stand V) → (actor_at m a).stand ≡ s → G (m, Refused)
      → ((v : V) → k.lane v < length m.lanes → k.place v < places → (actor_at m a).stand ≡ Holding v → G (changed m (k.lane v) (with_value (lane_at m (k.lane v)) (k.place v) (Some v)) a (stands (Laid v) (actor_at m a)), Lies))
      → G (puts_here k m a s)
  puts_here_case G m a (Holding v) e r h = allowed_case G m (nat_lt (k.lane v) (length m.lanes)) _ r (λ u. allowed_case G m (nat_lt (k.place v) places) _ r (λ p. h v (ltb-true _ _ u) (ltb-true _ _ p) e))
  puts_here_case G m a Idle e r h = r
  puts_here_case G m a (Saw l) e r h = r
  puts_here_case G m a (Laid v) e r h = r
  puts_here_case G m a (Pulling l j) e r h = r
  puts_here_case G m a (Owing l o) e r h = r
  puts_here_case G m a Spent e r h = r

  pub puts_case : (G : Machine V × Answer V → Type 0) (m : Machine V) (a : ℕ) → G (m, Refused)
      → ((v : V) → a < length m.actors → k.lane v < length m.lanes → k.place v < places → (actor_at m a).stand ≡ Holding v → G (changed m (k.lane v) (with_value (lane_at m (k.lane v)) (k.place v) (Some v)) a (stands (Laid v) (actor_at m a)), Lies))
      → G (puts k m a)
  puts_case G m a r h = allowed_case G m (nat_lt a (length m.actors)) _ r (λ t. puts_here_case G m a (actor_at m a).stand refl r (λ v. h v (ltb-true _ _ t)))

  homes_here_case : (G : Machine V × Answer V → Type 0) (m : Machine V) (a : ℕ) (s : Stand V) → (actor_at m a).stand ≡ s → G (m, Refused)
      → ((v : V) → k.lane v < length m.lanes → (actor_at m a).stand ≡ Laid v → G (homed k m a v, if nat_eq (debt_of k m v) 0 then Stored else Owes))
      → G (homes_here k m a s)
  homes_here_case G m a (Laid v) e r h = allowed_case G m (nat_lt (k.lane v) (length m.lanes)) _ r (λ u. allowed_case G m (nat_lt (k.place v) places) _ r (λ p. h v (ltb-true _ _ u) e))
  homes_here_case G m a Idle e r h = r
  homes_here_case G m a (Saw l) e r h = r
  homes_here_case G m a (Holding v) e r h = r
  homes_here_case G m a (Pulling l j) e r h = r
  homes_here_case G m a (Owing l o) e r h = r
  homes_here_case G m a Spent e r h = r

  pub homes_case : (G : Machine V × Answer V → Type 0) (m : Machine V) (a : ℕ) → G (m, Refused)
      → ((v : V) → a < length m.actors → k.lane v < length m.lanes → (actor_at m a).stand ≡ Laid v → G (homed k m a v, if nat_eq (debt_of k m v) 0 then Stored else Owes))
      → G (homes k m a)
  homes_case G m a r h = allowed_case G m (nat_lt a (length m.actors)) _ r (λ t. homes_here_case G m a (actor_at m a).stand refl r (λ v. h v (ltb-true _ _ t)))

  pulled_case : (G : Machine V × Answer V → Type 0) (m : Machine V) (a l j : ℕ) (o : Option V) → value_at m l j ≡ o → G (m, Refused)
      → ((v : V) → value_at m l j ≡ Some v → G (changed m l (with_value (lane_at m l) j None) a (gets v (if k.closes v then Idle else Pulling l (j + 1)) (actor_at m a)), Pulled v))
      → G (pulled k m a l j o)
  pulled_case G m a l j None e r h = r
  pulled_case G m a l j (Some v) e r h = h v e

  pulls_here_case : (G : Machine V × Answer V → Type 0) (m : Machine V) (a : ℕ) (s : Stand V) → (actor_at m a).stand ≡ s → G (m, Refused)
      → ((l j : ℕ) (v : V) → l < length m.lanes → (actor_at m a).stand ≡ Pulling l j → value_at m l j ≡ Some v → G (changed m l (with_value (lane_at m l) j None) a (gets v (if k.closes v then Idle else Pulling l (j + 1)) (actor_at m a)), Pulled v))
      → G (pulls_here k m a s)
  pulls_here_case G m a (Pulling l j) e r h = allowed_case G m (nat_lt l (length m.lanes)) _ r (λ u. allowed_case G m (nat_lt j places) _ r (λ p. pulled_case G m a l j (value_at m l j) refl r (λ v. h l j v (ltb-true _ _ u) e)))
  pulls_here_case G m a Idle e r h = r
  pulls_here_case G m a (Saw l) e r h = r
  pulls_here_case G m a (Holding v) e r h = r
  pulls_here_case G m a (Laid v) e r h = r
  pulls_here_case G m a (Owing l o) e r h = r
  pulls_here_case G m a Spent e r h = r

  pub pulls_case : (G : Machine V × Answer V → Type 0) (m : Machine V) (a : ℕ) → G (m, Refused)
      → ((l j : ℕ) (v : V) → a < length m.actors → l < length m.lanes → (actor_at m a).stand ≡ Pulling l j → value_at m l j ≡ Some v → G (changed m l (with_value (lane_at m l) j None) a (gets v (if k.closes v then Idle else Pulling l (j + 1)) (actor_at m a)), Pulled v))
      → G (pulls k m a)
  pulls_case G m a r h = allowed_case G m (nat_lt a (length m.actors)) _ r (λ t. pulls_here_case G m a (actor_at m a).stand refl r (λ l j v. h l j v (ltb-true _ _ t)))
