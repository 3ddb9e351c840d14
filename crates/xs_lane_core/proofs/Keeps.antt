-- Each event keeps the machine sound, and so does every list of events from the first state on.
use Rattle.std.proofs.Common.{◌≡◌, ◌≢◌, ℕ, zero, suc, ◌<◌, ◌≤◌, ⊎_elim, Bool, false, true≢false, cond, ltb, List, [], ◌∷◌, get_or, replicate, All, Option, Some, None, is_some, sym, refl, ap, ◌∙◌, arith}
use Rattle.std.specs.Int.{bit_at}
use Rattle.std.proofs.lemmas.Bool.{le-ltb}
use Rattle.std.proofs.lemmas.Nat.Bits.{bit_at-zero}
use Rattle.std.proofs.lemmas.List.{length-replicate}
use Rattle.std.proofs.lemmas.List.Elements.{All-nil}
use Rattle.xs_lane_core.specs.Places.{places, set_words, word_of, place_bit, has}
use Rattle.xs_lane_core.specs.declared.values.Numbered.{Numbered}
use Rattle.xs_lane_core.specs.declared.values.Event.{Event}
use Rattle.xs_lane_core.specs.declared.values.Event.TheVariants as event
use Rattle.xs_lane_core.specs.Machine.{Placing, Lane, Actor, Machine, empty_lane, no_lane, newcomer, nobody, start, lane_in, lane_at, value_at}
use Rattle.xs_lane_core.specs.Steps.{is_free, takes, puts, homes, sums, looks, claims, pulls, splits, joins}
use Rattle.xs_lane_core.specs.Sound.{StandIsOf, IsOf, IsSized, IsAlone, IsFreshDebt, OwesDue, StandsAtWhole, PullsUpToClosing, PullsNext, HasShare, SeenBelow, IsSound, lies}
use Rattle.xs_lane_core.specs.LaneStep.{numbered, lane_step, run}
use Rattle.xs_lane_core.proofs.Cases.{takes_case, puts_case, homes_case, sums_case, looks_case, claims_case, pulls_case, splits_case, joins_case}
use Rattle.xs_lane_core.proofs.Free.{back_sound, looks_sound, gone_sound, splits_sound, joins_sound}
use Rattle.xs_lane_core.proofs.Taking.{takes_sound}
use Rattle.xs_lane_core.proofs.Laying.{puts_sound}
use Rattle.xs_lane_core.proofs.Homing.{homes_sound}
use Rattle.xs_lane_core.proofs.Summing.{sums_sound}
use Rattle.xs_lane_core.proofs.Claiming.{claims_sound}
use Rattle.xs_lane_core.proofs.Pulling.{pulls_sound}

module _ {A : Type 0} where
  each_replicate : (P : A → Type 0) (n : ℕ) (x d : A) → P x → P d → (j : ℕ) → P (get_or (replicate n x) j d)
  each_replicate P zero x d p q j = q
  each_replicate P (suc n) x d p q zero = p
  each_replicate P (suc n) x d p q (suc j) = each_replicate P n x d p q j

  each_single : (P : A → Type 0) (x d : A) → P x → P d → (j : ℕ) → P (get_or (x ∷ []) j d)
  each_single P x d p q zero = p
  each_single P x d p q (suc j) = q

  some_none : (x : A) → None ≢ Some x
  some_none x e = true≢false (sym (ap is_some e))

module _ {V : Type 0} (k : Placing V) where
  pub take_keeps : (m : Machine V) (a : ℕ) (v : V) → IsSound k m → IsSound k (takes k m a v).0
  take_keeps m a v s = takes_case k (λ r. IsSound k r.0) m a v s (takes_sound k m a v s) (λ lt lt' low free held. back_sound k m a (k.lane v) (k.place v) s lt free held)

  pub put_keeps : (m : Machine V) (a : ℕ) → IsSound k m → IsSound k (puts k m a).0
  put_keeps m a s = puts_case k (λ r. IsSound k r.0) m a s (λ v. puts_sound k m a v s)

  pub home_keeps : (m : Machine V) (a : ℕ) → IsSound k m → IsSound k (homes k m a).0
  home_keeps m a s = homes_case k (λ r. IsSound k r.0) m a s (λ v. homes_sound k m a v s)

  pub sum_keeps : (m : Machine V) (a : ℕ) → IsSound k m → IsSound k (sums m a).0
  sum_keeps m a s = sums_case (λ r. IsSound k r.0) m a s (λ l o. sums_sound k m a l o s)

  pub look_keeps : (m : Machine V) (a l : ℕ) → IsSound k m → IsSound k (looks m a l).0
  look_keeps m a l s = looks_case (λ r. IsSound k r.0) m a l s (λ lt lt' free. looks_sound k m a l s lt free)

  pub claim_keeps : (m : Machine V) (a : ℕ) → IsSound k m → IsSound k (claims m a).0
  claim_keeps m a s = claims_case (λ r. IsSound k r.0) m a s
      (λ l lt lt' stand claimed. gone_sound k m a l s lt (ap is_free stand) claimed)
      (λ l lt lt' stand open_lane. claims_sound k m a l s lt lt' stand open_lane)

  pub pull_keeps : (m : Machine V) (a : ℕ) → IsSound k m → IsSound k (pulls k m a).0
  pull_keeps m a s = pulls_case k (λ r. IsSound k r.0) m a s (λ l j v. pulls_sound k m a l j v s)

  pub split_keeps : (m : Machine V) (a : ℕ) → IsSound k m → IsSound k (splits m a).0
  split_keeps m a s = splits_case (λ r. IsSound k r.0) m a s (splits_sound k m a s)

  pub join_keeps : (m : Machine V) (a b : ℕ) → IsSound k m → IsSound k (joins m a b).0
  join_keeps m a b s = joins_case (λ r. IsSound k r.0) m a b s (joins_sound k m a b s)

  pub start_sound : (n : ℕ) → IsSound k (start n)
  start_sound n = let m : Machine V = start n in
      let taken : (l : ℕ) → (p : ℕ) → has (lane_at m l).taken p ≡ 0 = each_replicate (λ (z : Lane V). (p : ℕ) → has z.taken p ≡ 0) n empty_lane no_lane none_in_zeros none_in_none in
      let home : (l : ℕ) → (w : ℕ) → get_or (lane_at m l).home w 0 ≡ 0 = each_replicate (λ (z : Lane V). (w : ℕ) → get_or z.home w 0 ≡ 0) n empty_lane no_lane zeros (λ w. refl) in
      let summary : (l : ℕ) → (lane_at m l).summary ≡ 0 = each_replicate (λ (z : Lane V). z.summary ≡ 0) n empty_lane no_lane refl refl in
      let claimed : (l : ℕ) → (lane_at m l).claimed ≡ false = each_replicate (λ (z : Lane V). z.claimed ≡ false) n empty_lane no_lane refl refl in
      let empty : (l p : ℕ) → value_at m l p ≡ None = each_replicate (λ (z : Lane V). (p : ℕ) → get_or z.values p None ≡ None) n empty_lane no_lane (λ p. each_replicate (λ (o : Option V). o ≡ None) places None None refl refl p) (λ p. refl) in
      let wide : (n' l : ℕ) → l < n' → IsSized (lane_in {V = V} (replicate n' empty_lane) l) = full in record {
        value = λ l p. None;
        one_holder = record {
          once = λ l p. let t = taken l p in omega arith;
          own = λ l p v e. absurd (some_none v e);
          standing = each_single (λ (z : Actor V). StandIsOf k (λ l p. None) z.stand) newcomer nobody tt tt;
          stored = each_single (λ (z : Actor V). All (IsOf k (λ l p. None)) z.stored) newcomer nobody (All-nil _) (All-nil _);
        };
        map_follows = record {
          wide = λ l lt. wide n l (let h = length-replicate n (empty_lane {V = V}) in omega arith);
          lying = λ l p v e. absurd (some_none v (sym (empty l p) ∙ e));
          filled = λ l p. let e = ap lies (empty l p) in omega arith;
          got_stored = λ l p. omega arith;
          got = each_single (λ (z : Actor V). All (IsOf k (λ l p. None)) z.got) newcomer nobody (All-nil _) (All-nil _);
        };
        home_follows = λ l p. let t = ap (λ z. bit_at z (place_bit p)) (home l (word_of p)) in let z = bit_at-zero (place_bit p) in omega arith;
        summary_follows = record {
          due = λ l w lit. let t = ap (λ z. bit_at z w) (summary l) in let z = bit_at-zero w in absurd (omega arith);
          noted = λ l w d. ⊎_elim (λ full. let t = home l w in absurd (omega arith)) (λ below. absurd (omega arith)) d.1;
          debts = each_single (λ (z : Actor V). OwesDue k m z.stand) newcomer nobody tt tt;
          fresh = each_single (λ (z : Actor V). IsAlone z → IsFreshDebt k m.lanes z.stored z.stand) newcomer nobody (λ _. tt) (λ _. tt);
        };
        claimers = record {
          whole = each_single (λ (z : Actor V). StandsAtWhole m z.stand) newcomer nobody tt tt;
          one = λ l. omega arith;
          up_to_closing = each_single (λ (z : Actor V). PullsUpToClosing k m z.stand) newcomer nobody tt tt;
        };
        got_in_order = record {
          first_ones = λ l p. none_below p;
          unclaimed = λ l e. refl;
          next = each_single (λ (z : Actor V). PullsNext k m z.stand) newcomer nobody tt tt;
          ended = λ l e. absurd (true≢false (sym e ∙ claimed l));
        };
        seen_below = each_single (SeenBelow m.lanes) newcomer nobody record { repeated = All-nil _; seen = All-nil _; gone = All-nil _ } record { repeated = All-nil _; seen = All-nil _; gone = All-nil _ };
        whole_share = record {
          scale = 0;
          fine = each_single (λ (z : Actor V). z.halved ≤ 0) newcomer nobody (omega arith) (omega arith);
          whole = refl;
          each = each_single (λ (z : Actor V). HasShare z z.stand) newcomer nobody (omega arith) (refl, refl, refl, refl, refl, refl);
        };
      }
    where
      none_below : (p : ℕ) → 0 ≡ cond {A = ℕ} (ltb p 0) 1 0
      none_below p = ap (λ (b : Bool). cond {A = ℕ} b 1 0) (sym (le-ltb p 0 (omega arith)))

      zeros : (w : ℕ) → ◌≡◌ {A = ℕ} (get_or (replicate set_words 0) w 0) 0
      zeros = each_replicate (λ (z : ℕ). z ≡ 0) set_words 0 0 refl refl

      none_in_zeros : (p : ℕ) → has (replicate set_words 0) p ≡ 0
      none_in_zeros p = ap (λ z. bit_at z (place_bit p)) (zeros (word_of p)) ∙ bit_at-zero (place_bit p)

      none_in_none : (p : ℕ) → has [] p ≡ 0
      none_in_none p = bit_at-zero (place_bit p)

      full : (n' l : ℕ) → l < n' → IsSized (lane_in {V = V} (replicate n' empty_lane) l)
      full zero l lt = absurd (omega arith)
      full (suc n') zero lt = record { taken = refl; home = refl; values = length-replicate {A = Option V} places None; small = λ w. let z = zeros w in omega arith }
      full (suc n') (suc l) lt = full n' l (omega arith)

pub step_keeps : (m : Machine Numbered) (e : Event) → IsSound numbered m → IsSound numbered (lane_step m e).0
step_keeps m (event.Take a v) s = take_keeps numbered m a v s
step_keeps m (event.Put a) s = put_keeps numbered m a s
step_keeps m (event.Home a) s = home_keeps numbered m a s
step_keeps m (event.Sum a) s = sum_keeps numbered m a s
step_keeps m (event.Look a l) s = look_keeps numbered m a l s
step_keeps m (event.Claim a) s = claim_keeps numbered m a s
step_keeps m (event.Pull a) s = pull_keeps numbered m a s
step_keeps m (event.Split a) s = split_keeps numbered m a s
step_keeps m (event.Join a b) s = join_keeps numbered m a b s

pub run_sound : (es : List Event) (m : Machine Numbered) → IsSound numbered m → IsSound numbered (run m es)
run_sound [] m s = s
run_sound (e ∷ es) m s = run_sound es (lane_step m e).0 (step_keeps m e s)

pub every_run_sound : (lanes : ℕ) (es : List Event) → IsSound numbered (run (start lanes) es)
every_run_sound lanes es = run_sound es (start lanes) (start_sound numbered lanes)
