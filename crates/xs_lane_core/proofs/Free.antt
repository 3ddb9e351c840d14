-- The events that change no lane keep the machine sound: a value given back, a look, a lane found gone, a split, a join.
use Rattle.std.proofs.Common.{◌≡◌, ◌≢◌, ℕ, suc, ◌+◌, ◌-◌, ◌^◌, ◌<◌, ◌≤◌, max, Bool, true, false, true≢false, if◌then◌else◌, nat_eq, ne_eqb, List, [], ◌∷◌, ◌++◌, length, length-set, get_or, get_or-set_other, set, sum_by, All, sym, refl, ap, ◌∙◌, arith, pow-suc, zero-mul}
use Rattle.std.proofs.lemmas.List.Sums.{sum_by-set, sum_by_push, sum_by-append}
use Rattle.std.proofs.lemmas.List.Elements.{All-nil, All-append, All-push}
use mathlib.Core.Logic.{dite}
use native.Mathlib.Decide.{ℕ_discrete}
use Rattle.xs_lane_core.specs.Places.{has, every_word, HasEvery, IsWithin}
use Rattle.xs_lane_core.specs.declared.values.Stand.{Stand}
use Rattle.xs_lane_core.specs.declared.values.Stand.TheVariants.{Idle, Saw, Holding, Laid, Owing, Pulling, Spent}
use Rattle.xs_lane_core.specs.Machine.{Placing, Actor, Machine, lane_in, lane_at, actor_at, nobody, acted, repeats, sees, finds_gone, halves, copied, joined}
use Rattle.xs_lane_core.specs.Steps.{is_free}
use Rattle.xs_lane_core.specs.Sound.{IsAlone, share, HasShare, StandsAtWhole, SeenBelow, IsSound}
use Rattle.xs_lane_core.proofs.Lists.{each_set, each_push}
use Rattle.xs_lane_core.proofs.Sets.{every_has}
use Rattle.xs_lane_core.proofs.Shares.{all_finer, finer, half_left, half_right, share_joined, some_part}
use Rattle.xs_lane_core.proofs.Frames.{free_counts_none, FreshOf, fresh_free, framed, stays_free}

pub nat_eq_is : (a b : ℕ) → nat_eq a b ≡ true → a ≡ b
nat_eq_is a b e = dite (ℕ_discrete a b) (λ y. y) (λ ne. absurd (true≢false (sym e ∙ ne_eqb a b ne)))

saw_or_idle : (V : Type 0) (b : Bool) (l : ℕ) → is_free {V = V} (if b then Saw l else Idle) ≡ true
saw_or_idle V true l = refl
saw_or_idle V false l = refl

module _ {V : Type 0} where
  pub free_has_part : (a : Actor V) (s : Stand V) → is_free s ≡ true → HasShare a s → 0 < a.parts
  free_has_part a Idle e h = h
  free_has_part a (Saw l) e h = h
  free_has_part a (Holding v) e h = h
  free_has_part a (Laid v) e h = h
  free_has_part a (Owing l o) e h = h
  free_has_part a (Pulling l j) e h = h
  free_has_part a Spent e h = absurd (true≢false (sym e))

  part_has_share : (a b : Actor V) (s : Stand V) → is_free s ≡ true → 0 < b.parts → HasShare b s
  part_has_share a b Idle e h = h
  part_has_share a b (Saw l) e h = h
  part_has_share a b (Holding v) e h = h
  part_has_share a b (Laid v) e h = h
  part_has_share a b (Owing l o) e h = h
  part_has_share a b (Pulling l j) e h = h
  part_has_share a b Spent e h = absurd (true≢false (sym e))

  saw_whole : (m : Machine V) (b : Bool) (l : ℕ) → (b ≡ true → HasEvery (lane_at m l).summary) → StandsAtWhole m (if b then Saw l else Idle)
  saw_whole m true l h = h refl
  saw_whole m false l h = tt

module _ {V : Type 0} (k : Placing V) where
  pub back_sound : (m : Machine V) (a l p : ℕ) → IsSound k m → a < length m.actors → is_free (actor_at m a).stand ≡ true → has (lane_at m l).taken p ≡ 1 → IsSound k (acted m a (repeats l p (actor_at m a)))
  back_sound m a l p s lt free held = let x : Actor V = actor_at m a in let b = s.seen_below a in
      stays_free k m a (repeats l p x) s lt free refl (free_has_part x x.stand free (s.whole_share.each a)) refl refl refl refl tt
      record { repeated = All-push (λ (y : ℕ × ℕ). has (lane_in m.lanes y.0).taken y.1 ≡ 1) x.repeated (l, p) b.repeated held; seen = b.seen; gone = b.gone }

  pub looks_sound : (m : Machine V) (a l : ℕ) → IsSound k m → a < length m.actors → is_free (actor_at m a).stand ≡ true
      → IsSound k (acted m a (sees (if nat_eq (lane_at m l).summary every_word then Saw l else Idle) l (lane_at m l).summary (actor_at m a)))
  looks_sound m a l s lt free = let x : Actor V = actor_at m a in let b = s.seen_below a in let h : ℕ = (lane_at m l).summary in let stand : Stand V = if nat_eq h every_word then Saw l else Idle in
      stays_free k m a (sees stand l h x) s lt free (saw_or_idle V (nat_eq h every_word) l) (free_has_part x x.stand free (s.whole_share.each a)) refl refl refl refl
      (saw_whole m (nat_eq h every_word) l (λ e. every_has h (nat_eq_is h every_word e)))
      record { repeated = b.repeated; seen = All-push (λ (y : ℕ × ℕ). IsWithin y.1 (lane_in m.lanes y.0).summary) x.seen (l, h) b.seen (λ w. omega arith); gone = b.gone }

  pub gone_sound : (m : Machine V) (a l : ℕ) → IsSound k m → a < length m.actors → is_free (actor_at m a).stand ≡ true → (lane_at m l).claimed ≡ true → IsSound k (acted m a (finds_gone l (actor_at m a)))
  gone_sound m a l s lt free claimed = let x : Actor V = actor_at m a in let b = s.seen_below a in
      stays_free k m a (finds_gone l x) s lt free refl (free_has_part x x.stand free (s.whole_share.each a)) refl refl refl refl tt
      record { repeated = b.repeated; seen = b.seen; gone = All-push (λ (y : ℕ). (lane_in m.lanes y).claimed ≡ true) x.gone l b.gone claimed }

  pub splits_sound : (m : Machine V) (a : ℕ) → IsSound k m → a < length m.actors → is_free (actor_at m a).stand ≡ true
      → IsSound k record { lanes = m.lanes; actors = set m.actors a (halves (actor_at m a)) ++ copied (actor_at m a) ∷ [] }
  splits_sound m a s lt free = let x : Actor V = actor_at m a in let first : List (Actor V) = set m.actors a (halves x) in let w = s.whole_share in let n : ℕ = w.scale in let b = s.seen_below a in framed k m (first ++ copied x ∷ []) s record {
    stand_sums = λ f c. let e = sum_by-set (λ (y : Actor V). f y.stand) m.actors a (halves x) nobody lt in let g = sum_by_push (λ (y : Actor V). f y.stand) first (copied x) in let i = c.idle in omega arith;
    stored_sums = λ f. let e = sum_by-set (λ (y : Actor V). sum_by f y.stored) m.actors a (halves x) nobody lt in let g = sum_by_push (λ (y : Actor V). sum_by f y.stored) first (copied x) in omega arith;
    got_sums = λ f. let e = sum_by-set (λ (y : Actor V). sum_by f y.got) m.actors a (halves x) nobody lt in let g = sum_by_push (λ (y : Actor V). sum_by f y.got) first (copied x) in omega arith;
    stored = λ P h. each_push (λ (y : Actor V). All P y.stored) first (copied x) nobody (All-nil P) (each_set (λ (y : Actor V). All P y.stored) m.actors a (halves x) nobody (h a) h);
    got = λ P h. each_push (λ (y : Actor V). All P y.got) first (copied x) nobody (All-nil P) (each_set (λ (y : Actor V). All P y.got) m.actors a (halves x) nobody (h a) h);
    standing = λ Q idle spent saw h. each_push (λ (y : Actor V). Q y.stand) first (copied x) nobody idle (each_set (λ (y : Actor V). Q y.stand) m.actors a (halves x) nobody (h a) h);
    below = each_push (SeenBelow m.lanes) first (copied x) nobody record { repeated = All-nil _; seen = b.seen; gone = b.gone }
        (each_set (SeenBelow m.lanes) m.actors a (halves x) nobody record { repeated = b.repeated; seen = b.seen; gone = b.gone } s.seen_below);
    fresh = each_push (λ (y : Actor V). IsAlone y → FreshOf k m.lanes y) first (copied x) nobody (λ _. tt) (each_set (λ (y : Actor V). IsAlone y → FreshOf k m.lanes y) m.actors a (halves x) nobody (λ _. fresh_free k m.lanes x.stored x.stand free) s.summary_follows.fresh);
    share = record {
      scale = suc n;
      fine = each_push (λ (y : Actor V). y.halved ≤ suc n) first (copied x) nobody (let h = w.fine a in omega arith)
          (each_set (λ (y : Actor V). y.halved ≤ suc n) m.actors a (halves x) nobody (let h = w.fine a in omega arith) (λ j. let h = w.fine j in omega arith));
      whole = let e = sum_by_push (share (suc n)) first (copied x) in let g = sum_by-set (share (suc n)) m.actors a (halves x) nobody lt in let c = all_finer n m.actors w.fine in let d = half_left n x in let r = half_right n x in
          let t = finer n x (w.fine a) in let all = w.whole in let h = pow-suc 2 n in omega arith;
      each = let part = free_has_part x x.stand free (w.each a) in each_push (λ (y : Actor V). HasShare y y.stand) first (copied x) nobody part
          (each_set (λ (y : Actor V). HasShare y y.stand) m.actors a (halves x) nobody (part_has_share x (halves x) x.stand free part) w.each);
    };
  }

  pub joins_sound : (m : Machine V) (a b : ℕ) → IsSound k m → a < length m.actors → b < length m.actors → a ≢ b → is_free (actor_at m a).stand ≡ true → is_free (actor_at m b).stand ≡ true
      → IsSound k record { lanes = m.lanes; actors = set (set m.actors a (joined (actor_at m a) (actor_at m b))) b nobody }
  joins_sound m a b s lt lt' ne free free' = let x : Actor V = actor_at m a in let y : Actor V = actor_at m b in let z : Actor V = joined x y in let first : List (Actor V) = set m.actors a z in
      let w = s.whole_share in let n : ℕ = w.scale in let c = s.seen_below a in let d = s.seen_below b in
      let there : get_or first b nobody ≡ y = get_or-set_other m.actors a b z nobody (λ e. ne (sym e)) in let long : length first ≡ length m.actors = length-set m.actors a z in
      let part : 0 < x.parts = free_has_part x x.stand free (w.each a) in
      let sums : (F : Actor V → ℕ) → F z ≡ F x + F y → F nobody ≡ 0 → sum_by F (set first b nobody) ≡ sum_by F m.actors = λ F add none.
      let e = sum_by-set F m.actors a z nobody lt in let g = sum_by-set F first b nobody nobody (omega arith) in let t : F (get_or first b nobody) ≡ F y = ap F there in omega arith in
      framed k m (set first b nobody) s record {
        stand_sums = λ f o. sums (λ (q : Actor V). f q.stand) (let u = free_counts_none f o y.stand free' in omega arith) o.spent;
        stored_sums = λ f. sums (λ (q : Actor V). sum_by f q.stored) (sum_by-append f x.stored y.stored) refl;
        got_sums = λ f. sums (λ (q : Actor V). sum_by f q.got) (sum_by-append f x.got y.got) refl;
        stored = λ P h. each_set (λ (q : Actor V). All P q.stored) first b nobody nobody (All-nil P) (each_set (λ (q : Actor V). All P q.stored) m.actors a z nobody (All-append P x.stored y.stored (h a) (h b)) h);
        got = λ P h. each_set (λ (q : Actor V). All P q.got) first b nobody nobody (All-nil P) (each_set (λ (q : Actor V). All P q.got) m.actors a z nobody (All-append P x.got y.got (h a) (h b)) h);
        standing = λ Q idle spent saw h. each_set (λ (q : Actor V). Q q.stand) first b nobody nobody spent (each_set (λ (q : Actor V). Q q.stand) m.actors a z nobody (h a) h);
        below = each_set (SeenBelow m.lanes) first b nobody nobody record { repeated = All-nil _; seen = All-nil _; gone = All-nil _ } (each_set (SeenBelow m.lanes) m.actors a z nobody
            record {
              repeated = All-append (λ (q : ℕ × ℕ). has (lane_in m.lanes q.0).taken q.1 ≡ 1) x.repeated y.repeated c.repeated d.repeated;
              seen = All-append (λ (q : ℕ × ℕ). IsWithin q.1 (lane_in m.lanes q.0).summary) x.seen y.seen c.seen d.seen;
              gone = All-append (λ (q : ℕ). (lane_in m.lanes q).claimed ≡ true) x.gone y.gone c.gone d.gone;
            }
            s.seen_below);
        fresh = each_set (λ (q : Actor V). IsAlone q → FreshOf k m.lanes q) first b nobody nobody (λ _. tt) (each_set (λ (q : Actor V). IsAlone q → FreshOf k m.lanes q) m.actors a z nobody (λ _. fresh_free k m.lanes z.stored x.stand free) s.summary_follows.fresh);
        share = record {
          scale = n;
          fine = each_set (λ (q : Actor V). q.halved ≤ n) first b nobody nobody (omega arith) (each_set (λ (q : Actor V). q.halved ≤ n) m.actors a z nobody (let h = w.fine a in let g = w.fine b in omega arith) w.fine);
          whole = sums (share n) (share_joined n x y (w.fine a) (w.fine b)) (zero-mul (2 ^ (n - 0))) ∙ w.whole;
          each = each_set (λ (q : Actor V). HasShare q q.stand) first b nobody nobody (refl, refl, refl, refl, refl, refl)
              (each_set (λ (q : Actor V). HasShare q q.stand) m.actors a z nobody (part_has_share x z x.stand free (let h = some_part x.parts (max x.halved y.halved - x.halved) part in omega arith)) w.each);
        };
      }
