-- What is counted, and what holds of each actor, where one actor and one lane change.
use Rattle.std.proofs.Common.{◌≡◌, ℕ, ◌+◌, ◌-◌, ◌*◌, ◌^◌, ◌<◌, ◌≤◌, true, cond, ltb, get_or, List, length, set, sum_by, All, sym, refl, ap, ◌∙◌, subst, arith}
use Rattle.std.specs.Int.{bit_at}
use Rattle.std.proofs.lemmas.Nat.Bits.{bit_at-lt}
use Rattle.std.proofs.lemmas.List.Sums.{sum_by-set}
use Rattle.std.proofs.lemmas.List.Elements.{All-weaker}
use Rattle.xs_lane_core.specs.Places.{word_of, place_bit, has, HasEvery, IsWithin}
use Rattle.xs_lane_core.specs.declared.values.Stand.{Stand}
use Rattle.xs_lane_core.specs.declared.values.Stand.TheVariants.{Idle, Saw, Holding, Laid, Owing, Pulling, Spent}
use Rattle.xs_lane_core.specs.Machine.{Placing, Lane, Actor, Machine, lane_in, lane_at, actor_at, no_lane, nobody}
use Rattle.xs_lane_core.specs.Sound.{over_stands, over_stored, over_got, pulling, closes_at, at, in_lane, drawn, share, StandsAtWhole, PullsUpToClosing, PullsNext, NoneClosesBefore, ClosesNotBefore, HasShare, SeenBelow, WholeShare, GotInOrder}
use Rattle.xs_lane_core.proofs.Lists.{each_set, each_set_at, within_sum}

module _ {V : Type 0} where
  pub lane_here : (lanes : List (Lane V)) (l : ℕ) (y : Lane V) → l < length lanes → lane_in (set lanes l y) l ≡ y
  lane_here lanes l y lt = each_set_at (λ j z. j ≡ l → z ≡ y) lanes l y no_lane lt (λ e. refl) (λ j ne e. absurd (ne e)) l refl

  -- a part of each lane that stays
  pub part_same : {B : Type 0} (f : Lane V → B) (lanes : List (Lane V)) (l : ℕ) (y : Lane V) → l < length lanes → f y ≡ f (lane_in lanes l) → (j : ℕ) → f (lane_in (set lanes l y) j) ≡ f (lane_in lanes j)
  part_same f lanes l y lt e = each_set_at (λ j z. f z ≡ f (lane_in lanes j)) lanes l y no_lane lt e (λ j ne. refl)

  pub stand_sum : (f : Stand V → ℕ) (m : Machine V) (a : ℕ) (q : Actor V) → a < length m.actors → sum_by (λ z. f z.stand) (set m.actors a q) + f (actor_at m a).stand ≡ over_stands f m + f q.stand
  stand_sum f m a q lt = sum_by-set (λ (z : Actor V). f z.stand) m.actors a q nobody lt

  -- the same, where it is known how the actor stood
  pub stand_from : (f : Stand V → ℕ) (m : Machine V) (a : ℕ) (q : Actor V) (s : Stand V) → a < length m.actors → (actor_at m a).stand ≡ s → sum_by (λ z. f z.stand) (set m.actors a q) + f s ≡ over_stands f m + f q.stand
  stand_from f m a q s lt e = let h = stand_sum f m a q lt in let g : f (actor_at m a).stand ≡ f s = ap f e in omega arith

  pub stored_sum : (f : V → ℕ) (m : Machine V) (a : ℕ) (q : Actor V) → a < length m.actors → sum_by (λ z. sum_by f z.stored) (set m.actors a q) + sum_by f (actor_at m a).stored ≡ over_stored f m + sum_by f q.stored
  stored_sum f m a q lt = sum_by-set (λ (z : Actor V). sum_by f z.stored) m.actors a q nobody lt

  pub got_sum : (f : V → ℕ) (m : Machine V) (a : ℕ) (q : Actor V) → a < length m.actors → sum_by (λ z. sum_by f z.got) (set m.actors a q) + sum_by f (actor_at m a).got ≡ over_got f m + sum_by f q.got
  got_sum f m a q lt = sum_by-set (λ (z : Actor V). sum_by f z.got) m.actors a q nobody lt

  pub stored_same : (f : V → ℕ) (m : Machine V) (a : ℕ) (q : Actor V) → a < length m.actors → q.stored ≡ (actor_at m a).stored → sum_by (λ z. sum_by f z.stored) (set m.actors a q) ≡ over_stored f m
  stored_same f m a q lt e = let h = stored_sum f m a q lt in let g : sum_by f q.stored ≡ sum_by f (actor_at m a).stored = ap (sum_by f) e in omega arith

  pub got_same : (f : V → ℕ) (m : Machine V) (a : ℕ) (q : Actor V) → a < length m.actors → q.got ≡ (actor_at m a).got → sum_by (λ z. sum_by f z.got) (set m.actors a q) ≡ over_got f m
  got_same f m a q lt e = let h = got_sum f m a q lt in let g : sum_by f q.got ≡ sum_by f (actor_at m a).got = ap (sum_by f) e in omega arith

  -- what one actor counts for is within the sum
  pub stand_within : (f : Stand V → ℕ) (m : Machine V) (a : ℕ) → f Spent ≡ 0 → f (actor_at m a).stand ≤ over_stands f m
  stand_within f m a none = within_sum (λ (z : Actor V). f z.stand) m.actors a nobody none

  pub stored_within : (f : V → ℕ) (m : Machine V) (a : ℕ) → sum_by f (actor_at m a).stored ≤ over_stored f m
  stored_within f m a = within_sum (λ (z : Actor V). sum_by f z.stored) m.actors a nobody refl

  pub got_within : (f : V → ℕ) (m : Machine V) (a : ℕ) → sum_by f (actor_at m a).got ≤ over_got f m
  got_within f m a = within_sum (λ (z : Actor V). sum_by f z.got) m.actors a nobody refl

  pub share_turns : (m : Machine V) (a : ℕ) (q : Actor V) (lanes : List (Lane V)) → WholeShare m → a < length m.actors → q.parts ≡ (actor_at m a).parts → q.halved ≡ (actor_at m a).halved → HasShare q q.stand → WholeShare record { lanes = lanes; actors = set m.actors a q }
  share_turns m a q lanes w lt parts halved has_share = record {
    scale = w.scale;
    fine = each_set (λ (x : Actor V). x.halved ≤ w.scale) m.actors a q nobody (let h = w.fine a in omega arith) w.fine;
    whole = let e = sum_by-set (share w.scale) m.actors a q nobody lt in let o : share w.scale q ≡ share w.scale (actor_at m a) = (λ i. parts i * 2 ^ (w.scale - halved i)) in let t = w.whole in omega arith;
    each = each_set (λ (x : Actor V). HasShare x x.stand) m.actors a q nobody has_share w.each;
  }

  -- lanes only gain: taken places, words of the summary, claims
  pub record Gains (old new : List (Lane V)) : Type 0 where
    pub taken : (l p : ℕ) → has (lane_in old l).taken p ≤ has (lane_in new l).taken p
    pub summary : (l w : ℕ) → bit_at (lane_in old l).summary w ≤ bit_at (lane_in new l).summary w
    pub claimed : (l : ℕ) → (lane_in old l).claimed ≡ true → (lane_in new l).claimed ≡ true

  pub below_more : (old new : List (Lane V)) (a : Actor V) → Gains old new → SeenBelow old a → SeenBelow new a
  below_more old new a g b = record {
    repeated = All-weaker (λ (x : ℕ × ℕ). has (lane_in old x.0).taken x.1 ≡ 1) (λ (x : ℕ × ℕ). has (lane_in new x.0).taken x.1 ≡ 1)
        (λ x h. let t = g.taken x.0 x.1 in let u = bit_at-lt (get_or (lane_in new x.0).taken (word_of x.1) 0) (place_bit x.1) in omega arith) a.repeated b.repeated;
    seen = All-weaker (λ (x : ℕ × ℕ). IsWithin x.1 (lane_in old x.0).summary) (λ (x : ℕ × ℕ). IsWithin x.1 (lane_in new x.0).summary) (λ x h w. let t = g.summary x.0 w in let u = h w in omega arith) a.seen b.seen;
    gone = All-weaker (λ (l : ℕ). (lane_in old l).claimed ≡ true) (λ (l : ℕ). (lane_in new l).claimed ≡ true) g.claimed a.gone b.gone;
  }

  every_more : (old new : List (Lane V)) (l : ℕ) → Gains old new → HasEvery (lane_in old l).summary → HasEvery (lane_in new l).summary
  every_more old new l g h w lt = let t = g.summary l w in let u = h w lt in let b = bit_at-lt (lane_in new l).summary w in omega arith

  pub whole_more : (m n : Machine V) → Gains m.lanes n.lanes → (s : Stand V) → StandsAtWhole m s → StandsAtWhole n s
  whole_more m n g Idle h = tt
  whole_more m n g (Saw l) h = every_more m.lanes n.lanes l g h
  whole_more m n g (Holding v) h = tt
  whole_more m n g (Laid v) h = tt
  whole_more m n g (Owing l o) h = tt
  whole_more m n g (Pulling l j) h = every_more m.lanes n.lanes l g h
  whole_more m n g Spent h = tt

module _ {V : Type 0} (k : Placing V) where
  -- a claimer stays before the closing places, where new closing values stand at places that were not got
  pub up_to_stays : (m n : Machine V) → ((l d : ℕ) → d ≤ drawn k m l → NoneClosesBefore k m l d → NoneClosesBefore k n l d) → (s : Stand V) → PullsNext k m s → PullsUpToClosing k m s → PullsUpToClosing k n s
  up_to_stays m n more Idle e h = tt
  up_to_stays m n more (Saw l) e h = tt
  up_to_stays m n more (Holding v) e h = tt
  up_to_stays m n more (Laid v) e h = tt
  up_to_stays m n more (Owing l o) e h = tt
  up_to_stays m n more (Pulling l j) e h = more l j (omega arith) h
  up_to_stays m n more Spent e h = tt

  -- what was got stays in order, where nothing is got and nobody claims
  pub order_stays : (m n : Machine V) → GotInOrder k m → ((f : V → ℕ) → over_got f n ≡ over_got f m) → ((l : ℕ) → (lane_at n l).claimed ≡ (lane_at m l).claimed) → ((l : ℕ) → over_stands (pulling l) n ≡ over_stands (pulling l) m)
      → ((a : ℕ) → PullsNext k n (actor_at n a).stand) → ((l d : ℕ) → d ≤ drawn k m l → NoneClosesBefore k m l d → NoneClosesBefore k n l d) → ((f : V → ℕ) → over_stored f m ≤ over_stored f n) → GotInOrder k n
  order_stays m n r got claimed pulls next none_before more = let drawn_same : (l : ℕ) → drawn k n l ≡ drawn k m l = λ l. got (in_lane k l) in record {
    first_ones = λ l p. got (at k l p) ∙ (r.first_ones l p ∙ ap (λ d. cond {A = ℕ} (ltb p d) 1 0) (sym (drawn_same l)));
    unclaimed = λ l e. drawn_same l ∙ r.unclaimed l (sym (claimed l) ∙ e);
    next = next;
    ended = λ l e none. let o = r.ended l (sym (claimed l) ∙ e) (sym (pulls l) ∙ none) in let d = drawn_same l in let o0 = o.0 in (
      omega arith,
      (
        (λ a. subst (λ d. All (ClosesNotBefore k l (d - 1)) (actor_at n a).stored) (sym d) (none_before l (drawn k m l - 1) (omega arith) o.1.0 a)),
        subst (λ d. 0 < over_stored (closes_at k l (d - 1)) n) (sym d) (let t = more (closes_at k l (drawn k m l - 1)) in let o1 = o.1.1 in omega arith),
      ),
    );
  }
