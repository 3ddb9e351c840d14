-- Stripes that are claimed and made.
use Rattle.std.proofs.Common.{◌≡◌, inl, inr, ℕ, suc, ◌<◌, ◌≤◌, Bool, true, false, true≢false, refl, List, [], ◌∷◌, ◌++◌, All, sum_by, sym, ap, subst, ◌∙◌, arith}
use Rattle.std.specs.Prelude.{Result, Ok, Err, OnOk, is_ok}
use Rattle.std.specs.List.{Contains}
use Rattle.std.proofs.lemmas.Bool.{cases_eq}
use Rattle.std.proofs.lemmas.List.Elements.{All-append, All-cons, All-contains, All-contains_itself, All-push, All-weaker, Contains-append_left, Contains-append_right, Contains-push}
use Rattle.std.proofs.lemmas.List.Sums.{sum_by-append, get_or-le-sum_by}
use Rattle.xs_params.specs.declared.header.Header.{Header}
use Rattle.xs_lane_core.specs.Places.{every_word, places}
use Rattle.xs_lane_core.specs.declared.values.Stand.TheVariants.{Idle}
use Rattle.xs_lane_core.specs.Machine.{Actor, finds_gone, sees}
use Rattle.xs_lane_core.specs.Sound.{IsAlone, at, closes_at, in_lane}
use Rattle.xs_lane_core.proofs.Finds.{some_element}
use Rattle.xs_lane_core.proofs.Placed.{in_lane_here, in_lane_other}
use Rattle.xs_lanes.specs.Claiming.{HasFoundGone, HasSeenPart, IsRun, got_in}
use Rattle.xs_lanes.specs.Knowing.{IsChoice, stored_at}
use Rattle.xs_lanes.proofs.Wholes.{whole_summary}
use Rattle.xs_capture.specs.Selection.{Held}
use Rattle.xs_stripe.specs.declared.stripe.Stripe.{Stripe}
use Rattle.xs_handover.specs.Blocks.{Carried, blocks, closes_stripe, stripe_of}
use Rattle.xs_handover.specs.Answers.{GetsMore, HandsNothing, HasStripe, saw_whole}
use Rattle.xs_recv.specs.declared.activity.MadeStripe.{MadeStripe}
use Rattle.xs_recv.specs.Handed.{AreStripesBy, HasMade, IsBlockIn, IsMadeBy}
use Rattle.xs_recv.specs.Finishing.{IsWholeIfChosen}

-- a stripe that is whole is not found to be in part
pub not_part : (v w : Actor Carried) (slice set : ℕ) → IsAlone v → IsChoice blocks v → IsWholeIfChosen slice v → HasSeenPart blocks v slice set w → ⊥
not_part v w slice set alone choice whole part = part.part ((whole_summary blocks slice set v part.found.low (part.found.alone alone)).1 (whole choice))

-- What was got of a stripe

run_counts : (slice : ℕ) (values : List Carried) → IsRun blocks slice 0 values → 0 < sum_by (in_lane blocks slice) values
run_counts slice [] run = absurd run
run_counts slice (x ∷ xs) run =
    let one = in_lane_here blocks slice x run.0 in
    let some = get_or-le-sum_by (in_lane blocks slice) (x ∷ xs) 0 x (omega arith) in
    omega (arith, one, some)

none_all : (P : Carried → Type 0) → All P []
none_all P i d below = absurd (omega (arith, below))

lanes_of : (slice place : ℕ) (values : List Carried) → IsRun blocks slice place values → All (λ (x : Carried). stripe_of x ≡ slice) values
lanes_of slice place [] run = absurd run
lanes_of slice place (x ∷ xs) run = All-cons (λ (y : Carried). stripe_of y ≡ slice) x xs run.0 (rest (closes_stripe x) refl (lanes_of slice (suc place) xs))
  where
    rest : (b : Bool) → closes_stripe x ≡ b → (IsRun blocks slice (suc place) xs → All (λ (y : Carried). stripe_of y ≡ slice) xs) → All (λ (y : Carried). stripe_of y ≡ slice) xs
    rest true e later = subst (All (λ (y : Carried). stripe_of y ≡ slice)) (sym (run.2 e)) (none_all (λ (y : Carried). stripe_of y ≡ slice))
    rest false e later = later (run.3 e)

-- a value that was got of the stripe
got_of : (v : Actor Carried) (slice : ℕ) → 0 < got_in blocks slice v → (x : Carried) × Contains v.got x × (stripe_of x ≡ slice)
got_of v slice some = let r = some_element (in_lane blocks slice) v.got some in (r.0, r.2, of_lane r.0 r.1)
  where
    of_lane : (x : Carried) → 0 < in_lane blocks slice x → stripe_of x ≡ slice
    of_lane x there = elim (cases_eq (stripe_of x) slice) [
      | inl same ↦ same
      | inr other ↦ let none = in_lane_other blocks slice x other in absurd (omega (arith, none, there))
    ]

-- A stripe that was got, and is kept

abbrev pub made_of : ℕ → Stripe → MadeStripe
made_of slice stripe = record { slice = slice; stripe = stripe }

module _ (h : Header) (v w : Actor Carried) (slice : ℕ) (stripe : Stripe) (has : HasStripe (saw_whole slice v) h slice stripe w) where
  stored_same : w.stored ≡ v.stored
  stored_same = ap (λ (z : Actor Carried). z.stored) has.got.view

  got_is : w.got ≡ v.got ++ has.values
  got_is = ap (λ (z : Actor Carried). z.got) has.got.view

  pub got_stripe : 0 < got_in blocks slice w
  got_stripe =
      let sum = ap (sum_by (in_lane blocks slice)) got_is ∙ sum_by-append (in_lane blocks slice) v.got has.values in
      let some = run_counts slice has.values has.got.run in
      omega (arith, sum, some)

  made_before : (m : MadeStripe) → IsMadeBy h v m.slice m.stripe → IsMadeBy h w m.slice m.stripe
  made_before m by = record {
    values = by.values;
    run = by.run;
    got = All-weaker (Contains v.got) (Contains w.got) (λ x is. subst (λ (g : List Carried). Contains g x) (sym got_is) (Contains-append_left v.got has.values x is)) by.values by.got;
    is = by.is;
  }

  made_now : IsMadeBy h w slice stripe
  made_now = record {
    values = has.values;
    run = has.got.run;
    got = All-weaker (Contains has.values) (Contains w.got) (λ x is. subst (λ (g : List Carried). Contains g x) (sym got_is) (Contains-append_right v.got has.values x is)) has.values (All-contains_itself has.values);
    is = has.is;
  }

  has_before : (made : List MadeStripe) (k : ℕ) → HasMade made k → HasMade (made ++ made_of slice stripe ∷ []) k
  has_before made k m = (m.0, Contains-append_left made (made_of slice stripe ∷ []) m.0 m.1, m.2)

  has_now : (made : List MadeStripe) → HasMade (made ++ made_of slice stripe ∷ []) slice
  has_now made = (made_of slice stripe, Contains-push made (made_of slice stripe), refl)

  pub made_stripe : (held : Held) (made : List MadeStripe) → AreStripesBy held h v made → AreStripesBy held h w (made ++ made_of slice stripe ∷ []) × HasMade (made ++ made_of slice stripe ∷ []) slice
  made_stripe held made by = (
    record {
      blocks = subst (All (IsBlockIn held h)) (sym stored_same) by.blocks;
      made = All-push (λ (m : MadeStripe). IsMadeBy h w m.slice m.stripe) made (made_of slice stripe)
          (All-weaker (λ (m : MadeStripe). IsMadeBy h v m.slice m.stripe) (λ (m : MadeStripe). IsMadeBy h w m.slice m.stripe) made_before made by.made) made_now;
      each = subst (All (λ (x : Carried). HasMade (made ++ made_of slice stripe ∷ []) (stripe_of x))) (sym got_is)
          (All-append (λ (x : Carried). HasMade (made ++ made_of slice stripe ∷ []) (stripe_of x)) v.got has.values
          (All-weaker (λ (x : Carried). HasMade made (stripe_of x)) (λ (x : Carried). HasMade (made ++ made_of slice stripe ∷ []) (stripe_of x)) (λ x is. has_before made (stripe_of x) is) v.got by.each)
          (All-weaker (λ (x : Carried). stripe_of x ≡ slice) (λ (x : Carried). HasMade (made ++ made_of slice stripe ∷ []) (stripe_of x))
          (λ x is. subst (HasMade (made ++ made_of slice stripe ∷ [])) (sym is) (has_now made)) has.values (lanes_of slice 0 has.values has.got.run)));
    },
    has_now made,
  )

-- A stripe that was found gone

module _ (h : Header) (v w : Actor Carried) (slice : ℕ) (alone : IsAlone v) (gone : HasFoundGone blocks (saw_whole slice v) slice w) where
  pub gone_got : 0 < got_in blocks slice w
  gone_got = subst (λ (z : Actor Carried). 0 < got_in blocks slice z) (sym gone.view) (gone.alone alone)

  pub gone_stripe : (held : Held) (made : List MadeStripe) → AreStripesBy held h v made → AreStripesBy held h w made × HasMade made slice
  gone_stripe held made by = (subst (λ (z : Actor Carried). AreStripesBy held h z made) (sym gone.view) still, has)
    where
      still : AreStripesBy held h (finds_gone slice (sees Idle slice every_word (saw_whole slice v))) made
      still = record {
        blocks = by.blocks;
        made = All-weaker (λ (m : MadeStripe). IsMadeBy h v m.slice m.stripe) (λ (m : MadeStripe). IsMadeBy h (finds_gone slice (sees Idle slice every_word (saw_whole slice v))) m.slice m.stripe)
            (λ m one. record { values = one.values; run = one.run; got = one.got; is = one.is }) made by.made;
        each = by.each;
      }

      has : HasMade made slice
      has = let x = got_of v slice (gone.alone alone) in subst (HasMade made) x.2 (All-contains (λ (y : Carried). HasMade made (stripe_of y)) v.got x.0 by.each x.1)

-- A stripe that was found to be in part

pub part_stripes : (h : Header) (v w : Actor Carried) (slice set : ℕ) → HasSeenPart blocks v slice set w → (held : Held) (made : List MadeStripe) → AreStripesBy held h v made → AreStripesBy held h w made
part_stripes h v w slice set part held made by = subst (λ (z : Actor Carried). AreStripesBy held h z made) (sym part.view) (record {
  blocks = by.blocks;
  made = All-weaker (λ (m : MadeStripe). IsMadeBy h v m.slice m.stripe) (λ (m : MadeStripe). IsMadeBy h (sees Idle slice set v) m.slice m.stripe)
      (λ m one. record { values = one.values; run = one.run; got = one.got; is = one.is }) made by.made;
  each = by.each;
})

-- what holds where a call answers well
pub ok_is : {A E : Type 0} (P : Type 0) (r : Result A E) → is_ok r ≡ true → OnOk r P → P
ok_is P (Ok a) is p = p
ok_is P (Err e) is p = absurd (true≢false (sym is))

-- Claims that hand nothing leave a stripe as whole as it was

-- whether a lane is whole by what is stored
abbrev IsWholeIn : ℕ → List Carried → Type 0
IsWholeIn l stored = (c : ℕ) × (c < places) × (0 < sum_by (closes_at blocks l c) stored) × ((p : ℕ) → p < c → 0 < sum_by (at blocks l p) stored)

pub whole_still : (v w : Actor Carried) (slice : ℕ) → HandsNothing v w → IsWholeIfChosen slice v → IsWholeIfChosen slice w
whole_still v w slice none whole choice = subst (λ (l : List Carried). IsWholeIn slice l) (sym none.stored) (whole (record {
  one = λ l p. subst (λ (xs : List Carried). sum_by (at blocks l p) xs ≤ 1) none.stored (choice.one l p);
  repeated = subst (λ (xs : List Carried). All (λ (z : ℕ × ℕ). sum_by (at blocks z.0 z.1) xs ≡ 1) v.repeated) none.stored (subst (λ (r : List (ℕ × ℕ)). All (λ (z : ℕ × ℕ). stored_at blocks z.0 z.1 w ≡ 1) r) none.repeated choice.repeated);
}))

pub got_still : (v w : Actor Carried) (slice : ℕ) → GetsMore v w → 0 < got_in blocks slice v → 0 < got_in blocks slice w
got_still v w slice more some =
    let sum = ap (sum_by (in_lane blocks slice)) more.1 ∙ sum_by-append (in_lane blocks slice) v.got more.0 in omega (arith, some, sum)
