-- Passes are split off for activities, and joined again.
use Rattle.std.proofs.Common.{◌≡◌, ◌⊎◌, inl, inr, ℕ, zero, suc, ◌+◌, ◌<◌, length, List, [], ◌∷◌, ◌++◌, All, get_or, refl, sym, ap, ◌∙◌, subst, arith}
use Rattle.std.specs.Prelude.{Result, Ok, Err, OnOk}
use Rattle.std.specs.List.{Contains}
use Rattle.std.proofs.lemmas.List.Elements.{Contains-append_left, Contains-append_right, Contains-get_or, Contains-push, Contains-push_cases, All-nil, All-append, All-push, All-weaker, All-contains, All-contains_itself}
use Rattle.xs_lane_core.specs.Machine.{Actor, newcomer, halves, copied, joined}
use Rattle.xs_lanes.specs.Gathering.{HasPart, HasRest}
use Rattle.xs_lanes.proofs.Gathering.{splits_part, first_rest, joins_rest}
use Rattle.xs_capture.specs.Offer.{Offer}
use Rattle.xs_stored.specs.Stored.{IsFiled}
use Rattle.xs_board.specs.declared.board.Board.{Board}
use Rattle.xs_board.specs.declared.board.BoardPass.{BoardPass}
use Rattle.xs_board.specs.Passes.{IsBoardPass, unit_count, actor}
use Rattle.xs_handover.specs.declared.handover.Handover.{Handover}
use Rattle.xs_handover.specs.declared.handover.HandPass.{HandPass}
use Rattle.xs_handover.specs.Passes.{IsHandPass, actor as hand_actor}
use Rattle.xs_recv.specs.Activities.{Doing}
use Rattle.xs_recv.specs.declared.activity.Feed.{Feed}
use Rattle.xs_recv.specs.declared.exchange.Exchange.{Exchange}
use Rattle.xs_recv.specs.Filing.{AreFiledBy, AreForked, HandsForked, HasFiled, HasRun, IsFedBy, IsUnusedPass, MayJoin, MayJoinHands, fed}

-- Lists

module _ {A : Type 0} where
  front_of : (xs : List A) (o : A) (i : ℕ) (d : A) → i < length xs → get_or (xs ++ o ∷ []) i d ≡ get_or xs i d
  front_of [] o i d lt = absurd (omega arith)
  front_of (x ∷ xs) o zero d lt = refl
  front_of (x ∷ xs) o (suc i) d lt = front_of xs o i d (omega arith)

  last_of : (xs : List A) (o d : A) → get_or (xs ++ o ∷ []) (length xs) d ≡ o
  last_of [] o d = refl
  last_of (x ∷ xs) o d = last_of xs o d

  pub longer : (xs : List A) (o : A) → length (xs ++ o ∷ []) ≡ suc (length xs)
  longer [] o = refl
  longer (x ∷ xs) o = ap suc (longer xs o)

  -- what holds of each element and its place holds of the last one and of the others
  pub pops : (P : ℕ → A → Type 0) (old rest : List A) (o : A) → old ≡ rest ++ o ∷ [] → ((i : ℕ) (d : A) → i < length old → P i (get_or old i d)) → ((i : ℕ) (d : A) → i < length rest → P i (get_or rest i d)) × P (length rest) o
  pops P old rest o e all = let q = subst (λ (l : List A). (i : ℕ) (d : A) → i < length l → P i (get_or l i d)) e all in let n = longer rest o in
      ((λ i d lt. subst (P i) (front_of rest o i d lt) (q i d (omega arith))), subst (P (length rest)) (last_of rest o o) (q (length rest) o (omega arith)))

  -- and of one more
  pushes : (P : ℕ → A → Type 0) (xs : List A) (x : A) → ((i : ℕ) (d : A) → i < length xs → P i (get_or xs i d)) → P (length xs) x → (i : ℕ) (d : A) → i < length (xs ++ x ∷ []) → P i (get_or (xs ++ x ∷ []) i d)
  pushes P [] x all here zero d lt = here
  pushes P [] x all here (suc i) d lt = absurd (omega arith)
  pushes P (y ∷ ys) x all here zero d lt = all 0 d (omega arith)
  pushes P (y ∷ ys) x all here (suc i) d lt = pushes (λ j z. P (suc j) z) ys x (λ j e below. all (suc j) e (omega (arith, below))) here i d (omega (arith, lt))

-- Passes are split off

module _ {T : Type 0} where
  copied_fresh : (v : Actor T) → IsUnusedPass (copied v)
  copied_fresh v = record { stored = refl; repeated = refl; got = refl }

  pub fresh_of : (v w : Actor T) → w ≡ copied v → IsUnusedPass w
  fresh_of v w e = subst IsUnusedPass (sym e) (copied_fresh v)

  pub newcomer_fresh : (w : Actor T) → w ≡ newcomer → IsUnusedPass w
  newcomer_fresh w e = subst IsUnusedPass (sym e) (record { stored = refl; repeated = refl; got = refl })

  half_fresh : (v : Actor T) → IsUnusedPass v → IsUnusedPass (halves v)
  half_fresh v f = record { stored = f.stored; repeated = f.repeated; got = f.got }

pub forked_none : (b : Board) (first : BoardPass) (others : List Doing) → IsBoardPass b first → actor first ≡ newcomer → others ≡ [] → AreForked b [] first others
forked_none b first others pass e none = subst (λ (l : List Doing). AreForked b [] first l) (sym none) record {
  pass = pass;
  share = subst (HasPart 0) (sym e) (refl, refl);
  fresh = newcomer_fresh (actor first) e;
  passes = All-nil (λ (a : Doing). IsBoardPass b a.pass);
  shares = λ i d lt. absurd (omega (arith, lt));
  idle = All-nil (λ (a : Doing). IsUnusedPass (actor a.pass));
  units = All-nil (λ (a : Doing). All (λ (p : Offer). p.unit < unit_count b) a.part);
  within = All-nil (λ (a : Doing). All (Contains []) a.part);
  each = All-nil (IsFedBy []);
}

fed_still : (others : List Doing) (a : Doing) (p : Offer) → IsFedBy others p → IsFedBy (others ++ a ∷ []) p
fed_still others a p (x, has, is) = (x, Contains-append_left others (a ∷ []) x has, is)

pub forked_more : (b : Board) (offers part : List Offer) (first now : BoardPass) (others all : List Doing) (a : Doing) → all ≡ others ++ a ∷ [] → IsBoardPass b now → actor now ≡ halves (actor first) → IsBoardPass b a.pass → actor a.pass ≡ copied (actor first)
    → a.part ≡ part → All (λ (p : Offer). p.unit < unit_count b) part → AreForked b offers first others → AreForked b (part ++ offers) now all
forked_more b offers part first now others all a e pass half theirs copy is units f = subst (λ (l : List Doing). AreForked b (part ++ offers) now l) (sym e) record {
  pass = pass;
  share = subst (λ n. HasPart n (actor now)) more (subst (HasPart (length others + 1)) (sym half) shared.0);
  fresh = subst IsUnusedPass (sym half) (half_fresh (actor first) f.fresh);
  passes = All-push (λ (x : Doing). IsBoardPass b x.pass) others a f.passes theirs;
  shares = pushes (λ i (x : Doing). HasPart (i + 1) (actor x.pass)) others a f.shares (subst (HasPart (length others + 1)) (sym copy) shared.1);
  idle = All-push (λ (x : Doing). IsUnusedPass (actor x.pass)) others a f.idle (fresh_of (actor first) (actor a.pass) copy);
  units = All-push (λ (x : Doing). All (λ (p : Offer). p.unit < unit_count b) x.part) others a f.units (subst (All (λ (p : Offer). p.unit < unit_count b)) (sym is) units);
  within = All-push (λ (x : Doing). All (Contains (part ++ offers)) x.part) others a
      (All-weaker (λ (x : Doing). All (Contains offers) x.part) (λ (x : Doing). All (Contains (part ++ offers)) x.part) (λ x within. All-weaker (Contains offers) (Contains (part ++ offers)) (Contains-append_right part offers) x.part within) others f.within)
      (subst (All (Contains (part ++ offers))) (sym is) (All-weaker (Contains part) (Contains (part ++ offers)) (Contains-append_left part offers) part (All-contains_itself part)));
  each = All-append (IsFedBy (others ++ a ∷ [])) part offers
      (All-weaker (Contains part) (IsFedBy (others ++ a ∷ [])) (λ p has. (a, Contains-push others a, subst (λ (l : List Offer). Contains l p) (sym is) has)) part (All-contains_itself part))
      (All-weaker (IsFedBy others) (IsFedBy (others ++ a ∷ [])) (fed_still others a) offers f.each);
}
  where
    shared : HasPart (length others + 1) (halves (actor first)) × HasPart (length others + 1) (copied (actor first))
    shared = splits_part (length others) (actor first) f.share

    more : length others + 1 ≡ length (others ++ a ∷ [])
    more = let n = longer others a in omega (arith, n)

-- Passes of the handover are split off

pub hands_none : (h : Handover) (first : HandPass) (others : List Doing) → IsHandPass h first → hand_actor first ≡ newcomer → others ≡ [] → HandsForked h first others
hands_none h first others pass e none = subst (HandsForked h first) (sym none) record {
  pass = pass;
  share = subst (HasPart 0) (sym e) (refl, refl);
  fresh = newcomer_fresh (hand_actor first) e;
  passes = All-nil (λ (a : Doing). IsHandPass h a.hand);
  shares = λ i d lt. absurd (omega (arith, lt));
}

pub hands_more : (h : Handover) (first now : HandPass) (others all : List Doing) (a : Doing) → all ≡ others ++ a ∷ [] → IsHandPass h now → hand_actor now ≡ halves (hand_actor first) → IsHandPass h a.hand → hand_actor a.hand ≡ copied (hand_actor first)
    → HandsForked h first others → HandsForked h now all
hands_more h first now others all a e pass half theirs copy f = subst (HandsForked h now) (sym e) record {
  pass = pass;
  share = subst (λ n. HasPart n (hand_actor now)) more (subst (HasPart (length others + 1)) (sym half) shared.0);
  fresh = subst IsUnusedPass (sym half) (half_fresh (hand_actor first) f.fresh);
  passes = All-push (λ (x : Doing). IsHandPass h x.hand) others a f.passes theirs;
  shares = pushes (λ i (x : Doing). HasPart (i + 1) (hand_actor x.hand)) others a f.shares (subst (HasPart (length others + 1)) (sym copy) shared.1);
}
  where
    shared : HasPart (length others + 1) (halves (hand_actor first)) × HasPart (length others + 1) (copied (hand_actor first))
    shared = splits_part (length others) (hand_actor first) f.share

    more : length others + 1 ≡ length (others ++ a ∷ [])
    more = let n = longer others a in omega (arith, n)

-- Activities ran

stored_within : (offers : List Offer) (part : List Offer) (v w : Actor Offer) → v.stored ≡ [] → All (Contains offers) part → All (λ (p : Offer). Contains v.stored p ⊎ Contains part p) w.stored → All (Contains offers) w.stored
stored_within offers part v w none within files = All-weaker (λ (p : Offer). Contains v.stored p ⊎ Contains part p) (Contains offers) of w.stored files
  where
    of : (p : Offer) → Contains v.stored p ⊎ Contains part p → Contains offers p
    of p (inl c) = absurd (let lt = c.1 in let e = ap length none in omega arith)
    of p (inr c) = All-contains (Contains offers) part p within c

pub may_join_hands : (x : Exchange) (first : HandPass) (old new : List Doing) → length new ≡ length old → HandsForked x.handover first old → ((i : ℕ) (d : Doing) → i < length old → HasRun x (get_or old i d) (get_or new i d))
    → MayJoinHands x.handover (length new) first new
may_join_hands x first old new size f ran = record {
  pass = f.pass;
  share = first_rest (length new) (hand_actor first) (subst (λ n. HasPart n (hand_actor first)) (sym size) f.share);
  passes = λ i d lt. (ran i d (below i lt)).hand.pass;
  shares = λ i d lt. let s = (ran i d (below i lt)).hand.share in let p = f.shares i d (below i lt) in (s.0 ∙ p.0, s.1 ∙ p.1);
}
  where
    below : (i : ℕ) → i < length new → i < length old
    below i lt = omega (arith, lt, size)

module _ (x : Exchange) (offers : List Offer) (first : BoardPass) (old new : List Doing) (size : length new ≡ length old) (f : AreForked x.board offers first old) (ran : (i : ℕ) (d : Doing) → i < length old → HasRun x (get_or old i d) (get_or new i d)) where
  below : (i : ℕ) → i < length new → i < length old
  below i lt = omega (arith, lt, size)

  pub may_join : MayJoin x.board (length new) first new
  may_join = record {
    pass = f.pass;
    share = first_rest (length new) (actor first) (subst (λ n. HasPart n (actor first)) (sym size) f.share);
    passes = λ i d lt. (ran i d (below i lt)).pass;
    shares = λ i d lt. let s = (ran i d (below i lt)).share in let p = f.shares i d (below i lt) in (s.0 ∙ p.0, s.1 ∙ p.1);
  }

  filed_there : (p : Offer) → IsFedBy old p → (a : Doing) × Contains new a × IsFiled (actor a.pass) p
  filed_there p (a, (i, lt, e), is) =
      let r : HasRun x a (get_or new i a) = subst (λ (y : Doing). HasRun x y (get_or new i a)) e (ran i a lt) in
      (get_or new i a, Contains-get_or new i a (omega (arith, lt, size)), All-contains (IsFiled (actor (get_or new i a).pass)) a.part p r.each is)

  pub filed_by : AreFiledBy offers (actor first) new
  filed_by = record {
    mine = subst (All (Contains offers)) (sym f.fresh.stored) (All-nil (Contains offers));
    theirs = λ i d lt. let r = ran i d (below i lt) in
        stored_within offers (get_or old i d).part (actor (get_or old i d).pass) (actor (get_or new i d).pass) (f.idle i d (below i lt)).stored (f.within i d (below i lt)) r.files;
    each = All-weaker (IsFedBy old) (λ (p : Offer). IsFiled (actor first) p ⊎ ((a : Doing) × Contains new a × IsFiled (actor a.pass) p)) (λ p fed. inr (filed_there p fed)) offers f.each;
  }

-- Activities are joined

pub join_one : (b : Board) (n : ℕ) (v now : BoardPass) (old rest : List Doing) (o : Doing) → old ≡ rest ++ o ∷ [] → IsBoardPass b now → actor now ≡ joined (actor v) (actor o.pass) → MayJoin b n v old → MayJoin b n now rest
join_one b n v now old rest o e pass union m = record {
  pass = pass;
  share = subst (HasRest n (length rest)) (sym union) (joins_rest n (length rest) (actor v) (actor o.pass) (subst (λ k. HasRest n k (actor v)) size m.share) (subst (λ k. HasPart k (actor o.pass)) one shares.1));
  passes = passes.0;
  shares = shares.0;
}
  where
    size : length old ≡ suc (length rest)
    size = ap length e ∙ longer rest o

    one : length rest + 1 ≡ suc (length rest)
    one = omega arith

    passes : ((i : ℕ) (d : Doing) → i < length rest → IsBoardPass b (get_or rest i d).pass) × IsBoardPass b o.pass
    passes = pops (λ i (x : Doing). IsBoardPass b x.pass) old rest o e m.passes

    shares : ((i : ℕ) (d : Doing) → i < length rest → HasPart (i + 1) (actor (get_or rest i d).pass)) × HasPart (length rest + 1) (actor o.pass)
    shares = pops (λ i (x : Doing). HasPart (i + 1) (actor x.pass)) old rest o e m.shares

pub join_hand : (h : Handover) (n : ℕ) (v now : HandPass) (old rest : List Doing) (o : Doing) → old ≡ rest ++ o ∷ [] → IsHandPass h now → hand_actor now ≡ joined (hand_actor v) (hand_actor o.hand) → MayJoinHands h n v old → MayJoinHands h n now rest
join_hand h n v now old rest o e pass union m = record {
  pass = pass;
  share = subst (HasRest n (length rest)) (sym union)
      (joins_rest n (length rest) (hand_actor v) (hand_actor o.hand) (subst (λ k. HasRest n k (hand_actor v)) size m.share) (subst (λ k. HasPart k (hand_actor o.hand)) one shares.1));
  passes = passes.0;
  shares = shares.0;
}
  where
    size : length old ≡ suc (length rest)
    size = ap length e ∙ longer rest o

    one : length rest + 1 ≡ suc (length rest)
    one = omega arith

    passes : ((i : ℕ) (d : Doing) → i < length rest → IsHandPass h (get_or rest i d).hand) × IsHandPass h o.hand
    passes = pops (λ i (x : Doing). IsHandPass h x.hand) old rest o e m.passes

    shares : ((i : ℕ) (d : Doing) → i < length rest → HasPart (i + 1) (hand_actor (get_or rest i d).hand)) × HasPart (length rest + 1) (hand_actor o.hand)
    shares = pops (λ i (x : Doing). HasPart (i + 1) (hand_actor x.hand)) old rest o e m.shares

filed_left : (v w : Actor Offer) (p : Offer) → IsFiled v p → IsFiled (joined v w) p
filed_left v w p (inl c) = inl (Contains-append_left v.stored w.stored p c)
filed_left v w p (inr c) = inr (Contains-append_left v.repeated w.repeated (p.unit, p.place) c)

filed_right : (v w : Actor Offer) (p : Offer) → IsFiled w p → IsFiled (joined v w) p
filed_right v w p (inl c) = inl (Contains-append_right v.stored w.stored p c)
filed_right v w p (inr c) = inr (Contains-append_right v.repeated w.repeated (p.unit, p.place) c)

pub filed_one : (offers : List Offer) (v now : Actor Offer) (old rest : List Doing) (o : Doing) → old ≡ rest ++ o ∷ [] → now ≡ joined v (actor o.pass) → AreFiledBy offers v old → AreFiledBy offers now rest
filed_one offers v now old rest o e union f = subst (λ (w : Actor Offer). AreFiledBy offers w rest) (sym union) record {
  mine = All-append (Contains offers) v.stored (actor o.pass).stored f.mine theirs.1;
  theirs = theirs.0;
  each = All-weaker (λ (p : Offer). IsFiled v p ⊎ ((a : Doing) × Contains old a × IsFiled (actor a.pass) p)) (λ (p : Offer). IsFiled (joined v (actor o.pass)) p ⊎ ((a : Doing) × Contains rest a × IsFiled (actor a.pass) p)) of offers f.each;
}
  where
    theirs : ((i : ℕ) (d : Doing) → i < length rest → All (Contains offers) (actor (get_or rest i d).pass).stored) × All (Contains offers) (actor o.pass).stored
    theirs = pops (λ i (x : Doing). All (Contains offers) (actor x.pass).stored) old rest o e f.theirs

    last : (p : Offer) (a : Doing) → IsFiled (actor a.pass) p → Contains rest a ⊎ (o ≡ a) → IsFiled (joined v (actor o.pass)) p ⊎ ((x : Doing) × Contains rest x × IsFiled (actor x.pass) p)
    last p a filed (inl there) = inr (a, there, filed)
    last p a filed (inr same) = inl (filed_right v (actor o.pass) p (subst (λ (x : Doing). IsFiled (actor x.pass) p) (sym same) filed))

    of : (p : Offer) → IsFiled v p ⊎ ((a : Doing) × Contains old a × IsFiled (actor a.pass) p) → IsFiled (joined v (actor o.pass)) p ⊎ ((a : Doing) × Contains rest a × IsFiled (actor a.pass) p)
    of p (inl filed) = inl (filed_left v (actor o.pass) p filed)
    of p (inr (a, has, filed)) = last p a filed (Contains-push_cases rest o a (subst (λ (l : List Doing). Contains l a) e has))

pub filed_all : (offers : List Offer) (v : Actor Offer) (others : List Doing) → length others ≡ 0 → AreFiledBy offers v others → HasFiled offers v
filed_all offers v others none f = record {
  only = f.mine;
  each = All-weaker (λ (p : Offer). IsFiled v p ⊎ ((a : Doing) × Contains others a × IsFiled (actor a.pass) p)) (IsFiled v) of offers f.each;
}
  where
    of : (p : Offer) → IsFiled v p ⊎ ((a : Doing) × Contains others a × IsFiled (actor a.pass) p) → IsFiled v p
    of p (inl filed) = filed
    of p (inr (a, (i, lt, e), filed)) = absurd (omega (arith, lt, none))

-- what follows where a call succeeded
pub then_ok : {T E : Type 0} (P Q : Type 0) (r : Result T E) → (P → Q) → OnOk r P → OnOk r Q
then_ok P Q (Ok x) more p = more p
then_ok P Q (Err e) more p = tt

-- Where nothing is left

pub not_some : (n : ℕ) → ¬ (0 < n) → n ≡ 0
not_some zero none = refl
not_some (suc n) none = absurd (none (omega arith))

pub forked_all : (b : Board) (initial rest done : List Feed) (first : BoardPass) (others : List Doing) → ¬ (0 < length rest) → initial ≡ rest ++ done → AreForked b (fed done) first others → AreForked b (fed initial) first others
forked_all b initial [] done first others none e f = subst (λ (l : List Feed). AreForked b (fed l) first others) (sym e) f
forked_all b initial (x ∷ xs) done first others none e f = absurd (none (omega arith))
