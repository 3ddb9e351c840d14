-- Passes are split off for activities, and joined again.
use Rattle.std.proofs.Common.{◌≡◌, ◌⊎◌, inl, inr, ℕ, zero, suc, ◌+◌, ◌<◌, false, Option, length, List, [], ◌∷◌, ◌++◌, All, get_or, refl, sym, ap, ◌∙◌, subst, arith}
use Rattle.std.specs.List.{Contains}
use Rattle.std.proofs.lemmas.List.Elements.{Contains-append_left, Contains-append_right, Contains-get_or, Contains-push, Contains-push_cases, All-nil, All-append, All-push}
use Rattle.std.proofs.lemmas.List.Sums.{sum_by-append}
use Rattle.atomic_table.specs.declared.shared.Seat.{Seat}
use Rattle.xs_layout.specs.Geometry.{components_of}
use Rattle.xs_params.specs.Geometry.{slice_count}
use Rattle.xs_lane_core.specs.Machine.{Actor, newcomer, halves, copied, joined}
use Rattle.xs_lane_core.specs.Sound.{at}
use Rattle.xs_lanes.specs.declared.table.Lanes.{Lanes}
use Rattle.xs_lanes.specs.Gathering.{HasPart, HasRest}
use Rattle.xs_lanes.specs.Knowing.{SameShare}
use Rattle.xs_lanes.specs.Passes.{IsPassOf, view}
use Rattle.xs_lanes.proofs.Gathering.{splits_part, first_rest, joins_rest}
use Rattle.xs_enc_lanes.specs.declared.activity.Activity.{Activity}
use Rattle.xs_enc_lanes.specs.declared.activity.Job.{Job}
use Rattle.xs_enc_lanes.specs.declared.activity.Role.TheVariants.{Component, Coder}
use Rattle.xs_enc_lanes.specs.Coded.{rows_of_job}
use Rattle.xs_enc_lanes.specs.Rows.{Carried, CarriesRows, parts}
use Rattle.xs_enc_lanes.specs.Working.{AreFiledTo, AreForked, AreJoined, FilesFor, HasAllFiled, HasJoined, HasRole, HasRun, HasWorked, IsFiled, IsUnusedPass, IsIdle, IsReadyToCode, IsRoleOf, Goes, MayJoin, StoresRows}
use Rattle.xs_enc_lanes.proofs.Keeping.{keeps_joined, keeps_none}

-- Lists

module _ {A : Type 0} where
  front_of : (xs : List A) (o : A) (i : ℕ) (d : A) → i < length xs → get_or (xs ++ o ∷ []) i d ≡ get_or xs i d
  front_of [] o i d lt = absurd (omega arith)
  front_of (x ∷ xs) o zero d lt = refl
  front_of (x ∷ xs) o (suc i) d lt = front_of xs o i d (omega arith)

  last_of : (xs : List A) (o d : A) → get_or (xs ++ o ∷ []) (length xs) d ≡ o
  last_of [] o d = refl
  last_of (x ∷ xs) o d = last_of xs o d

  pub longer : (xs : List A) (o : A) → length (xs ++ o ∷ []) ≡ suc (length xs)
  longer [] o = refl
  longer (x ∷ xs) o = ap suc (longer xs o)

  -- what holds of each element and its place holds of the last one and of the others
  pub pops : (P : ℕ → A → Type 0) (old rest : List A) (o : A) → old ≡ rest ++ o ∷ [] → ((i : ℕ) (d : A) → i < length old → P i (get_or old i d)) → ((i : ℕ) (d : A) → i < length rest → P i (get_or rest i d)) × P (length rest) o
  pops P old rest o e all = let q = subst (λ (l : List A). (i : ℕ) (d : A) → i < length l → P i (get_or l i d)) e all in let n = longer rest o in
      ((λ i d lt. subst (P i) (front_of rest o i d lt) (q i d (omega arith))), subst (P (length rest)) (last_of rest o o) (q (length rest) o (omega arith)))

  -- and of one more
  pub pushes : (P : ℕ → A → Type 0) (xs : List A) (x : A) → ((i : ℕ) (d : A) → i < length xs → P i (get_or xs i d)) → P (length xs) x → (i : ℕ) (d : A) → i < length (xs ++ x ∷ []) → P i (get_or (xs ++ x ∷ []) i d)
  pushes P [] x all here zero d lt = here
  pushes P [] x all here (suc i) d lt = absurd (omega arith)
  pushes P (y ∷ ys) x all here zero d lt = all 0 d (omega arith)
  pushes P (y ∷ ys) x all here (suc i) d lt = pushes (λ j z. P (suc j) z) ys x (λ j e below. all (suc j) e (omega (arith, below))) here i d (omega (arith, lt))

-- Passes are split off

abbrev pub Pass : Type 0
Pass = Seat (Option Carried) (Actor Carried)

copied_fresh : (v : Actor Carried) → IsUnusedPass (copied v)
copied_fresh v = record { stored = refl; repeated = refl; got = refl }

half_fresh : (v : Actor Carried) → IsUnusedPass v → IsUnusedPass (halves v)
half_fresh v f = record { stored = f.stored; repeated = f.repeated; got = f.got }

pub forked_none : (lanes : Lanes Carried) (components : ℕ) (first : Pass) (others : List Activity) → IsPassOf lanes first → view first ≡ newcomer → others ≡ [] → AreForked lanes components first others
forked_none lanes components first others pass e none = subst (AreForked lanes components first) (sym none) (record {
  pass = pass;
  share = subst (HasPart 0) (sym e) (refl, refl);
  fresh = subst IsUnusedPass (sym e) (record { stored = refl; repeated = refl; got = refl });
  idle = All-nil (IsIdle lanes components);
  shares = λ i d lt. absurd (omega (arith, lt));
})

pub forked_more : (lanes : Lanes Carried) (components : ℕ) (first now : Pass) (others all : List Activity) (a : Activity) → all ≡ others ++ a ∷ [] → IsPassOf lanes now → view now ≡ halves (view first) → IsPassOf lanes a.pass → view a.pass ≡ copied (view first)
    → a.kept.items ≡ [] → IsRoleOf components a.role → AreForked lanes components first others → AreForked lanes components now all
forked_more lanes components first now others all a e pass half theirs copy empty role f = subst (AreForked lanes components now) (sym e) (record {
  pass = pass;
  share = subst (λ n. HasPart n (view now)) more (subst (HasPart (length others + 1)) (sym half) shared.0);
  fresh = subst IsUnusedPass (sym half) (half_fresh (view first) f.fresh);
  idle = All-push (IsIdle lanes components) others a f.idle (record { pass = theirs; fresh = subst IsUnusedPass (sym copy) (copied_fresh (view first)); kept = empty; role = role });
  shares = pushes (λ i (x : Activity). HasPart (i + 1) (view x.pass)) others a f.shares (subst (HasPart (length others + 1)) (sym copy) shared.1);
})
  where
    shared : HasPart (length others + 1) (halves (view first)) × HasPart (length others + 1) (copied (view first))
    shared = splits_part (length others) (view first) f.share

    more : length others + 1 ≡ length (others ++ a ∷ [])
    more = let n = longer others a in omega (arith, n)

pub role_still : (others all : List Activity) (a : Activity) (c : ℕ) → all ≡ others ++ a ∷ [] → HasRole others c → HasRole all c
role_still others all a c e (x, has, is) = subst (λ l. HasRole l c) (sym e) (x, Contains-append_left others (a ∷ []) x has, is)

pub role_new : (others all : List Activity) (a : Activity) (c : ℕ) → all ≡ others ++ a ∷ [] → a.role ≡ Component c → HasRole all c
role_new others all a c e is = subst (λ l. HasRole l c) (sym e) (a, Contains-push others a, is)

-- Activities ran

pub may_join : (job : Job) (components : ℕ) (first : Pass) (old new : List Activity) → length new ≡ length old → AreForked job.lanes.now components first old
    → ((i : ℕ) (d : Activity) → i < length old → HasRun job (get_or old i d) (get_or new i d)) → MayJoin job.lanes.now (length new) first new
may_join job components first old new size f ran = record {
  pass = f.pass;
  share = first_rest (length new) (view first) (subst (λ n. HasPart n (view first)) (sym size) f.share);
  shares = λ i d lt.
      let below : i < length old = omega (arith, lt, size) in
      let s = (ran i d below).share in
      let p = f.shares i d below in
      (s.0 ∙ p.0, s.1 ∙ p.1);
}

ran_role : (job : Job) (old new : List Activity) (c : ℕ) → length new ≡ length old → ((i : ℕ) (d : Activity) → i < length old → HasRun job (get_or old i d) (get_or new i d)) → HasRole old c → HasRole new c
ran_role job old new c size ran (a, (i, lt, e), is) =
    (get_or new i a, Contains-get_or new i a (omega (arith, lt, size)), (ran i a lt).role ∙ ap (λ (x : Activity). x.role) e ∙ is)

pub are_joined : (job : Job) (a : Activity) (old new : List Activity) → length new ≡ length old → IsUnusedPass (view a.pass) → a.kept.items ≡ []
    → ((i : ℕ) (d : Activity) → i < length old → HasRun job (get_or old i d) (get_or new i d)) → ((c : ℕ) → c < components_of job.header.now.shape.format → HasRole old c) → AreJoined job a new
are_joined job a old new size fresh empty ran roles = record {
  stored = subst (All (CarriesRows job.header.now (rows_of_job job))) (sym fresh.stored) (All-nil (CarriesRows job.header.now (rows_of_job job)));
  keeps = keeps_none job (view a.pass).got a.kept.items a.starved fresh.got empty;
  theirs = λ i d lt. (ran i d (omega (arith, lt, size))).worked;
  files = λ c below. inr (ran_role job old new c size ran (roles c below));
}

-- Activities are joined

pub join_one : (lanes : Lanes Carried) (n : ℕ) (v now : Pass) (old rest : List Activity) (o : Activity) → old ≡ rest ++ o ∷ [] → IsPassOf lanes now → view now ≡ joined (view v) (view o.pass) → MayJoin lanes n v old → MayJoin lanes n now rest
join_one lanes n v now old rest o e pass union m = record {
  pass = pass;
  share = subst (HasRest n (length rest)) (sym union) (joins_rest n (length rest) (view v) (view o.pass) (subst (λ k. HasRest n k (view v)) size m.share) (subst (λ k. HasPart k (view o.pass)) one shares.1));
  shares = shares.0;
}
  where
    size : length old ≡ suc (length rest)
    size = ap length e ∙ longer rest o

    one : length rest + 1 ≡ suc (length rest)
    one = omega arith

    shares : ((i : ℕ) (d : Activity) → i < length rest → HasPart (i + 1) (view (get_or rest i d).pass)) × HasPart (length rest + 1) (view o.pass)
    shares = pops (λ i (x : Activity). HasPart (i + 1) (view x.pass)) old rest o e m.shares

filed_left : (v w : Actor Carried) (slice c : ℕ) → IsFiled v slice c → IsFiled (joined v w) slice c
filed_left v w slice c (inl some) = let sum = sum_by-append (at parts slice c) v.stored w.stored in inl (omega (arith, some, sum))
filed_left v w slice c (inr has) = inr (Contains-append_left v.repeated w.repeated (slice, c) has)

filed_right : (v w : Actor Carried) (slice c : ℕ) → IsFiled w slice c → IsFiled (joined v w) slice c
filed_right v w slice c (inl some) = let sum = sum_by-append (at parts slice c) v.stored w.stored in inl (omega (arith, some, sum))
filed_right v w slice c (inr has) = inr (Contains-append_right v.repeated w.repeated (slice, c) has)

pub joined_one : (job : Job) (a now : Activity) (old rest : List Activity) (o : Activity) → old ≡ rest ++ o ∷ [] → HasJoined a o now → AreJoined job a old → AreJoined job now rest
joined_one job a now old rest o e j f = record {
  stored = subst (StoresRows job) (sym j.union) (All-append (CarriesRows job.header.now (rows_of_job job)) (view a.pass).stored (view o.pass).stored f.stored theirs.1.stored);
  keeps = keeps_joined job (view a.pass).got (view o.pass).got (view now.pass).got a.kept.items o.kept.items now.kept.items a.starved o.starved now.starved f.keeps theirs.1.keeps (ap (λ (z : Actor Carried). z.got) j.union) j.kept j.lost j.mine j.theirs;
  theirs = theirs.0;
  files = λ c below. by c (f.files c below);
}
  where
    theirs : ((i : ℕ) (d : Activity) → i < length rest → HasWorked job (get_or rest i d)) × HasWorked job o
    theirs = pops (λ i (x : Activity). HasWorked job x) old rest o e f.theirs

    count : ℕ
    count = slice_count job.header.now

    mine : (c : ℕ) → (a.starved ≡ false → AreFiledTo count c (view a.pass)) → now.starved ≡ false → AreFiledTo count c (view now.pass)
    mine c filed sated slice below = subst (λ (v : Actor Carried). IsFiled v slice c) (sym j.union) (filed_left (view a.pass) (view o.pass) slice c (filed (j.mine sated) slice below))

    last : (c : ℕ) → o.role ≡ Component c → now.starved ≡ false → AreFiledTo count c (view now.pass)
    last c is sated slice below =
        subst (λ (v : Actor Carried). IsFiled v slice c) (sym j.union) (filed_right (view a.pass) (view o.pass) slice c (subst (λ r. FilesFor job r (view o.pass)) is (theirs.1.files (j.theirs sated)) slice below))

    by : (c : ℕ) → (a.starved ≡ false → AreFiledTo count c (view a.pass)) ⊎ HasRole old c → (now.starved ≡ false → AreFiledTo count c (view now.pass)) ⊎ HasRole rest c
    by c (inl filed) = inl (mine c filed)
    by c (inr (x, has, is)) = elim (Contains-push_cases rest o x (subst (λ l. Contains l x) e has)) [
      | inl there ↦ inr (x, there, is)
      | inr same ↦ inl (last c (ap (λ (z : Activity). z.role) same ∙ is))
    ]

pub joined_all : (job : Job) (a : Activity) (others : List Activity) → length others ≡ 0 → AreJoined job a others → HasAllFiled job a
joined_all job a others none f = record { stored = f.stored; keeps = f.keeps; files = λ sated c below. by c sated (f.files c below) }
  where
    by : (c : ℕ) → a.starved ≡ false → (a.starved ≡ false → AreFiledTo (slice_count job.header.now) c (view a.pass)) ⊎ HasRole others c → AreFiledTo (slice_count job.header.now) c (view a.pass)
    by c sated (inl filed) = filed sated
    by c sated (inr (x, (i, lt, e), is)) = absurd (omega (arith, lt, none))

-- Where nothing is left

pub not_some : (n : ℕ) → ¬ (0 < n) → n ≡ 0
not_some zero none = refl
not_some (suc n) none = absurd (none (omega arith))

-- Who ran

pub ready_idle : (job : Job) (components : ℕ) (a : Activity) → IsIdle job.lanes.now components a → IsReadyToCode job a
ready_idle job components a idle = record { pass = idle.pass; keeps = keeps_none job (view a.pass).got a.kept.items a.starved idle.fresh.got idle.kept }

stores_none : (job : Job) (v : Actor Carried) → v.stored ≡ [] → StoresRows job v
stores_none job v none = subst (All (CarriesRows job.header.now (rows_of_job job))) (sym none) (All-nil (CarriesRows job.header.now (rows_of_job job)))

pub ran_coder : (job : Job) (components n : ℕ) (a b : Activity) → IsIdle job.lanes.now components a → a.role ≡ Coder n → Goes job a b → HasRun job a b
ran_coder job components n a b idle is goes = record {
  worked = record {
    pass = goes.ready.pass;
    stored = stores_none job (view b.pass) (goes.files.stored ∙ idle.fresh.stored);
    keeps = goes.ready.keeps;
    files = λ sated. subst (λ r. FilesFor job r (view b.pass)) (sym (goes.role ∙ is)) tt;
  };
  share = goes.share;
  role = goes.role;
}

pub ran_component : (job : Job) (components c : ℕ) (a b : Activity) → IsIdle job.lanes.now components a → a.role ≡ Component c → IsPassOf job.lanes.now b.pass → SameShare (view a.pass) (view b.pass) → (view b.pass).got ≡ (view a.pass).got
    → (StoresRows job (view a.pass) → StoresRows job (view b.pass)) → b.role ≡ a.role → b.kept.items ≡ a.kept.items → (b.starved ≡ false → AreFiledTo (slice_count job.header.now) c (view b.pass)) → HasRun job a b
ran_component job components c a b idle is pass share got stored role kept filed = record {
  worked = record {
    pass = pass;
    stored = stored (stores_none job (view a.pass) idle.fresh.stored);
    keeps = keeps_none job (view b.pass).got b.kept.items b.starved (got ∙ idle.fresh.got) (kept ∙ idle.kept);
    files = λ sated. subst (λ r. FilesFor job r (view b.pass)) (sym (role ∙ is)) (filed sated);
  };
  share = share;
  role = role;
}
