-- What a coder keeps is kept where it gets more.
use Rattle.std.proofs.Common.{◌≡◌, ◌⊎◌, inl, inr, ℕ, suc, ◌<◌, Bool, true, false, true≢false, List, [], ◌∷◌, ◌++◌, All, refl, sym, subst}
use Rattle.std.specs.List.{Contains}
use Rattle.std.proofs.lemmas.List.Elements.{Contains-append_left, Contains-append_right, Contains-push, All-nil, All-cons, All-append, All-push, All-weaker, All-contains_itself}
use Rattle.xs_params.specs.Geometry.{slice_count}
use Rattle.xs_lane_core.specs.Machine.{Placing}
use Rattle.xs_lanes.specs.Claiming.{IsRun}
use Rattle.xs_enc_lanes.specs.declared.activity.CodedSlice.{CodedSlice}
use Rattle.xs_enc_lanes.specs.declared.activity.Job.{Job}
use Rattle.xs_enc_lanes.specs.Coded.{HasAdded, HasSlice, IsCodedOf, Keeps}
use Rattle.xs_enc_lanes.specs.Rows.{Carried, parts, slice_of}

-- Runs

pub run_lane : {T : Type 0} (k : Placing T) (l p : ℕ) (xs : List T) → IsRun k l p xs → All (λ (x : T). k.lane x ≡ l) xs
run_lane k l p [] r = absurd r
run_lane {T} k l p (x ∷ xs) r = All-cons (λ (y : T). k.lane y ≡ l) x xs r.0 (rest (λ r'. run_lane k l (suc p) xs r') (k.closes x) refl)
  where
    rest : (IsRun k l (suc p) xs → All (λ (y : T). k.lane y ≡ l) xs) → (b : Bool) → k.closes x ≡ b → All (λ (y : T). k.lane y ≡ l) xs
    rest more true e = subst (All (λ (y : T). k.lane y ≡ l)) (sym (r.2 e)) (All-nil (λ (y : T). k.lane y ≡ l))
    rest more false e = more (r.3 e)

-- Slices

coded_more : (job : Job) (got more : List Carried) (c : CodedSlice) → IsCodedOf job got c → IsCodedOf job (got ++ more) c
coded_more job got more c is = record { there = is.there; values = is.values; run = is.run; from = All-weaker (Contains got) (Contains (got ++ more)) (λ x. Contains-append_left got more x) is.values is.from; coded = is.coded }

coded_after : (job : Job) (got more : List Carried) (c : CodedSlice) → IsCodedOf job more c → IsCodedOf job (got ++ more) c
coded_after job got more c is = record { there = is.there; values = is.values; run = is.run; from = All-weaker (Contains more) (Contains (got ++ more)) (λ x. Contains-append_right got more x) is.values is.from; coded = is.coded }

all_more : (job : Job) (got more : List Carried) (kept : List CodedSlice) → All (IsCodedOf job got) kept → All (IsCodedOf job (got ++ more)) kept
all_more job got more kept all = All-weaker (IsCodedOf job got) (IsCodedOf job (got ++ more)) (coded_more job got more) kept all

all_after : (job : Job) (got more : List Carried) (kept : List CodedSlice) → All (IsCodedOf job more) kept → All (IsCodedOf job (got ++ more)) kept
all_after job got more kept all = All-weaker (IsCodedOf job more) (IsCodedOf job (got ++ more)) (coded_after job got more) kept all

slices_in : (kept all : List CodedSlice) (got : List Carried) → ((c : CodedSlice) → Contains kept c → Contains all c) → All (λ (v : Carried). HasSlice kept (slice_of v)) got → All (λ (v : Carried). HasSlice all (slice_of v)) got
slices_in kept all got more each = All-weaker (λ (v : Carried). HasSlice kept (slice_of v)) (λ (v : Carried). HasSlice all (slice_of v)) (λ v has. (has.0, more has.0 has.1, has.2)) got each

-- What happens to a coder

pub keeps_none : (job : Job) (got : List Carried) (kept : List CodedSlice) (s : Bool) → got ≡ [] → kept ≡ [] → Keeps job got kept s
keeps_none job got kept s none empty = subst (λ l. Keeps job l kept s) (sym none) (subst (λ k. Keeps job [] k s) (sym empty) (record { coded = All-nil (IsCodedOf job []); each = λ f. All-nil (λ (v : Carried). HasSlice [] (slice_of v)) }))

pub starves : (job : Job) (got more now : List Carried) (kept : List CodedSlice) (s : Bool) → Keeps job got kept s → now ≡ got ++ more → Keeps job now kept true
starves job got more now kept s k e = subst (λ g. Keeps job g kept true) (sym e) (record { coded = all_more job got more kept k.coded; each = λ f. absurd (true≢false f) })

pub starves_here : (job : Job) (got : List Carried) (kept : List CodedSlice) (s : Bool) → Keeps job got kept s → Keeps job got kept true
starves_here job got kept s k = record { coded = k.coded; each = λ f. absurd (true≢false f) }

pub keeps_same : (job : Job) (got now : List Carried) (kept : List CodedSlice) (s : Bool) → Keeps job got kept s → now ≡ got → Keeps job now kept s
keeps_same job got now kept s k e = subst (λ g. Keeps job g kept s) (sym e) k

pub keeps_added : (job : Job) (got values now : List Carried) (kept all : List CodedSlice) (s : Bool) (slice : ℕ) → Keeps job got kept s → now ≡ got ++ values → slice < slice_count job.header.now → IsRun parts slice 0 values → HasAdded job slice values kept all
    → Keeps job now all s
keeps_added job got values now kept all s slice k e there run (outcome, coded, added) = subst (λ g. Keeps job g all s) (sym e) (subst (λ q. Keeps job (got ++ values) q s) (sym added) (record {
  coded = All-push (IsCodedOf job (got ++ values)) kept new (all_more job got values kept k.coded) this;
  each = λ f. All-append (λ (v : Carried). HasSlice (kept ++ new ∷ []) (slice_of v)) got values (slices_in kept (kept ++ new ∷ []) got (λ c has. Contains-append_left kept (new ∷ []) c has) (k.each f))
      (All-weaker (λ (v : Carried). slice_of v ≡ slice) (λ (v : Carried). HasSlice (kept ++ new ∷ []) (slice_of v)) (λ v of. (new, Contains-push kept new, sym of)) values (run_lane parts slice 0 values run));
}))
  where
    new : CodedSlice
    new = record { slice = slice; outcome = outcome }

    this : IsCodedOf job (got ++ values) new
    this = record { there = there; values = values; run = run; from = All-weaker (Contains values) (Contains (got ++ values)) (λ x. Contains-append_right got values x) values (All-contains_itself values); coded = coded }

-- Two that are joined

pub keeps_joined : (job : Job) (got more now : List Carried) (kept add all : List CodedSlice) (s s' t : Bool) → Keeps job got kept s → Keeps job more add s' → now ≡ got ++ more → (t ≡ false → all ≡ kept ++ add) → (all ≡ kept ++ add) ⊎ (all ≡ kept)
    → (t ≡ false → s ≡ false) → (t ≡ false → s' ≡ false) → Keeps job now all t
keeps_joined job got more now kept add all s s' t k k' e whole either one two = subst (λ g. Keeps job g all t) (sym e) (record {
  coded = by either;
  each = λ f. subst (λ q. All (λ (v : Carried). HasSlice q (slice_of v)) (got ++ more)) (sym (whole f)) (All-append (λ (v : Carried). HasSlice (kept ++ add) (slice_of v)) got more
      (slices_in kept (kept ++ add) got (Contains-append_left kept add) (k.each (one f))) (slices_in add (kept ++ add) more (Contains-append_right kept add) (k'.each (two f))));
})
  where
    by : (all ≡ kept ++ add) ⊎ (all ≡ kept) → All (IsCodedOf job (got ++ more)) all
    by (inl is) = subst (All (IsCodedOf job (got ++ more))) (sym is) (All-append (IsCodedOf job (got ++ more)) kept add (all_more job got more kept k.coded) (all_after job got more add k'.coded))
    by (inr is) = subst (All (IsCodedOf job (got ++ more))) (sym is) (all_more job got more kept k.coded)
