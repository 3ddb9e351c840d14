-- A pass files values, one after the other.
use Rattle.std.proofs.Common.{◌≡◌, ◌⊎◌, inl, inr, List, [], ◌∷◌, ◌++◌, All, refl, sym, ap, subst, ◌∙◌}
use Rattle.std.specs.List.{Contains}
use Rattle.std.proofs.lemmas.List.Elements.{All-append, All-cons, All-contains, All-contains_itself, All-nil, All-push, All-weaker, Contains-append_left, Contains-append_right, Contains-push}
use Rattle.xs_lane_core.specs.Machine.{Actor}
use Rattle.xs_lanes.specs.declared.lanes.Put.{Put}
use Rattle.xs_lanes.specs.declared.lanes.Put.TheVariants.{Stored, Made, Repeat}
use Rattle.xs_lanes.specs.Answers.{Answers}
use Rattle.xs_handover.specs.Blocks.{Carried, blocks, stripe_of, block_place}
use Rattle.xs_handover.specs.Decoded.{IsDecodedBlock}
use Rattle.xs_handover.specs.Handing.{FilesAll, IsFiled}

-- nothing is filed
pub files_none : (v : Actor Carried) → FilesAll [] v v
files_none v = record {
  each = All-nil (IsFiled v);
  only = All-weaker (Contains v.stored) (λ (x : Carried). Contains v.stored x ⊎ Contains [] x) (λ x h. inl h) v.stored (All-contains_itself v.stored);
  stored = All-contains_itself v.stored;
  repeated = All-contains_itself v.repeated;
  got = refl;
  gone = refl;
}

-- the value is stored, or its place is repeated
record Puts (x : Carried) (v w : Actor Carried) : Type 0 where
  where_to : ((w.stored ≡ v.stored ++ x ∷ []) × (w.repeated ≡ v.repeated)) ⊎ ((w.stored ≡ v.stored) × (w.repeated ≡ v.repeated ++ (stripe_of x, block_place x) ∷ []))
  got : w.got ≡ v.got
  gone : w.gone ≡ v.gone

puts_is : (v : Actor Carried) (x : Carried) (w : Actor Carried) (r : Put Carried) → Answers blocks v x w r → Puts x v w
puts_is v x w Stored (inl (before, has, debt, view)) = record {
  where_to = inl (ap (λ (z : Actor Carried). z.stored) view, ap (λ (z : Actor Carried). z.repeated) view);
  got = ap (λ (z : Actor Carried). z.got) view;
  gone = ap (λ (z : Actor Carried). z.gone) view;
}
puts_is v x w Stored (inr (before, summary, sum, rest)) = record {
  where_to = inl (ap (λ (z : Actor Carried). z.stored) sum.view, ap (λ (z : Actor Carried). z.repeated) sum.view);
  got = ap (λ (z : Actor Carried). z.got) sum.view;
  gone = ap (λ (z : Actor Carried). z.gone) sum.view;
}
puts_is v x w Made (before, summary, sum, part, made) = record {
  where_to = inl (ap (λ (z : Actor Carried). z.stored) sum.view, ap (λ (z : Actor Carried). z.repeated) sum.view);
  got = ap (λ (z : Actor Carried). z.got) sum.view;
  gone = ap (λ (z : Actor Carried). z.gone) sum.view;
}
puts_is v x w (Repeat y) (same, view, alone) = record {
  where_to = inr (ap (λ (z : Actor Carried). z.stored) view, ap (λ (z : Actor Carried). z.repeated) view);
  got = ap (λ (z : Actor Carried). z.got) view;
  gone = ap (λ (z : Actor Carried). z.gone) view;
}

-- a list with one more at its end has what it had, and the one
has_before : {A : Type 0} (xs ys : List A) (x : A) → ys ≡ xs ++ x ∷ [] → All (Contains ys) xs
has_before xs ys x e = All-weaker (Contains xs) (Contains ys) (λ y h. subst (λ l. Contains l y) (sym e) (Contains-append_left xs (x ∷ []) y h)) xs (All-contains_itself xs)

has_last : {A : Type 0} (xs ys : List A) (x : A) → ys ≡ xs ++ x ∷ [] → Contains ys x
has_last xs ys x e = subst (λ l. Contains l x) (sym e) (Contains-push xs x)

has_same : {A : Type 0} (xs ys : List A) → ys ≡ xs → All (Contains ys) xs
has_same xs ys e = subst (λ l. All (Contains l) xs) (sym e) (All-contains_itself xs)

known : (v : Actor Carried) (x : Carried) → All (λ (y : Carried). Contains v.stored y ⊎ Contains (x ∷ []) y) v.stored
known v x = All-weaker (Contains v.stored) (λ (y : Carried). Contains v.stored y ⊎ Contains (x ∷ []) y) (λ y h. inl h) v.stored (All-contains_itself v.stored)

one_put : (v : Actor Carried) (x : Carried) (w : Actor Carried) → Puts x v w → FilesAll (x ∷ []) v w
one_put v x w p = by p.where_to
  where
    by : ((w.stored ≡ v.stored ++ x ∷ []) × (w.repeated ≡ v.repeated)) ⊎ ((w.stored ≡ v.stored) × (w.repeated ≡ v.repeated ++ (stripe_of x, block_place x) ∷ [])) → FilesAll (x ∷ []) v w
    by (inl here) = record {
      each = All-cons (IsFiled w) x [] (inl (has_last v.stored w.stored x here.0)) (All-nil (IsFiled w));
      only = subst (All (λ (y : Carried). Contains v.stored y ⊎ Contains (x ∷ []) y)) (sym here.0) (All-push (λ (y : Carried). Contains v.stored y ⊎ Contains (x ∷ []) y) v.stored x (known v x) (inr (Contains-push [] x)));
      stored = has_before v.stored w.stored x here.0;
      repeated = has_same v.repeated w.repeated here.1;
      got = p.got;
      gone = p.gone;
    }
    by (inr here) = record {
      each = All-cons (IsFiled w) x [] (inr (has_last v.repeated w.repeated (stripe_of x, block_place x) here.1)) (All-nil (IsFiled w));
      only = subst (All (λ (y : Carried). Contains v.stored y ⊎ Contains (x ∷ []) y)) (sym here.0) (known v x);
      stored = has_same v.stored w.stored here.0;
      repeated = has_before v.repeated w.repeated (stripe_of x, block_place x) here.1;
      got = p.got;
      gone = p.gone;
    }

-- one value is put
pub files_one : (v : Actor Carried) (x : Carried) (w : Actor Carried) (r : Put Carried) → Answers blocks v x w r → FilesAll (x ∷ []) v w
files_one v x w r answer = one_put v x w (puts_is v x w r answer)

filed_still : (v w : Actor Carried) (xs : List Carried) → FilesAll xs v w → (x : Carried) → IsFiled v x → IsFiled w x
filed_still v w xs f x (inl c) = inl (All-contains (Contains w.stored) v.stored x f.stored c)
filed_still v w xs f x (inr c) = inr (All-contains (Contains w.repeated) v.repeated (stripe_of x, block_place x) f.repeated c)

-- two lists of values, one after the other
pub files_more : (u v w : Actor Carried) (xs ys : List Carried) → FilesAll xs u v → FilesAll ys v w → FilesAll (xs ++ ys) u w
files_more u v w xs ys f g = record {
  each = All-append (IsFiled w) xs ys (All-weaker (IsFiled v) (IsFiled w) (filed_still v w ys g) xs f.each) g.each;
  only = All-weaker (λ (y : Carried). Contains v.stored y ⊎ Contains ys y) (λ (y : Carried). Contains u.stored y ⊎ Contains (xs ++ ys) y) late w.stored g.only;
  stored = All-weaker (Contains v.stored) (Contains w.stored) (λ y h. All-contains (Contains w.stored) v.stored y g.stored h) u.stored f.stored;
  repeated = All-weaker (Contains v.repeated) (Contains w.repeated) (λ y h. All-contains (Contains w.repeated) v.repeated y g.repeated h) u.repeated f.repeated;
  got = g.got ∙ f.got;
  gone = g.gone ∙ f.gone;
}
  where
    early : (y : Carried) → Contains u.stored y ⊎ Contains xs y → Contains u.stored y ⊎ Contains (xs ++ ys) y
    early y (inl c) = inl c
    early y (inr c) = inr (Contains-append_left xs ys y c)

    late : (y : Carried) → Contains v.stored y ⊎ Contains ys y → Contains u.stored y ⊎ Contains (xs ++ ys) y
    late y (inl c) = early y (All-contains (λ (z : Carried). Contains u.stored z ⊎ Contains xs z) v.stored y f.only c)
    late y (inr c) = inr (Contains-append_right xs ys y c)

-- the rows of all that is stored are those of their bytes
pub stored_decoded : (v : Actor Carried) (x : Carried) (w : Actor Carried) → All IsDecodedBlock v.stored → IsDecodedBlock x → FilesAll (x ∷ []) v w → All IsDecodedBlock w.stored
stored_decoded v x w before here f = All-weaker (λ (y : Carried). Contains v.stored y ⊎ Contains (x ∷ []) y) IsDecodedBlock each w.stored f.only
  where
    each : (y : Carried) → Contains v.stored y ⊎ Contains (x ∷ []) y → IsDecodedBlock y
    each y (inl c) = All-contains IsDecodedBlock v.stored y before c
    each y (inr c) = All-contains IsDecodedBlock (x ∷ []) y (All-cons IsDecodedBlock x [] here (All-nil IsDecodedBlock)) c
