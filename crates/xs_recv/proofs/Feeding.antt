-- A pass files the packets of a part, one after the other.
use Rattle.std.proofs.Common.{◌≡◌, ◌⊎◌, inl, inr, List, [], ◌∷◌, ◌++◌, All, sym, ap, subst}
use Rattle.std.specs.List.{Contains}
use Rattle.std.proofs.lemmas.List.Elements.{Contains-append_left, Contains-push, All-push, All-weaker, All-contains_itself}
use Rattle.xs_lane_core.specs.Machine.{Actor}
use Rattle.xs_lanes.specs.declared.lanes.Put.{Put}
use Rattle.xs_lanes.specs.declared.lanes.Put.TheVariants.{Stored, Made, Repeat}
use Rattle.xs_lanes.specs.Answers.{Answers}
use Rattle.xs_capture.specs.Offer.{Offer}
use Rattle.xs_stored.specs.Stored.{packets, IsFiled}
use Rattle.xs_board.specs.Answers.{FilesNothing}
use Rattle.xs_recv.specs.Filing.{Puts, FilesOf, HasFiled}

pub puts_is : (v : Actor Offer) (x : Offer) (w : Actor Offer) (r : Put Offer) → Answers packets v x w r → Puts x v w × (w.got ≡ v.got)
puts_is v x w Stored (inl (before, has, debt, view)) = (inl (ap (λ (z : Actor Offer). z.stored) view, ap (λ (z : Actor Offer). z.repeated) view), ap (λ (z : Actor Offer). z.got) view)
puts_is v x w Stored (inr (before, summary, sum, rest)) = (inl (ap (λ (z : Actor Offer). z.stored) sum.view, ap (λ (z : Actor Offer). z.repeated) sum.view), ap (λ (z : Actor Offer). z.got) sum.view)
puts_is v x w Made (before, summary, sum, part, made) = (inl (ap (λ (z : Actor Offer). z.stored) sum.view, ap (λ (z : Actor Offer). z.repeated) sum.view), ap (λ (z : Actor Offer). z.got) sum.view)
puts_is v x w (Repeat y) (same, view, alone) = (inr (ap (λ (z : Actor Offer). z.stored) view, ap (λ (z : Actor Offer). z.repeated) view), ap (λ (z : Actor Offer). z.got) view)

filed_still : (v w : Actor Offer) (y x : Offer) → Puts y v w → IsFiled v x → IsFiled w x
filed_still v w y x (inl p) (inl c) = inl (subst (λ l. Contains l x) (sym p.0) (Contains-append_left v.stored (y ∷ []) x c))
filed_still v w y x (inl p) (inr c) = inr (subst (λ l. Contains l (x.unit, x.place)) (sym p.1) c)
filed_still v w y x (inr p) (inl c) = inl (subst (λ l. Contains l x) (sym p.0) c)
filed_still v w y x (inr p) (inr c) = inr (subst (λ l. Contains l (x.unit, x.place)) (sym p.1) (Contains-append_left v.repeated ((y.unit, y.place) ∷ []) (x.unit, x.place) c))

is_filed : (v w : Actor Offer) (y : Offer) → Puts y v w → IsFiled w y
is_filed v w y (inl p) = inl (subst (λ l. Contains l y) (sym p.0) (Contains-push v.stored y))
is_filed v w y (inr p) = inr (subst (λ l. Contains l (y.unit, y.place)) (sym p.1) (Contains-push v.repeated (y.unit, y.place)))

pub files_none : (v : Actor Offer) → FilesOf [] v v
files_none v = All-weaker (Contains v.stored) (λ (x : Offer). Contains v.stored x ⊎ Contains [] x) (λ x h. inl h) v.stored (All-contains_itself v.stored)

files_still : (done : List Offer) (v u : Actor Offer) (y : Offer) → FilesOf done v u → FilesOf (done ++ y ∷ []) v u
files_still done v u y f = All-weaker (λ (x : Offer). Contains v.stored x ⊎ Contains done x) (λ (x : Offer). Contains v.stored x ⊎ Contains (done ++ y ∷ []) x) each u.stored f
  where
    each : (x : Offer) → Contains v.stored x ⊎ Contains done x → Contains v.stored x ⊎ Contains (done ++ y ∷ []) x
    each x (inl c) = inl c
    each x (inr c) = inr (Contains-append_left done (y ∷ []) x c)

-- one packet more
pub files_more : (done : List Offer) (v u w : Actor Offer) (y : Offer) → FilesOf done v u → Puts y u w → FilesOf (done ++ y ∷ []) v w
files_more done v u w y f p = of p
  where
    Of : Offer → Type 0
    Of x = Contains v.stored x ⊎ Contains (done ++ y ∷ []) x

    of : Puts y u w → All Of w.stored
    of (inl q) = subst (All Of) (sym q.0) (All-push Of u.stored y (files_still done v u y f) (inr (Contains-push done y)))
    of (inr q) = subst (All Of) (sym q.0) (files_still done v u y f)

pub filed_more : (done : List Offer) (u w : Actor Offer) (y : Offer) → All (IsFiled u) done → Puts y u w → All (IsFiled w) (done ++ y ∷ [])
filed_more done u w y all p = All-push (IsFiled w) done y (All-weaker (IsFiled u) (IsFiled w) (λ x. filed_still u w y x p) done all) (is_filed u w y p)

-- Afterwards the activity files nothing

filed_on : (v w : Actor Offer) (p : Offer) → FilesNothing v w → IsFiled v p → IsFiled w p
filed_on v w p f (inl c) = inl (subst (λ l. Contains l p) (sym f.stored) c)
filed_on v w p f (inr c) = inr (subst (λ l. Contains l (p.unit, p.place)) (sym f.repeated) c)

pub runs_on : (part : List Offer) (v u w : Actor Offer) → FilesNothing u w → FilesOf part v u → All (IsFiled u) part → FilesOf part v w × All (IsFiled w) part
runs_on part v u w f files each = (
  subst (All (λ (x : Offer). Contains v.stored x ⊎ Contains part x)) (sym f.stored) files,
  All-weaker (IsFiled u) (IsFiled w) (λ p. filed_on u w p f) part each,
)

pub filed_after : (offers : List Offer) (v w : Actor Offer) → FilesNothing v w → HasFiled offers v → HasFiled offers w
filed_after offers v w f h = record {
  only = subst (All (Contains offers)) (sym f.stored) h.only;
  each = All-weaker (IsFiled v) (IsFiled w) (λ p. filed_on v w p f) offers h.each;
}
