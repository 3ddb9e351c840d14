-- The parts, one after the other, and their units.
use Rattle.std.proofs.Common.{◌≡◌, ℕ, ◌+◌, ◌<◌, ◌≤◌, List, [], ◌∷◌, ◌++◌, All, length, take, get_or, ap, ◌∙◌, subst, arith, append-nil}
use Rattle.std.proofs.lemmas.List.Concat.{flat_map-append}
use Rattle.std.proofs.lemmas.List.Elements.{All-more, All-push, All-weaker}
use Rattle.xs_capture.specs.Offer.{Offer}
use Rattle.xs_recv.specs.declared.activity.Feed.{Feed}
use Rattle.xs_recv.specs.Filing.{AreOfUnits, fed}

below_more : (units now : ℕ) (packets : List Offer) → units ≤ now → All (λ (p : Offer). p.unit < units) packets → All (λ (p : Offer). p.unit < now) packets
below_more units now packets le all = All-weaker (λ (p : Offer). p.unit < units) (λ (p : Offer). p.unit < now) (λ p below. omega (arith, below, le)) packets all

-- one packet more
pub units_more : (packets : List Offer) (i most now : ℕ) (p : Offer) → i < length packets → p ≡ get_or packets i p → most ≤ now → p.unit < now → All (λ (q : Offer). q.unit < most) (take i packets) → All (λ (q : Offer). q.unit < now) (take (i + 1) packets)
units_more packets i most now p lt e le small all = All-more (λ (q : Offer). q.unit < now) packets i p lt (below_more most now (take i packets) le all) (subst (λ (q : Offer). q.unit < now) e small)

-- one part more
pub fed_more : (feeds : List Feed) (f : Feed) → fed (feeds ++ f ∷ []) ≡ fed feeds ++ f.part.items
fed_more feeds f = flat_map-append (λ (x : Feed). x.part.items) feeds (f ∷ []) ∙ ap (λ (l : List Offer). fed feeds ++ l) (append-nil f.part.items)

pub of_more : (feeds : List Feed) (f : Feed) (units now : ℕ) → units ≤ now → AreOfUnits units feeds → All (λ (p : Offer). p.unit < now) f.part.items → AreOfUnits now (feeds ++ f ∷ [])
of_more feeds f units now le of here =
    All-push (λ (x : Feed). All (λ (p : Offer). p.unit < now) x.part.items) feeds f
    (All-weaker (λ (x : Feed). All (λ (p : Offer). p.unit < units) x.part.items) (λ (x : Feed). All (λ (p : Offer). p.unit < now) x.part.items) (λ x below. below_more units now x.part.items le below) feeds of) here
