-- The bytes of slices, one after the other, and the first that is over its share.
use Rattle.std.proofs.Common.{◌≡◌, ℕ, ◌+◌, ◌<◌, ◌≤◌, Bool, Option, Some, None, List, [], ◌∷◌, ◌++◌, length, get_or, set, refl, sym, ap, ◌∙◌, subst, arith}
use Rattle.std.specs.Prelude.{IfSome}
use Rattle.std.proofs.lemmas.List.{get_or-set_other}
use Rattle.xs_params.specs.declared.header.Header.{Header}
use Rattle.xs_params.specs.Rows.{Rows}
use Rattle.xs_faults.specs.declared.Budget.{Budget}
use Rattle.xs_faults.specs.declared.SliceRefusal.TheVariants as refusal
use Rattle.xs_picture.specs.Encoded.{AreSlicesOf, WhyUnwritten}
use Rattle.xs_picture.specs.Local.{IsWrittenAlike}
use Rattle.xs_picture.proofs.Encoded.{AreSlicesTo, slices_all, slices_more, why_unwritten}
use Rattle.xs_enc_lanes.specs.declared.activity.CodedSlice.{CodedSlice}
use Rattle.xs_enc_lanes.specs.declared.activity.CodedOutcome.TheVariants.{Bytes, Over}
use Rattle.xs_enc_lanes.specs.Coded.{IsCodedOutcome}
use Rattle.xs_enc_lanes.specs.Answered.{AreRight}

-- the places past the one that is emptied are as before
pub left_more : (places list now : List (Option CodedSlice)) (slice : ℕ) → now ≡ set list slice None → ((k : ℕ) → slice ≤ k → get_or list k None ≡ get_or places k None) → (k : ℕ) → slice + 1 ≤ k → get_or now k None ≡ get_or places k None
left_more places list now slice e left k past =
    ap (λ (l : List (Option CodedSlice)). get_or l k None) e ∙ get_or-set_other list slice k None None (λ same. omega (arith, past, same)) ∙ left k (omega (arith, past))

-- the first slices are written, if the outcomes are those of the coefficients
abbrev pub WritesTo : List (Option CodedSlice) → ℕ → List (List ℕ) → Type 0
WritesTo places n slices = (h : Header) (rows : Rows) (share : ℕ) (fill : Bool) → AreRight h rows share fill places → AreSlicesTo h rows share fill n slices

pub writes_none : (places : List (Option CodedSlice)) (slices : List (List ℕ)) → slices ≡ [] → WritesTo places 0 slices
writes_none places slices e h rows share fill right = subst (AreSlicesTo h rows share fill 0) (sym e) (record { count = refl; each = λ slice inside. absurd (omega (arith, inside)) })

outcome_at : (h : Header) (rows : Rows) (share : ℕ) (fill : Bool) (slice : ℕ) (o : Option CodedSlice) (c : CodedSlice) → o ≡ Some c → IfSome o (λ (x : CodedSlice). IsCodedOutcome h rows share fill slice x.outcome) → IsCodedOutcome h rows share fill slice c.outcome
outcome_at h rows share fill slice None c e right = absurd (cc e)
outcome_at h rows share fill slice (Some x) c e right = let same : x ≡ c = cc e in subst (λ (y : CodedSlice). IsCodedOutcome h rows share fill slice y.outcome) same right

pub outcome_of : (h : Header) (rows : Rows) (share : ℕ) (fill : Bool) (places : List (Option CodedSlice)) (slice : ℕ) (c : CodedSlice) → AreRight h rows share fill places → slice < length places → get_or places slice None ≡ Some c → IsCodedOutcome h rows share fill slice c.outcome
outcome_of h rows share fill places slice c right inside e = let size = right.size in outcome_at h rows share fill slice (get_or places slice None) c e (right.right slice (omega (arith, inside, size)))

pub writes_more : (places : List (Option CodedSlice)) (slice : ℕ) (slices next : List (List ℕ)) (bytes : List ℕ) (c : CodedSlice) → slice < length places → get_or places slice None ≡ Some c → c.outcome ≡ Bytes bytes → next ≡ slices ++ bytes ∷ []
    → WritesTo places slice slices → WritesTo places (slice + 1) next
writes_more places slice slices next bytes c inside at is more before h rows share fill right =
    slices_more h rows share fill slice slices next bytes more (subst (IsCodedOutcome h rows share fill slice) is (outcome_of h rows share fill places slice c right inside at)) (before h rows share fill right)

pub writes_all : (places : List (Option CodedSlice)) (n : ℕ) (slices : List (List ℕ)) → n ≡ length places → WritesTo places n slices → (h : Header) (rows : Rows) (share : ℕ) (fill : Bool) → AreRight h rows share fill places → AreSlicesOf h rows share fill slices
writes_all places n slices all writes h rows share fill right = slices_all h rows share fill n slices (all ∙ right.size) (writes h rows share fill right)

alike : (h : Header) (slice : ℕ) (rows : Rows) → IsWrittenAlike h slice rows rows
alike h slice rows = record { choice = λ share. refl; bytes = λ share fill c. refl }

pub over_is : (places : List (Option CodedSlice)) (slice : ℕ) (slices : List (List ℕ)) (budget : Budget) (c : CodedSlice) → slice < length places → get_or places slice None ≡ Some c → c.outcome ≡ Over budget → WritesTo places slice slices
    → (h : Header) (rows : Rows) (share : ℕ) (fill : Bool) → AreRight h rows share fill places → WhyUnwritten h rows share (refusal.Budget budget)
over_is places slice slices budget c inside at is before h rows share fill right =
    why_unwritten h rows rows share fill slice slices (refusal.Budget budget) (let size = right.size in omega (arith, inside, size)) (alike h slice rows) (before h rows share fill right)
    (subst (IsCodedOutcome h rows share fill slice) is (outcome_of h rows share fill places slice c right inside at))
