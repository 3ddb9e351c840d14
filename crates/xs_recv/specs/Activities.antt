-- What an activity keeps: copies of what it claimed, what it read and handed of them, and the stripes that it made.
use Rattle.std.specs.Prelude.{◌≡◌, ◌⊎◌, ℕ, ◌+◌, ◌<◌, ⊤, Bool, Option, None, Some, IsSome, IfSome, MatchOption, List, All}
use Rattle.std.specs.List.{Contains}
use Rattle.xs_params.specs.declared.header.Header.{Header}
use Rattle.xs_params.specs.Accepted.{IsAccepted}
use Rattle.xs_params.specs.Geometry.{slice_count}
use Rattle.xs_reading.specs.Slice.{slice_unit_fault}
use Rattle.xs_lane_core.specs.Machine.{Actor}
use Rattle.xs_lanes.specs.Knowing.{SameShare}
use Rattle.xs_capture.specs.Offer.{Offer}
use Rattle.xs_stored.specs.Stored.{IsCopy}
use Rattle.xs_board.specs.declared.board.BoardPass.{BoardPass}
use Rattle.xs_board.specs.declared.head.HeadRead.{HeadRead}
use Rattle.xs_board.specs.declared.reading.Reading.TheVariants.{Good}
use Rattle.xs_handover.specs.declared.handover.Handover.{Handover}
use Rattle.xs_handover.specs.declared.handover.HandPass.{HandPass}
use Rattle.xs_handover.specs.Blocks.{Block, Carried, IsFrom, stripe_of}
use Rattle.xs_handover.specs.Handing.{Hands, source_of}
use Rattle.xs_handover.specs.Passes.{IsHandPass, actor}
use Rattle.xs_recv.specs.declared.activity.SliceCopy.{SliceCopy}
use Rattle.xs_recv.specs.declared.activity.SliceReading.{SliceReading}
use Rattle.xs_recv.specs.declared.activity.SliceReading.TheVariants.{Handed, Bad, Unread}
use Rattle.xs_recv.specs.declared.activity.MadeStripe.{MadeStripe}
use Rattle.xs_recv.specs.Handed.{AreHanded, HasMade, IsMadeBy}

-- what contracts see of an activity
pub record Doing : Type 0 where
  pub pass : BoardPass
  pub hand : HandPass
  pub part : List Offer
  pub head : Option HeadRead
  pub kept : List SliceCopy
  pub stripes : List MadeStripe
  pub starved : Bool

-- The pass is still of this handover, and has its share.
pub record HasHand (handover : Handover) (old new : HandPass) : Type 0 where
  pub pass : IsHandPass handover new
  pub share : SameShare (actor old) (actor new)

-- what is read of a slice's unit by the header, if it is read; its rows are handed with this pass
abbrev pub IsReadBy : Header → Actor Carried → ℕ → List ℕ → SliceReading → Type 0
IsReadBy h v slice bytes Handed = AreHanded h slice bytes v
IsReadBy h v slice bytes (Bad fault) = slice_unit_fault h slice bytes ≡ Some fault
IsReadBy h v slice bytes Unread = ⊤

-- the pass v read a slice's unit by the header, handed its rows if it has no fault, and is now w
abbrev pub HandsBy : Header → ℕ → List ℕ → SliceReading → Actor Carried → Actor Carried → Type 0
HandsBy h slice bytes Handed v w = Hands (source_of h slice bytes) v w
HandsBy h slice bytes (Bad fault) v w = (slice_unit_fault h slice bytes ≡ Some fault) × (w ≡ v)
HandsBy h slice bytes Unread v w = w ≡ v

-- where there is no header, nothing is read and nothing is handed
abbrev pub HandsIf : Option Header → ℕ → List ℕ → SliceReading → Actor Carried → Actor Carried → Type 0
HandsIf None slice bytes reading v w = (reading ≡ Unread) × (w ≡ v)
HandsIf (Some h) slice bytes reading v w = HandsBy h slice bytes reading v w

-- the header that is known is this one
abbrev pub KnowsHeader : Option HeadRead → Header → Type 0
KnowsHeader known h = (r : HeadRead) × (known ≡ Some r) × (n : ℕ) × (r.reading ≡ Good h n)

-- what is read is read by the header that is known
abbrev pub IsReadByKnown : Option HeadRead → Actor Carried → SliceCopy → Type 0
IsReadByKnown known v c = (c.reading ≡ Unread) ⊎ ((h : Header) × KnowsHeader known h × IsReadBy h v c.slice c.bytes c.reading)

-- a slice of the header, which is known
pub record IsReadable (known : Option HeadRead) (h : Header) (slice : ℕ) : Type 0 where
  pub shown : KnowsHeader known h
  pub accepted : IsAccepted h
  pub there : slice < slice_count h

-- a copy of the slice is kept
abbrev pub HasCopy : List SliceCopy → ℕ → Type 0
HasCopy kept slice = (c : SliceCopy) × Contains kept c × (c.slice ≡ slice)

-- a copy of the unit is kept
abbrev pub IsKept : Option HeadRead → List SliceCopy → ℕ → Type 0
IsKept head kept unit = ((unit ≡ 0) × IsSome head) ⊎ ((slice : ℕ) × (unit ≡ slice + 1) × HasCopy kept slice)

-- the block is of a copy that is kept, by the header that is known
abbrev pub IsBlockKept : Option HeadRead → List SliceCopy → Carried → Type 0
IsBlockKept known kept x = MatchOption x ⊥ (λ (b : Block). (h : Header) × KnowsHeader known h × (c : SliceCopy) × Contains kept c × IsFrom h c.slice c.bytes b)

-- the stripe is made by the header that is known
abbrev pub IsMadeByKnown : Option HeadRead → Actor Carried → MadeStripe → Type 0
IsMadeByKnown known v m = (h : Header) × KnowsHeader known h × IsMadeBy h v m.slice m.stripe

-- The header and each copy are of values that were got, and each value that was got has its unit's copy.
pub record Keeps (got : List Offer) (head : Option HeadRead) (kept : List SliceCopy) : Type 0 where
  pub header : IfSome head (λ (r : HeadRead). IsCopy got 0 r.bytes)
  pub copies : All (λ (c : SliceCopy). IsCopy got (c.slice + 1) c.bytes) kept
  pub each : All (λ (p : Offer). IsKept head kept p.unit) got

-- Copies are read, rows are handed and stripes are made by the header that is known, rows of copies alone; and each block that was got
-- has its stripe made.
pub record KeepsRows (known : Option HeadRead) (kept : List SliceCopy) (v : Actor Carried) (stripes : List MadeStripe) : Type 0 where
  pub readings : All (IsReadByKnown known v) kept
  pub blocks : All (IsBlockKept known kept) v.stored
  pub made : All (IsMadeByKnown known v) stripes
  pub each : All (λ (x : Carried). HasMade stripes (stripe_of x)) v.got
