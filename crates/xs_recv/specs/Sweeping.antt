-- A pass with the whole share claims all that is whole.
use Rattle.std.specs.Prelude.{◌≡◌, ℕ, ◌+◌, ◌<◌, false, true, Option, IsSome, IfSome, MatchOption, List, All}
use Rattle.xs_params.specs.declared.header.Header.{Header}
use Rattle.xs_lane_core.specs.Machine.{Actor}
use Rattle.xs_lane_core.specs.Sound.{IsAlone}
use Rattle.xs_lanes.specs.Knowing.{IsWhole}
use Rattle.xs_lanes.specs.Claiming.{got_in}
use Rattle.xs_lanes.specs.Settled.{IsDone}
use Rattle.xs_capture.specs.Offer.{Offer}
use Rattle.xs_capture.specs.Selection.{HasBytes, Held, IsSelection, IsWholeUnit}
use Rattle.xs_stored.specs.Stored.{packets, held_in}
use Rattle.xs_board.specs.declared.head.HeadRead.{HeadRead}
use Rattle.xs_board.specs.declared.reading.Reading.TheVariants.{Good}
use Rattle.xs_board.specs.Passes.{actor}
use Rattle.xs_handover.specs.declared.handover.Handover.{Handover}
use Rattle.xs_handover.specs.Passes.{IsHandPass, actor as hand_actor, stripe_count}
use Rattle.xs_recv.specs.declared.activity.SliceCopy.{SliceCopy}
use Rattle.xs_recv.specs.declared.activity.Kept.{Kept}
use Rattle.xs_recv.specs.Filed.{IsReceivable}
use Rattle.xs_recv.specs.Handed.{AreStripesBy}
use Rattle.xs_recv.specs.Activities.{Doing, HasCopy, IsReadBy}

-- the unit that was read has this header
abbrev pub IsGoodHead : HeadRead → Header → Type 0
IsGoodHead r h = (n : ℕ) × (r.reading ≡ Good h n)

-- who is starved stays so
abbrev pub StarvesNot : Doing → Doing → Type 0
StarvesNot old new = new.starved ≡ false → old.starved ≡ false

-- each unit that is whole was got
abbrev pub GotWholes : Actor Offer → Type 0
GotWholes v = (unit : ℕ) → IsWholeUnit (held_in v.stored) unit → 0 < got_in packets unit v

-- What all passes of a board did at the end: what is stored is a selection of the offers, and each unit that is whole was got, once.
pub record IsSettled (offers : List Offer) (v : Actor Offer) : Type 0 where
  pub selection : IsSelection offers (held_in v.stored)
  pub receivable : IsReceivable (held_in v.stored)
  pub done : IsDone packets v
  pub got : GotWholes v

-- where the unit is whole among what the pass stored, it got it
abbrev pub GotIfWhole : Actor Offer → ℕ → Type 0
GotIfWhole v unit = IsWhole packets unit v → 0 < got_in packets unit v

-- a unit that is whole was got, where the pass is alone and memory was there
abbrev pub GetsWhole : ℕ → Doing → Doing → Type 0
GetsWhole unit old new = IsAlone (actor old.pass) → new.starved ≡ false → GotIfWhole (actor new.pass) unit

-- the same of the units of so many slices
abbrev pub GetsSlices : ℕ → Doing → Doing → Type 0
GetsSlices slices old new = IsAlone (actor old.pass) → new.starved ≡ false → (slice : ℕ) → slice < slices → GotIfWhole (actor new.pass) (slice + 1)

-- the same of the slices that have one of so many units
abbrev pub GetsAbove : ℕ → Doing → Doing → Type 0
GetsAbove units old new = IsAlone (actor old.pass) → new.starved ≡ false → (slice : ℕ) → slice + 1 < units → GotIfWhole (actor new.pass) (slice + 1)

-- the same of so many units
abbrev pub GetsAll : ℕ → Doing → Doing → Type 0
GetsAll units old new = IsAlone (actor old.pass) → new.starved ≡ false → (unit : ℕ) → unit < units → GotIfWhole (actor new.pass) unit

-- What is read of the copies and handed of them is read by this header, and so are the stripes made.
pub record AreReadBy (held : Held) (h : Header) (k : Kept) : Type 0 where
  pub copies : All (λ (c : SliceCopy). IsReadBy h (hand_actor k.stripes.hand) c.slice c.bytes c.reading) k.copies.items
  pub stripes : AreStripesBy held h (hand_actor k.stripes.hand) k.stripes.made.items

-- the header that is known and this one have the same reading
abbrev pub AreReadAlike : Option HeadRead → Option HeadRead → Type 0
AreReadAlike known head = IfSome known (λ (r : HeadRead). IfSome head (λ (s : HeadRead). r.reading ≡ s.reading))

-- the header unit is kept, or it is not whole
abbrev pub IsHeadOf : Held → Option HeadRead → Type 0
IsHeadOf held head = MatchOption head (¬ IsWholeUnit held 0) (λ (r : HeadRead). HasBytes held 0 r.bytes)

-- What is kept at the end, where these packets are held: the header unit, all slices that are whole, each with a stripe in the
-- handover, and the whole share of that; and what was read of them by this header, where that is trusted.
pub record IsKeptOf (held : Held) (handover : Handover) (k : Kept) : Type 0 where
  pub head : IsHeadOf held k.head
  pub copies : All (λ (c : SliceCopy). HasBytes held (c.slice + 1) c.bytes) k.copies.items
  pub each : IsSome k.head → (slice : ℕ) → IsWholeUnit held (slice + 1) → HasCopy k.copies.items slice
  pub pass : IsHandPass handover k.stripes.hand
  pub alone : IsAlone (hand_actor k.stripes.hand)
  pub room : (slice : ℕ) → IsWholeUnit held (slice + 1) → slice < stripe_count handover
  pub trusted : k.trusted ≡ true → IfSome k.head (λ (r : HeadRead). (h : Header) → IsGoodHead r h → AreReadBy held h k)
