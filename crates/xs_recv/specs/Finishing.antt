-- How the caller finishes a picture: it hands what is left of the slices, makes the stripes that are left, and fills the picture.
use Rattle.std.specs.Prelude.{◌≡◌, ◌⊎◌, ℕ, ◌+◌, ◌<◌, ◌≤◌, Bool, true, Result, Ok, Err, List, [], All, length}
use Rattle.xs_params.specs.declared.header.Header.{Header}
use Rattle.xs_params.specs.Geometry.{slice_count}
use Rattle.xs_params.specs.Picture.{Picture}
use Rattle.xs_params.specs.Rows.{Rows}
use Rattle.xs_decoding.specs.Decoded.{IsPictureOf}
use Rattle.xs_lane_core.specs.Machine.{Actor, newcomer}
use Rattle.xs_lane_core.specs.Sound.{IsAlone}
use Rattle.xs_lanes.specs.Knowing.{IsChoice, IsWhole}
use Rattle.xs_lanes.specs.Claiming.{got_in}
use Rattle.xs_capture.specs.Selection.{HasBytes, Held}
use Rattle.xs_stripe.specs.Stripe.{IsStripeOf}
use Rattle.xs_handover.specs.Blocks.{Carried, blocks}
use Rattle.xs_handover.specs.Passes.{IsHandPass, actor, stripe_count}
use Rattle.xs_recv.specs.declared.activity.Kept.{Kept}
use Rattle.xs_recv.specs.declared.activity.MadeStripe.{MadeStripe}
use Rattle.xs_recv.specs.declared.activity.SliceCopy.{SliceCopy}
use Rattle.xs_recv.specs.declared.activity.Stripes.{Stripes}
use Rattle.xs_recv.specs.declared.finishing.Finishing.{Finishing}
use Rattle.xs_recv.specs.declared.finishing.Left.{Left}
use Rattle.xs_recv.specs.declared.finishing.Places.{Places}
use Rattle.xs_recv.specs.declared.received.Received.{Received}
use Rattle.xs_recv.specs.declared.received.Received.TheVariants as received
use Rattle.xs_recv.specs.declared.received.Stop.{Stop}
use Rattle.xs_recv.specs.declared.received.Stop.TheVariants as stop
use Rattle.xs_recv.specs.Activities.{HasCopy, IsReadBy}
use Rattle.xs_recv.specs.Handed.{AreStripesBy, HasMade}
use Rattle.xs_recv.specs.Reading.{AreHandedUpTo, AreReadable}
use Rattle.xs_recv.specs.Received.{HasHeader}

-- the caller's pass has the whole share of the handover
pub record IsFinishing (f : Finishing) : Type 0 where
  pub pass : IsHandPass f.handover f.stripes.hand
  pub alone : IsAlone (actor f.stripes.hand)

-- what is kept, with the stripes
abbrev pub kept_of : Left → Stripes → Kept
kept_of left stripes = record { head = left.head; copies = left.copies; stripes = stripes; trusted = left.trusted }

-- The copies of all slices of this header, for which the handover has room, and what was read and made of them by it, where that is trusted.
pub record AreKeptBy (held : Held) (h : Header) (f : Finishing) (copies : List SliceCopy) (trusted : Bool) : Type 0 where
  pub bytes : All (λ (c : SliceCopy). HasBytes held (c.slice + 1) c.bytes) copies
  pub each : (slice : ℕ) → slice < slice_count h → HasCopy copies slice
  pub room : slice_count h ≤ stripe_count f.handover
  pub readings : trusted ≡ true → All (λ (c : SliceCopy). IsReadBy h (actor f.stripes.hand) c.slice c.bytes c.reading) copies
  pub stripes : trusted ≡ true → AreStripesBy held h (actor f.stripes.hand) f.stripes.made.items

-- nothing was handed yet, and no stripe made
pub record IsRenewed (f : Finishing) : Type 0 where
  pub first : actor f.stripes.hand ≡ newcomer
  pub none : f.stripes.made.items ≡ []

-- The copies are in order, the handover has room for the slices, and what was handed and made is by this header.
pub record AreStarted (held : Held) (h : Header) (f : Finishing) (places : Places) : Type 0 where
  pub readable : AreReadable held h (actor f.stripes.hand) places.trusted places.list.items
  pub stripes : AreStripesBy held h (actor f.stripes.hand) f.stripes.made.items
  pub room : slice_count h ≤ stripe_count f.handover

-- where no place has two values, all that the stripe needs is handed
abbrev pub IsWholeIfChosen : ℕ → Actor Carried → Type 0
IsWholeIfChosen slice v = IsChoice blocks v → IsWhole blocks slice v

-- each slice has its stripe, which was got
pub record HaveAll (h : Header) (v : Actor Carried) (stripes : List MadeStripe) : Type 0 where
  pub made : (slice : ℕ) → slice < slice_count h → HasMade stripes slice
  pub got : (slice : ℕ) → slice < slice_count h → 0 < got_in blocks slice v

-- All slices of the header are handed, and all stripes are made of them. The header states the length, or none.
pub record IsFinished (held : Held) (h : Header) (v : Actor Carried) (made : List MadeStripe) : Type 0 where
  pub size : ℕ
  pub headed : HasHeader held h size
  pub total : ℕ
  pub handed : AreHandedUpTo held h size (slice_count h) v total
  pub stated : (h.lcod ≡ 0) ⊎ (h.lcod ≡ total)
  pub stripes : AreStripesBy held h v made
  pub all : HaveAll h v made

-- The picture

-- all stripes are decoded from the same rows of coefficients
abbrev pub AreStripesOf : Header → Rows → List MadeStripe → Type 0
AreStripesOf h rows made = All (λ (m : MadeStripe). IsStripeOf h m.slice m.stripe rows) made

-- each slice has its stripe
abbrev pub HaveStripes : Header → List MadeStripe → Type 0
HaveStripes h made = (slice : ℕ) → slice < slice_count h → HasMade made slice

-- what is received: the picture of the stripes, or what stopped it
abbrev pub IsAnswerTo : Result Header Stop → List MadeStripe → Received → Type 0
IsAnswerTo (Ok h) made answer = (picture : Picture) × (answer ≡ received.Picture picture) × ((rows : Rows) → AreStripesOf h rows made → HaveStripes h made → IsPictureOf h rows picture)
IsAnswerTo (Err why) made answer = why ≡ stop.Answer answer
