-- What is handed of slices, and the stripes that are made of it.
use Rattle.std.specs.Prelude.{◌≡◌, ℕ, ◌+◌, ◌<◌, Some, MatchOption, List, All}
use Rattle.std.specs.List.{Contains}
use Rattle.xs_params.specs.declared.header.Header.{Header}
use Rattle.xs_params.specs.Geometry.{slice_count}
use Rattle.xs_lane_core.specs.Machine.{Actor}
use Rattle.xs_lanes.specs.Claiming.{IsRun}
use Rattle.xs_stripe.specs.declared.stripe.Stripe.{Stripe}
use Rattle.xs_handover.specs.declared.piece.Piece.TheVariants.{Body, Up, Down}
use Rattle.xs_handover.specs.Blocks.{Block, Carried, blocks, block_of, stripe_of}
use Rattle.xs_handover.specs.Handing.{IsFiled, source_of}
use Rattle.xs_handover.specs.Answers.{IsStripeFrom}
use Rattle.xs_capture.specs.Selection.{HasBytes, Held}
use Rattle.xs_recv.specs.declared.activity.MadeStripe.{MadeStripe}

-- The rows of a slice, read by this header of these bytes, are handed to its stripe, and its edges to the stripes beside it.
pub record AreHanded (h : Header) (slice : ℕ) (bytes : List ℕ) (v : Actor Carried) : Type 0 where
  pub body : (rows : _) × IsFiled v (Some (block_of (source_of h slice bytes) (Body rows)))
  pub up : 0 < slice → (edge : _) × IsFiled v (Some (block_of (source_of h slice bytes) (Up edge)))
  pub down : slice + 1 < slice_count h → (edge : _) × IsFiled v (Some (block_of (source_of h slice bytes) (Down edge)))

-- a stripe of this slice was made
abbrev pub HasMade : List MadeStripe → ℕ → Type 0
HasMade made slice = (m : MadeStripe) × Contains made m × (m.slice ≡ slice)

-- The stripe of a slice was synthesised, by this header, of the blocks that the pass got of it.
pub record IsMadeBy (h : Header) (v : Actor Carried) (slice : ℕ) (stripe : Stripe) : Type 0 where
  pub values : List Carried
  pub run : IsRun blocks slice 0 values
  pub got : All (Contains v.got) values
  pub is : IsStripeFrom h slice values stripe

-- the block was read by this header of the unit of its slice, which is whole
abbrev pub IsBlockIn : Held → Header → Carried → Type 0
IsBlockIn held h x = MatchOption x ⊥ (λ (b : Block). (b.header ≡ h) × HasBytes held (b.slice + 1) b.bytes)

-- All that was handed is of units that are whole, read by this header; each stripe that was got was made, and of nothing else.
pub record AreStripesBy (held : Held) (h : Header) (v : Actor Carried) (stripes : List MadeStripe) : Type 0 where
  pub blocks : All (IsBlockIn held h) v.stored
  pub made : All (λ (m : MadeStripe). IsMadeBy h v m.slice m.stripe) stripes
  pub each : All (λ (x : Carried). HasMade stripes (stripe_of x)) v.got
