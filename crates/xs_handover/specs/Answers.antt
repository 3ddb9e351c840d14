-- What the claims of stripes answer.
use Rattle.std.specs.Prelude.{◌≡◌, ℕ, IfSome, List, ◌++◌, All}
use Rattle.xs_params.specs.declared.header.Header.{Header}
use Rattle.xs_params.specs.Rows.{Rows}
use Rattle.xs_lane_core.specs.Places.{every_word}
use Rattle.xs_lane_core.specs.Machine.{Actor, sees}
use Rattle.xs_lane_core.specs.declared.values.Stand.TheVariants.{Saw}
use Rattle.xs_lanes.specs.Claiming.{HasGot, HasFoundGone, HasSeenPart}
use Rattle.xs_stripe.specs.Stripe.{IsStripeOf}
use Rattle.xs_stripe.specs.declared.stripe.Stripe.{Stripe}
use Rattle.xs_handover.specs.declared.claim.StripeClaim.{StripeClaim}
use Rattle.xs_handover.specs.declared.claim.StripeClaim.TheVariants.{Got, NotWhole, Gone}
use Rattle.xs_handover.specs.Blocks.{Block, Carried, blocks}
use Rattle.xs_handover.specs.Decoded.{AreRowsAt}

-- the pass hands nothing
pub record HandsNothing (v w : Actor Carried) : Type 0 where
  pub stored : w.stored ≡ v.stored
  pub repeated : w.repeated ≡ v.repeated

-- what the pass got before it has still
abbrev pub GetsMore : Actor Carried → Actor Carried → Type 0
GetsMore v w = (values : List Carried) × (w.got ≡ v.got ++ values)

-- all rows were handed by this header
abbrev pub AreBy : Header → List Carried → Type 0
AreBy h values = All (λ (v : Carried). IfSome v (λ (b : Block). b.header ≡ h)) values

-- Where the rows were handed by this header, the stripe is that of the picture, whatever the coefficients are of which the bytes of
-- all these slices are sent.
abbrev pub IsStripeFrom : Header → ℕ → List Carried → Stripe → Type 0
IsStripeFrom h slice values stripe = AreBy h values → (rows : Rows) → All (AreRowsAt h rows) values → IsStripeOf h slice stripe rows

-- The pass v got the blocks of the stripe, of which it was synthesised, and is now w.
pub record HasStripe (v : Actor Carried) (h : Header) (slice : ℕ) (stripe : Stripe) (w : Actor Carried) : Type 0 where
  pub values : List Carried
  pub got : HasGot blocks v slice values w
  pub is : IsStripeFrom h slice values stripe

-- the pass v was answered so for the stripe, and is now w
abbrev pub ClaimAnswers : Actor Carried → Header → ℕ → StripeClaim → Actor Carried → Type 0
ClaimAnswers v h slice (Got stripe) w = HasStripe v h slice stripe w
ClaimAnswers v h slice (NotWhole seen) w = HasSeenPart blocks v slice seen w
ClaimAnswers v h slice Gone w = HasFoundGone blocks v slice w

-- the pass saw the stripe whole
abbrev pub saw_whole : ℕ → Actor Carried → Actor Carried
saw_whole slice v = sees (Saw slice) slice every_word v

-- the pass v looked at the stripe before it claimed it, was answered so, and is now w
abbrev pub StripeAnswers : Actor Carried → Header → ℕ → StripeClaim → Actor Carried → Type 0
StripeAnswers v h slice (Got stripe) w = HasStripe (saw_whole slice v) h slice stripe w
StripeAnswers v h slice (NotWhole seen) w = HasSeenPart blocks v slice seen w
StripeAnswers v h slice Gone w = HasFoundGone blocks (saw_whole slice v) slice w
