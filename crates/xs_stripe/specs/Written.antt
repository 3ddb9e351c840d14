-- The lines of a stripe in a picture.
use Rattle.std.specs.Prelude.{◌≡◌, ℕ, ◌<◌, ◌≤◌, List, length, slice_index}
use Rattle.xs_layout.specs.declared.Shape.{Shape}
use Rattle.xs_layout.specs.Geometry.{components_of}
use Rattle.xs_params.specs.Picture.{AreSamples, IsPlace, Picture, sample_at, width_of}
use Rattle.xs_stripe.specs.declared.stripe.Stripe.{Stripe}
use Rattle.xs_stripe.specs.Stripe.{HasRow, stripe_row}

-- the row fits into a picture of this shape
pub record IsRowFor (shape : Shape) (component : ℕ) (row : List ℕ) : Type 0 where
  pub wide : length row ≡ width_of shape component
  pub small : AreSamples shape.depth row

-- The stripe's lines are lines of a picture of this shape, and it has the rows of all components in them.
pub record IsStripeFor (shape : Shape) (stripe : Stripe) : Type 0 where
  pub order : stripe.first ≤ stripe.end
  pub within : stripe.end ≤ shape.height
  pub there : (component line : ℕ) → component < components_of shape.format → stripe.first ≤ line → line < stripe.end → HasRow stripe component line
  pub rows : (component line : ℕ) → component < components_of shape.format → stripe.first ≤ line → line < stripe.end → IsRowFor shape component (stripe_row stripe component line)

-- the picture has the stripe's samples in the stripe's lines
abbrev pub HasLinesOf : Picture → Stripe → Type 0
HasLinesOf picture stripe = (component line column : ℕ) → IsPlace picture.shape component line column → stripe.first ≤ line → line < stripe.end
    → slice_index (stripe_row stripe component line) column ≡ sample_at picture component line column
