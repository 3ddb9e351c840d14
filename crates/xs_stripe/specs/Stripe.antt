-- The samples of the picture lines of a slice: '5/3 wavelet' and 'Samples, scaling and colour'.
use Rattle.std.specs.Prelude.{◌≡◌, ℕ, ◌+◌, ◌-◌, ◌*◌, ◌/◌, ◌%◌, ◌^◌, ◌<◌, ◌≤◌, min, List, [], length, slice_index, slice_index_or}
use Rattle.xs_layout.specs.Geometry.{components_of}
use Rattle.xs_params.specs.declared.header.Header.{Header}
use Rattle.xs_params.specs.Geometry.{component_width}
use Rattle.xs_params.specs.Picture.{AreSamples}
use Rattle.xs_rate.specs.Coefficients.{Rows}
use Rattle.xs_decoding.specs.Decoded.{decoded_sample}
use Rattle.xs_stripe.specs.declared.stripe.Stripe.{Stripe}

-- the first picture line of a precinct, as far as there is one
abbrev pub line_of : Header → ℕ → ℕ
line_of h precinct = min (2 ^ h.nly * precinct) h.shape.height

-- the components of a picture line stand one behind the other
abbrev pub row_number : Stripe → ℕ → ℕ → ℕ
row_number stripe component line = (line - stripe.first) * stripe.components + component

-- the samples of a component in a picture line
abbrev pub stripe_row : Stripe → ℕ → ℕ → List ℕ
stripe_row stripe component line = slice_index_or stripe.rows (row_number stripe component line) []

-- the stripe has such a row
pub record HasRow (stripe : Stripe) (component line : ℕ) : Type 0 where
  pub from : stripe.first ≤ line
  pub inside : row_number stripe component line < length stripe.rows

-- the row is a line of a component, decoded from rows of coefficients
pub record IsDecodedRow (h : Header) (rows : Rows) (component line : ℕ) (row : List ℕ) : Type 0 where
  pub wide : length row ≡ component_width h component
  pub small : AreSamples h.shape.depth row
  pub samples : (column : ℕ) → column < length row → slice_index row column ≡ decoded_sample h rows component line column

-- the stripe has the picture lines of a slice, decoded from rows of coefficients
pub record IsStripeOf (h : Header) (slice : ℕ) (stripe : Stripe) (rows : Rows) : Type 0 where
  pub first_is : stripe.first ≡ line_of h (slice * h.hsl)
  pub end_is : stripe.end ≡ line_of h ((slice + 1) * h.hsl)
  pub there : (component line : ℕ) → component < components_of h.shape.format → stripe.first ≤ line → line < stripe.end → HasRow stripe component line
  pub lines : (component line : ℕ) → component < components_of h.shape.format → stripe.first ≤ line → line < stripe.end → IsDecodedRow h rows component line (stripe_row stripe component line)

-- rows of samples are those of all components in the lines from the first on
abbrev pub AreDecodedFrom : Header → Rows → ℕ → List (List ℕ) → Type 0
AreDecodedFrom h rows first list =
    (number : ℕ) → number < length list → IsDecodedRow h rows (number % components_of h.shape.format) (first + number / components_of h.shape.format) (slice_index_or list number [])
