-- Rows of red, green and blue: 'Samples, scaling and colour'.
use Rattle.std.specs.Prelude.{◌≡◌, ℕ, zero, suc, List, length, ℤ}
use Rattle.xs_stripe.specs.declared.colours.ColourRows.{ColourRows}

-- the row of a component
abbrev pub colour_row : ColourRows → ℕ → List ℤ
colour_row colours zero = colours.red.items
colour_row colours (suc zero) = colours.green.items
colour_row colours (suc (suc component)) = colours.blue.items

-- each row has this width
pub record HaveWidth (width : ℕ) (colours : ColourRows) : Type 0 where
  pub red : length colours.red.items ≡ width
  pub green : length colours.green.items ≡ width
  pub blue : length colours.blue.items ≡ width
