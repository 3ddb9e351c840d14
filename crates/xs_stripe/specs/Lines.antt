-- The lines of a picture on their way from its coefficients: '5/3 wavelet' and 'Samples, scaling and colour'.
use Rattle.std.specs.Prelude.{◌≡◌, ℕ, ◌-◌, ◌*◌, ◌^◌, ◌<◌, ◌≤◌, true, if◌then◌else◌, ℤ}
use Rattle.xs_params.specs.declared.header.Header.{Header}
use Rattle.xs_params.specs.Accepted.{IsAccepted}
use Rattle.xs_signal.specs.Lines.{AllBelow, Shows, entries_of}
use Rattle.xs_signal.specs.Picture.{uncoloured}
use Rattle.xs_rate.specs.Coefficients.{Rows}
use Rattle.xs_stripe.specs.Colours.{HaveWidth, colour_row}
use Rattle.xs_stripe.specs.Joined.{AreJoiners, HoldJoiners, joined_planes}
use Rattle.xs_stripe.specs.declared.colours.ColourRows.{ColourRows}
use Rattle.xs_stripe.specs.declared.lines.Lines.{Lines}

-- the numbers of each component of which the samples are scaled
abbrev pub line_numbers : Header → Rows → ℕ → ℕ → ℕ → ℤ
line_numbers h rows = if h.colour then uncoloured (joined_planes h rows) else joined_planes h rows

-- where colour is turned back there is a row of each colour
pub record HasColours (h : Header) (colours : ColourRows) : Type 0 where
  pub width : h.colour ≡ true → HaveWidth h.shape.width colours
  pub small : (component : ℕ) → AllBelow (2 ^ 29) (entries_of (colour_row colours component))

-- the lines of a picture that were begun at precinct `first`, before the line `given`
pub record AreLines (lines : Lines) : Type 0 where
  pub accepted : IsAccepted lines.header.now
  pub from : 2 ^ lines.header.now.nly * lines.first ≤ lines.given
  pub joiners : AreJoiners lines.header.now lines.first lines.given lines.joiners.items
  pub colours : HasColours lines.header.now lines.colours

-- a line was made since they were begun
abbrev pub HaveLine : Lines → Type 0
HaveLine lines = 2 ^ lines.header.now.nly * lines.first < lines.given

-- the colours are those of a line
abbrev pub HoldColours : Header → Rows → ℕ → ColourRows → Type 0
HoldColours h rows line colours = (component : ℕ) → component < 3 → Shows (colour_row colours component) (uncoloured (joined_planes h rows) component line)

-- they hold what they need of these coefficients
pub record HoldRows (rows : Rows) (lines : Lines) : Type 0 where
  pub joiners : HoldJoiners lines.header.now rows lines.joiners.items
  pub colours : lines.header.now.colour ≡ true → HaveLine lines → HoldColours lines.header.now rows (lines.given - 1) lines.colours
