-- What the reader of a slice holds of each band while it goes from precinct to precinct, and the rows that it fills.
use Rattle.std.specs.Prelude.{◌≡◌, ℕ, ◌-◌, ◌*◌, if◌then◌else◌, Option, None, Some, List, map}
use Rattle.xs_lists.specs.Spelling.{upto}
use Rattle.xs_layout.specs.Geometry.{groups_of}
use Rattle.xs_params.specs.declared.header.Header.{Header}
use Rattle.xs_geometry.specs.SliceLines.{BandLines, HasLine, row_at}
use Rattle.xs_params.specs.Geometry.{bands_of, band_width_of, precinct_lines}
use Rattle.xs_grammar.specs.Precinct.{Content, is_first_line, line_truncation, precinct_of}
use Rattle.xs_reading.specs.Rows.{dequantised_rows}

-- the last line of a band in the slice that was read: its counts and the truncation that it was coded with
pub record Last : Type 0 where
  pub counts : List ℕ
  pub truncation : ℕ

-- a line of a band, as the content has it
abbrev pub line_held : Header → Content → ℕ → ℕ → Last
line_held h content band line = record { counts = map (content.count band line) (upto (groups_of (band_width_of h band))); truncation = line_truncation h content band line }

-- the line above it; there is none above the first line of the slice
abbrev pub last_before : Header → Content → ℕ → ℕ → Option Last
last_before h content band line = if is_first_line h band line then None else Some (line_held h content band (line - 1))

-- for each band the line above its first line in a precinct
abbrev pub above_of : Header → Content → ℕ → List (Option Last)
above_of h content precinct = map (λ band. last_before h content band (precinct * precinct_lines h band)) (upto (bands_of h))

-- the rows of a precinct's lines are those of a content
abbrev pub ShowsPrecinct : Header → Content → ℕ → List BandLines → Type 0
ShowsPrecinct h content precinct rows =
    (band line : ℕ) → HasLine rows band line → precinct_of h band line ≡ precinct → row_at rows band line ≡ map (dequantised_rows h content band line) (upto (band_width_of h band))

-- rows of which those of a precinct alone may have changed
abbrev pub SameElsewhere : Header → ℕ → List BandLines → List BandLines → Type 0
SameElsewhere h precinct old new = (band line : ℕ) → HasLine old band line → (precinct_of h band line ≡ precinct → ⊥) → row_at new band line ≡ row_at old band line
