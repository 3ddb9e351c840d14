-- The rows of coefficients that the lines of a picture are made of: 'Band geometry' and '5/3 wavelet'.
use Rattle.std.specs.Prelude.{◌≡◌, ℕ, ◌+◌, ◌*◌, ◌<◌, ◌≤◌, true, List, length, ℤ}
use Rattle.xs_signal.specs.Lines.{Shows, entries_of}
use Rattle.xs_params.specs.declared.header.Header.{Header}
use Rattle.xs_params.specs.Geometry.{bands_of, band_type_of, band_width_of, band_height_of, precinct_lines}
use Rattle.xs_rate.specs.Coefficients.{Rows}
use Rattle.xs_rate.specs.Laws.{IsSmallRow}

-- a row has so many coefficients, of 15 bits each
pub record IsBandRow (width : ℕ) (row : List ℤ) : Type 0 where
  pub wide : length row ≡ width
  pub small : IsSmallRow (entries_of row)

-- each row that a band has is there
abbrev pub HaveAllRows : Header → (ℕ → ℕ → List ℤ) → Type 0
HaveAllRows h rows = (band line : ℕ) → band < bands_of h → line < band_height_of h band → IsBandRow (band_width_of h band) (rows band line)

-- the rows of the precincts from a on up to b are there, and the first row of precinct b, as many as each band has
abbrev pub HaveRows : Header → ℕ → ℕ → (ℕ → ℕ → List ℤ) → Type 0
HaveRows h a b rows = (band line : ℕ) → band < bands_of h → line < band_height_of h band → precinct_lines h band * a ≤ line → line ≤ precinct_lines h band * b → IsBandRow (band_width_of h band) (rows band line)

-- the last row above precinct a is there of each band that is high down
abbrev pub HaveRowsAbove : Header → ℕ → (ℕ → ℕ → List ℤ) → Type 0
HaveRowsAbove h a rows = (band line : ℕ) → band < bands_of h → (band_type_of h band).high_down ≡ true → line + 1 ≡ precinct_lines h band * a → IsBandRow (band_width_of h band) (rows band line)

-- the rows that are there are those of the coefficients
abbrev pub ShowRowsOf : Rows → (ℕ → ℕ → List ℤ) → Type 0
ShowRowsOf coefficients rows = (band line : ℕ) → Shows (rows band line) (coefficients band line)
