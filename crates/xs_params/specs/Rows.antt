-- Rows of coefficients, by band, line of the band and column.
use Rattle.std.specs.Prelude.{ℕ, nat_lt, if◌then◌else◌, ℤ, pos}
use Rattle.xs_params.specs.declared.header.Header.{Header}
use Rattle.xs_params.specs.Geometry.{band_width_of}

abbrev pub Rows : Type 0
Rows = ℕ → ℕ → ℕ → ℤ

-- rows that are cut at the band's width: 0 fills up the last code group
abbrev pub padded : Header → Rows → ℕ → ℕ → ℕ → ℤ
padded h rows band line column = if nat_lt column (band_width_of h band) then rows band line column else pos 0
