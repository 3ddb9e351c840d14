-- The rows of a component's bands at full precision: 'Samples, scaling and colour'.
use Rattle.std.specs.Prelude.{ℕ, ◌+◌, ◌^◌, List, map, ℤ, pos, ◌*ℤ◌}
use Rattle.xs_layout.specs.Limits.{fq_of}
use Rattle.xs_params.specs.declared.header.Header.{Header}
use Rattle.xs_decoding.specs.Decoded.{band_number, level_type}
use Rattle.xs_joiner.specs.declared.source.Band.{Band}
use Rattle.xs_joiner.specs.declared.source.Band.TheVariants.{Lowest, Hl, Lh, Hh}

-- the number of a band of a component; the levels of a joiner are numbered from 0 on
abbrev pub band_of : Header → ℕ → Band → ℕ
band_of h component Lowest = band_number h 0 component
band_of h component (Hl level) = band_number h (level_type h (level + 1)) component
band_of h component (Lh level) = band_number h (level_type h (level + 1) + 1) component
band_of h component (Hh level) = band_number h (level_type h (level + 1) + 2) component

-- coefficients at full precision
abbrev pub raised_row : ℕ → List ℤ → List ℤ
raised_row fraction row = map (λ z. z *ℤ pos (2 ^ fraction)) row

-- the rows of the bands of a component
abbrev pub raised_rows : Header → ℕ → (ℕ → ℕ → List ℤ) → Band → ℕ → List ℤ
raised_rows h component rows band row = raised_row (fq_of h.bw) (rows (band_of h component band) row)
