-- The bands of a packet have the packet's lines.
use Rattle.std.proofs.Common.{◌≡◌, ℕ, ◌+◌, ◌-◌, ◌*◌, ◌/◌, ◌^◌, ◌<◌, ◌≤◌, get_or, ap, ◌∙◌, arith}
use Rattle.xs_params.specs.declared.header.Header.{Header}
use Rattle.xs_layout.specs.Geometry.{band_types, components_of, ll}
use Rattle.xs_layout.proofs.Places.{types_of_band, wide_down, deep_down, below_bands}
use Rattle.xs_params.specs.Geometry.{bands_of, precinct_lines}

-- the bands of the types that are not split down have one line
pub wide_band : (h : Header) (band : ℕ) → h.nly ≤ h.nlx → band < (h.nlx - h.nly + 1) * components_of h.shape.format → (precinct_lines h band ≡ 1) × (band < bands_of h)
wide_band h band below inside =
    let type = types_of_band h.shape.format band 0 (h.nlx - h.nly + 1) (omega arith) (omega (arith, inside)) in
    let none : h.nly - h.nly ≡ 0 = omega arith in (
      ap (λ k. 2 ^ (h.nly - k)) (wide_down h.nlx h.nly (band / components_of h.shape.format) (ll 0 0) below (omega (arith, type.1))) ∙ ap (λ k. 2 ^ k) none,
      below_bands h.shape.format band 0 (2 * h.nly + h.nlx + 1) (omega (arith, type.1, below)),
    )

-- the bands of a packet of a level have the level's lines
pub deep_band : (h : Header) (level side band : ℕ) → h.nly ≤ h.nlx → 1 ≤ level → level ≤ h.nly → side < 3
    → (h.nlx - h.nly + 1 + 3 * (h.nly - level) + side) * components_of h.shape.format ≤ band
    → band < (h.nlx - h.nly + 1 + 3 * (h.nly - level) + side) * components_of h.shape.format + 1 * components_of h.shape.format
    → (precinct_lines h band ≡ 2 ^ (h.nly - level)) × (band < bands_of h)
deep_band h level side band below low high inside from to =
    let first = h.nlx - h.nly + 1 + 3 * (h.nly - level) + side in
    let type = types_of_band h.shape.format band first 1 from to in
    let same : band / components_of h.shape.format ≡ first = omega (arith, type) in (
      ap (λ i. 2 ^ (h.nly - (get_or (band_types h.nlx h.nly) i (ll 0 0)).down)) same ∙ ap (λ k. 2 ^ (h.nly - k)) (deep_down h.nlx h.nly level side (ll 0 0) below low high inside),
      below_bands h.shape.format band 0 (2 * h.nly + h.nlx + 1) (omega (arith, type.1, below, low, high, inside)),
    )
