-- How many precincts and lines there are at most.
use Rattle.std.proofs.Common.{◌≡◌, ℕ, zero, suc, ◌+◌, ◌-◌, ◌*◌, ◌/◌, ◌^◌, ◌<◌, ◌≤◌, arith}
use Rattle.std.proofs.Math.Nat.{le-div_iff_mul-le}
use Rattle.xs_params.specs.declared.header.Header.{Header}
use Rattle.xs_params.specs.Geometry.{bands_of, precinct_count, slice_count}
use Rattle.xs_layout.specs.declared.Format.{Format}
use Rattle.xs_layout.specs.declared.Format.TheVariants.{Mono, C422, C444}
use Rattle.xs_layout.specs.Geometry.{components_of, precinct_count_of}
use Rattle.xs_params.specs.Accepted.{IsGeometry}
use Rattle.xs_geometry.specs.SliceLines.{slice_height, first_line_of, end_line_of}

pub small_power : (k : ℕ) → k ≤ 5 → 2 ^ k ≤ 32
small_power zero few = omega arith
small_power (suc zero) few = omega arith
small_power (suc (suc zero)) few = omega arith
small_power (suc (suc (suc zero))) few = omega arith
small_power (suc (suc (suc (suc zero)))) few = omega arith
small_power (suc (suc (suc (suc (suc zero))))) few = omega arith
small_power (suc (suc (suc (suc (suc (suc k)))))) few = absurd (omega (arith, few))

pub few_places : (nly : ℕ) → nly ≤ 2 → 2 ^ nly ≤ 4
few_places zero few = omega arith
few_places (suc zero) few = omega arith
few_places (suc (suc zero)) few = omega arith
few_places (suc (suc (suc nly))) few = absurd (omega (arith, few))

few_precincts : (height nly : ℕ) → height ≤ 8192 → nly ≤ 2 → precinct_count_of height nly ≤ 8192
few_precincts height zero most few = omega (arith, most)
few_precincts height (suc zero) most few = omega (arith, most)
few_precincts height (suc (suc zero)) most few = omega (arith, most)
few_precincts height (suc (suc (suc nly))) most few = absurd (omega (arith, few))

pub precincts_most : (h : Header) → IsGeometry h → precinct_count h ≤ 8192
precincts_most h ranges = few_precincts h.shape.height h.nly ranges.shape.height.1 (omega (arith, ranges.nly))

few_bands : (f : Format) (types : ℕ) → types ≤ 10 → types * components_of f ≤ 30
few_bands Mono types few = omega (arith, few)
few_bands C422 types few = omega (arith, few)
few_bands C444 types few = omega (arith, few)

pub bands_most : (h : Header) → IsGeometry h → bands_of h ≤ 30
bands_most h ranges = few_bands h.shape.format (2 * h.nly + h.nlx + 1) (omega (arith, ranges.nlx.1, ranges.nly))

-- a slice has a precinct
pub slice_begins : (h : Header) (slice : ℕ) → 1 ≤ h.hsl → slice < slice_count h → slice * h.hsl < precinct_count h
slice_begins h slice some inside =
    let next : slice + 1 ≤ (precinct_count h + h.hsl - 1) / h.hsl = omega (arith, inside) in
    let whole : (slice + 1) * h.hsl ≤ precinct_count h + h.hsl - 1 = (le-div_iff_mul-le some).0 next in
    let more : (slice + 1) * h.hsl ≡ slice * h.hsl + h.hsl = omega arith in
    omega (arith, whole, some, more)

-- a slice begins before it ends
pub slice_ends : (h : Header) (slice band : ℕ) → first_line_of h slice band ≤ end_line_of h slice band
slice_ends h slice band =
    let more : (slice + 1) * slice_height h band ≡ slice * slice_height h band + slice_height h band = omega arith in
    omega (arith, more)
