-- The header by which a slice is counted, and the modes that its counts give.
use Rattle.std.proofs.Common.{◌≡◌, ℕ, ◌+◌, ◌-◌, ◌*◌, ◌/◌, ◌<◌, ◌≤◌, min, List, refl, sym, ap, subst, ◌∙◌, arith}
use Rattle.std.specs.List.{Contains}
use Rattle.std.proofs.Math.Nat.{le-div_iff_mul-le}
use Rattle.xs_layout.specs.declared.Candidate.{Candidate}
use Rattle.xs_params.specs.declared.header.Header.{Header}
use Rattle.xs_params.specs.Geometry.{coding_header, geometry_of, precinct_count, precincts_of, slice_count}
use Rattle.xs_params.specs.Rows.{Rows}
use Rattle.xs_geometry.specs.SliceLines.{BandLines, AreLinesOf}
use Rattle.xs_geometry.proofs.PlaceFacts.{range_has}
use Rattle.xs_geometry.proofs.WrittenRows.{geometry_kept}
use Rattle.xs_rate.specs.Chosen.{content_at, mode_of}

pub lines_of_geometry : (h g : Header) (slice : ℕ) (bands : List BandLines) → g ≡ geometry_of h → AreLinesOf h slice bands → AreLinesOf g slice bands
lines_of_geometry h g slice bands same lines = subst (λ (x : Header). AreLinesOf x slice bands) (sym same) ((geometry_kept h slice bands).1 lines)

pub precinct_of_geometry : (h g : Header) (slice precinct : ℕ) → g ≡ geometry_of h → Contains (precincts_of h slice) precinct → Contains (precincts_of g slice) precinct
precinct_of_geometry h g slice precinct same there = subst (λ (x : Header). Contains (precincts_of x slice) precinct) (sym same) there

pub slice_there : (h : Header) (slice precinct : ℕ) → 1 ≤ h.hsl → Contains (precincts_of h slice) precinct → slice < slice_count h
slice_there h slice precinct some there =
    let between = range_has (slice * h.hsl) (min ((slice + 1) * h.hsl) (precinct_count h) - slice * h.hsl) precinct there in
    let next : (slice + 1) * h.hsl ≡ slice * h.hsl + h.hsl = omega arith in
    let inside : slice + 1 ≤ (precinct_count h + h.hsl - 1) / h.hsl = (le-div_iff_mul-le some).1 (omega (arith, between, next)) in
    omega (arith, inside)

-- the mode of a band does not depend on how long the heads of packets are
pub mode_same : (h g : Header) (rows : Rows) (candidate : Candidate) (precinct band : ℕ) → g ≡ geometry_of h
    → mode_of (coding_header g h.weights h.signs_apart h.quant) (content_at (coding_header g h.weights h.signs_apart h.quant) rows candidate) precinct band ≡ mode_of h (content_at h rows candidate) precinct band
mode_same h g rows candidate precinct band same =
    ap (λ (x : Header). mode_of (coding_header x h.weights h.signs_apart h.quant) (content_at (coding_header x h.weights h.signs_apart h.quant) rows candidate) precinct band) same ∙ back
  where
    back : mode_of (coding_header (geometry_of h) h.weights h.signs_apart h.quant) (content_at (coding_header (geometry_of h) h.weights h.signs_apart h.quant) rows candidate) precinct band ≡ mode_of h (content_at h rows candidate) precinct band
    back = refl
