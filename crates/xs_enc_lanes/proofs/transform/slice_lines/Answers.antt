use Rattle.std.proofs.Common.{◌≡◌, ◌+◌, ◌*◌, ◌-◌, ◌^◌, min, ap, ◌∙◌, arith}
use Rattle.std.proofs.Math.Nat.{mul_assoc}
use Rattle.xs_params.specs.Geometry.{band_height_of, band_type_of}
use Rattle.xs_enc_lanes.proofs.transform.slice_lines.Goals as goal

pub returns-clause-first : goal.returns-clause-first
returns-clause-first c =
    let h = c.args.header.now in
    let slice = c.args.slice in
    let deeper = h.nly - c.kind.result.down in
    let down = ap (λ t. t.down) (c.kind.ensures.band_type ∙ ap (λ g. band_type_of g c.args.band) c.of-geometry.ensures) in
    let height = c.band_height-height.ensures.lines ∙ ap (λ g. band_height_of g c.args.band) c.of-geometry.ensures in
    let first : c.slice_precincts-first.result.0 ≡ slice * h.hsl = c.slice_precincts-first.ensures.first ∙ ap (λ g. c.args.slice * g.hsl) c.of-geometry.ensures in
    let lines = c.times_power.ensures ∙ ap (λ n. n * 2 ^ deeper) first ∙ mul_assoc slice h.hsl (2 ^ deeper) ∙ ap (λ d. slice * (h.hsl * 2 ^ (h.nly - d))) down in
    c.min.ensures ∙ ap (λ n. min n c.band_height-height.result) lines ∙ ap (min (slice * (h.hsl * 2 ^ (h.nly - (band_type_of h c.args.band).down)))) height

pub returns-clause-end : goal.returns-clause-end
returns-clause-end c =
    let h = c.args.header.now in
    let slice = c.args.slice in
    let deeper = h.nly - c.kind.result.down in
    let down = ap (λ t. t.down) (c.kind.ensures.band_type ∙ ap (λ g. band_type_of g c.args.band) c.of-geometry.ensures) in
    let height = c.band_height-height.ensures.lines ∙ ap (λ g. band_height_of g c.args.band) c.of-geometry.ensures in
    let first : c.slice_precincts-first.result.0 ≡ slice * h.hsl = c.slice_precincts-first.ensures.first ∙ ap (λ g. c.args.slice * g.hsl) c.of-geometry.ensures in
    let next : c.slice_precincts-first.result.0 + c.from.result ≡ (slice + 1) * h.hsl = omega (arith, first, c.from.ensures) in
    let lines = c.times_power-2.ensures ∙ ap (λ n. n * 2 ^ deeper) next ∙ mul_assoc (slice + 1) h.hsl (2 ^ deeper) ∙ ap (λ d. (slice + 1) * (h.hsl * 2 ^ (h.nly - d))) down in
    c.min-2.ensures ∙ ap (λ n. min n c.band_height-height.result) lines ∙ ap (min ((slice + 1) * (h.hsl * 2 ^ (h.nly - (band_type_of h c.args.band).down)))) height
