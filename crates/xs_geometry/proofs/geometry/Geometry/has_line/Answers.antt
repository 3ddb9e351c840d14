use Rattle.std.proofs.Common.{◌≡◌, ◌*◌, ap, subst, ◌∙◌, arith}
use Rattle.xs_layout.specs.Geometry.{components_of}
use Rattle.xs_params.specs.declared.header.Header.{Header}
use Rattle.xs_params.specs.Accepted.{IsGeometry}
use Rattle.xs_geometry.proofs.Counts.{bands_most}
use Rattle.xs_geometry.proofs.geometry.Geometry.has_line.Goals as goal

pub overflow_mul-place : goal.overflow_mul-place
overflow_mul-place c =
    let h = c.args.self.now in
    let count = c.components.ensures.count ∙ ap (λ (g : Header). components_of g.shape.format) c.self.view_is in
    let same : c.args.place.first_type * c.components.result ≡ c.args.place.first_type * components_of h.shape.format = ap (λ n. c.args.place.first_type * n) count in
    omega (arith, same, c.requires, bands_most h (subst IsGeometry c.self.view_is c.self.invariant.0))
