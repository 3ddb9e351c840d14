use Rattle.std.proofs.Common.{◌≡◌, ◌+◌, ◌≤◌, ◌++◌, ◌∙◌, length, take, drop, sym, ap, subst, arith}
use Rattle.xs_layout.specs.declared.Shape.{Shape}
use Rattle.xs_params.specs.Picture.{Picture, AreSamples, width_of}
use Rattle.xs_params.proofs.Areas.{picture_kept}
use Rattle.xs_params.proofs.planes.Planes.set_row.Goals as goal

pub invariant_of-self : goal.invariant_of-self
invariant_of-self c =
    let old = c.self.inside.samples.items in
    let part = c.args.samples.now in
    let first = c.row_start-start.result in
    let after = c.put_part.ensures ∙ ap (λ l. take first l ++ part ++ drop (first + length part) l) c.as_mut_slice.ensures.value in
    let shape : c.args.self.now.shape ≡ c.self.inside.shape = sym (ap (λ (p : Picture). p.shape) c.self.view_is) in
    let width : length part ≡ width_of c.self.inside.shape c.args.component = c.requires.width ∙ ap (λ s. width_of s c.args.component) shape in
    let inside : first + length part ≤ length old = omega (arith, width, c.row_start-start.ensures.end, c.self.invariant.size) in
    let small : AreSamples c.self.inside.shape.depth part = subst (λ (s : Shape). AreSamples s.depth part) shape c.requires.small in
    picture_kept c.self.inside.shape old part c.put_part.new.samples first c.self.inside.samples.len c.self.invariant small inside (sym c.self.inside.samples.ok.0) after
