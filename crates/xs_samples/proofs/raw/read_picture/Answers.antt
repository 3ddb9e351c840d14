use Rattle.std.proofs.Common.{◌≡◌, ◌∙◌, ap, sym, arith}
use Rattle.xs_layout.specs.Geometry.{components_of}
use Rattle.xs_params.specs.Picture.{over_sample, plane_first}
use Rattle.xs_samples.proofs.RawPictures.{none_over, picture_read}
use Rattle.xs_samples.proofs.raw.read_picture.Goals as goal

pub returns-clause-picture : goal.returns-clause-picture
returns-clause-picture c =
    let shape = c.args.shape.now in
    let end : c.components.component ≡ components_of shape.format = omega (arith, c.components-test.false, c.components.auto.component-end, c.components-component-end.ensures.count) in
    picture_read c.components.planes shape _ c.args.bytes.now c.requires.shape c.known_picture.ensures c.components.invariant.shape (ap (plane_first shape) end) c.requires.size c.components.invariant.read

pub returns-clause-within : goal.returns-clause-within
returns-clause-within c = sym (ap over_sample (returns-clause-picture c)) ∙ none_over c.components.planes c.known_picture.ensures
