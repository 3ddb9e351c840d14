use Rattle.std.proofs.Common.{◌≡◌, ◌+◌, ◌*◌, ◌∙◌, ap, arith}
use Rattle.xs_params.specs.Picture.{plane_first, row_first, sample_size}
use Rattle.xs_samples.proofs.RawPictures.{row_end_raw}
use Rattle.xs_samples.proofs.raw.row_place.Goals as goal

pub returns-clause-end : goal.returns-clause-end
returns-clause-end c =
    let shape = c.args.shape.now in
    let component = c.args.component in
    let row = c.args.row in
    let place : (c.samples_before.result + row * c.component_width-width.result) * c.sample_size.result ≡ row_first shape component row * sample_size shape.depth =
    ap (λ n. (n + row * c.component_width-width.result) * c.sample_size.result) c.samples_before.ensures.count
    ∙ ap (λ n. (plane_first shape component + row * n) * c.sample_size.result) c.component_width-width.ensures.width
    ∙ ap (λ n. row_first shape component row * n) c.sample_size.ensures in
    omega (arith, place, row_end_raw shape component row c.requires.row)
