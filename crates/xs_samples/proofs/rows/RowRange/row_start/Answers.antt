use Rattle.std.proofs.Common.{◌-◌, ◌*◌, ap, ◌∙◌, refl}
use Rattle.xs_params.specs.Picture.{width_of}
use Rattle.xs_samples.proofs.RowRanges.{row_among}
use Rattle.xs_samples.proofs.rows.RowRange.row_start.Goals as goal

pub returns-clause-end : goal.returns-clause-end
returns-clause-end c =
    let shape = c.args.shape.now in
    let rows = c.args.self in
    let row = c.args.row in
    let place = ap (λ n. (row - rows.first) * n * c.sample_size.result) c.component_width-width.ensures.width ∙ ap (λ n. (row - rows.first) * width_of shape rows.component * n) c.sample_size.ensures in
    row_among shape rows row _ _ c.requires.from c.requires.below refl place
