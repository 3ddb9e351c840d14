use Rattle.std.proofs.Common.{◌-◌, ◌*◌, ap, ◌∙◌, refl, arith}
use Rattle.xs_layout.specs.declared.Shape.{Shape}
use Rattle.xs_params.specs.Picture.{sample_size, width_of}
use Rattle.xs_samples.proofs.RowRanges.{one_done}
use Rattle.xs_samples.proofs.raw.fill_rows.Goals as goal

pub rows-preserved : goal.rows-preserved
rows-preserved c =
    let picture = c.args.planes.now in
    let rows = c.args.rows in
    let same = c.shape-shape.ensures.shape in
    let place = c.row_start-start.ensures.start ∙ ap (λ (s : Shape). (c.rows.row - rows.first) * width_of s rows.component * sample_size s.depth) same in
    one_done picture rows c.rows.row _ _ _ c.rows.bytes c.put_row.new.bytes c.row.result.now c.shape-shape.ensures.picture c.requires.rows c.requires.component (omega (arith, c.rows.auto.row)) (omega (arith, c.rows-test.true)) refl
    (ap (λ (s : Shape). s.depth) same) place c.row.ensures.samples c.row.ensures.width c.put_row.ensures c.rows.invariant
