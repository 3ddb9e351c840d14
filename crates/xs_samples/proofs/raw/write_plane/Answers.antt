use Rattle.std.proofs.Common.{◌≡◌, ◌*◌, ◌∙◌, ap, subst, arith}
use Rattle.xs_layout.specs.declared.Shape.{Shape}
use Rattle.xs_params.specs.Picture.{IsRow, row_first, sample_size}
use Rattle.xs_samples.specs.Raw.{HasWritten}
use Rattle.xs_samples.proofs.RawPictures.{last_row, row_written}
use Rattle.xs_samples.proofs.raw.write_plane.Goals as goal

pub rows-preserved : goal.rows-preserved
rows-preserved c =
    let picture = c.args.planes.now in
    let there : IsRow picture.shape c.args.component c.rows.row = record {
      component_there = c.requires.component;
      row_there = omega (arith, c.rows-test.true, ap (λ (s : Shape). s.height) c.shape-shape.ensures.shape);
    } in
    let place = c.row_place-start.ensures.place ∙ ap (λ (s : Shape). row_first s c.args.component c.rows.row * sample_size s.depth) c.shape-shape.ensures.shape in
    let deep = ap (λ (s : Shape). s.depth) c.shape-shape.ensures.shape in
    let written = row_written picture c.args.component c.rows.row _ _ c.rows.bytes c.put_row.new.bytes c.row.result.now c.shape-shape.ensures.picture there (c.rows.invariant.size ∙ c.requires.size) deep place c.row.ensures.samples
    c.put_row.ensures c.rows.invariant.written in
    record { size = written.0 ∙ c.rows.invariant.size; written = written.1 }

pub returns-clause-written : goal.returns-clause-written
returns-clause-written c =
    let picture = c.args.planes.now in
    let last : c.rows.row ≡ picture.shape.height = omega (arith, c.rows-test.false, c.rows.auto.row-end, ap (λ (s : Shape). s.height) c.shape-shape.ensures.shape) in
    subst (λ n. HasWritten picture n c.rows.bytes) (ap (row_first picture.shape c.args.component) last ∙ last_row picture.shape c.args.component) c.rows.invariant.written
