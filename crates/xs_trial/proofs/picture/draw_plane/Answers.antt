use Rattle.std.proofs.Common.{◌≡◌, ◌+◌, ◌≤◌, ◌<◌, length, sym, ap, ◌∙◌, arith}
use Rattle.xs_layout.specs.declared.Shape.{Shape}
use Rattle.xs_params.specs.Picture.{Picture, plane_first, row_first, width_of}
use Rattle.xs_params.proofs.Areas.{row_end}
use Rattle.xs_trial.specs.Generator.{row_places, state_past}
use Rattle.xs_trial.specs.Steps.{rows_places, with_drawn}
use Rattle.xs_trial.proofs.Drawing.{drawn_more, length-rows, rows_more, state_more}
use Rattle.xs_trial.proofs.picture.draw_plane.Goals as goal

pub rows-preserved : goal.rows-preserved
rows-preserved c =
    let picture = c.args.planes.now in
    let component = c.args.component in
    let row = c.rows.row in
    let start = c.args.start in
    let width = width_of picture.shape component in
    let first = plane_first picture.shape component in
    let next = row_first picture.shape component row in
    let places = rows_places width row in
    let more = row_places width row in
    let rows = ap (λ (s : Shape). s.height) c.shape.ensures.shape in
    let below : row < picture.shape.height = omega (arith, c.rows-test.true, c.rows.auto.row-end, rows) in
    let at : next ≡ first + length places = omega (arith, length-rows width row) in
    let inside : next ≤ length picture.samples =
    omega (arith, row_end picture.shape component row (record { component_there = c.requires; row_there = below }), c.shape.ensures.picture.size) in
    record {
      drawn =
          c.draw_row-state.ensures.drawn
          ∙ ap (λ (p : Picture). with_drawn p (row_first p.shape component row) (row_places (width_of p.shape component) row) c.rows.state) c.rows.invariant.drawn
          ∙ ap (with_drawn (with_drawn picture first places start) next more) c.rows.invariant.state ∙ drawn_more picture first next places more start at inside
          ∙ ap (λ l. with_drawn picture first l start) (sym (rows_more width row));
      state =
          c.draw_row-state.ensures.state ∙ ap (λ (p : Picture). state_past (row_places (width_of p.shape component) row) c.rows.state) c.rows.invariant.drawn
          ∙ ap (state_past more) c.rows.invariant.state ∙ sym (ap (λ l. state_past l start) (rows_more width row) ∙ state_more places more start);
    }
