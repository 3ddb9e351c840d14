use Rattle.std.proofs.Common.{◌≡◌, ◌+◌, ◌<◌, [], ◌∷◌, length, sym, ap, ◌∙◌, arith}
use Rattle.xs_layout.specs.declared.Shape.{Shape}
use Rattle.xs_params.specs.Picture.{IsPlace, Picture, row_first, width_of, with_sample}
use Rattle.xs_params.proofs.Areas.{place_in}
use Rattle.xs_trial.specs.Generator.{next_state, row_places, sample_of, state_past}
use Rattle.xs_trial.specs.Steps.{with_drawn}
use Rattle.xs_trial.proofs.Drawing.{drawn_one, length-row, row_more, state_more}
use Rattle.xs_trial.proofs.picture.draw_row.Goals as goal

pub columns-preserved : goal.columns-preserved
columns-preserved c =
    let picture = c.args.planes.now in
    let component = c.args.component in
    let row = c.args.row in
    let column = c.columns.column in
    let start = c.args.start in
    let first = row_first picture.shape component row in
    let places = row_places column row in
    let wide : c.component_width-column-end.result ≡ width_of picture.shape component =
    c.component_width-column-end.ensures.width ∙ ap (λ (s : Shape). width_of s component) c.shape.ensures.shape in
    let there : IsPlace picture.shape component row column = record { row_there = c.requires; column_there = omega (arith, c.columns-test.true, c.columns.auto.column-end, wide) } in
    let inside : first + column < length picture.samples = omega (arith, place_in picture.shape component row column there, c.shape.ensures.picture.size) in
    let state : c.next_state-state.result ≡ next_state (state_past places start) = c.next_state-state.ensures ∙ ap next_state c.columns.invariant.state in
    let sample : c.sample_of-sample.result ≡ sample_of picture.shape.depth (row, column) (next_state (state_past places start)) =
    c.sample_of-sample.ensures.sample ∙ ap (λ (s : Shape). sample_of s.depth (row, column) c.next_state-state.result) c.shape.ensures.shape
    ∙ ap (sample_of picture.shape.depth (row, column)) state in
    record {
      drawn =
          c.set.ensures.set ∙ ap (λ (p : Picture). with_sample p component row column c.sample_of-sample.result) c.columns.invariant.drawn
          ∙ ap (with_sample (with_drawn picture first places start) component row column) sample ∙ drawn_one picture component row column places start (length-row column row) inside
          ∙ ap (λ l. with_drawn picture first l start) (sym (row_more column row));
      state = state ∙ sym (ap (λ l. state_past l start) (row_more column row) ∙ state_more places ((row, column) ∷ []) start);
    }
