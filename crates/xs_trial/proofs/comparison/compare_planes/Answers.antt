use Rattle.std.proofs.Common.{◌≡◌, ◌+◌, drop, length, take, sym, ap, ◌∙◌, arith}
use Rattle.xs_layout.specs.declared.Shape.{Shape}
use Rattle.xs_params.specs.Picture.{row_first, width_of}
use Rattle.xs_trial.specs.Comparison.{compared}
use Rattle.xs_trial.proofs.Comparing.{rest_more, row_next}
use Rattle.xs_trial.proofs.comparison.compare_planes.Goals as goal

pub rows-preserved : goal.rows-preserved
rows-preserved c =
    let shape = c.args.picture.now.shape in
    let samples = c.args.picture.now.samples in
    let others = c.args.other.now.samples in
    let component = c.args.component in
    let row = c.rows.row in
    let width = width_of shape component in
    let first = row_first shape component row in
    let end = row_first shape component (row + 1) in
    let here = c.row.ensures.samples in
    let there : c.row-in-rows.result.now ≡ take width (drop first others) =
    c.row-in-rows.ensures.samples ∙ ap (λ (s : Shape). take (width_of s component) (drop (row_first s component row) others)) (sym c.requires.shape) in
    let same : length (take width (drop first samples)) ≡ length (take width (drop first others)) =
    sym (ap length here) ∙ c.row.ensures.width ∙ ap (λ (s : Shape). width_of s component) c.requires.shape ∙ sym c.row-in-rows.ensures.width ∙ ap length there in
    record {
      rest =
          ap (λ found. compared found (drop end samples) (drop end others))
          (c.compare_rows-found.ensures ∙ ap (λ l. compared c.rows.found l c.row-in-rows.result.now) here ∙ ap (compared c.rows.found (take width (drop first samples))) there)
          ∙ rest_more c.rows.found first width end samples others (row_next shape component row) same ∙ c.rows.invariant.rest;
    }
