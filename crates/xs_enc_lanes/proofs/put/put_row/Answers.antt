use Rattle.std.proofs.Common.{◌≡◌, length, ap, ◌∙◌}
use Rattle.xs_geometry.specs.SliceLines.{row_at}
use Rattle.xs_geometry.specs.Written.{with_row}
use Rattle.xs_geometry.proofs.LentRows.{row_lent}
use Rattle.xs_enc_lanes.proofs.put.put_row.Goals as goal

pub returns-then-row : goal.returns-then-row
returns-then-row c =
    let rows = c.args.rows.now in
    let band = c.args.place.0 in
    let line = c.args.place.1 in
    let same : length c.args.row.now ≡ length (row_at rows band line) = c.if-row.true ∙ ap length c.row.ensures in
    record {
      whole = λ _. row_lent rows band line c.widen_row.new.row c.requires.there (ap length c.widen_row.ensures ∙ same) ∙ ap (with_row rows band line) c.widen_row.ensures;
      other = λ apart. absurd (apart same);
    }
