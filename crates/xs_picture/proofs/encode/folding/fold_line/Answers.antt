use Rattle.std.proofs.Common.{◌≡◌, length, ap, ◌∙◌}
use Rattle.std.proofs.lemmas.List.FromFn.{length-map-range_with_len}
use Rattle.xs_signal.specs.Fold.{fold}
use Rattle.xs_signal.specs.Lines.{entries_of}
use Rattle.xs_geometry.specs.SliceLines.{row_at}
use Rattle.xs_geometry.specs.Written.{with_row}
use Rattle.xs_geometry.proofs.LentRows.{row_lent}
use Rattle.xs_picture.proofs.encode.folding.fold_line.Goals as goal

pub returns : goal.returns
returns c =
    let rows = c.args.rows.now in
    let place = c.args.place in
    let size : length c.fold_row.new.row ≡ length (row_at rows place.0 place.1) =
    ap length c.fold_row.ensures.folded ∙ length-map-range_with_len (λ column. fold c.args.fraction (entries_of c.args.numbers.now column)) 0 (length c.args.numbers.now) ∙ c.requires.width in
    row_lent rows place.0 place.1 c.fold_row.new.row c.requires.there size ∙ ap (with_row rows place.0 place.1) c.fold_row.ensures.folded
