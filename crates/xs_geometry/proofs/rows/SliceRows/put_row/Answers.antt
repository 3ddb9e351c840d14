use Rattle.std.proofs.Common.{◌≡◌, sym, ap, subst, ◌∙◌}
use Rattle.xs_geometry.specs.SliceLines.{AreLinesOf}
use Rattle.xs_geometry.specs.Written.{with_row, with_lent}
use Rattle.xs_geometry.proofs.WrittenRows.{lines_kept}
use Rattle.xs_geometry.proofs.LentRows.{row_lent}
use Rattle.xs_geometry.proofs.rows.SliceRows.put_row.Goals as goal

pub returns : goal.returns
returns c =
    let bands = c.args.self.now in
    let row = c.args.values.now in
    let written : with_lent bands c.args.band c.args.line c.copy_from_slice.new.self ≡ with_row bands c.args.band c.args.line row =
    ap (with_lent bands c.args.band c.args.line) c.copy_from_slice.ensures.after ∙ row_lent bands c.args.band c.args.line row c.requires.there c.requires.whole in
    record {
      written = written;
      lines = λ h slice are. subst (AreLinesOf h slice) (sym written) (lines_kept h slice bands c.args.band c.args.line row are c.requires.there c.requires.whole);
    }
