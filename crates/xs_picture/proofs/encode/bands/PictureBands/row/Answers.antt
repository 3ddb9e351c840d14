use Rattle.std.proofs.Common.{◌<◌, [], length, get_or, ap, sym, subst, ◌∙◌}
use Rattle.xs_geometry.specs.Sides.{type_of}
use Rattle.xs_picture.specs.Analysed.{RowsByType}
use Rattle.xs_picture.proofs.encode.bands.PictureBands.row.Goals as goal

pub band_row-requires-clause-line : goal.band_row-requires-clause-line
band_row-requires-clause-line c = subst (λ (r : RowsByType). c.args.line < length (r (type_of c.args.kind))) (sym c.component.ensures) c.requires.line

pub returns : goal.returns
returns c = c.band_row.ensures ∙ ap (λ (r : RowsByType). get_or (r (type_of c.args.kind)) c.args.line []) c.component.ensures
