use Rattle.std.proofs.Common.{◌/◌, [], get_or, sym, ap, subst, ◌∙◌, arith}
use Rattle.xs_geometry.specs.SliceLines.{HasLine}
use Rattle.xs_picture.specs.Coefs.{Coefs, AreCoefs}
use Rattle.xs_picture.proofs.Coverage.{known_there, lines_some}
use Rattle.xs_picture.proofs.decode.rows.StreamRowsCoefficientRows.row.Goals as goal

pub slice_height-requires : goal.slice_height-requires
slice_height-requires c =
    let are : AreCoefs c.args.self.now = subst AreCoefs c.self.view_is c.self.invariant.0 in
    (known_there c.args.self.now c.args.band c.args.line are c.requires.known).0

pub nonzero_div-slice : goal.nonzero_div-slice
nonzero_div-slice c =
    let are : AreCoefs c.args.self.now = subst AreCoefs c.self.view_is c.self.invariant.0 in
    omega (arith, c.slice_height.ensures, lines_some c.args.self.now.header c.args.band are.accepted)

pub row-requires : goal.row-requires
row-requires c =
    let are : AreCoefs c.args.self.now = subst AreCoefs c.self.view_is c.self.invariant.0 in
    let found = c.slice.ensures ∙ ap (λ (coefs : Coefs). get_or coefs.slices (c.args.line / c.slice_height.result) []) c.self.view_is ∙ ap (λ n. get_or c.args.self.now.slices (c.args.line / n) []) c.slice_height.ensures in
    subst (λ rows. HasLine rows c.args.band c.args.line) (sym found) (known_there c.args.self.now c.args.band c.args.line are c.requires.known).1
