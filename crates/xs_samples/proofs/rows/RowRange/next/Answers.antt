use Rattle.std.proofs.Common.{◌≡◌, ◌+◌, ap, sym, ◌∙◌, arith}
use Rattle.xs_params.specs.Picture.{plane_first, row_first}
use Rattle.xs_samples.proofs.RawPictures.{first_row, last_row}
use Rattle.xs_samples.proofs.rows.RowRange.next.Goals as goal

pub returns-then-self-shape-clause-place : goal.returns-then-self-shape-clause-place
returns-then-self-shape-clause-place c =
    let shape = c.args.shape.now in
    let component = c.args.self.component in
    let last : c.args.self.end ≡ shape.height = omega (arith, c.if-self-shape.true) in
    first_row shape (component + 1) ∙ sym (ap (row_first shape component) last ∙ last_row shape component)

pub returns-then-self-shape-clause-last : goal.returns-then-self-shape-clause-last
returns-then-self-shape-clause-last c = λ at.
    let shape = c.args.shape.now in
    let component = c.args.self.component in
    let last : c.args.self.end ≡ shape.height = omega (arith, c.if-self-shape.true) in
    ap (row_first shape component) last ∙ last_row shape component ∙ ap (plane_first shape) at
