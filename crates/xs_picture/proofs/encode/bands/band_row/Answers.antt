use Rattle.std.proofs.Common.{◌<◌, ◌-◌, [], length, get_or, ap, sym, subst, ◌∙◌}
use Rattle.xs_geometry.specs.Sides.{type_of}
use Rattle.xs_splitter.specs.Shown.{hh_rows, hl_rows, lh_rows}
use Rattle.xs_picture.proofs.BandTypes.{hh_of_type, hl_of_type, lh_of_type, row_is}
use Rattle.xs_picture.proofs.encode.bands.band_row.Goals as goal

pub returns-then-kind-2 : goal.returns-then-kind-2
returns-then-kind-2 c =
    let component = c.args.component.now in
    let type = type_of c.args.kind in
    let is = hh_of_type component type c.if-kind.true c.if-kind-2.true in
    row_is component (c.args.kind.down - 1) c.args.line hh_rows c.hh_row.result.now (subst (λ r. c.args.line < length r) is c.requires.line) c.hh_row.ensures ∙ sym (ap (λ r. get_or r c.args.line []) is)

pub returns-else-kind-2 : goal.returns-else-kind-2
returns-else-kind-2 c =
    let component = c.args.component.now in
    let type = type_of c.args.kind in
    let is = lh_of_type component type c.if-kind.true c.if-kind-2.false in
    row_is component (c.args.kind.down - 1) c.args.line lh_rows c.lh_row.result.now (subst (λ r. c.args.line < length r) is c.requires.line) c.lh_row.ensures ∙ sym (ap (λ r. get_or r c.args.line []) is)

pub returns-then-kind-3 : goal.returns-then-kind-3
returns-then-kind-3 c =
    let component = c.args.component.now in
    let type = type_of c.args.kind in
    let is = hl_of_type component type c.if-kind.false c.if-kind-3.true in
    row_is component (c.args.kind.across - 1) c.args.line hl_rows c.hl_row.result.now (subst (λ r. c.args.line < length r) is c.requires.line) c.hl_row.ensures ∙ sym (ap (λ r. get_or r c.args.line []) is)
