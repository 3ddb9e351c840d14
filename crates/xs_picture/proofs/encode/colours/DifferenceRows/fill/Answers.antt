use Rattle.std.proofs.Common.{◌≡◌, length, ap, sym, subst, ◌∙◌, arith}
use Rattle.xs_picture.specs.Analysed.{IsLine}
use Rattle.xs_picture.proofs.Analysed.{colour_line, lent_row}
use Rattle.xs_picture.proofs.encode.colours.DifferenceRows.fill.Goals as goal

pub returns-clause-luma : goal.returns-clause-luma
returns-clause-luma c =
    let h = c.args.header.now in
    let picture = c.args.picture.now in
    let row = c.rct_row.new.luma in
    let old = c.args.self.now.luma in
    let same : length row ≡ length old.items = c.rct_row.auto.luma ∙ ap length c.as_mut_slice.ensures.value in
    subst (IsLine h picture 0 c.args.line) (sym (lent_row row old.items old.len (omega (arith, old.ok.0)) same))
    (colour_line h picture 0 c.args.line c.row.result.now c.row-2.result.now c.row-3.result.now row c.requires.colour (c.requires.accepted.colour c.requires.colour) c.requires.shape (same ∙ c.requires.luma) c.row.ensures.samples c.row-2.ensures.samples
    c.row-3.ensures.samples c.rct_row.ensures.luma c.rct_row.ensures.small_luma)

pub returns-clause-first : goal.returns-clause-first
returns-clause-first c =
    let h = c.args.header.now in
    let picture = c.args.picture.now in
    let row = c.rct_row.new.first in
    let old = c.args.self.now.first in
    let same : length row ≡ length old.items = c.rct_row.auto.first ∙ ap length c.as_mut_slice-2.ensures.value in
    subst (IsLine h picture 1 c.args.line) (sym (lent_row row old.items old.len (omega (arith, old.ok.0)) same))
    (colour_line h picture 1 c.args.line c.row.result.now c.row-2.result.now c.row-3.result.now row c.requires.colour (c.requires.accepted.colour c.requires.colour) c.requires.shape (same ∙ c.requires.first) c.row.ensures.samples c.row-2.ensures.samples
    c.row-3.ensures.samples c.rct_row.ensures.first c.rct_row.ensures.small_first)

pub returns-clause-second : goal.returns-clause-second
returns-clause-second c =
    let h = c.args.header.now in
    let picture = c.args.picture.now in
    let row = c.rct_row.new.second in
    let old = c.args.self.now.second in
    let same : length row ≡ length old.items = c.rct_row.auto.second ∙ ap length c.as_mut_slice-3.ensures.value in
    subst (IsLine h picture 2 c.args.line) (sym (lent_row row old.items old.len (omega (arith, old.ok.0)) same))
    (colour_line h picture 2 c.args.line c.row.result.now c.row-2.result.now c.row-3.result.now row c.requires.colour (c.requires.accepted.colour c.requires.colour) c.requires.shape (same ∙ c.requires.second) c.row.ensures.samples c.row-2.ensures.samples
    c.row-3.ensures.samples c.rct_row.ensures.second c.rct_row.ensures.small_second)
