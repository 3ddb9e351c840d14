use Rattle.std.proofs.Common.{◌∙◌}
use Rattle.xs_picture.proofs.Analysed.{plain_line}
use Rattle.xs_picture.proofs.encode.analysis.scale_line.Goals as goal

pub returns : goal.returns
returns c =
    plain_line c.args.component.header.now c.args.component.picture.now c.args.component.number c.args.line c.row.result.now c.scale_row.new.row c.requires.plain c.requires.shape (c.scale_row.auto.row ∙ c.requires.width) c.row.ensures.samples
    c.scale_row.ensures.scaled c.scale_row.ensures.small
