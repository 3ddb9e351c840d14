use Rattle.std.proofs.Common.{◌∙◌}
use Rattle.xs_planes.proofs.Spread.{in_codes}
use Rattle.xs_planes.proofs.write.entry.Goals as goal

pub returns-clause-code : goal.returns-clause-code
returns-clause-code c = c.from.ensures ∙ in_codes c.args.table.now c.args.index c.requires.there c.requires.codes
