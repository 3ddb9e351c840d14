use Rattle.std.proofs.Common.{◌∙◌}
use Rattle.xs_planes.proofs.Spread.{in_bytes}
use Rattle.xs_planes.proofs.write.byte_entry.Goals as goal

pub returns-clause-code : goal.returns-clause-code
returns-clause-code c = c.from.ensures ∙ in_bytes c.args.table.now c.args.byte c.requires.there c.requires.codes
