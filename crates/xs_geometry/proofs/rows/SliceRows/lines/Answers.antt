use Rattle.std.proofs.Common.{arith}
use Rattle.xs_geometry.proofs.BlockRows.{table_seen}
use Rattle.xs_geometry.proofs.rows.SliceRows.lines.Goals as goal

pub overflow_add-result : goal.overflow_add-result
overflow_add-result c =
    let seen = table_seen c.self.inside.table c.self.inside.numbers.items c.args.self.now c.args.band (record { seen = c.self.view_is; stand = c.self.invariant.0 }) c.requires in
    omega (arith, seen.most)

pub returns-clause-end : goal.returns-clause-end
returns-clause-end c =
    let seen = table_seen c.self.inside.table c.self.inside.numbers.items c.args.self.now c.args.band (record { seen = c.self.view_is; stand = c.self.invariant.0 }) c.requires in
    omega (arith, seen.first, seen.lines)

pub returns-clause-most : goal.returns-clause-most
returns-clause-most c = (table_seen c.self.inside.table c.self.inside.numbers.items c.args.self.now c.args.band (record { seen = c.self.view_is; stand = c.self.invariant.0 }) c.requires).most
