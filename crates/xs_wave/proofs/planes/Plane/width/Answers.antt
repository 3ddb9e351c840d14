use Rattle.std.proofs.Common.{sym}
use Rattle.xs_wave.proofs.Flat.{rows_wide}
use Rattle.xs_wave.proofs.planes.Plane.width.Goals as goal

pub returns-clause-value : goal.returns-clause-value
returns-clause-value c =
    let p = c.self.inside in
    sym (rows_wide p.width p.height p.samples.items c.args.self.now c.self.view_is c.self.invariant 0 c.requires)

pub returns-clause-wide : goal.returns-clause-wide
returns-clause-wide c =
    let p = c.self.inside in
    rows_wide p.width p.height p.samples.items c.args.self.now c.self.view_is c.self.invariant
