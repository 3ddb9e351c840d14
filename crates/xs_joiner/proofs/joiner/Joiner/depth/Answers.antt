use Rattle.std.proofs.Common.{◌≡◌, ◌<◌, true, false, arith}
use Rattle.xs_joiner.proofs.Depth.{moving_next, depth_found}
use Rattle.xs_joiner.proofs.joiner.Joiner.depth.Goals as goal

pub returns-then-not-needs_row : goal.returns-then-not-needs_row
returns-then-not-needs_row c =
    let less : c.levels.depth < c.args.self.now.across = omega (arith, c.levels-test.true) in
    let none : c.needs_row.result ≡ false = grind (arith, c.if-not-needs_row.true) in
    let facts = c.needs_row.ensures.no none in
    depth_found c.args.self.now c.levels.depth c.index.result.now c.requires.chain c.requires.room c.levels.invariant less c.index.ensures facts.0 facts.1

pub levels-preserved : goal.levels-preserved
levels-preserved c =
    let less : c.levels.depth < c.args.self.now.across = omega (arith, c.levels-test.true) in
    let needs : c.needs_row.result ≡ true = grind (arith, c.if-not-needs_row.false) in
    moving_next c.args.self.now c.levels.depth c.index.result.now c.requires.chain c.requires.room c.levels.invariant less c.index.ensures (c.needs_row.ensures.yes needs)
