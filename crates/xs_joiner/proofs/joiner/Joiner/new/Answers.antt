use Rattle.std.proofs.Common.{◌≡◌, ◌<◌, arith}
use Rattle.xs_joiner.proofs.Built.{built_more, built_chain}
use Rattle.xs_joiner.proofs.joiner.Joiner.new.Goals as goal

pub levels-preserved : goal.levels-preserved
levels-preserved c =
    let e = c.in_ok-added.ensures in
    let a = c.after-next.ensures in
    let less : c.levels.level < c.args.shape.across = omega (arith, c.levels-test.true, c.levels.auto.level-end) in
    built_more c.args.shape c.levels.level c.levels.next c.after-next.result c.levels.levels.items c.add_level.new.levels.items c.levels.lines.items c.add_line.new.lines.items c.in_ok-added.added c.in_ok-line.line c.levels.invariant less
    (record { state = e.state; width = e.shape.0; height = e.shape.1; reach = e.shape.2; deep = e.shape.3; taken = e.shape.4; given = e.shape.5 }) c.in_ok-add_level.ensures c.in_ok-add_line.ensures c.in_ok-line.ensures.width c.in_ok-line.ensures.zeros
    a.width a.height a.reach a.deep

pub returns-clause-chain : goal.returns-clause-chain
returns-clause-chain c =
    let all : c.levels.level ≡ c.args.shape.across = omega (arith, c.levels-test.false, c.levels.auto.level-end) in
    built_chain c.args.shape c.levels.level c.levels.next c.levels.levels.items c.levels.lines.items c.add_line-2.new.lines.items c.in_ok-line-2.line c.levels.invariant all c.requires.split c.requires.some c.requires.few c.in_ok-add_line-2.ensures
    c.in_ok-line-2.ensures.width c.in_ok-line-2.ensures.zeros
