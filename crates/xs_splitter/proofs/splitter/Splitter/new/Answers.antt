use Rattle.std.proofs.Common.{◌≡◌, arith, sym, subst}
use Rattle.xs_splitter.specs.Chain.{split_by, AreChained, HoldPlane}
use Rattle.xs_splitter.proofs.Built.{built_more, built_chain, built_plane}
use Rattle.xs_splitter.proofs.splitter.Splitter.new.Goals as goal

pub levels-preserved : goal.levels-preserved
levels-preserved c =
    let e = c.in_ok-added.ensures in
    let a = c.after-next.ensures in
    built_more c.args.shape c.levels.level c.levels.next c.after-next.result c.levels.levels.items c.add_level.new.levels.items c.in_ok-added.added c.levels.invariant
    (record { state = e.state; width = e.shape.0; height = e.shape.1; bits = e.shape.2; deep = e.shape.3; taken = e.shape.4; holds = e.holds }) c.in_ok-add_level.ensures a.width a.height a.bits a.deep

pub returns-clause-chain : goal.returns-clause-chain
returns-clause-chain c =
    let all : c.levels.level ≡ c.args.shape.across = omega (arith, c.levels-test.false, c.levels.auto.level-end) in
    subst (λ low. AreChained (split_by c.args.shape) 0 0 c.levels.levels.items low) (sym c.new-2.ensures.items) (built_chain c.args.shape c.levels.level c.levels.next c.levels.levels.items c.levels.invariant all c.requires.split c.requires.few)

pub returns-clause-holds : goal.returns-clause-holds
returns-clause-holds c p from =
    let all : c.levels.level ≡ c.args.shape.across = omega (arith, c.levels-test.false, c.levels.auto.level-end) in
    subst (λ low. HoldPlane (split_by c.args.shape) 0 from p c.levels.levels.items low) (sym c.new-2.ensures.items) (built_plane c.args.shape from c.levels.level c.levels.next c.levels.levels.items p c.levels.invariant all)
