use Rattle.std.proofs.Common.{◌≡◌, ◌<◌, length, arith, refl}
use Rattle.std.specs.Vec.{with_item}
use Rattle.xs_splitter.specs.declared.splitter.Splitter.{Splitter}
use Rattle.xs_splitter.proofs.Bands.{if_ok}
use Rattle.xs_splitter.proofs.Chains.{IsTaken, midway_first, midway_next, stopped, stopped_holds, ended_holds}
use Rattle.xs_splitter.proofs.splitter.Splitter.carry.Goals as goal

pub levels-init : goal.levels-init
levels-init c = midway_first c.args.first c.args.place c.args.self.now c.args.row c.requires.chain c.requires.first c.requires.room c.requires.row

pub levels-preserved : goal.levels-preserved
levels-preserved c =
    let e = c.in_ok-low.ensures in
    let many = c.requires.chain.many in
    let less : c.levels.level < c.args.self.now.across = omega (arith, c.levels-test.true, c.levels.auto.level-end, c.len-level-end.ensures, many, c.args.self.now.levels.ok.0) in
    let taken : IsTaken c.levels.row c.index_mut.result.now c.push.new.self = record { more = e.more; deep = e.deep; state = e.state; holds = e.holds } in
    let given = rw c.in-Some.is at e.given in
    midway_next c.args.first c.args.place c.levels.level c.args.self.now c.levels.self _ c.args.row c.levels.row c.in-Some.low c.index_mut.result.now c.push.new.self c.levels.invariant less c.index_mut.ensures.value taken refl refl refl refl
    given.0 given.1 given.2 (λ p from held shown. rw c.in-Some.is at e.shows p from held shown)

pub returns-in_default-clause-chain : goal.returns-in_default-clause-chain
returns-in_default-clause-chain c =
    let e = c.in_ok-low.ensures in
    let many = c.requires.chain.many in
    let less : c.levels.level < c.args.self.now.across = omega (arith, c.levels-test.true, c.levels.auto.level-end, c.len-level-end.ensures, many, c.args.self.now.levels.ok.0) in
    let taken : IsTaken c.levels.row c.index_mut.result.now c.push.new.self = record { more = e.more; deep = e.deep; state = e.state; holds = e.holds } in
    let none : length c.push.new.self.hl.items ≡ length c.index_mut.result.now.hl.items = rw c.in_default.is at e.given in
    let now = c.levels.self in
    let new : Splitter = record { width = now.width; height = now.height; across = now.across; down = now.down; taken = now.taken; levels = with_item now.levels c.levels.level c.push.new.self; low = now.low } in
    stopped c.args.first c.args.place c.levels.level c.args.self.now c.levels.self new c.args.row c.levels.row c.index_mut.result.now c.push.new.self c.levels.invariant less c.index_mut.ensures.value taken refl refl refl none c.requires.chain

pub returns-in_default-clause-holds : goal.returns-in_default-clause-holds
returns-in_default-clause-holds c p from held shown =
    let e = c.in_ok-low.ensures in
    let many = c.requires.chain.many in
    let less : c.levels.level < c.args.self.now.across = omega (arith, c.levels-test.true, c.levels.auto.level-end, c.len-level-end.ensures, many, c.args.self.now.levels.ok.0) in
    let taken : IsTaken c.levels.row c.index_mut.result.now c.push.new.self = record { more = e.more; deep = e.deep; state = e.state; holds = e.holds } in
    let now = c.levels.self in
    let new : Splitter = record { width = now.width; height = now.height; across = now.across; down = now.down; taken = now.taken; levels = with_item now.levels c.levels.level c.push.new.self; low = now.low } in
    stopped_holds c.args.first c.args.place c.levels.level c.args.self.now c.levels.self new c.args.row c.levels.row c.index_mut.result.now c.push.new.self p from c.levels.invariant less c.index_mut.ensures.value taken refl refl refl held shown

pub returns-clause-holds : goal.returns-clause-holds
returns-clause-holds c p from held shown =
    let all : c.levels.level ≡ c.args.self.now.across = omega (arith, c.levels-test.false, c.levels.auto.level-end, c.len-level-end.ensures, c.requires.chain.many, c.args.self.now.levels.ok.0, c.levels.invariant.to) in
    let now = c.levels.self in
    let new : Splitter = record { width = now.width; height = now.height; across = now.across; down = now.down; taken = now.taken; levels = now.levels; low = c.add_row.new.rows } in
    if_ok c.add_row.result _ _ (λ x more. ended_holds c.args.first c.args.place c.levels.level c.args.self.now c.levels.self new c.args.row c.levels.row p from c.levels.invariant all refl refl more c.requires.chain held shown) c.add_row.ensures
