use Rattle.std.proofs.Common.{◌<◌, ◌≤◌, length, arith, refl}
use Rattle.xs_splitter.specs.declared.splitter.Splitter.{Splitter}
use Rattle.xs_splitter.proofs.Forgotten.{forgetting_next, forgotten, held_left, plane_left}
use Rattle.xs_splitter.proofs.splitter.Splitter.forget.Goals as goal

pub levels-preserved : goal.levels-preserved
levels-preserved c =
    let many = c.levels.invariant.many in
    let inside : c.levels.level < length c.levels.self.levels.items = omega (arith, c.levels-test.true, c.levels.auto.level-end, c.len-level-end.ensures, many, c.args.self.now.levels.ok.0) in
    forgetting_next c.args.first c.args.end c.levels.level c.rows_each-each.result c.args.self.now c.levels.self _ c.index_mut.result.now c.forget.new.self c.levels.invariant inside c.index_mut.ensures.value c.rows_each-each.ensures.number c.forget.ensures
    refl refl refl refl

pub returns-clause-holds : goal.returns-clause-holds
returns-clause-holds c p from past held =
    let now = c.levels.self in
    let all : length c.args.self.now.levels.items ≤ c.levels.level = omega (arith, c.levels-test.false, c.levels.auto.level-end, c.len-level-end.ensures, c.args.self.now.levels.ok.0) in
    let new : Splitter = record { width = now.width; height = now.height; across = now.across; down = now.down; taken = now.taken; levels = now.levels; low = c.give_up.new.rows } in
    let gone = forgotten c.args.first c.args.end c.levels.level c.args.self.now now new c.levels.invariant all refl c.give_up.ensures in
    plane_left c.args.first c.args.end 0 from c.args.self.now new p c.levels.invariant.split gone past held

pub returns-clause-bands : goal.returns-clause-bands
returns-clause-bands c p from past held =
    let now = c.levels.self in
    let all : length c.args.self.now.levels.items ≤ c.levels.level = omega (arith, c.levels-test.false, c.levels.auto.level-end, c.len-level-end.ensures, c.args.self.now.levels.ok.0) in
    let new : Splitter = record { width = now.width; height = now.height; across = now.across; down = now.down; taken = now.taken; levels = now.levels; low = c.give_up.new.rows } in
    let gone = forgotten c.args.first c.args.end c.levels.level c.args.self.now now new c.levels.invariant all refl c.give_up.ensures in
    held_left c.args.first c.args.end from c.args.self.now new p c.levels.invariant.split gone past held
