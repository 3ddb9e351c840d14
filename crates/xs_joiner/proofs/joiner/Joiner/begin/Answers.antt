use Rattle.std.proofs.Common.{◌≡◌, ◌<◌, arith, refl}
use Rattle.xs_joiner.specs.declared.joiner.Joiner.{Joiner}
use Rattle.xs_joiner.proofs.Begun.{next_is, begin_lh, begin_hh, begun_first, begun_next, begun_chain, begun_holds}
use Rattle.xs_joiner.proofs.joiner.Joiner.begin.Goals as goal

pub begin-requires-clause-lh : goal.begin-requires-clause-lh
begin-requires-clause-lh g c =
    let rows = g.S.BandRows.rows c.args.rows.now in
    let old = c.args.self.now in
    let less : c.levels.level < old.across = omega (arith, c.levels-test.true, c.levels.auto.level-end) in
    let next = next_is rows c.args.first c.levels.level c.levels.start c.start_after-start.result old c.levels.self c.levels.invariant c.start_after-start.ensures in
    begin_lh rows c.args.first c.levels.level c.levels.start c.start_after-start.result old c.levels.self c.index_mut.result.now c.levels.invariant c.requires.chain c.requires.rows less c.index_mut.ensures.value next

pub begin-requires-clause-hh : goal.begin-requires-clause-hh
begin-requires-clause-hh g c =
    let rows = g.S.BandRows.rows c.args.rows.now in
    let old = c.args.self.now in
    let less : c.levels.level < old.across = omega (arith, c.levels-test.true, c.levels.auto.level-end) in
    let next = next_is rows c.args.first c.levels.level c.levels.start c.start_after-start.result old c.levels.self c.levels.invariant c.start_after-start.ensures in
    begin_hh rows c.args.first c.levels.level c.levels.start c.start_after-start.result old c.levels.self c.index_mut.result.now c.levels.invariant c.requires.chain c.requires.rows less c.index_mut.ensures.value next

pub levels-init : goal.levels-init
levels-init g c = begun_first (g.S.BandRows.rows c.args.rows.now) c.args.first c.lines_before-start.result c.args.self.now _ c.requires.chain c.lines_before-start.ensures refl refl refl refl refl

pub levels-preserved : goal.levels-preserved
levels-preserved g c =
    let rows = g.S.BandRows.rows c.args.rows.now in
    let old = c.args.self.now in
    let e = c.begin.ensures in
    let less : c.levels.level < old.across = omega (arith, c.levels-test.true, c.levels.auto.level-end) in
    let next = next_is rows c.args.first c.levels.level c.levels.start c.start_after-start.result old c.levels.self c.levels.invariant c.start_after-start.ensures in
    begun_next rows c.args.first c.levels.level c.levels.start c.start_after-start.result old c.levels.self _ c.index_mut.result.now c.begin.new.self c.levels.invariant c.requires.chain c.requires.rows less c.index_mut.ensures.value next
    (record { same = e.same; state = e.state; taken = e.taken; given = e.given; holds = e.holds }) refl refl refl refl refl

pub returns-clause-chain : goal.returns-clause-chain
returns-clause-chain g c =
    let rows = g.S.BandRows.rows c.args.rows.now in
    let old = c.args.self.now in
    let to = c.levels.invariant.to in
    let all : c.levels.level ≡ old.across = omega (arith, c.levels-test.false, c.levels.auto.level-end, to) in
    begun_chain rows c.args.first c.levels.level c.levels.start old c.levels.self _ c.levels.invariant c.requires.chain c.requires.inside all refl refl refl refl refl refl

pub returns-clause-holds : goal.returns-clause-holds
returns-clause-holds g c b shown =
    let rows = g.S.BandRows.rows c.args.rows.now in
    let old = c.args.self.now in
    let to = c.levels.invariant.to in
    let all : c.levels.level ≡ old.across = omega (arith, c.levels-test.false, c.levels.auto.level-end, to) in
    let now = c.levels.self in
    let new : Joiner = record { width = now.width; height = now.height; across = now.across; down = now.down; first = now.first; given = now.given; lowest = c.levels.start; levels = now.levels; lines = now.lines } in
    begun_holds rows c.args.first c.levels.level c.levels.start old c.levels.self new b c.levels.invariant all refl refl refl refl shown
