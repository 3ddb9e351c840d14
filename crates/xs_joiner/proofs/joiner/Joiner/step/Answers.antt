use Rattle.std.proofs.Common.{◌≡◌, ◌-◌, suc, arith, refl, sym, subst}
use Rattle.std.specs.Vec.{with_item}
use Rattle.xs_joiner.specs.Level.{IsLevel}
use Rattle.xs_joiner.specs.declared.joiner.Joiner.{Joiner}
use Rattle.xs_joiner.proofs.Midways.{midway_chain, midway_holds}
use Rattle.xs_joiner.proofs.Steps.{step_ready, step_same, step_known, step_width, step_next}
use Rattle.xs_joiner.proofs.joiner.Joiner.step.Goals as goal

pub take-requires-clause-room : goal.take-requires-clause-room
take-requires-clause-room g c =
    let is : c.levels.level ≡ suc (c.levels.level - 1) = omega (arith, c.levels-test.true) in
    (step_ready (g.S.BandRows.rows c.args.rows.now) c.levels.level (c.levels.level - 1) c.args.self.now c.levels.self c.index_mut.result.now c.as_slice.result.now c.index.result.now is c.levels.invariant c.index_mut.ensures.value c.as_slice.ensures c.index.ensures c.requires.chain c.requires.room c.requires.rows).room

pub take-requires-clause-lows : goal.take-requires-clause-lows
take-requires-clause-lows g c =
    let is : c.levels.level ≡ suc (c.levels.level - 1) = omega (arith, c.levels-test.true) in
    (step_ready (g.S.BandRows.rows c.args.rows.now) c.levels.level (c.levels.level - 1) c.args.self.now c.levels.self c.index_mut.result.now c.as_slice.result.now c.index.result.now is c.levels.invariant c.index_mut.ensures.value c.as_slice.ensures c.index.ensures c.requires.chain c.requires.room c.requires.rows).lows

pub take-requires-clause-small : goal.take-requires-clause-small
take-requires-clause-small g c =
    let is : c.levels.level ≡ suc (c.levels.level - 1) = omega (arith, c.levels-test.true) in
    (step_ready (g.S.BandRows.rows c.args.rows.now) c.levels.level (c.levels.level - 1) c.args.self.now c.levels.self c.index_mut.result.now c.as_slice.result.now c.index.result.now is c.levels.invariant c.index_mut.ensures.value c.as_slice.ensures c.index.ensures c.requires.chain c.requires.room c.requires.rows).small

pub take-requires-clause-hl : goal.take-requires-clause-hl
take-requires-clause-hl g c =
    let is : c.levels.level ≡ suc (c.levels.level - 1) = omega (arith, c.levels-test.true) in
    (step_ready (g.S.BandRows.rows c.args.rows.now) c.levels.level (c.levels.level - 1) c.args.self.now c.levels.self c.index_mut.result.now c.as_slice.result.now c.index.result.now is c.levels.invariant c.index_mut.ensures.value c.as_slice.ensures c.index.ensures c.requires.chain c.requires.room c.requires.rows).hl

pub take-requires-clause-lh : goal.take-requires-clause-lh
take-requires-clause-lh g c =
    let is : c.levels.level ≡ suc (c.levels.level - 1) = omega (arith, c.levels-test.true) in
    (step_ready (g.S.BandRows.rows c.args.rows.now) c.levels.level (c.levels.level - 1) c.args.self.now c.levels.self c.index_mut.result.now c.as_slice.result.now c.index.result.now is c.levels.invariant c.index_mut.ensures.value c.as_slice.ensures c.index.ensures c.requires.chain c.requires.room c.requires.rows).lh

pub take-requires-clause-hh : goal.take-requires-clause-hh
take-requires-clause-hh g c =
    let is : c.levels.level ≡ suc (c.levels.level - 1) = omega (arith, c.levels-test.true) in
    (step_ready (g.S.BandRows.rows c.args.rows.now) c.levels.level (c.levels.level - 1) c.args.self.now c.levels.self c.index_mut.result.now c.as_slice.result.now c.index.result.now is c.levels.invariant c.index_mut.ensures.value c.as_slice.ensures c.index.ensures c.requires.chain c.requires.room c.requires.rows).hh

pub give-requires-clause-state : goal.give-requires-clause-state
give-requires-clause-state g c =
    let is : c.levels.level ≡ suc (c.levels.level - 1) = omega (arith, c.levels-test.true) in
    subst IsLevel (sym (step_same (g.S.BandRows.rows c.args.rows.now) c.levels.level (c.levels.level - 1) c.args.self.now c.levels.self c.take.new.self c.index_mut-in-levels.result.now is c.levels.invariant c.index_mut-in-levels.ensures.value)) c.take.ensures.state

pub give-requires-clause-known : goal.give-requires-clause-known
give-requires-clause-known g c =
    let is : c.levels.level ≡ suc (c.levels.level - 1) = omega (arith, c.levels-test.true) in
    let e = c.take.ensures in
    step_known (g.S.BandRows.rows c.args.rows.now) c.levels.level (c.levels.level - 1) c.args.self.now c.levels.self c.index_mut.result.now c.take.new.self c.index_mut-in-levels.result.now c.as_slice.result.now is c.levels.invariant c.index_mut.ensures.value c.requires.chain c.requires.room
    (record { same = e.same; given = e.given; taken = e.taken; state = e.state; holds = e.holds }) c.index_mut-in-levels.ensures.value

pub give-requires-clause-width : goal.give-requires-clause-width
give-requires-clause-width g c =
    let is : c.levels.level ≡ suc (c.levels.level - 1) = omega (arith, c.levels-test.true) in
    let e = c.take.ensures in
    step_width (g.S.BandRows.rows c.args.rows.now) c.levels.level (c.levels.level - 1) c.args.self.now c.levels.self c.index_mut.result.now c.take.new.self c.index_mut-in-levels.result.now c.as_slice.result.now c.index_mut-in-levels-2.result.now is c.levels.invariant c.index_mut.ensures.value
    (record { same = e.same; given = e.given; taken = e.taken; state = e.state; holds = e.holds }) c.index_mut-in-levels.ensures.value c.index_mut-in-levels-2.ensures.value

pub levels-preserved : goal.levels-preserved
levels-preserved g c =
    let is : c.levels.level ≡ suc (c.levels.level - 1) = omega (arith, c.levels-test.true) in
    let e = c.take.ensures in
    let f = c.give.ensures in
    let now = c.levels.self in
    let new : Joiner = record {
      width = now.width;
      height = now.height;
      across = now.across;
      down = now.down;
      first = now.first;
      given = now.given;
      lowest = now.lowest;
      levels = with_item (with_item now.levels (c.levels.level - 1) c.take.new.self) (c.levels.level - 1) c.give.new.self;
      lines = with_item now.lines (c.levels.level - 1) c.give.new.line;
    } in
    step_next (g.S.BandRows.rows c.args.rows.now) c.levels.level (c.levels.level - 1) c.args.self.now c.levels.self new c.index_mut.result.now c.take.new.self c.index_mut-in-levels.result.now c.give.new.self c.as_slice.result.now c.index.result.now c.give.new.line is c.levels.invariant
    c.index_mut.ensures.value c.as_slice.ensures c.index.ensures c.requires.chain c.requires.room c.requires.rows (record { same = e.same; given = e.given; taken = e.taken; state = e.state; holds = e.holds }) c.index_mut-in-levels.ensures.value
    (record { columns = f.columns; deep = f.deep; given = f.given; low = f.low; high = f.high; width = f.width; small = f.small; shows = f.shows }) refl refl refl refl refl refl

pub returns-clause-chain : goal.returns-clause-chain
returns-clause-chain g c =
    let none : c.levels.level ≡ 0 = omega (arith, c.levels-test.false) in
    let now = c.levels.self in
    let new : Joiner = record { width = now.width; height = now.height; across = now.across; down = now.down; first = now.first; given = c.count_after-self.result; lowest = now.lowest; levels = now.levels; lines = now.lines } in
    midway_chain (g.S.BandRows.rows c.args.rows.now) c.levels.level c.args.self.now c.levels.self new none c.levels.invariant c.requires.chain c.requires.room refl refl c.count_after-self.ensures refl refl refl

pub returns-clause-holds : goal.returns-clause-holds
returns-clause-holds g c b held shown =
    let none : c.levels.level ≡ 0 = omega (arith, c.levels-test.false) in
    let now = c.levels.self in
    let new : Joiner = record { width = now.width; height = now.height; across = now.across; down = now.down; first = now.first; given = c.count_after-self.result; lowest = now.lowest; levels = now.levels; lines = now.lines } in
    midway_holds (g.S.BandRows.rows c.args.rows.now) c.levels.level c.args.self.now c.levels.self new b none c.levels.invariant refl refl c.count_after-self.ensures refl refl held shown
