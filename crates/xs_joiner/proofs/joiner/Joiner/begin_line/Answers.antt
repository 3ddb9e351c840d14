use Rattle.std.proofs.Common.{◌≡◌, ◌<◌, arith, refl}
use Rattle.xs_joiner.proofs.Midways.{begin_known, begin_midway, lowest_room}
use Rattle.xs_joiner.proofs.joiner.Joiner.begin_line.Goals as goal

pub give-requires-clause-known : goal.give-requires-clause-known
give-requires-clause-known g c =
    let less : c.args.depth < c.args.self.now.across = omega (arith, c.if-depth-self.true) in
    begin_known c.args.self.now c.args.depth c.index_mut.result.now c.requires.chain c.requires.room c.requires.depth less c.index_mut.ensures.value

pub count_after-self-requires : goal.count_after-self-requires
count_after-self-requires g c =
    let far = c.requires.depth.far in
    let all : c.args.depth ≡ c.args.self.now.across = omega (arith, c.if-depth-self.false, far) in
    lowest_room c.args.depth c.args.self.now c.requires.chain c.requires.room c.requires.depth all

pub returns-then-depth-self : goal.returns-then-depth-self
returns-then-depth-self g c =
    let e = c.give.ensures in
    let less : c.args.depth < c.args.self.now.across = omega (arith, c.if-depth-self.true) in
    begin_midway (g.S.BandRows.rows c.args.rows.now) c.args.depth c.args.self.now _ c.index_mut.result.now c.give.new.self c.give.new.line c.requires.chain c.requires.room c.requires.depth less c.index_mut.ensures.value
    (record { columns = e.columns; deep = e.deep; given = e.given; low = e.low; high = e.high; width = e.width; small = e.small; shows = e.shows }) refl refl refl refl refl refl
