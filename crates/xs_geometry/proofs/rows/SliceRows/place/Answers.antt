use Rattle.std.proofs.Common.{◌≡◌, ◌+◌, ◌-◌, ◌*◌, get_or, take, drop, length, arith, ap, ◌∙◌}
use Rattle.xs_geometry.proofs.BlockRows.{AreSeen, table_seen, table_place, numbers_seen}
use Rattle.xs_geometry.specs.Blocks.{blocks_of, no_block}
use Rattle.xs_geometry.specs.Written.{band_numbers}
use Rattle.xs_geometry.proofs.rows.SliceRows.place.Goals as goal

pub row-requires-clause-there : goal.row-requires-clause-there
row-requires-clause-there c =
    let seen = table_seen c.self.inside.table c.self.inside.numbers.items c.args.self.now c.args.band (record { seen = c.self.view_is; stand = c.self.invariant.0 }) c.requires.band_there in
    omega (arith, seen.first, seen.lines, c.requires.line_there)

pub row-requires-clause-room : goal.row-requires-clause-room
row-requires-clause-room c =
    let seen = table_seen c.self.inside.table c.self.inside.numbers.items c.args.self.now c.args.band (record { seen = c.self.view_is; stand = c.self.invariant.0 }) c.requires.band_there in
    let numbers = c.self.inside.numbers in
    omega (arith, seen.room, numbers.ok.0, numbers.ok.1, numbers.small)

pub returns-clause-start : goal.returns-clause-start
returns-clause-start c =
    c.row.ensures.start ∙ (table_place c.self.inside.table c.self.inside.numbers.items c.args.self.now c.args.band c.args.line (record { seen = c.self.view_is; stand = c.self.invariant.0 }) c.requires).before

pub returns-clause-end : goal.returns-clause-end
returns-clause-end c =
    c.row.ensures.end ∙ ap (λ n. c.row.result.0 + n) (table_place c.self.inside.table c.self.inside.numbers.items c.args.self.now c.args.band c.args.line (record { seen = c.self.view_is; stand = c.self.invariant.0 }) c.requires).long

pub returns-clause-inside : goal.returns-clause-inside
returns-clause-inside c =
    let are : AreSeen (blocks_of c.self.inside.table) c.self.inside.numbers.items c.args.self.now = record { seen = c.self.view_is; stand = c.self.invariant.0 } in
    let seen = table_seen c.self.inside.table c.self.inside.numbers.items c.args.self.now c.args.band are c.requires.band_there in
    omega (arith, c.row.ensures.inside, seen.room, ap length (numbers_seen _ _ _ are))

pub returns-clause-row : goal.returns-clause-row
returns-clause-row c =
    let numbers = c.self.inside.numbers.items in
    let block = get_or c.self.inside.table.bands c.args.band no_block in
    let are : AreSeen (blocks_of c.self.inside.table) numbers c.args.self.now = record { seen = c.self.view_is; stand = c.self.invariant.0 } in
    let width : c.row.result.1 - c.row.result.0 ≡ block.width = omega (arith, c.row.ensures.end) in
    ap (λ n. take n (drop c.row.result.0 (band_numbers c.args.self.now))) width ∙ ap (λ p. take block.width (drop p (band_numbers c.args.self.now))) c.row.ensures.start
    ∙ ap (λ l. take block.width (drop (block.start + (c.args.line - block.first) * block.width) l)) (numbers_seen _ _ _ are)
    ∙ (table_place c.self.inside.table numbers c.args.self.now c.args.band c.args.line are c.requires).row
