use Rattle.std.proofs.Common.{◌≡◌, ◌^◌, length, arith}
use Rattle.xs_picture.proofs.Analysed.{all_below, turned_shown, turned_small}
use Rattle.xs_picture.proofs.encode.colours.rct_row.Goals as goal

pub rct_rows-requires-clause-red : goal.rct_rows-requires-clause-red
rct_rows-requires-clause-red c = all_below (2 ^ 20) (2 ^ 28) c.scale_row.new.row (omega arith) c.scale_row.ensures.small

pub rct_rows-requires-clause-green : goal.rct_rows-requires-clause-green
rct_rows-requires-clause-green c = all_below (2 ^ 20) (2 ^ 28) c.scale_row-2.new.row (omega arith) c.scale_row-2.ensures.small

pub rct_rows-requires-clause-blue : goal.rct_rows-requires-clause-blue
rct_rows-requires-clause-blue c = all_below (2 ^ 20) (2 ^ 28) c.scale_row-3.new.row (omega arith) c.scale_row-3.ensures.small

pub returns-clause-small_luma : goal.returns-clause-small_luma
returns-clause-small_luma c =
    let s = c.args.samples in
    let wide : length c.rct_rows.new.red ≡ length c.args.luma.now = omega (arith, c.rct_rows.auto.red, c.scale_row.auto.row) in
    turned_small s.scaling.depth s.scaling.bw 0 s.red.now s.green.now s.blue.now c.rct_rows.new.red c.requires.depth c.requires.bw c.requires.small_red c.requires.small_green c.requires.small_blue (omega (arith, wide, c.requires.red)) (omega (arith, wide, c.requires.green))
    (omega (arith, wide, c.requires.blue))
    (turned_shown s.scaling.depth s.scaling.bw 0 s.red.now s.green.now s.blue.now c.scale_row.new.row c.scale_row-2.new.row c.scale_row-3.new.row c.rct_rows.new.red (λ k inside. c.scale_row.ensures.scaled k (omega (arith, inside, c.rct_rows.auto.red)))
    (λ k inside. c.scale_row-2.ensures.scaled k (omega (arith, inside, wide, c.scale_row-2.auto.row, c.requires.first))) (λ k inside. c.scale_row-3.ensures.scaled k (omega (arith, inside, wide, c.scale_row-3.auto.row, c.requires.second))) c.rct_rows.ensures.luma)

pub returns-clause-small_first : goal.returns-clause-small_first
returns-clause-small_first c =
    let s = c.args.samples in
    let wide : length c.rct_rows.new.green ≡ length c.args.luma.now = omega (arith, c.rct_rows.auto.green, c.scale_row-2.auto.row, c.requires.first) in
    turned_small s.scaling.depth s.scaling.bw 1 s.red.now s.green.now s.blue.now c.rct_rows.new.green c.requires.depth c.requires.bw c.requires.small_red c.requires.small_green c.requires.small_blue (omega (arith, wide, c.requires.red))
    (omega (arith, wide, c.requires.green)) (omega (arith, wide, c.requires.blue))
    (turned_shown s.scaling.depth s.scaling.bw 1 s.red.now s.green.now s.blue.now c.scale_row.new.row c.scale_row-2.new.row c.scale_row-3.new.row c.rct_rows.new.green (λ k inside. c.scale_row.ensures.scaled k (omega (arith, inside, wide, c.scale_row.auto.row)))
    (λ k inside. c.scale_row-2.ensures.scaled k (omega (arith, inside, c.rct_rows.auto.green))) (λ k inside. c.scale_row-3.ensures.scaled k (omega (arith, inside, wide, c.scale_row-3.auto.row, c.requires.second))) c.rct_rows.ensures.first)

pub returns-clause-small_second : goal.returns-clause-small_second
returns-clause-small_second c =
    let s = c.args.samples in
    let wide : length c.rct_rows.new.blue ≡ length c.args.luma.now = omega (arith, c.rct_rows.auto.blue, c.scale_row-3.auto.row, c.requires.second) in
    turned_small s.scaling.depth s.scaling.bw 2 s.red.now s.green.now s.blue.now c.rct_rows.new.blue c.requires.depth c.requires.bw c.requires.small_red c.requires.small_green c.requires.small_blue (omega (arith, wide, c.requires.red))
    (omega (arith, wide, c.requires.green)) (omega (arith, wide, c.requires.blue))
    (turned_shown s.scaling.depth s.scaling.bw 2 s.red.now s.green.now s.blue.now c.scale_row.new.row c.scale_row-2.new.row c.scale_row-3.new.row c.rct_rows.new.blue (λ k inside. c.scale_row.ensures.scaled k (omega (arith, inside, wide, c.scale_row.auto.row)))
    (λ k inside. c.scale_row-2.ensures.scaled k (omega (arith, inside, wide, c.scale_row-2.auto.row, c.requires.first))) (λ k inside. c.scale_row-3.ensures.scaled k (omega (arith, inside, c.rct_rows.auto.blue))) c.rct_rows.ensures.second)
