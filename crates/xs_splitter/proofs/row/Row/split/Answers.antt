use Rattle.std.proofs.Common.{◌≡◌, ◌-◌, ◌/◌, length, arith, ap, ◌∙◌}
use Rattle.xs_splitter.proofs.Bands.{parts_of}
use Rattle.xs_splitter.proofs.row.Row.split.Goals as goal

pub returns : goal.returns
returns c =
    let low = c.low.inside.numbers in
    let high = c.high.inside.numbers in
    let line = c.args.self.now in
    let width : c.len-width.result ≡ length line = omega (arith, c.len-width.ensures, ap length c.self.view_is, c.self.inside.numbers.ok.0) in
    let low_seen : length low.items ≡ c.len-width.result - c.len-width.result / 2 = ap length c.low.view_is ∙ c.in_ok-low.ensures.width in
    let high_seen : length high.items ≡ c.len-width.result / 2 = ap length c.high.view_is ∙ c.in_ok-high.ensures.width in
    let low_long : length c.split_row.new.low ≡ low.len = omega (arith, c.split_row.auto.low, c.as_mut_slice.ensures.len, ap length c.as_mut_slice.ensures.value, low.ok.0) in
    let high_long : length c.split_row.new.high ≡ high.len = omega (arith, c.split_row.auto.high, c.as_mut_slice-2.ensures.len, ap length c.as_mut_slice-2.ensures.value, high.ok.0) in
    parts_of line c.as_slice.result.now low high c.split_row.new.low c.split_row.new.high c.as_slice.ensures low_long high_long (omega (arith, width, low_seen, low.ok.0)) (omega (arith, width, high_seen, high.ok.0)) c.split_row.ensures.low c.split_row.ensures.high
