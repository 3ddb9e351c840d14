use Rattle.std.proofs.Common.{◌^◌, length, arith}
use Rattle.xs_signal.specs.Lines.{entries_of}
use Rattle.xs_signal.specs.Wavelet.{high_of}
use Rattle.xs_signal.proofs.LineLaws.{high_below}
use Rattle.xs_rows.proofs.Shown.{shown_below}
use Rattle.xs_rows.proofs.lines.split_row.Goals as goal

pub fill_low-requires-clause-small_high : goal.fill_low-requires-clause-small_high
fill_low-requires-clause-small_high c =
    let n = length c.args.line.now in
    let line = entries_of c.args.line.now in
    shown_below (2 ^ 29) (2 ^ 29) (λ k. k) c.fill_high.new.high (high_of n line) (omega arith) (omega arith) c.fill_high.ensures (high_below (2 ^ 28) n line c.requires.small)
