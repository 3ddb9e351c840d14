use Rattle.std.proofs.Common.{◌+◌, ◌-◌, ◌<◌, ◌≤◌, length, sum_by, ap, arith}
use Rattle.xs_spelling.specs.Sizes.{count_size, flag_size}
use Rattle.xs_geometry.specs.SliceLines.{rows_held}
use Rattle.xs_lists.proofs.Ranges.{range_end, sum_first}
use Rattle.xs_sizes.specs.Cut.{cut_line}
use Rattle.xs_sizes.specs.Counted.{no_line}
use Rattle.xs_sizes.proofs.Moded.{mode_bits}
use Rattle.xs_sizes.proofs.modes.bits_in.Goals as goal

pub lines-preserved : goal.lines-preserved
lines-preserved c =
    let counts = c.args.counts.now in
    let line = c.lines.line in
    let mode = c.args.mode in
    let from : counts.first ≤ line = omega (arith, c.requires.from, c.lines.invariant.from) in
    let there : line - counts.first < length counts.lines.items = omega (arith, c.requires.there, c.lines-test.true, from) in
    record {
      from = omega (arith, c.lines.invariant.from);
      few = λ t le. omega (arith, c.lines.invariant.from, c.lines.invariant.few t le, c.add_bits.ensures.few t le);
      left = λ h bands signs band t known le. (
          let own = mode_bits h bands signs band line t mode counts c.line_at.result.now known from there le c.requires.mode (c.line_at.ensures no_line) in
          let more = sum_first (λ line. flag_size (cut_line h h.quant (rows_held bands) t mode band line) + count_size (cut_line h h.quant (rows_held bands) t mode band line)) line c.args.lines.1 c.lines-test.true in
          omega (arith, more, own, c.flags_in-flags.ensures, c.counts_of-own.ensures t, c.add_bits.ensures.sum t le, c.lines.invariant.left h bands signs band t known le));
    }

pub returns : goal.returns
returns c h bands signs band t known le =
    let none = ap (sum_by (λ line. flag_size (cut_line h h.quant (rows_held bands) t c.args.mode band line) + count_size (cut_line h h.quant (rows_held bands) t c.args.mode band line))) (range_end c.lines.line c.args.lines.1 (omega (arith, c.lines-test.false))) in
    omega (arith, none, c.lines.invariant.left h bands signs band t known le)

pub add_bits-requires : goal.add_bits-requires
add_bits-requires c t le = omega (arith, c.lines.invariant.few t le, c.lines-test.true, c.requires.few, c.lines.invariant.from)
