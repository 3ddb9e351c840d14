use Rattle.std.proofs.Common.{◌≡◌, ◌-◌, length}
use Rattle.xs_stripe.proofs.Filled.{AreAdded}
use Rattle.xs_stripe.proofs.stripe.add_line.Given as goal

abbrev pub invariant-components : goal.invariant-components
invariant-components l = record {
  width : length l.scratch ≡ length l.fn.scratch;
  added : AreAdded l.lines.header.now l.lines (l.lines.given - 1) l.component l.fn.rows l.rows;
}
