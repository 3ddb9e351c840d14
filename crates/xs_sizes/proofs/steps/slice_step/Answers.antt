use Rattle.std.proofs.Common.{arith}
use Rattle.xs_sizes.proofs.steps.slice_step.Goals as goal

pub slice_shift-shift-requires-clause-coding : goal.slice_shift-shift-requires-clause-coding
slice_shift-shift-requires-clause-coding c = (c.requires.step.0, c.requires.step.4.before.coded)

pub overflow_sub-result : goal.overflow_sub-result
overflow_sub-result c =
    let at = c.requires.step in
    let shift = c.slice_shift-shift.ensures.shift at.0 at.1 at.2 at.3 at.4 in
    omega (arith, shift.least, at.5)

pub returns-clause-step : goal.returns-clause-step
returns-clause-step c bands weights old new step size =
    let shift = c.slice_shift-shift.ensures.shift bands weights old new step in
    omega (arith, shift.balance, shift.least, size)
