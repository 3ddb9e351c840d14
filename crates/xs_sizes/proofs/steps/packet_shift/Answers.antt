use Rattle.std.proofs.Common.{◌≡◌, arith}
use Rattle.std.specs.Prelude.{false}
use Rattle.xs_sizes.proofs.Stepping.{untouched}
use Rattle.xs_sizes.proofs.steps.packet_shift.Goals as goal

pub returns-clause-shift : goal.returns-clause-shift
returns-clause-shift c slice bands weights old new precinct place step is =
    let before = c.packet_size.ensures.bytes slice bands weights old precinct place step.before is in
    let after = c.packet_size-2.ensures.bytes slice bands weights new precinct place step.after is in
    record { balance = omega (arith, before, after); least = omega (arith, before) }

pub returns-then-not-touches-clause-shift : goal.returns-then-not-touches-clause-shift
returns-then-not-touches-clause-shift c slice bands weights old new precinct place step is =
    let no : c.touches.result ≡ false = cc (c.if-not-touches.true) in
    let same = untouched slice bands weights old new precinct place c.args.coding.now c.args.kept.now c.args.packet c.args.change.now c.requires.few (c.touches.ensures no) c.requires.change step is in
    record { balance = omega (arith, same); least = omega arith }
