use Rattle.std.proofs.Common.{arith}
use Rattle.xs_sizes.proofs.modes.add_bits.Goals as goal

pub returns-clause-sum : goal.returns-clause-sum
returns-clause-sum c t le = c.cuts.invariant.done t (omega (arith, le, c.cuts-test.false))

pub returns-clause-few : goal.returns-clause-few
returns-clause-few c t le = c.cuts.invariant.few t (omega (arith, le, c.cuts-test.false))
