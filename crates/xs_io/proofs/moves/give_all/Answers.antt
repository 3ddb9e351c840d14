use Rattle.std.proofs.Common.{arith}
use Rattle.std.proofs.lemmas.List.{take_rest}
use Rattle.xs_io.proofs.Steps.{appends_more}
use Rattle.xs_io.proofs.moves.give_all.Goals as goal

pub giving-preserved : goal.giving-preserved
giving-preserved g c = record {
  within = omega (arith, c.in_ok-given.ensures.bound);
  untouched = λ none. absurd (omega (arith, none, c.in_ok-given.ensures.bound));
  held = appends_more _ _ _ _ _ _ c.giving.invariant.held (rw take_rest at c.in_ok-given.ensures.bytes);
  later = omega (arith, c.giving.invariant.later, c.give.ensures.cause.later);
}
