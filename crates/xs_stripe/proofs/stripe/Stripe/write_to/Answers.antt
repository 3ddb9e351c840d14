use Rattle.std.proofs.Common.{inl, inr, arith}
use Rattle.std.proofs.lemmas.Bool.{cases_lt}
use Rattle.xs_stripe.proofs.stripe.Stripe.write_to.Goals as goal

pub returns-clause-others : goal.returns-clause-others
returns-clause-others c component line column place apart = c.lines.invariant.others component line column place (elim (cases_lt line c.args.self.now.first) [
  | inl before ↦ inl before
  | inr past ↦ elim apart [
    | inl before ↦ absurd (omega (arith, past, before))
    | inr after ↦ inr (grind (arith, past, after, c.requires.order, c.lines-test.false, c.lines.auto.line, c.lines.auto.line-end, c.lines-first.ensures.first, c.lines-first.ensures.end))
  ]
])
