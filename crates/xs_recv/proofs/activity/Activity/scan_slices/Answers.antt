use Rattle.std.proofs.Common.{sym, ◌∙◌, subst}
use Rattle.xs_recv.specs.Activities.{KnowsHeader}
use Rattle.xs_recv.proofs.activity.Activity.scan_slices.Goals as goal

pub look_slice-requires-clause-known : goal.look_slice-requires-clause-known
look_slice-requires-clause-known g c = λ ks lives. subst (λ k. KnowsHeader k c.args.header.now) (sym c.scanning.invariant.knows) c.requires.known

pub look_stripe-requires-clause-known : goal.look_stripe-requires-clause-known
look_stripe-requires-clause-known g c = subst (λ k. KnowsHeader k c.args.header.now) (sym (c.look_slice.ensures.knows ∙ c.scanning.invariant.knows)) c.requires.known
