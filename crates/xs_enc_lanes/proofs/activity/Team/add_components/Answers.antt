use Rattle.std.proofs.Common.{inl, inr, sym, ap, arith}
use Rattle.std.proofs.lemmas.Bool.{cases_eq}
use Rattle.xs_enc_lanes.specs.declared.activity.Role.TheVariants.{Component}
use Rattle.xs_enc_lanes.proofs.activity.Team.add_components.Goals as goal

pub adding-init : goal.adding-init
adding-init c = record { forked = c.requires.forked; roles = λ k below. absurd (omega (arith, below)) }

pub adding-preserved : goal.adding-preserved
adding-preserved c = let i = c.adding.invariant in let e = c.in_ok-add.ensures in record {
  forked = e.forked c.args.components (omega (arith, c.adding-test.true, c.adding.auto.component-end)) i.forked;
  roles = λ k below. elim (cases_eq k c.adding.component) [
    | inl same ↦ e.there k (ap Component (sym same))
    | inr other ↦ e.others k (i.roles k (omega (arith, below, other)))
  ];
}

pub returns-clause-roles : goal.returns-clause-roles
returns-clause-roles c = λ k below. c.adding.invariant.roles k (omega (arith, below, c.adding-test.false, c.adding.auto.component-end))
