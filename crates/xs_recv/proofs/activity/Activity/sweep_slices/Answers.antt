use Rattle.std.proofs.Common.{◌∙◌, refl, arith}
use Rattle.xs_board.specs.Passes.{actor}
use Rattle.xs_recv.proofs.Swept.{more_again, more_none, sweeps_more, sweeps_none}
use Rattle.xs_recv.proofs.activity.Activity.sweep_slices.Goals as goal

pub sweeping-init : goal.sweeping-init
sweeping-init c = record {
  pass = c.requires.pass;
  hand = record { pass = c.requires.hand; share = (refl, refl) };
  share = (refl, refl);
  files = record { stored = refl; repeated = refl };
  grows = more_none (actor c.args.self.now.pass);
  starved = λ sated. sated;
  all = sweeps_none c.args.self.now;
}

pub sweeping-preserved : goal.sweeping-preserved
sweeping-preserved c = let i = c.sweeping.invariant in record {
  pass = c.try_slice.ensures.pass;
  hand = record { pass = c.try_slice.ensures.hand.pass; share = (c.try_slice.ensures.hand.share.0 ∙ i.hand.share.0, c.try_slice.ensures.hand.share.1 ∙ i.hand.share.1) };
  share = (c.try_slice.ensures.share.0 ∙ i.share.0, c.try_slice.ensures.share.1 ∙ i.share.1);
  files = record { stored = c.try_slice.ensures.files.stored ∙ i.files.stored; repeated = c.try_slice.ensures.files.repeated ∙ i.files.repeated };
  grows = more_again (actor c.args.self.now.pass) (actor c.sweeping.self.pass) (actor c.try_slice.new.self.pass) i.grows c.try_slice.ensures.grows;
  starved = λ sated. i.starved (c.try_slice.ensures.starved sated);
  all = sweeps_more c.sweeping.slice c.args.self.now c.sweeping.self c.try_slice.new.self i.all i.share c.try_slice.ensures.files c.try_slice.ensures.grows c.try_slice.ensures.starved c.try_slice.ensures.swept;
}

pub returns-clause-all : goal.returns-clause-all
returns-clause-all c = λ alone sated slice below. c.sweeping.invariant.all alone sated slice (omega (arith, below, c.units-slices.ensures.count, c.sweeping-test.false, c.sweeping.auto.slice-end))
