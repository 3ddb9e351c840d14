use Rattle.xs_splitter.proofs.Lifted.{high_fits}
use Rattle.xs_splitter.proofs.columns.Columns.lift.Goals as goal

pub update-requires-clause-above : goal.update-requires-clause-above
update-requires-clause-above c = high_fits _ _ _ c.predict.new.self c.swap.new.y c.requires.even c.requires.odd c.requires.next c.predict.ensures.entries c.swap.ensures.y_after

pub update-requires-clause-below : goal.update-requires-clause-below
update-requires-clause-below c = high_fits _ _ _ c.predict.new.self c.swap.new.y c.requires.even c.requires.odd c.requires.next c.predict.ensures.entries c.swap.ensures.y_after

pub update-requires-else-first-clause-below : goal.update-requires-else-first-clause-below
update-requires-else-first-clause-below c = high_fits _ _ _ c.predict.new.self c.swap.new.y c.requires.even c.requires.odd c.requires.next c.predict.ensures.entries c.swap.ensures.y_after
