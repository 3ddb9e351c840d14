use Rattle.xs_lane_core.proofs.Meanings.{laid_lies, stored_lies, lies_only, one_stored, got_was_stored}
use Rattle.xs_lane_core.proofs.laws.each_place_has_one_value.Goals as goal

pub returns-clause-laid : goal.returns-clause-laid
returns-clause-laid g c = laid_lies

pub returns-clause-stored : goal.returns-clause-stored
returns-clause-stored g c = stored_lies

pub returns-clause-no_other : goal.returns-clause-no_other
returns-clause-no_other g c = lies_only

pub returns-clause-one : goal.returns-clause-one
returns-clause-one g c = one_stored

pub returns-clause-got : goal.returns-clause-got
returns-clause-got g c = got_was_stored
