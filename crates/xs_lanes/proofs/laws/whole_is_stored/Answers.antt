use Rattle.xs_lanes.proofs.Wholes.{filled_whole, whole_filled, whole_summary, seen_whole}
use Rattle.xs_lanes.proofs.laws.whole_is_stored.Goals as goal

pub returns-clause-filled : goal.returns-clause-filled
returns-clause-filled g c k l v = (filled_whole k l v, whole_filled k l v)

pub returns-clause-found : goal.returns-clause-found
returns-clause-found g c k l summary v alone f = whole_summary k l summary v f.low (f.alone alone)

pub returns-clause-seen : goal.returns-clause-seen
returns-clause-seen g c = seen_whole
