use Rattle.xs_lane_core.proofs.Meanings.{summary_only, summary_each}
use Rattle.xs_lane_core.proofs.laws.summary_is_what_is_full.Goals as goal

pub returns-clause-only : goal.returns-clause-only
returns-clause-only g c = summary_only

pub returns-clause-each : goal.returns-clause-each
returns-clause-each g c = summary_each
