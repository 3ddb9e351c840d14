use Rattle.xs_choice_bench.proofs.Smallness.{all_small, blank_small}
use Rattle.xs_choice_bench.proofs.rows.draw_rows.Goals as goal

pub bands-init : goal.bands-init
bands-init c = record { lines = c.in_ok-rows.ensures.lines; small = blank_small c.in_ok-rows.rows c.in_ok-rows.ensures.zeros }

pub bands-preserved : goal.bands-preserved
bands-preserved c = record { lines = c.in_ok-draw_band.ensures.lines c.args.geometry.now 0 c.bands.invariant.lines; small = c.in_ok-draw_band.ensures.small }

pub returns-clause-small : goal.returns-clause-small
returns-clause-small c = all_small c.bands.rows c.bands.invariant.small
