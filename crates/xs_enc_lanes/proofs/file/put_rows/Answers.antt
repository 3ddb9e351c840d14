use Rattle.std.proofs.Common.{◌<◌, subst, sym}
use Rattle.xs_lanes.specs.Passes.{view}
use Rattle.xs_enc_lanes.specs.Coded.{rows_of_job}
use Rattle.xs_enc_lanes.specs.Rows.{slice_of}
use Rattle.xs_enc_lanes.proofs.Filing.{carried_lane, carried_place, filed_here, filed_still, puts_is, stores_more}
use Rattle.xs_enc_lanes.proofs.file.put_rows.Goals as goal

pub put-requires-clause-lane : goal.put-requires-clause-lane
put-requires-clause-lane c κs = subst (λ n. slice_of c.args.rows < n) (sym c.requires.work.lanes) (carried_lane c.args.job.now.header.now (rows_of_job c.args.job.now) c.args.rows c.requires.rows)

pub put-requires-clause-slot : goal.put-requires-clause-slot
put-requires-clause-slot c κs = carried_place c.args.job.now.header.now (rows_of_job c.args.job.now) c.args.rows c.requires.rows

pub returns-clause-got : goal.returns-clause-got
returns-clause-got c = (puts_is (view c.args.pass.now) c.args.rows (view c.put.new.pass) c.put.result c.put.ensures.answer).1

pub returns-clause-stored : goal.returns-clause-stored
returns-clause-stored c = λ all. stores_more c.args.job.now (view c.args.pass.now) (view c.put.new.pass) c.args.rows (puts_is (view c.args.pass.now) c.args.rows (view c.put.new.pass) c.put.result c.put.ensures.answer).0 c.requires.rows all

pub returns-clause-filed : goal.returns-clause-filed
returns-clause-filed c = filed_here (view c.args.pass.now) (view c.put.new.pass) c.args.rows (puts_is (view c.args.pass.now) c.args.rows (view c.put.new.pass) c.put.result c.put.ensures.answer).0

pub returns-clause-others : goal.returns-clause-others
returns-clause-others c = λ slice component filed. filed_still (view c.args.pass.now) (view c.put.new.pass) c.args.rows slice component (puts_is (view c.args.pass.now) c.args.rows (view c.put.new.pass) c.put.result c.put.ensures.answer).0 filed
