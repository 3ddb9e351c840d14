use Rattle.std.proofs.Common.{subst}
use Rattle.xs_geometry.specs.SliceLines.{rows_held}
use Rattle.xs_slice_write.specs.Written.{IsRefusal}
use Rattle.xs_enc_lanes.proofs.Coding.{coded_bytes, coded_over}
use Rattle.xs_enc_lanes.proofs.Putting.{small_held}
use Rattle.xs_enc_lanes.proofs.code.code_slice.Goals as goal

pub write_slice_in-requires-clause-small : goal.write_slice_in-requires-clause-small
write_slice_in-requires-clause-small c = small_held c.put_values.new.rows c.in_ok-put_values.ensures.small

pub returns-in-Ok-clause-coded : goal.returns-in-Ok-clause-coded
returns-in-Ok-clause-coded c rows padded carry each =
    let job = c.args.job.now in
    coded_bytes job.header.now c.args.slice c.args.values.now c.put_values.new.rows rows c.requires.job.accepted c.requires.slice c.in_ok-put_values.ensures carry padded each job.share job.fill c.in-Ok.bytes c.in-Ok.ensures.written

pub returns-in-Err-Budget-clause-coded : goal.returns-in-Err-Budget-clause-coded
returns-in-Err-Budget-clause-coded c rows padded carry each =
    let job = c.args.job.now in
    coded_over job.header.now c.args.slice c.args.values.now c.put_values.new.rows rows c.requires.job.accepted c.requires.slice c.in_ok-put_values.ensures carry padded each job.share c.in-Err-Budget.budget
    (subst (IsRefusal c.args.job.now.header.now (rows_held c.put_values.new.rows) c.args.job.now.share c.args.slice) c.in-Err-Budget.field-0-is c.in-Err-Budget.ensures.refused)
