use Rattle.std.proofs.Common.{[], ◌∷◌, ◌++◌}
use Rattle.xs_handover.specs.Passes.{actor}
use Rattle.xs_handover.specs.Handing.{listed}
use Rattle.xs_handover.proofs.Filing.{files_more}
use Rattle.xs_handover.proofs.handover.Handover.put_all.Goals as goal

pub returns-clause-files : goal.returns-clause-files
returns-clause-files c =
    let first = actor c.args.pass.now in
    let second = actor c.put.new.pass in
    let third = actor c.put_if.new.pass in
    let last = actor c.put_if-2.new.pass in
    files_more first second last (c.args.handed.body ∷ []) (listed c.args.handed.up ++ listed c.args.handed.down) c.put.ensures.files
    (files_more second third last (listed c.args.handed.up) (listed c.args.handed.down) c.put_if.ensures.files c.put_if-2.ensures.files)
