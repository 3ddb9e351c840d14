use Rattle.std.proofs.Common.{sym, subst}
use Rattle.xs_enc_lanes.specs.Working.{Goes}
use Rattle.xs_enc_lanes.proofs.Claiming.{goes_on}
use Rattle.xs_enc_lanes.proofs.activity.Activity.scan.Goals.{else-scanning-test, then-scanning-test+else-is_done+else-not-notes+then-waits}
use Rattle.xs_enc_lanes.proofs.activity.Activity.scan.Goals as goal

pub returns-clause-goes : goal.returns-clause-goes
returns-clause-goes g c =
    let job = c.args.job.now in
    let a = c.args.self.now in
    let goes = c.scanning.invariant.goes in
    elim c.scanning-test.branch [
      | else-scanning-test w ↦ subst (Goes job a) (sym w.self-is) goes
      | then-scanning-test+else-is_done+else-not-notes+then-waits w ↦ subst (Goes job a) (sym w.self-is) (goes_on job a w.try_slice-tried.new.self w.rest.new.self (goes_on job a c.scanning.self w.try_slice-tried.new.self goes w.try_slice-tried.ensures.goes) w.rest.ensures.goes)
    ]
