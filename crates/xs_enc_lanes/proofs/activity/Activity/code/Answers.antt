use Rattle.std.proofs.Common.{sym, subst}
use Rattle.xs_enc_lanes.specs.Working.{Goes}
use Rattle.xs_enc_lanes.proofs.Claiming.{goes_none, goes_on}
use Rattle.xs_enc_lanes.proofs.activity.Activity.code.Goals.{else-coding-test, then-coding-test+then-not-scan}
use Rattle.xs_enc_lanes.proofs.activity.Activity.code.Goals as goal

pub coding-init : goal.coding-init
coding-init g c = record { goes = goes_none c.args.job.now c.args.self.now c.requires.ready; room = c.in-Ok.ensures }

pub coding-preserved : goal.coding-preserved
coding-preserved g c = record { goes = goes_on c.args.job.now c.args.self.now c.coding.self c.scan.new.self c.coding.invariant.goes c.scan.ensures.goes; room = c.scan.ensures.room }

pub returns : goal.returns
returns g c =
    let job = c.args.job.now in
    let a = c.args.self.now in
    record {
      goes = elim c.coding-test.branch [
        | else-coding-test w ↦ subst (Goes job a) (sym w.self-is) c.coding.invariant.goes
        | then-coding-test+then-not-scan w ↦ subst (Goes job a) (sym w.self-is) (goes_on job a c.coding.self w.scan.new.self c.coding.invariant.goes w.scan.ensures.goes)
      ];
    }
