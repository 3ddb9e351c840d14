use Rattle.std.proofs.Common.{List, refl, sym, subst}
use Rattle.xs_lane_core.specs.Sound.{IsAlone}
use Rattle.xs_lanes.specs.Passes.{view}
use Rattle.xs_enc_lanes.specs.declared.activity.Activity.{Activity}
use Rattle.xs_enc_lanes.specs.Coded.{HasAdded}
use Rattle.xs_enc_lanes.specs.Rows.{Carried}
use Rattle.xs_enc_lanes.specs.Working.{Goes, GotIfWhole, Sweeps}
use Rattle.xs_enc_lanes.proofs.Claiming.{tells_more, tells_swept, told_nothing}
use Rattle.xs_enc_lanes.proofs.Going.{goes_added, goes_lost, goes_told}
use Rattle.xs_enc_lanes.proofs.activity.Activity.claim_whole.Goals.{in-Got+else-not-add_slice, in_default}
use Rattle.xs_enc_lanes.proofs.activity.Activity.claim_whole.Goals as goal

pub returns-then-not-add_slice-clause-goes : goal.returns-then-not-add_slice-clause-goes
returns-then-not-add_slice-clause-goes c =
    let v = view c.args.self.now.pass in
    let w = view c.claim_values-tried.new.pass in
    goes_lost c.args.job.now c.args.self.now _ c.requires.ready c.claim_values-tried.ensures.pass c.claim_values-tried.ensures.share c.claim_values-tried.ensures.files (tells_more v w c.args.slice _ _ c.claim_values-tried.ensures.told) (c.add_slice.ensures.lost c.if-not-add_slice.true) refl refl

pub returns-clause-goes : goal.returns-clause-goes
returns-clause-goes c =
    let job = c.args.job.now in
    let a = c.args.self.now in
    let t = c.claim_values-tried.ensures in
    elim c.match-tried.branch [
      | in-Got+else-not-add_slice z ↦ subst (Goes job a) (sym z.self-is) (goes_added job a _ c.args.slice _ c.requires.ready t.pass t.share t.files c.requires.slice z.in-Got.ensures.told
          (subst (λ (l : List Carried). HasAdded job c.args.slice l a.kept.items z.add_slice.new.kept.items) z.as_slice.ensures.value (z.add_slice.ensures.added z.if-not-add_slice.false)) refl refl)
      | in_default z ↦ subst (Goes job a) (sym z.self-is) (goes_told job a _ c.requires.ready t.pass t.share t.files (told_nothing _ _ c.args.slice c.claim_values-tried.result _ z.in_default.not-Got t.told) refl refl refl)
    ]

pub returns-clause-swept : goal.returns-clause-swept
returns-clause-swept c =
    let a = c.args.self.now in
    let t = c.claim_values-tried.ensures in
    let swept : IsAlone (view a.pass) → GotIfWhole (view c.claim_values-tried.new.pass) c.args.slice = λ alone. tells_swept (view a.pass) (view c.claim_values-tried.new.pass) c.args.slice c.claim_values-tried.result c.claim_values-tried.new.values.items alone t.told in
    elim c.match-tried.branch [
      | in-Got+else-not-add_slice z ↦ subst (λ (b : Activity). Sweeps c.args.slice a b) (sym z.self-is) (λ alone sated. swept alone)
      | in_default z ↦ subst (λ (b : Activity). Sweeps c.args.slice a b) (sym z.self-is) (λ alone sated. swept alone)
    ]
