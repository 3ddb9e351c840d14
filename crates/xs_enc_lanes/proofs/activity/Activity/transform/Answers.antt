use Rattle.std.proofs.Common.{refl, true≢false}
use Rattle.xs_layout.specs.Geometry.{components_of}
use Rattle.xs_enc_lanes.proofs.Teams.{ran_component}
use Rattle.xs_enc_lanes.proofs.activity.Activity.transform.Goals as goal

pub returns-in-Ok : goal.returns-in-Ok
returns-in-Ok c =
    let e = c.file_component.ensures in
    ran_component c.args.job.now (components_of c.args.job.now.header.now.shape.format) c.args.number c.args.self.now _ c.requires.idle c.requires.role e.pass e.share e.got e.stored refl refl (λ sated. c.in-Ok.ensures.filed)

pub returns-in-Err : goal.returns-in-Err
returns-in-Err c =
    let e = c.file_component.ensures in
    ran_component c.args.job.now (components_of c.args.job.now.header.now.shape.format) c.args.number c.args.self.now _ c.requires.idle c.requires.role e.pass e.share e.got e.stored refl refl (λ sated. absurd (true≢false sated))
