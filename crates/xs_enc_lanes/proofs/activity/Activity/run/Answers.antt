use Rattle.xs_layout.specs.Geometry.{components_of}
use Rattle.xs_enc_lanes.proofs.Teams.{ran_coder, ready_idle}
use Rattle.xs_enc_lanes.proofs.activity.Activity.run.Goals as goal

pub code-requires-clause-ready : goal.code-requires-clause-ready
code-requires-clause-ready g c κs lives = ready_idle c.args.job.now (components_of c.args.job.now.header.now.shape.format) c.args.self.now c.requires.idle

pub returns-in-Coder : goal.returns-in-Coder
returns-in-Coder g c = ran_coder c.args.job.now (components_of c.args.job.now.header.now.shape.format) c.in-Coder.number c.args.self.now c.code.new.self c.requires.idle c.in-Coder.is c.code.ensures.goes
