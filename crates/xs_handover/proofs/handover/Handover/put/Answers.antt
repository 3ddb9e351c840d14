use Rattle.xs_lanes.specs.Passes.{view}
use Rattle.xs_handover.proofs.Filing.{files_one, stored_decoded}
use Rattle.xs_handover.proofs.handover.Handover.put.Goals as goal

pub returns-clause-files : goal.returns-clause-files
returns-clause-files c = files_one (view c.args.pass.now.pass) c.args.block (view c.put.new.pass) c.put.result c.put.ensures.answer

pub returns-clause-pass : goal.returns-clause-pass
returns-clause-pass c = record {
  pass = c.put.ensures.pass;
  decoded = stored_decoded (view c.args.pass.now.pass) c.args.block (view c.put.new.pass) c.requires.pass.decoded c.requires.fits.decoded
      (files_one (view c.args.pass.now.pass) c.args.block (view c.put.new.pass) c.put.result c.put.ensures.answer);
}
