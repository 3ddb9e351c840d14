use Rattle.xs_picture.proofs.Analysed.{bands_more}
use Rattle.xs_picture.proofs.encode.analysis.analyse_components.Goals as goal

pub components-preserved : goal.components-preserved
components-preserved c = bands_more c.args.header.now c.args.picture.now c.components.number c.components.bands c.push.new.self c.in_ok-splitter.splitter c.in_ok-push.ensures c.in_ok-splitter.ensures c.components.invariant
