use Rattle.xs_handover.specs.Handing.{source_of}
use Rattle.xs_handover.specs.Passes.{actor}
use Rattle.xs_recv.proofs.Handed.{hands_none}
use Rattle.xs_recv.proofs.finishing.Finishing.hand_copy.Goals as goal

pub returns-in-Handed-clause-only : goal.returns-in-Handed-clause-only
returns-in-Handed-clause-only c = hands_none (source_of c.args.header.now c.args.copy.slice c.args.copy.bytes) (actor c.args.self.now.stripes.hand)

pub returns-in-Bad-clause-only : goal.returns-in-Bad-clause-only
returns-in-Bad-clause-only c = hands_none (source_of c.args.header.now c.args.copy.slice c.args.copy.bytes) (actor c.args.self.now.stripes.hand)
