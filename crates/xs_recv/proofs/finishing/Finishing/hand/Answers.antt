use Rattle.xs_handover.specs.Handing.{source_of}
use Rattle.xs_handover.specs.Passes.{actor}
use Rattle.xs_recv.proofs.Handed.{hands_same}
use Rattle.xs_recv.proofs.finishing.Finishing.hand.Goals as goal

pub returns-in-Err-Slice-clause-only : goal.returns-in-Err-Slice-clause-only
returns-in-Err-Slice-clause-only c = hands_same (source_of c.args.header.now c.args.slice c.args.bytes) (actor c.args.self.now.stripes.hand) (actor c.hand.new.pass) c.in-Err-Slice.ensures.refused.1

pub returns-in-Err-Memory-clause-only : goal.returns-in-Err-Memory-clause-only
returns-in-Err-Memory-clause-only c = hands_same (source_of c.args.header.now c.args.slice c.args.bytes) (actor c.args.self.now.stripes.hand) (actor c.hand.new.pass) c.in-Err-Memory.ensures.refused.1
