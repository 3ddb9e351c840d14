use Rattle.xs_handover.specs.Passes.{actor, stripe_count}
use Rattle.xs_handover.specs.Handing.{source_of}
use Rattle.xs_handover.proofs.Handing.{body_fits, down_fits, hands, up_fits}
use Rattle.xs_handover.proofs.handover.Handover.hand.Goals as goal

pub put_all-requires-clause-body : goal.put_all-requires-clause-body
put_all-requires-clause-body c =
    body_fits (source_of c.args.header.now c.args.slice c.args.bytes) c.in_ok-handed.handed (stripe_count c.args.self.now) c.in_ok-handed.ensures.read c.requires.slice c.requires.stripes

pub put_all-requires-clause-up : goal.put_all-requires-clause-up
put_all-requires-clause-up c =
    up_fits (source_of c.args.header.now c.args.slice c.args.bytes) c.in_ok-handed.handed (stripe_count c.args.self.now) c.in_ok-handed.ensures.read c.requires.slice c.requires.stripes

pub put_all-requires-clause-down : goal.put_all-requires-clause-down
put_all-requires-clause-down c =
    down_fits (source_of c.args.header.now c.args.slice c.args.bytes) c.in_ok-handed.handed (stripe_count c.args.self.now) c.in_ok-handed.ensures.read c.requires.stripes

pub returns-clause-handed : goal.returns-clause-handed
returns-clause-handed c =
    hands (source_of c.args.header.now c.args.slice c.args.bytes) c.in_ok-handed.handed (actor c.args.pass.now) (actor c.put_all.new.pass) c.in_ok-handed.ensures.read c.put_all.ensures.files
