use Rattle.xs_capture.specs.Pictures.{offers_in}
use Rattle.xs_stored.specs.Stored.{held_in}
use Rattle.xs_cli.proofs.CapturedKnown.{few_parts, received_named, received_of_parts, small_parts}
use Rattle.xs_cli.proofs.receiving.Receiver.picture.Goals as goal

pub receive_picture-requires-clause-parts : goal.receive_picture-requires-clause-parts
receive_picture-requires-clause-parts g c κs within =
    few_parts c.in_ok-parts.parts c.args.self.now.crew.feeders (offers_in c.args.sorted.now c.args.number) c.in_ok-parts.ensures.dealt c.requires.some c.requires.few

pub receive_picture-requires-clause-bytes : goal.receive_picture-requires-clause-bytes
receive_picture-requires-clause-bytes g c κs within =
    small_parts c.in_ok-parts.parts c.args.self.now.crew.feeders (offers_in c.args.sorted.now c.args.number) c.in_ok-parts.ensures.dealt c.requires.some c.requires.small

pub returns-in-Ok-clause-received : goal.returns-in-Ok-clause-received
returns-in-Ok-clause-received g c =
    received_of_parts c.in_ok-parts.parts c.args.self.now.crew.feeders (offers_in c.args.sorted.now c.args.number) c.in_ok-parts.ensures.dealt c.requires.some c.in-Ok.reception.received
    (held_in c.in-Ok.reception.board.actor.stored, c.in-Ok.ensures.selection, c.in-Ok.ensures.received)

pub returns-in-Ok-clause-named : goal.returns-in-Ok-clause-named
returns-in-Ok-clause-named g c = received_named c.in-Ok.reception.received (held_in c.in-Ok.reception.board.actor.stored) c.in-Ok.ensures.received
