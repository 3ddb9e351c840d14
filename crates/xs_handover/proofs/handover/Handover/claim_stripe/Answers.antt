use Rattle.std.proofs.Common.{◌≡◌, arith}
use Rattle.xs_handover.proofs.Looked.{looked_ok}
use Rattle.xs_handover.proofs.handover.Handover.claim_stripe.Goals as goal

pub returns-clause-answer : goal.returns-clause-answer
returns-clause-answer c = let whole : c.look-seen.result ≡ 255 = omega (arith, c.if-seen-ne-EVERY_WORD.false) in looked_ok _ _ _ _ _ _ _ whole c.look-seen.ensures.seen c.claim_blocks.ensures.answer
