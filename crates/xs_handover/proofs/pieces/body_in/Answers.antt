use Rattle.std.proofs.Common.{Bor}
use Rattle.std.specs.Prelude.{List}
use Rattle.xs_geometry.specs.SliceLines.{BandLines}
use Rattle.xs_handover.proofs.Found.{body_found, no_body}
use Rattle.xs_handover.proofs.pieces.body_in.Goals as goal

pub returns-in-None : goal.returns-in-None
returns-in-None c = no_body c.args.header.now c.args.slice c.args.values.now c.in-None.ensures

pub returns-in-Some : goal.returns-in-Some
returns-in-Some c = body_found (λ (e : Bor (List BandLines)). e.now) c.args.header.now c.args.slice c.args.values.now c.in-Some.value.now c.body_of.result c.in-Some.ensures c.body_of.ensures.decoded c.body_of.ensures.body
