use Rattle.std.proofs.Common.{subst, sym, Err}
use Rattle.xs_endings.specs.declared.stop.Stop.{Stop}
use Rattle.xs_endings.specs.Ends.{change_of}
use Rattle.xs_endings.specs.Steps.{IsGiven}
use Rattle.xs_endings.proofs.Changes.{cut_piece}
use Rattle.xs_endings.proofs.giving.give.Goals as goal

pub returns-in-Err : goal.returns-in-Err
returns-in-Err g c =
    let cut = cut_piece (g.K.Sink.held c.args.sink.now) (g.K.Sink.held c.give_all.new.sink) (g.K.Sink.faults c.args.sink.now) (g.K.Sink.faults c.give_all.new.sink) c.args.piece.now c.in-Err.fault c.in-Err.ensures.refused (λ e. c.give_all.ensures.cause.failed (cc)) c.give_all.ensures.cause.later in
    subst (λ (why : Stop). IsGiven {T = Unit {0}} (change_of (g.K.Sink.held c.args.sink.now) (g.K.Sink.held c.give_all.new.sink) (g.K.Sink.faults c.args.sink.now) (g.K.Sink.faults c.give_all.new.sink)) c.args.piece.now (Err why)) (sym c.from.ensures) cut
