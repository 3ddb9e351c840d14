use Rattle.xs_picture.specs.Analysed.{rows_of_kind}
use Rattle.xs_picture.proofs.Folded.{IsFoldedTo}
use Rattle.xs_picture.proofs.encode.folding.fold_band.Given as goal

abbrev pub invariant-loop-line : goal.invariant-loop-line
invariant-loop-line l = IsFoldedTo l.band.fraction (rows_of_kind l.bands l.band.kind) l.band.number l.initial.rows l.line l.rows
