use Rattle.xs_picture.proofs.Folded.{ShowBandsTo}
use Rattle.xs_picture.proofs.encode.folding.fold_slice.Given as goal

abbrev pub invariant-loop-number : goal.invariant-loop-number
invariant-loop-number l = ShowBandsTo l.header l.bands l.slice l.number l.rows
