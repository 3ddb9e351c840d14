use Rattle.xs_picture.specs.Analysed.{IsGiven}
use Rattle.xs_picture.proofs.encode.analysis.split_rows.Given as goal

abbrev pub invariant-lines : goal.invariant-lines
invariant-lines l = IsGiven l.component.header.now l.component.picture.now l.component.number 0 l.line l.splitter
