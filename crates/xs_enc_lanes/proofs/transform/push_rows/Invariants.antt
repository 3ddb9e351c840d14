use Rattle.std.proofs.Common.{ℕ}
use Rattle.xs_picture.specs.Analysed.{IsGiven}
use Rattle.xs_enc_lanes.specs.Transformed.{FitLines}
use Rattle.xs_enc_lanes.proofs.transform.push_rows.Given as goal

abbrev pub invariant-lines : goal.invariant-lines
invariant-lines l = record {
  given : (from : ℕ) → IsGiven l.component.header.now l.component.picture.now l.component.number from l.fn.lines.0 l.initial.splitter → IsGiven l.component.header.now l.component.picture.now l.component.number from l.line l.splitter;
  fit : FitLines l.component l.rows;
}
