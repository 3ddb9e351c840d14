use Rattle.std.proofs.Common.{◌+◌, ap, subst, ◌∙◌, arith}
use Rattle.xs_spelling.specs.Counts.{Line}
use Rattle.xs_spelling.specs.Sizes.{count_size, flag_size}
use Rattle.xs_spelling.specs.Written.{written_flag}
use Rattle.xs_spelling.proofs.Bounded.{flags-most}
use Rattle.xs_counts.specs.Known.{counted_line}
use Rattle.xs_precinct_write.specs.Outgoing.{Outgoing, IsOutgoing, line_counted}
use Rattle.xs_precinct_write.proofs.Sized.{counted_most}
use Rattle.xs_precinct_write.proofs.write.line.OutgoingLine.mode_bits.Goals as goal

pub returns-clause-bits : goal.returns-clause-bits
returns-clause-bits c =
    let counts = ap (λ (x : Outgoing). x.counts) c.self.view_is in
    c.mode_bits.ensures.bits
    ∙ ap (λ l. flag_size (counted_line l c.predictor.result c.args.mode) + count_size (counted_line l c.predictor.result c.args.mode)) counts
    ∙ ap (λ (l : Line). flag_size l + count_size l) (c.predictor.ensures.line c.args.mode)

pub returns-clause-few : goal.returns-clause-few
returns-clause-few c =
    let o = c.args.self.now in
    let is : IsOutgoing o = subst IsOutgoing c.self.view_is c.self.invariant.0 in
    let counts = ap (λ (x : Outgoing). x.counts) c.self.view_is in
    let bits = c.mode_bits.ensures.bits
    ∙ ap (λ l. flag_size (counted_line l c.predictor.result c.args.mode) + count_size (counted_line l c.predictor.result c.args.mode)) counts
    ∙ ap (λ (l : Line). flag_size l + count_size l) (c.predictor.ensures.line c.args.mode) in
    omega (arith, bits, is.few, counted_most o c.args.mode is, flags-most (line_counted o c.args.mode) (written_flag (line_counted o c.args.mode)))
