use Rattle.std.proofs.Common.{[], length, sym, ap, subst, ◌∙◌, arith}
use Rattle.xs_spelling.specs.Sizes.{data_size, numbered, signs_size}
use Rattle.xs_spelling.proofs.Sized.{lines_sized}
use Rattle.xs_precinct_write.specs.Outgoing.{Outgoing, IsOutgoing}
use Rattle.xs_precinct_write.specs.Parts.{bits_in_part}
use Rattle.xs_precinct_write.proofs.Sized.{numbers_most, signs_most}
use Rattle.xs_precinct_write.proofs.write.line.OutgoingLine.part_size.Goals as goal

pub returns-in-Data-clause-size : goal.returns-in-Data-clause-size
returns-in-Data-clause-size c =
    let o = c.args.self.now in
    c.data_bits.ensures ∙ ap (λ (x : Outgoing). data_size c.args.apart (numbered x.cut x.counts [])) c.self.view_is ∙ sym (lines_sized.numbers c.args.apart (numbered o.cut o.counts o.values))
    ∙ ap (λ part. length (bits_in_part part c.args.apart o)) (sym c.in-Data.is)

pub returns-in-Data-clause-few : goal.returns-in-Data-clause-few
returns-in-Data-clause-few c =
    let o = c.args.self.now in
    let is : IsOutgoing o = subst IsOutgoing c.self.view_is c.self.invariant.0 in
    let size = c.data_bits.ensures ∙ ap (λ (x : Outgoing). data_size c.args.apart (numbered x.cut x.counts [])) c.self.view_is ∙ sym (lines_sized.numbers c.args.apart (numbered o.cut o.counts o.values)) in
    omega (arith, size, is.few, numbers_most o c.args.apart is)

pub returns-in-Signs-clause-few : goal.returns-in-Signs-clause-few
returns-in-Signs-clause-few c =
    let o = c.args.self.now in
    let is : IsOutgoing o = subst IsOutgoing c.self.view_is c.self.invariant.0 in
    let size = c.sign_bits.ensures ∙ ap (λ l. signs_size (numbered c.self.inside.t c.self.inside.counts l)) c.as_slice.ensures.value ∙ ap (λ (x : Outgoing). signs_size (numbered x.cut x.counts x.values)) c.self.view_is in
    omega (arith, size, is.few, signs_most o)
