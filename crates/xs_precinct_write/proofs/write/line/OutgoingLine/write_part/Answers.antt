use Rattle.std.proofs.Common.{◌++◌, [], length, sym, ap, ◌∙◌, arith}
use Rattle.std.specs.Prelude.{false}
use Rattle.xs_spelling.specs.Counts.{Line, flag_bits}
use Rattle.xs_spelling.specs.Sizes.{count_size, data_size, numbered}
use Rattle.xs_spelling.specs.Written.{line_count_bits, written_flag}
use Rattle.xs_spelling.proofs.Sized.{lines_sized}
use Rattle.xs_precinct_write.specs.Outgoing.{Outgoing}
use Rattle.xs_precinct_write.specs.Parts.{bits_in_part}
use Rattle.xs_precinct_write.proofs.Sized.{same_counted}
use Rattle.xs_precinct_write.proofs.write.line.OutgoingLine.write_part.Goals as goal

pub write_counts-requires-clause-room : goal.write_counts-requires-clause-room
write_counts-requires-clause-room c =
    let line = same_counted _ _ c.predictor-in-Counts.result c.self.view_is c.predictor-in-Counts.ensures.line in
    let size = ap count_size line in
    let part = ap (λ part. length (bits_in_part part c.args.apart c.args.self.now)) c.in-Counts.is in
    omega (arith, size, part, c.requires.room)

pub write_data-requires-clause-room : goal.write_data-requires-clause-room
write_data-requires-clause-room c =
    let o = c.args.self.now in
    let size = ap (λ (x : Outgoing). data_size c.args.apart (numbered x.cut x.counts [])) c.self.view_is ∙ sym (lines_sized.numbers c.args.apart (numbered o.cut o.counts o.values)) in
    let part = ap (λ part. length (bits_in_part part c.args.apart o)) c.in-Data.is in
    omega (arith, size, part, c.requires.room)

pub returns-in-Flags-clause-bits : goal.returns-in-Flags-clause-bits
returns-in-Flags-clause-bits c =
    let line = same_counted _ _ c.predictor.result c.self.view_is c.predictor.ensures.line in
    c.write_flags.ensures.bits ∙ ap (λ (l : Line). c.args.out.now.bits ++ flag_bits l (written_flag l)) line ∙ ap (λ part. c.args.out.now.bits ++ bits_in_part part c.args.apart c.args.self.now) (sym c.in-Flags.is)

pub returns-in-Counts-clause-bits : goal.returns-in-Counts-clause-bits
returns-in-Counts-clause-bits c =
    let line = same_counted _ _ c.predictor-in-Counts.result c.self.view_is c.predictor-in-Counts.ensures.line in
    c.write_counts.ensures.bits ∙ ap (λ (l : Line). c.args.out.now.bits ++ line_count_bits false l (written_flag l)) line
    ∙ ap (λ part. c.args.out.now.bits ++ bits_in_part part c.args.apart c.args.self.now) (sym c.in-Counts.is)

pub returns-in-Counts-clause-spare : goal.returns-in-Counts-clause-spare
returns-in-Counts-clause-spare c =
    let line = same_counted _ _ c.predictor-in-Counts.result c.self.view_is c.predictor-in-Counts.ensures.line in
    let size = ap count_size line in
    let part = ap (λ part. length (bits_in_part part c.args.apart c.args.self.now)) c.in-Counts.is in
    omega (arith, size, part, c.write_counts.ensures.spare)

pub returns-in-Data-clause-spare : goal.returns-in-Data-clause-spare
returns-in-Data-clause-spare c =
    let o = c.args.self.now in
    let size = ap (λ (x : Outgoing). data_size c.args.apart (numbered x.cut x.counts [])) c.self.view_is ∙ sym (lines_sized.numbers c.args.apart (numbered o.cut o.counts o.values)) in
    let part = ap (λ part. length (bits_in_part part c.args.apart o)) c.in-Data.is in
    omega (arith, size, part, c.write_data.ensures.spare)
