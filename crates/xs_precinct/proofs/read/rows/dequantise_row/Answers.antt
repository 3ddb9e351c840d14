use Rattle.std.proofs.Common.{take, map, length, sym, ap, subst, ◌∙◌}
use Rattle.xs_lists.specs.Spelling.{upto}
use Rattle.xs_quant.specs.Rows.{AreSent, raised}
use Rattle.xs_precinct.proofs.Raised.{first_row, first_sent}
use Rattle.xs_precinct.proofs.read.rows.dequantise_row.Goals as goal

pub raise_row-requires-clause-sent : goal.raise_row-requires-clause-sent
raise_row-requires-clause-sent c =
    subst (λ l. AreSent c.args.t l (take (length c.args.row.now) c.args.values.now)) (sym c.as_slice.ensures.items)
    (first_sent c.args.t c.args.counts.now c.args.values.now (length c.args.row.now) c.as_slice.ensures.counts c.requires.numbers c.requires.short)

pub returns : goal.returns
returns c =
    let n = length c.args.row.now in
    let values = take n c.args.values.now in
    c.raise_row.ensures.raised ∙ ap (λ l. map (raised (record { kind = c.args.kind; t = c.args.t; fq = 0 }) l values) (upto (length values))) c.as_slice.ensures.items ∙ first_row c.args.kind c.args.t c.args.counts.now c.args.values.now n c.requires.short
