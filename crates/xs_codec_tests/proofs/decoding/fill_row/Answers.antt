use Rattle.std.proofs.Common.{length, sym, ap, subst, ◌∙◌}
use Rattle.xs_signal.specs.Lines.{entries_of}
use Rattle.xs_rate.specs.Laws.{IsSmallRow}
use Rattle.xs_codec_tests.proofs.Made.{row_made}
use Rattle.xs_codec_tests.proofs.decoding.fill_row.Goals as goal

pub returns : goal.returns
returns c h slice made =
    let row = c.as_slice.result.now in
    let value = c.as_slice.ensures.value in
    row_made h slice c.args.rows.now c.put_row.new.self c.args.band c.args.line row c.requires (ap length value ∙ c.in_ok-values.ensures.count ∙ ap length c.row-count.ensures)
    (subst (λ l. IsSmallRow (entries_of l)) (sym value) c.in_ok-values.ensures.small) c.put_row.ensures.written made
