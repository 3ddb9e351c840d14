use Rattle.std.proofs.Common.{◌≡◌, ◌+◌, ◌*◌, arith, ap, subst, sym, ◌∙◌, inl, inr}
use Rattle.std.proofs.lemmas.Bool.{cases_eq}
use Rattle.xs_signal.specs.Lines.{entries_of}
use Rattle.xs_signal.specs.Wavelet.{inverse_line}
use Rattle.xs_wave.specs.Planes.{plane_of}
use Rattle.xs_wave.proofs.across.join_odd_rows.Goals as goal

pub loop-at-preserved : goal.loop-at-preserved
loop-at-preserved c =
    let i = c.loop-at.invariant in
    let a = c.loop-at.at in
    let w = c.args.width in
    let low = plane_of c.args.low.now in
    let high = plane_of c.args.high.now in
    let new = plane_of c.join_row.new.self in
    let next = c.join_row.ensures in
    record {
      done = λ row column inside within.
          elim (cases_eq row a) [
            | inl same ↦
                let here : new (2 * a + 1) column ≡ inverse_line w (low a) (high a) column =
                next.row column within ∙ ap (λ r. inverse_line w (entries_of r) (entries_of c.line-in-loop-at.result.now) column) c.line.ensures ∙ ap (λ r. inverse_line w (low a) (entries_of r) column) c.line-in-loop-at.ensures in
                subst (λ r. new (2 * r + 1) column ≡ inverse_line w (low r) (high r) column) (sym same) here
            | inr other ↦ ap (λ r. entries_of r column) (next.others (2 * row + 1) (λ e. omega (arith, e, other))) ∙ i.done row column (omega (arith, inside, other)) within
          ];
      even = λ row. next.others (2 * row) (λ e. omega (arith, e)) ∙ i.even row;
      shape = record { many = next.shape.many ∙ i.shape.many; widths = λ row. next.shape.widths row ∙ i.shape.widths row };
    }
