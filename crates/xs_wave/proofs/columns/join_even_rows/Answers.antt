use Rattle.std.proofs.Common.{◌≡◌, ◌+◌, ◌-◌, ◌*◌, ◌-ℤ◌, min, sym, ap, subst, ◌∙◌, arith, inl, inr}
use Rattle.std.proofs.lemmas.Bool.{cases_eq}
use Rattle.xs_signal.specs.Lines.{entries_of}
use Rattle.xs_signal.specs.Wavelet.{high_count, updated}
use Rattle.xs_wave.specs.Planes.{plane_of}
use Rattle.xs_wave.proofs.columns.join_even_rows.Goals as goal

pub loop-at-preserved : goal.loop-at-preserved
loop-at-preserved c =
    let i = c.loop-at.invariant in
    let a = c.loop-at.at in
    let P = plane_of c.args.plane.now in
    let before = plane_of c.loop-at.plane in
    let after = plane_of c.less_quarter.new.self in
    let next = c.less_quarter.ensures in
    record {
      done = λ row column inside within.
          elim (cases_eq row a) [
            | inl same ↦
                let here : before (2 * a) column ≡ P (2 * a) column = ap (λ r. entries_of r column) (i.rest a (omega arith)) in
                let up : before (2 * c.saturating_sub.result + 1) column ≡ P (2 * (a - 1) + 1) column = ap (λ r. entries_of r column) (i.odd c.saturating_sub.result) ∙ ap (λ k. P (2 * k + 1) column) c.saturating_sub.ensures in
                let down : before (2 * c.min.result + 1) column ≡ P (2 * min a (high_count c.args.height - 1) + 1) column = ap (λ r. entries_of r column) (i.odd c.min.result) ∙ ap (λ k. P (2 * k + 1) column) c.min.ensures in
                let value = next.row column within in
                let all : after (2 * a) column ≡ P (2 * a) column -ℤ updated c.args.height (λ j. P (2 * j + 1) column) a = cc in
                subst (λ r. after (2 * r) column ≡ P (2 * r) column -ℤ updated c.args.height (λ j. P (2 * j + 1) column) r) (sym same) all
            | inr other ↦ ap (λ r. entries_of r column) (next.others (2 * row) (λ e. omega (arith, e, other))) ∙ i.done row column (omega (arith, inside, other)) within
          ];
      odd = λ row. next.others (2 * row + 1) (λ e. omega (arith, e)) ∙ i.odd row;
      rest = λ row past. next.others (2 * row) (λ e. omega (arith, e, past)) ∙ i.rest row (omega (arith, past));
      shape = record { many = next.shape.many ∙ i.shape.many; widths = λ row. next.shape.widths row ∙ i.shape.widths row };
    }
