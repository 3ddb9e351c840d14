use Rattle.std.proofs.Common.{ℕ, ◌≡◌, ◌-◌, ◌*◌, ◌<◌, pos, get_or, [], length, arith, ap, refl, subst, sym, ◌∙◌, inl, inr}
use Rattle.std.proofs.lemmas.Bool.{cases_eq}
use Rattle.std.proofs.lemmas.List.{get_or-take}
use Rattle.xs_signal.specs.Lines.{entries_of}
use Rattle.xs_signal.specs.Wavelet.{low_count, inverse_line}
use Rattle.xs_wave.specs.Planes.{plane_of}
use Rattle.xs_wave.proofs.Fronts.{far_down, farther_down}
use Rattle.xs_wave.proofs.WithinLaws.{inverse_within}
use Rattle.xs_wave.proofs.across.join_rows.Goals as goal

pub loop-at-preserved : goal.loop-at-preserved
loop-at-preserved c =
    let i = c.loop-at.invariant in
    let a = c.loop-at.at - 1 in
    let w = c.args.width in
    let step = c.args.step in
    let p = plane_of c.args.plane.now in
    let high = plane_of c.args.high.now in
    let new = plane_of c.join_row.new.self in
    let next = c.join_row.ensures in
    let some = c.requires.step in
    let down = far_down step a some in
    let line = c.copy_from_slice.new.self in
    let source : get_or c.loop-at.plane a [] ≡ get_or c.args.plane.now a [] = i.rest a (omega (arith, c.loop-at-test.true)) in
    let entry : (j : ℕ) → j < low_count w → entries_of line j ≡ p a j =
    λ j less. ap (λ l. entries_of l j) c.copy_from_slice.ensures.after ∙ get_or-take (length c.loop-at.line) c.line.result.now j (pos 0) (omega (arith, less, i.line)) ∙ ap (λ r. entries_of r j) (c.line.ensures ∙ source) in
    record {
      inside = omega (arith, i.inside);
      done = λ row column from inside within.
          elim (cases_eq row a) [
            | inl same ↦
                let here : new (step * a) column ≡ inverse_line w (p a) (high a) column =
                ap (λ k. new k column) (sym c.place_of.ensures) ∙ next.row column within ∙ ap (λ r. inverse_line w (entries_of line) (entries_of r) column) c.line-in-loop-at.ensures
                ∙ inverse_within w (entries_of line) (p a) (high a) (high a) c.requires.two entry (λ j less. refl) column within in
                subst (λ r. new (step * r) column ≡ inverse_line w (p r) (high r) column) (sym same) here
            | inr other ↦
                let more : a < row = omega (arith, from, other) in
                let farther = farther_down step a row some more in
                ap (λ r. entries_of r column) (next.others (step * row) (λ e. omega (arith, e, farther, c.place_of.ensures))) ∙ i.done row column (omega (arith, more)) inside within
          ];
      rest = λ row less. next.others row (λ e. omega (arith, e, less, down, c.place_of.ensures)) ∙ i.rest row (omega (arith, less));
      shape = record { many = next.shape.many ∙ i.shape.many; widths = λ row. next.shape.widths row ∙ i.shape.widths row };
      line = c.copy_from_slice.auto.self ∙ i.line;
    }
