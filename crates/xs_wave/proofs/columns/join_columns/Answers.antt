use Rattle.std.proofs.Common.{◌≡◌, ◌+◌, ◌*◌, ◌/◌, ◌%◌, ◌^◌, ◌<◌, ◌+ℤ◌, arith, ap, sym, subst, ◌∙◌, inl, inr}
use Rattle.std.proofs.lemmas.Bool.{cases_eq}
use Rattle.xs_signal.specs.Lines.{column_of, entries_of}
use Rattle.xs_signal.specs.Wavelet.{even_of, predicted_sample, inverse_line}
use Rattle.xs_signal.proofs.LineLaws.{inverse_even, inverse_odd, predicted_same}
use Rattle.xs_wave.specs.Planes.{plane_of}
use Rattle.xs_wave.specs.Corners.{even_rows, odd_rows}
use Rattle.xs_wave.proofs.Bounds.{even_small}
use Rattle.xs_wave.proofs.Values.{below_same}
use Rattle.xs_wave.proofs.columns.join_columns.Goals as goal

pub join_odd_rows-requires-clause-small_even : goal.join_odd_rows-requires-clause-small_even
join_odd_rows-requires-clause-small_even c row inside column within =
    let p = plane_of c.args.plane.now in
    below_same (2 * 2 ^ 50) _ _ (c.join_even_rows.ensures.even row column inside within)
    (even_small (2 ^ 50) c.args.height (column_of (even_rows p) column) (column_of (odd_rows p) column) (omega arith) c.requires.two (λ k less. c.requires.small (2 * k) (omega (arith, less)) column within)
    (λ k less. c.requires.small (2 * k + 1) (omega (arith, less)) column within) row inside)

pub returns-clause-joined : goal.returns-clause-joined
returns-clause-joined c row column inside within =
    let n = c.args.height in
    let p = plane_of c.args.plane.now in
    let low = column_of (even_rows p) column in
    let high = column_of (odd_rows p) column in
    let first = plane_of c.join_even_rows.new.plane in
    let even = column_of (even_rows first) column in
    let new = plane_of c.join_odd_rows.new.plane in
    let k = row / 2 in
    elim (cases_eq (row % 2) 0) [
      | inl e ↦
          let place : 2 * k ≡ row = omega (arith, e) in
          let there : new (2 * k) column ≡ inverse_line n low high (2 * k) =
          ap (λ r. entries_of r column) (c.join_odd_rows.ensures.even k) ∙ c.join_even_rows.ensures.even k column (omega (arith, place, inside)) within ∙ sym (inverse_even n low high k) in
          subst (λ r. new r column ≡ inverse_line n low high r) place there
      | inr ne ↦
          let place : 2 * k + 1 ≡ row = omega (arith, ne) in
          let below : 2 * k + 1 < n = omega (arith, place, inside) in
          let same = predicted_same n k even (even_of n low high) below (λ j less. c.join_even_rows.ensures.even j column less within) in
          let there : new (2 * k + 1) column ≡ inverse_line n low high (2 * k + 1) =
          c.join_odd_rows.ensures.high k column (omega (arith, below)) within ∙ ap (λ z. z +ℤ predicted_sample n even k) (ap (λ r. entries_of r column) (c.join_even_rows.ensures.odd k)) ∙ ap (λ z. high k +ℤ z) same
          ∙ sym (inverse_odd n low high k) in
          subst (λ r. new r column ≡ inverse_line n low high r) place there
    ]
