use Rattle.std.proofs.Common.{◌≡◌, ◌+◌, ◌*◌, ◌/◌, ◌%◌, ◌^◌, ◌<◌, arith, ap, subst, sym, refl, ◌∙◌, inl, inr}
use Rattle.std.proofs.lemmas.Bool.{cases_eq}
use Rattle.xs_signal.specs.Lines.{IsBelow, column_of, entries_of}
use Rattle.xs_signal.specs.Wavelet.{low_count, inverse_line}
use Rattle.xs_wave.specs.Planes.{plane_of}
use Rattle.xs_wave.specs.Corners.{drawn, even_rows, odd_rows}
use Rattle.xs_wave.proofs.Corners.{drawn_same, drawn_below}
use Rattle.xs_wave.proofs.Joins.{inverse_below}
use Rattle.xs_wave.proofs.Shown.{below_more}
use Rattle.xs_wave.proofs.Values.{below_same}
use Rattle.xs_wave.proofs.WithinLaws.{inverse_within}
use Rattle.xs_wave.proofs.synthesis.join_part.Goals as goal

pub join_rows-requires-clause-small : goal.join_rows-requires-clause-small
join_rows-requires-clause-small c row less column within =
    below_more (2 ^ 48) (2 ^ 50) _ (omega arith) (drawn_below (2 ^ 48) (low_count c.args.width) (low_count c.args.height) (plane_of c.args.plane.now) c.requires.small row less column within)

pub join_columns-requires-clause-small : goal.join_columns-requires-clause-small
join_columns-requires-clause-small c row inside column within =
    let w = c.args.width in
    let h = c.args.height in
    let p = plane_of c.args.plane.now in
    let part = plane_of (drawn (low_count w) (low_count h) p) in
    let hl = plane_of c.args.hl.now in
    let lh = plane_of c.args.lh.now in
    let hh = plane_of c.args.hh.now in
    let new = plane_of c.join_odd_rows.new.plane in
    let k = row / 2 in
    elim (cases_eq (row % 2) 0) [
      | inl e ↦
          let place : 2 * k ≡ row = omega (arith, e) in
          let low : k < low_count h = omega (arith, place, inside) in
          let value = ap (λ r. entries_of r column) (c.join_odd_rows.ensures.even k) ∙ c.join_rows.ensures.joined k column low within
          ∙ inverse_within w (p k) (part k) (hl k) (hl k) c.requires.two_columns (λ j less. sym (drawn_same (low_count w) (low_count h) p k j low less)) (λ j less. refl) column within in
          let small = below_more (5 * 2 ^ 47) (2 ^ 50) _ (omega arith) (inverse_below (2 ^ 47) w (part k) (hl k) (λ j. c.requires.small k j) (λ j. c.requires.small_hl k j) column) in
          subst (λ r. IsBelow (2 ^ 50) (new r column)) place (below_same (2 ^ 50) _ _ value small)
      | inr ne ↦
          let place : 2 * k + 1 ≡ row = omega (arith, ne) in
          let value = c.join_odd_rows.ensures.odd k column (omega (arith, place, inside)) within in
          let small = below_more (5 * 2 ^ 47) (2 ^ 50) _ (omega arith) (inverse_below (2 ^ 47) w (lh k) (hh k) (λ j. c.requires.small_lh k j) (λ j. c.requires.small_hh k j) column) in
          subst (λ r. IsBelow (2 ^ 50) (new r column)) place (below_same (2 ^ 50) _ _ value small)
    ]

pub returns-clause-joined : goal.returns-clause-joined
returns-clause-joined c row column inside within =
    let w = c.args.width in
    let h = c.args.height in
    let p = plane_of c.args.plane.now in
    let hl = plane_of c.args.hl.now in
    let lh = plane_of c.args.lh.now in
    let hh = plane_of c.args.hh.now in
    let q = plane_of c.join_odd_rows.new.plane in
    c.join_columns.ensures.joined row column inside within
    ∙ inverse_within h (column_of (even_rows q) column) (λ k. inverse_line w (p k) (hl k) column) (column_of (odd_rows q) column) (λ k. inverse_line w (lh k) (hh k) column) c.requires.two_rows
    (λ k less. ap (λ r. entries_of r column) (c.join_odd_rows.ensures.even k) ∙ c.join_rows.ensures.joined k column less within) (λ k less. c.join_odd_rows.ensures.odd k column less within) row inside
