use Rattle.std.proofs.Common.{◌≡◌, ℕ, ◌+◌, ◌-◌, ◌/◌, ◌<◌, ◌≤◌, inl, inr, ap, subst, ◌∙◌, arith}
use Rattle.std.proofs.lemmas.Bool.{cases_lt}
use Rattle.xs_layout.specs.Geometry.{components_of}
use Rattle.xs_params.specs.Rows.{Rows}
use Rattle.xs_geometry.specs.SliceLines.{end_line_of, first_line_of}
use Rattle.xs_enc_lanes.specs.Rows.{IsSliceLine, row_of_component}
use Rattle.xs_enc_lanes.specs.Placed.{CarriesIn, IsOfBand}
use Rattle.xs_enc_lanes.proofs.Putting.{carries_row, line_there, put_more, put_none, put_weaker}
use Rattle.xs_enc_lanes.proofs.put.put_band.Goals as goal

pub lines-init : goal.lines-init
lines-init c =
    let h = c.args.got.now.header.now in
    let slice = c.args.got.now.slice in
    let band = c.args.band in
    put_none h slice (CarriesIn h slice c.args.got.now.value.now) c.args.rows.now (λ (b l : ℕ). (b ≡ band) × (l < c.lines-first.result.0)) c.requires.lines c.requires.small
    (λ b l is d.
    let from : first_line_of h slice band ≤ l = subst (λ k. first_line_of h slice k ≤ l) d.0 is.from in
    let first = c.lines-first.ensures.first ∙ c.requires.lines.first band c.requires.band in
    let below = d.1 in
    absurd (omega (arith, from, first, below)))

pub put_row-requires : goal.put_row-requires
put_row-requires c =
    let h = c.args.got.now.header.now in
    let slice = c.args.got.now.slice in
    let band = c.args.band in
    let first = c.lines-first.ensures.first ∙ c.requires.lines.first band c.requires.band in
    let from : first_line_of h slice band ≤ c.lines.line = omega (arith, first, c.lines.auto.line) in
    let below : c.lines.line < end_line_of h slice band = omega (arith, c.lines-test.true, c.lines.auto.line-end, c.lines-first.ensures.first, c.lines-first.ensures.end, c.requires.lines.first band c.requires.band, c.requires.lines.lines band c.requires.band) in
    record { there = line_there h slice c.lines.rows band c.lines.line c.lines.invariant.lines (record { band_there = c.requires.band; from = from; below = below }) }

pub lines-preserved : goal.lines-preserved
lines-preserved c =
    let h = c.args.got.now.header.now in
    let slice = c.args.got.now.slice in
    let v = c.args.got.now.value.now in
    let band = c.args.band in
    let line = c.lines.line in
    let first = c.lines-first.ensures.first ∙ c.requires.lines.first band c.requires.band in
    let from : first_line_of h slice band ≤ line = omega (arith, first, c.lines.auto.line) in
    let below : line < end_line_of h slice band = omega (arith, c.lines-test.true, c.lines.auto.line-end, c.lines-first.ensures.first, c.lines-first.ensures.end, c.requires.lines.first band c.requires.band, c.requires.lines.lines band c.requires.band) in
    let is : IsSliceLine h slice band line = record { band_there = c.requires.band; from = from; below = below } in
    let number : c.components.result ≡ components_of h.shape.format = c.components.ensures.count in
    let row_is : c.row-row.result.now ≡ row_of_component v (band / components_of h.shape.format) (line - first_line_of h slice band) =
    c.row-row.ensures.row ∙ ap (λ n. row_of_component v (band / n) (line - c.lines-first.result.0)) number ∙ ap (λ n. row_of_component v (band / components_of h.shape.format) (line - n)) first in
    put_more h slice band line (CarriesIn h slice v) c.args.rows.now c.lines.rows c.put_row.new.rows c.row-row.result.now (λ (b l : ℕ). (b ≡ band) × (l < line)) (λ (b l : ℕ). (b ≡ band) × (l < line + 1)) c.lines.invariant
    (line_there h slice c.lines.rows band line c.lines.invariant.lines is) c.row-row.ensures.small c.put_row.ensures (λ (rows : Rows) carries. row_is ∙ carries_row h slice v rows band line carries is c.requires.of)
    (λ b l at d. elim (cases_lt l line) [ inl less ↦ inl (d.0, less) | inr past ↦ inr (d.0, (let more = d.1 in omega (arith, past, more))) ])

pub returns : goal.returns
returns c =
    let h = c.args.got.now.header.now in
    let slice = c.args.got.now.slice in
    let band = c.args.band in
    put_weaker h slice (CarriesIn h slice c.args.got.now.value.now) c.args.rows.now c.lines.rows (λ (b l : ℕ). (b ≡ band) × (l < c.lines.line)) (IsOfBand band)
    (λ b l is d.
    let below : l < end_line_of h slice band = subst (λ k. l < end_line_of h slice k) d is.below in
    (d, omega (arith, below, c.lines-test.false, c.lines.auto.line-end, c.lines-first.ensures.first, c.lines-first.ensures.end, c.requires.lines.first band c.requires.band, c.requires.lines.lines band c.requires.band))) c.lines.invariant
