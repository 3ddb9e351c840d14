use Rattle.std.proofs.Common.{◌≡◌, ◌<◌, ℕ, ℤ, [], List, length, get_or, ap, sym, subst, ◌∙◌, arith}
use Rattle.xs_params.specs.Geometry.{band_type_of}
use Rattle.xs_geometry.specs.SliceLines.{end_line_of, first_line_of}
use Rattle.xs_geometry.specs.Sides.{type_of}
use Rattle.xs_picture.specs.Analysed.{folded_row, rows_by_type}
use Rattle.xs_enc_lanes.specs.Transformed.{band_rows_of}
use Rattle.xs_enc_lanes.proofs.Folding.{AreRowsTo, rows_all, rows_more, rows_none}
use Rattle.xs_enc_lanes.proofs.transform.folded_band.Goals as goal

pub lines-init : goal.lines-init
lines-init c =
    let h = c.args.header.now in
    let f : ℕ → List ℤ = λ k. folded_row c.args.header.now.fq (get_or (band_rows_of c.args.header.now c.args.splitter.now c.args.place.1) k []) in
    let first : ℕ = first_line_of h c.args.place.0 c.args.place.1 in
    subst (λ n. AreRowsTo f first n c.new-rows.result) (sym c.slice_lines-first.ensures.first) (rows_none f first c.new-rows.result c.new-rows.ensures)

pub band_row-numbers-requires-clause-line : goal.band_row-numbers-requires-clause-line
band_row-numbers-requires-clause-line c =
    let type : type_of c.kind-kind.result ≡ band_type_of c.args.header.now c.args.place.1 = c.kind-kind.ensures.band_type ∙ ap (λ g. band_type_of g c.args.place.1) c.of.ensures in
    let below : c.lines.line < end_line_of c.args.header.now c.args.place.0 c.args.place.1 = omega (arith, c.lines-test.true, c.lines.auto.line-end, c.slice_lines-first.ensures.end) in
    subst (λ t. c.lines.line < length (rows_by_type c.args.splitter.now t)) (sym type) (c.requires.known c.lines.line below)

pub lines-preserved : goal.lines-preserved
lines-preserved c =
    let h = c.args.header.now in
    let f : ℕ → List ℤ = λ k. folded_row c.args.header.now.fq (get_or (band_rows_of c.args.header.now c.args.splitter.now c.args.place.1) k []) in
    let type : type_of c.kind-kind.result ≡ band_type_of h c.args.place.1 = c.kind-kind.ensures.band_type ∙ ap (λ g. band_type_of g c.args.place.1) c.of.ensures in
    let is : c.in_ok-row.row ≡ f c.lines.line =
    c.in_ok-row.ensures ∙ ap (folded_row c.args.header.now.fq) (c.band_row-numbers.ensures ∙ ap (λ t. get_or (rows_by_type c.args.splitter.now t) c.lines.line []) type) in
    rows_more f (first_line_of h c.args.place.0 c.args.place.1) c.lines.line c.lines.rows c.push.new.self c.in_ok-row.row is c.in_ok-push.ensures c.lines.invariant

pub returns : goal.returns
returns c =
    let h = c.args.header.now in
    let end : c.lines.line ≡ end_line_of h c.args.place.0 c.args.place.1 = omega (arith, c.lines-test.false, c.lines.auto.line-end, c.lines.auto.line, c.slice_lines-first.ensures.end, c.slice_lines-first.ensures.order) in
    rows_all h c.args.place.0 c.args.place.1 c.args.splitter.now c.lines.line c.lines.rows end c.lines.invariant
