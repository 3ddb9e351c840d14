-- The coefficients of two slices.
use Rattle.std.proofs.Common.{◌≡◌, ℕ, ◌<◌, ◌≤◌, List, pos, length, map, sym, ap, ◌∙◌, arith}
use Rattle.std.specs.Prelude.{nat_lt, if◌then◌else◌}
use Rattle.std.proofs.lemmas.List.{ext_get_or}
use Rattle.std.proofs.lemmas.List.FromFn.{get_or-map-range_with_len, length-map-range_with_len}
use Rattle.std.proofs.lemmas.Bool.{lt-ltb, le-ltb}
use Rattle.xs_params.specs.declared.header.Header.{Header}
use Rattle.xs_params.specs.Geometry.{band_width_of, bands_of}
use Rattle.xs_lists.specs.Spelling.{upto}
use Rattle.xs_geometry.specs.SliceLines.{AreLinesOf, BandLines, HasLine, ShowRows, first_line_of, row_at, rows_held}
use Rattle.xs_rate.specs.Coefficients.{Rows}

-- above the first line of the second slice those of the first, and those of the second from it on
abbrev pub rows_of_both : Header → List BandLines → List BandLines → Rows
rows_of_both h first second band line column = if nat_lt line (first_line_of h 1 band) then rows_held first band line column else rows_held second band line column

-- a row by its entries
row_drawn : (h : Header) (slice : ℕ) (bands : List BandLines) (rows : Rows) → AreLinesOf h slice bands → (band line : ℕ) → HasLine bands band line
    → ((column : ℕ) → rows band line column ≡ rows_held bands band line column) → row_at bands band line ≡ map (rows band line) (upto (band_width_of h band))
row_drawn h slice bands rows are band line has same =
    let width = band_width_of h band in
    let wide : length (row_at bands band line) ≡ width = are.width band line has in
    ext_get_or (pos 0) (row_at bands band line) (map (rows band line) (upto width)) (wide ∙ sym (length-map-range_with_len (rows band line) 0 width))
    (λ column inside. sym (get_or-map-range_with_len (rows band line) 0 width column column (pos 0) (omega (arith, inside, wide)) (omega arith) ∙ same column))

pub first_shown : (h : Header) (first second : List BandLines) → AreLinesOf h 0 first → ShowRows h (rows_of_both h first second) first
first_shown h first second are band line has =
    let there : band < bands_of h = omega (arith, has.band_there, are.count) in
    let above : line < first_line_of h 1 band = omega (arith, has.line_there, are.first band there, are.lines band there) in
    row_drawn h 0 first (rows_of_both h first second) are band line has
    (λ column. ap (λ b. if b then rows_held first band line column else rows_held second band line column) (lt-ltb line (first_line_of h 1 band) above))

pub second_shown : (h : Header) (first second : List BandLines) → AreLinesOf h 1 second → ShowRows h (rows_of_both h first second) second
second_shown h first second are band line has =
    let there : band < bands_of h = omega (arith, has.band_there, are.count) in
    let below : first_line_of h 1 band ≤ line = omega (arith, has.from, are.first band there) in
    row_drawn h 1 second (rows_of_both h first second) are band line has
    (λ column. ap (λ b. if b then rows_held first band line column else rows_held second band line column) (le-ltb line (first_line_of h 1 band) below))
