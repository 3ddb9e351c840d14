-- The rows that a stripe knows: those of its slice, and those of the edges beside it.
use Rattle.std.specs.Prelude.{ℕ, ◌+◌, ◌-◌, nat_lt, if◌then◌else◌, List, [], length, slice_index_or, ℤ, Option, None, Some}
use Rattle.std.specs.Borrow.{Bor}
use Rattle.xs_geometry.specs.SliceLines.{BandLines, lines_at}
use Rattle.xs_stripe.specs.Edges.{edge_row}
use Rattle.xs_stripe.specs.declared.edges.Edge.{Edge}

-- the row of a band in an edge, without numbers where there is none
abbrev pub row_in : Option (Bor Edge) → ℕ → List ℤ
row_in None band = []
row_in (Some edge) band = edge_row edge.now band

-- above the first line of the slice stands the row of the edge above, below the last that of the edge below
abbrev pub near_row : Option (Bor Edge) → BandLines → Option (Bor Edge) → ℕ → ℕ → List ℤ
near_row above lines below band line =
    if nat_lt line lines.first then (if nat_lt (line + 1) lines.first then [] else row_in above band)
    else if nat_lt line (lines.first + length lines.rows) then slice_index_or lines.rows (line - lines.first) []
    else if nat_lt (lines.first + length lines.rows) line then [] else row_in below band

abbrev pub near_rows : Option (Bor Edge) → List BandLines → Option (Bor Edge) → ℕ → ℕ → List ℤ
near_rows above body below band line = if nat_lt band (length body) then near_row above (lines_at body band) below band line else []
