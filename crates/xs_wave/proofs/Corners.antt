-- The rows that a part of a plane makes.
use Rattle.std.proofs.Common.{◌≡◌, ◌<◌, ◌≤◌, ◌*◌, ℕ, ℤ, pos, List, [], map, length, min, refl, get_or, sym, ap, ◌∙◌, arith, inl, inr}
use Rattle.std.specs.List.{range_with_len}
use Rattle.std.proofs.lemmas.Bool.{cases_lt}
use Rattle.std.proofs.lemmas.List.{get_or_past, ext_get_or}
use Rattle.std.proofs.lemmas.List.FromFn.{get_or-map-range_with_len, length-map-range_with_len}
use Rattle.xs_signal.specs.Lines.{entries_of}
use Rattle.xs_wave.specs.Within.{SameWithin}
use Rattle.xs_wave.specs.Planes.{plane_of, HasSize, IsSmall}
use Rattle.xs_wave.specs.Corners.{drawn, part_at, rows_by, BelowWithin, IsRoomy, SameShape}
use Rattle.xs_signal.specs.Wavelet.{Split, low_count_at}
use Rattle.xs_wave.proofs.Small.{zero_below}
use Rattle.xs_wave.proofs.Values.{below_same}

abbrev row_of : ℕ → (ℕ → ℕ → ℤ) → ℕ → List ℤ
row_of width p row = map (λ column. p row column) (range_with_len 0 width)

drawn_row : (width height : ℕ) (p : ℕ → ℕ → ℤ) (row : ℕ) → row < height → get_or (drawn width height p) row [] ≡ row_of width p row
drawn_row width height p row inside = get_or-map-range_with_len (row_of width p) 0 height row row [] inside (omega arith)

length_row_of : (width : ℕ) (p : ℕ → ℕ → ℤ) (row : ℕ) → length (row_of width p row) ≡ width
length_row_of width p row = length-map-range_with_len (λ column. p row column) 0 width

pub drawn_size : (width height : ℕ) (p : ℕ → ℕ → ℤ) → HasSize width height (drawn width height p)
drawn_size width height p =
    let many : length (drawn width height p) ≡ height = length-map-range_with_len (row_of width p) 0 height in
    record {
      wide = λ row inside. ap length (drawn_row width height p row (omega (arith, inside, many))) ∙ length_row_of width p row;
      high = many;
    }

pub drawn_same : (width height : ℕ) (p : ℕ → ℕ → ℤ) → SameWithin width height (plane_of (drawn width height p)) p
drawn_same width height p row column inside within =
    ap (λ r. entries_of r column) (drawn_row width height p row inside) ∙ get_or-map-range_with_len (λ k. p row k) 0 width column column (pos 0) within (omega arith)

pub drawn_small : (bound width height : ℕ) (p : ℕ → ℕ → ℤ) → 0 < bound → BelowWithin bound width height p → IsSmall bound (drawn width height p)
drawn_small bound width height p some small row column =
    let rows = drawn width height p in
    let size = drawn_size width height p in
    elim (cases_lt row height) [
      | inl inside ↦ elim (cases_lt column width) [
        | inl within ↦ below_same bound _ _ (drawn_same width height p row column inside within) (small row inside column within)
        | inr past ↦
            let wide : length (get_or rows row []) ≡ width = size.wide row (omega (arith, inside, size.high)) in
            zero_below bound _ some (get_or_past (get_or rows row []) column (pos 0) (omega (arith, wide, past)))
      ]
      | inr past ↦ zero_below bound _ some (ap (λ r. entries_of r column) (get_or_past rows row [] (omega (arith, past, size.high))) ∙ get_or_past [] column (pos 0) (omega arith))
    ]

pub drawn_below : (bound width height : ℕ) (p : ℕ → ℕ → ℤ) → IsSmall bound (drawn width height p) → BelowWithin bound width height p
drawn_below bound width height p small row inside column within = below_same bound _ _ (sym (drawn_same width height p row column inside within)) (small row column)

-- rows of this size are those that they show
pub drawn_is : (width height : ℕ) (p : ℕ → ℕ → ℤ) (rows : List (List ℤ)) → HasSize width height rows → SameWithin width height (plane_of rows) p → rows ≡ drawn width height p
drawn_is width height p rows size same =
    let drawn_rows = drawn width height p in
    let all = drawn_size width height p in
    ext_get_or [] rows drawn_rows (size.high ∙ sym all.high)
    (λ row below.
    let inside : row < height = omega (arith, below, size.high) in
    let wide : length (get_or rows row []) ≡ width = size.wide row below in
    let wide_there : length (get_or drawn_rows row []) ≡ width = all.wide row (omega (arith, inside, all.high)) in
    ext_get_or (pos 0) (get_or rows row []) (get_or drawn_rows row []) (wide ∙ sym wide_there)
    (λ column less.
    let within : column < width = omega (arith, less, wide) in
    same row column inside within ∙ sym (drawn_same width height p row column inside within)))

-- ---- sizes

pub room_of : (width height part rest : ℕ) (rows : List (List ℤ)) → HasSize width height rows → part ≤ width → rest ≤ height → IsRoomy part rest rows
room_of width height part rest rows size most few = record {
  high = omega (arith, size.high, few);
  wide = λ row inside. omega (arith, size.wide row inside, most);
}

pub size_kept : (width height : ℕ) (old new : List (List ℤ)) → SameShape old new → HasSize width height old → HasSize width height new
size_kept width height old new shape size = record {
  wide = λ row inside. shape.widths row ∙ size.wide row (omega (arith, inside, shape.many));
  high = shape.many ∙ size.high;
}

pub rows_by_one : (width height : ℕ) (p : ℕ → ℕ → ℤ) → SameWithin width height (rows_by 1 p) p
rows_by_one width height p row column inside within = let same : 1 * row ≡ row = omega arith in ap (λ k. p k column) same

-- the part before the first level is the whole plane
pub whole_part : (s : Split) (rows : List (List ℤ)) → HasSize s.width s.height rows → rows ≡ part_at s 0 rows
whole_part s rows size =
    let none : min 0 s.down ≡ 0 = omega arith in
    drawn_is s.width s.height (plane_of rows) rows size (λ row column inside within. refl) ∙ ap (λ h. drawn s.width h (plane_of rows)) (sym (ap (low_count_at s.height) none))
