-- The rows of a slice are folded from the rows of the bands.
use Rattle.std.proofs.Common.{◌≡◌, ◌≢◌, ◌↔◌, ℕ, ◌+◌, ◌-◌, ◌*◌, ◌/◌, ◌%◌, ◌^◌, ◌<◌, ◌≤◌, ℤ, pos, List, [], length, map, get_or, refl, sym, ap, subst, ◌∙◌, arith, inl, inr, Bool, true, false}
use Rattle.std.specs.Prelude.{◌⊎◌, nat_lt, if◌then◌else◌, unsigned_abs}
use Rattle.std.proofs.lemmas.Bool.{cases_eq, cases_lt, ltb-true, ltb-false}
use Rattle.std.proofs.lemmas.List.{get_or_past}
use Rattle.std.proofs.lemmas.List.FromFn.{length-map-range_with_len, get_or-map-range_with_len}
use Rattle.xs_lists.specs.Spelling.{upto}
use Rattle.xs_layout.specs.declared.Format.{Format}
use Rattle.xs_layout.specs.declared.Format.TheVariants.{Mono, C422, C444}
use Rattle.xs_layout.specs.Geometry.{BandType, components_of}
use Rattle.xs_params.specs.declared.header.Header.{Header}
use Rattle.xs_params.specs.Accepted.{IsAccepted}
use Rattle.xs_params.specs.Picture.{Picture, sample_at}
use Rattle.xs_params.specs.Geometry.{bands_of, band_component, band_type_of, band_width_of, band_height_of}
use Rattle.xs_signal.specs.Fold.{fold}
use Rattle.xs_signal.specs.Lines.{entries_of}
use Rattle.xs_signal.specs.Picture.{analysed, coefficients_of, each_entry}
use Rattle.xs_signal.specs.Wavelet.{Bands, band_plane}
use Rattle.xs_signal.proofs.Magnitudes.{fold_fits}
use Rattle.xs_geometry.specs.SliceLines.{BandLines, AreLinesOf, HasLine, ShowRows, lines_at, row_at, rows_held}
use Rattle.xs_geometry.specs.Laws.{IsWritten}
use Rattle.xs_geometry.specs.Written.{with_row}
use Rattle.xs_geometry.proofs.WrittenRows.{row_written, lines_kept}
use Rattle.xs_geometry.proofs.PacketLines.{slice_has_lines}
use Rattle.xs_rate.specs.Coefficients.{rows_of_picture, signal_of}
use Rattle.xs_rate.specs.Laws.{AreSmall}
use Rattle.xs_wave.specs.Planes.{plane_of, HasSize}
use Rattle.xs_wave.specs.Bands.{band_count}
use Rattle.xs_wave.proofs.Types.{all_counted}
use Rattle.xs_splitter.specs.declared.splitter.Splitter.{Splitter}
use Rattle.xs_stripe.specs.Joined.{component_split}
use Rattle.xs_picture.specs.Analysed.{AreBandsOf, ArePictureRows, IsBandFolded, folded_row, folded_rows, plane_of_band}
use Rattle.xs_picture.specs.Local.{SameInSlice}

-- ---- bands

-- a band is that of its type and its component
component_below : (f : Format) (band : ℕ) → band % components_of f < components_of f
component_below Mono band = omega arith
component_below C422 band = omega arith
component_below C444 band = omega arith

type_below : (f : Format) (band types : ℕ) → band < types * components_of f → band / components_of f < types
type_below Mono band types inside = omega (arith, inside)
type_below C422 band types inside = omega (arith, inside)
type_below C444 band types inside = omega (arith, inside)

pub component_there : (h : Header) (band : ℕ) → band_component h band < components_of h.shape.format
component_there h band = component_below h.shape.format band

-- a band of numbers that were each changed has each number changed
pub each_plane : (f : ℤ → ℤ) (b : Bands) (type : BandType) (row column : ℕ) → band_plane (each_entry f b) type row column ≡ f (band_plane b type row column)
each_plane f b type row column = cases type.high_down type.high_across
  where
    cases : (down across : Bool)
        → (if down then (if across then (each_entry f b).hh type.across else (each_entry f b).lh type.across) else (if across then (each_entry f b).hl type.across else (each_entry f b).ll)) row column
        ≡ f ((if down then (if across then b.hh type.across else b.lh type.across) else (if across then b.hl type.across else b.ll)) row column)
    cases true true = refl
    cases true false = refl
    cases false true = refl
    cases false false = refl

number_there : (h : Header) (band : ℕ) → h.nly ≤ h.nlx → band < bands_of h → band / components_of h.shape.format < band_count (component_split h (band_component h band))
number_there h band deep inside =
    let types = type_below h.shape.format band (2 * h.nly + h.nlx + 1) inside in
    omega (arith, types, all_counted (component_split h (band_component h band)) deep)

-- the rows of a band have its size
pub plane_sized : (h : Header) (bands : List Splitter) (band : ℕ) → h.nly ≤ h.nlx → band < bands_of h → ArePictureRows h bands
    → HasSize (band_width_of h band) (band_height_of h band) (plane_of_band h bands band)
plane_sized h bands band deep inside are = are.each (band_component h band) (component_there h band) (band / components_of h.shape.format) (number_there h band deep inside)

-- ---- lines

-- the first lines of a band are folded
pub record IsFoldedTo (fraction : ℕ) (plane : List (List ℤ)) (band : ℕ) (old : List BandLines) (end : ℕ) (new : List BandLines) : Type 0 where
  pub lines : (h : Header) (slice : ℕ) → AreLinesOf h slice old → AreLinesOf h slice new
  pub same : (other line : ℕ) → HasLine new other line ↔ HasLine old other line
  pub folded : (line : ℕ) → line < end → HasLine old band line → row_at new band line ≡ folded_row fraction (get_or plane line [])
  pub later : (line : ℕ) → end ≤ line → HasLine old band line → row_at new band line ≡ row_at old band line
  pub others : (other line : ℕ) → other ≢ band → HasLine old other line → row_at new other line ≡ row_at old other line

pub folded_more : (fraction : ℕ) (plane : List (List ℤ)) (band : ℕ) (old : List BandLines) (at : ℕ) (rows next : List BandLines) → HasLine old band at → length (get_or plane at []) ≡ length (row_at rows band at)
    → next ≡ with_row rows band at (folded_row fraction (get_or plane at [])) → IsFoldedTo fraction plane band old at rows → IsFoldedTo fraction plane band old (at + 1) next
folded_more fraction plane band old at rows next there wide more before = subst (IsFoldedTo fraction plane band old (at + 1)) (sym more) (record {
  lines = λ h slice are. lines_kept h slice rows band at row (before.lines h slice are) here whole;
  same = λ other line. ((λ has. (before.same other line).0 ((written.same_lines other line).0 has)), (λ has. (written.same_lines other line).1 ((before.same other line).1 has)));
  folded = λ line less has.
      elim (cases_eq line at) [
        | inl is ↦ subst (λ k. row_at (with_row rows band at row) band k ≡ folded_row fraction (get_or plane k [])) (sym is) written.here
        | inr apart ↦ written.elsewhere band line ((before.same band line).1 has) (inr apart) ∙ before.folded line (omega (arith, less, apart)) has
      ];
  later = λ line above has. written.elsewhere band line ((before.same band line).1 has) (inr (λ e. omega (arith, e, above))) ∙ before.later line (omega (arith, above)) has;
  others = λ other line apart has. written.elsewhere other line ((before.same other line).1 has) (inl apart) ∙ before.others other line apart has;
})
  where
    row : List ℤ
    row = folded_row fraction (get_or plane at [])

    here : HasLine rows band at
    here = (before.same band at).1 there

    whole : length row ≡ length (row_at rows band at)
    whole = length-map-range_with_len (λ column. fold fraction (entries_of (get_or plane at []) column)) 0 (length (get_or plane at [])) ∙ wide

    written : IsWritten rows band at row
    written = row_written rows band at row here

-- ---- slices

-- the rows of the first bands are folded
pub record ShowBandsTo (h : Header) (bands : List Splitter) (slice end : ℕ) (rows : List BandLines) : Type 0 where
  pub lines : AreLinesOf h slice rows
  pub shown : (band line : ℕ) → band < end → HasLine rows band line → row_at rows band line ≡ map (folded_rows h bands band line) (upto (band_width_of h band))

-- a line of a slice's band is one of its rows, and as wide
pub line_inside : (h : Header) (bands : List Splitter) (slice : ℕ) (rows : List BandLines) (band line : ℕ) → 1 ≤ h.hsl → h.nly ≤ h.nlx → ArePictureRows h bands → AreLinesOf h slice rows → HasLine rows band line
    → (line < length (plane_of_band h bands band)) × (length (get_or (plane_of_band h bands band) line []) ≡ length (row_at rows band line))
line_inside h bands slice rows band line some deep are lines has =
    let there = (slice_has_lines h slice rows band line some lines).0 has in
    let size = plane_sized h bands band deep there.0 are in
    let inside : line < length (plane_of_band h bands band) = omega (arith, there.1, size.high) in
    (inside, size.wide line inside ∙ sym (lines.width band line has))

pub rows_more : (h : Header) (bands : List Splitter) (slice band : ℕ) (plane : List (List ℤ)) (rows next : List BandLines) → 1 ≤ h.hsl → h.nly ≤ h.nlx → ArePictureRows h bands
    → plane ≡ plane_of_band h bands band → IsBandFolded h.fq plane band rows next → ShowBandsTo h bands slice band rows → ShowBandsTo h bands slice (band + 1) next
rows_more h bands slice band plane rows next some deep are is folded before = record {
  lines = folded.lines h slice before.lines;
  shown = λ b line less has. by_band b line less ((folded.same b line).0 has);
}
  where
    by_band : (b line : ℕ) → b < band + 1 → HasLine rows b line → row_at next b line ≡ map (folded_rows h bands b line) (upto (band_width_of h b))
    by_band b line less has =
        elim (cases_eq b band) [
          | inl same ↦ subst (λ k. row_at next k line ≡ map (folded_rows h bands k line) (upto (band_width_of h k))) (sym same) (this line (subst (λ k. HasLine rows k line) same has))
          | inr apart ↦ folded.others b line apart has ∙ before.shown b line (omega (arith, less, apart)) has
        ]
      where
        this : (line : ℕ) → HasLine rows band line → row_at next band line ≡ map (folded_rows h bands band line) (upto (band_width_of h band))
        this line has =
            let wide = (line_inside h bands slice rows band line some deep are before.lines has).1 ∙ before.lines.width band line has in
            folded.folded line has ∙ ap (λ p. folded_row h.fq (get_or p line [])) is
            ∙ ap (λ n. map (folded_rows h bands band line) (upto n)) wide

-- ---- the rows of a picture

-- the entries of a row are the picture's
entry_is : (h : Header) (picture : Picture) (bands : List Splitter) (band line column : ℕ) → h.nly ≤ h.nlx → AreBandsOf h picture bands → band < bands_of h → line < band_height_of h band → column < band_width_of h band
    → folded_rows h bands band line column ≡ band_plane (coefficients_of (signal_of h) (sample_at picture) (band_component h band)) (band_type_of h band) line column
entry_is h picture bands band line column deep are inside above within =
    ap (fold h.fq) ((are.each (band_component h band) (component_there h band)).shown (band / components_of h.shape.format) (number_there h band deep inside) line column above within)
    ∙ sym (each_plane (fold h.fq) (analysed (signal_of h) (sample_at picture) (band_component h band)) (band_type_of h band) line column)

-- the rows of a slice are those of the picture
pub slice_shown : (h : Header) (picture : Picture) (bands : List Splitter) (slice : ℕ) (rows : List BandLines) → IsAccepted h → AreBandsOf h picture bands → AreLinesOf h slice rows
    → ShowRows h (folded_rows h bands) rows → SameInSlice h slice (rows_held rows) (rows_of_picture h picture)
slice_shown h picture bands slice rows accepted are lines shown band line inside above here = λ i column. entry column i
  where
    deep : h.nly ≤ h.nlx
    deep = omega (arith, accepted.geometry.nly)

    row_is : row_at rows band line ≡ map (folded_rows h bands band line) (upto (band_width_of h band))
    row_is = shown band line ((slice_has_lines h slice rows band line accepted.geometry.hsl lines).1 (inside, above, here))

    entry : (column : ℕ) → rows_held rows band line column ≡ rows_of_picture h picture band line column
    entry column = ap (λ r. get_or r column (pos 0)) row_is ∙ by_place (nat_lt column (band_width_of h band)) refl
      where
        by_place : (test : Bool) → nat_lt column (band_width_of h band) ≡ test → get_or (map (folded_rows h bands band line) (upto (band_width_of h band))) column (pos 0)
            ≡ (if test then band_plane (coefficients_of (signal_of h) (sample_at picture) (band_component h band)) (band_type_of h band) line column else pos 0)
        by_place true is =
            let within = ltb-true column (band_width_of h band) is in
            get_or-map-range_with_len (folded_rows h bands band line) 0 (band_width_of h band) column column (pos 0) within (omega arith) ∙ entry_is h picture bands band line column deep are inside above within
        by_place false is =
            let past = ltb-false column (band_width_of h band) is in
            get_or_past (map (folded_rows h bands band line) (upto (band_width_of h band))) column (pos 0) (omega (arith, past, length-map-range_with_len (folded_rows h bands band line) 0 (band_width_of h band)))

-- folded rows are small
pub rows_small_held : (h : Header) (bands : List Splitter) (rows : List BandLines) → ShowRows h (folded_rows h bands) rows → AreSmall (rows_held rows)
rows_small_held h bands rows shown band line column = by_band (cases_lt band (length rows))
  where
    Small : List ℤ → Type 0
    Small row = unsigned_abs (get_or row column (pos 0)) < 2 ^ 15

    zero : (row : List ℤ) → length row ≤ column → Small row
    zero row past = subst (λ z. unsigned_abs z < 2 ^ 15) (sym (get_or_past row column (pos 0) past)) (omega arith)

    one : (k line : ℕ) → HasLine rows k line → Small (row_at rows k line)
    one k line has = subst Small (sym (shown k line has)) (by_column (cases_lt column (band_width_of h k)))
      where
        by_column : (column < band_width_of h k) ⊎ (band_width_of h k ≤ column) → Small (map (folded_rows h bands k line) (upto (band_width_of h k)))
        by_column (inl within) =
            subst (λ z. unsigned_abs z < 2 ^ 15) (sym (get_or-map-range_with_len (folded_rows h bands k line) 0 (band_width_of h k) column column (pos 0) within (omega arith)))
            (omega (arith, fold_fits h.fq (plane_of (plane_of_band h bands k) line column)))
        by_column (inr past) = zero (map (folded_rows h bands k line) (upto (band_width_of h k))) (omega (arith, past, length-map-range_with_len (folded_rows h bands k line) 0 (band_width_of h k)))

    by_band : (band < length rows) ⊎ (length rows ≤ band) → Small (row_at rows band line)
    by_band (inr past) =
        let none : lines_at rows band ≡ record { first = 0; rows = [] } = get_or_past rows band _ past in
        subst Small (sym (ap (λ (l : BandLines). get_or l.rows (line - l.first) []) none ∙ get_or_past [] line [] (omega arith))) (zero [] (omega arith))
    by_band (inl inside) = by_line (cases_lt (line - (lines_at rows band).first) (length (lines_at rows band).rows))
      where
        first : ℕ
        first = (lines_at rows band).first

        by_line : (line - (lines_at rows band).first < length (lines_at rows band).rows) ⊎ (length (lines_at rows band).rows ≤ line - (lines_at rows band).first) → Small (row_at rows band line)
        by_line (inr past) = subst Small (sym (get_or_past (lines_at rows band).rows (line - first) [] past)) (zero [] (omega arith))
        by_line (inl there) =
            let back : first + (line - first) - first ≡ line - first = omega arith in
            subst (λ k. Small (get_or (lines_at rows band).rows k [])) back (one band (first + (line - first)) (record { band_there = inside; from = omega arith; line_there = omega (arith, there) }))
