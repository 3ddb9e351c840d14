-- A picture that grew with its slices is that of their rows.
use Rattle.std.proofs.Common.{◌≡◌, ℕ, ◌+◌, ◌*◌, ◌/◌, ◌^◌, ◌<◌, ◌≤◌, List, [], ◌∷◌, ◌++◌, map, drop, length, get_or, refl, sym, ap, subst, ◌∙◌, arith, inl, inr}
use Rattle.std.specs.Prelude.{ℤ, pos, Option, None, Some, IfSome, min, ◌⊎◌}
use Rattle.std.specs.Borrow.{Bor}
use Rattle.std.specs.Option.{option_copied}
use Rattle.std.proofs.Math.Nat.{div-lt_iff_lt-mul, le-div_iff_mul-le, mul-le-mul_right, mul_comm}
use Rattle.std.proofs.Math.Seq.{get_or-append_seam}
use Rattle.std.proofs.lemmas.Bool.{cases_lt}
use Rattle.std.proofs.lemmas.Nat.{pow_pos}
use Rattle.std.proofs.lemmas.List.{ext_get_or, get_or_append_left}
use Rattle.std.proofs.lemmas.List.FromFn.{get_or-map-range_with_len, length-map-range_with_len}
use Rattle.xs_lists.specs.Spelling.{upto}
use Rattle.xs_layout.specs.declared.Shape.{Shape}
use Rattle.xs_params.specs.declared.header.Header.{Header}
use Rattle.xs_params.specs.Accepted.{IsAccepted}
use Rattle.xs_params.specs.Geometry.{band_height_of, band_width_of, precinct_count, slice_count}
use Rattle.xs_params.specs.Markers.{eoc}
use Rattle.xs_params.specs.Picture.{IsPicture, IsPlace, Picture, sample_at}
use Rattle.xs_params.specs.Rows.{Rows}
use Rattle.xs_signal.specs.Lines.{entries_of}
use Rattle.xs_geometry.specs.SliceLines.{AreLinesOf, BandLines, HasLine, ShowRows, lines_at, row_at, slice_height}
use Rattle.xs_markers.specs.Read.{IsHeaderRead}
use Rattle.xs_decoding.specs.Decoded.{IsPictureOf}
use Rattle.xs_stripe.specs.declared.stripe.Stripe.{Stripe}
use Rattle.xs_stripe.specs.Edges.{EdgeRows, ShowsUp}
use Rattle.xs_stripe.specs.Stripe.{IsStripeOf, line_of}
use Rattle.xs_stripe.specs.Written.{HasLinesOf}
use Rattle.xs_slice_read.specs.Read.{IsFrontRead}
use Rattle.xs_picture.specs.declared.decode.stripes.GrowingPicture.{GrowingPicture}
use Rattle.xs_picture.specs.declared.decode.stripes.Waiting.{Waiting}
use Rattle.xs_picture.specs.Coefs.{Coefs, rows_of_slices}
use Rattle.xs_picture.specs.Growing.{AreLinesBefore, HoldsRows, HoldsSlice, IsGrowing, IsGrownOf, IsWaiting, ShowEach, next_slice}
use Rattle.xs_picture.specs.StreamRead.{IsPictureRead, eoc_fault}
use Rattle.xs_picture.proofs.Coverage.{ceil_covers, lines_some}
use Rattle.xs_picture.proofs.SlicesRead.{more_read, none_read}
use Rattle.xs_picture.proofs.StreamsRead.{picture_read, stream_read}

-- Lines

-- no line stands before the first slice
pub no_lines_before : (h : Header) (rows : Rows) (picture : Picture) → AreLinesBefore h rows picture (line_of h (0 * h.hsl))
no_lines_before h rows picture component row column place less = absurd (none (2 ^ h.nly) h.hsl h.shape.height row less)
  where
    none : (unit hsl height row : ℕ) → row < min (unit * (0 * hsl)) height → ⊥
    none unit hsl height row less = let zero : unit * (0 * hsl) ≡ 0 = omega arith in omega (arith, less, zero)

-- the lines of a stripe are written behind those of the slices before
pub lines_more : (h : Header) (rows : Rows) (slice : ℕ) (stripe : Stripe) (old new : Picture) → old.shape ≡ h.shape → new.shape ≡ old.shape → IsStripeOf h slice stripe rows → AreLinesBefore h rows old (line_of h (slice * h.hsl)) → HasLinesOf new stripe
    → ((component line column : ℕ) → IsPlace old.shape component line column → (line < stripe.first) ⊎ (stripe.end ≤ line) → sample_at new component line column ≡ sample_at old component line column)
    → AreLinesBefore h rows new (line_of h ((slice + 1) * h.hsl))
lines_more h rows slice stripe old new shape same is before has others component row column place less =
    elim (cases_lt row stripe.first) [
      | inl early ↦ others component row column there (inl early) ∙ before component row column place (subst (λ n. row < n) is.first_is early)
      | inr late ↦
          let line = is.lines component row place.row_there.component_there late inside in
          sym (has component row column (subst (λ (s : Shape). IsPlace s component row column) (sym same) there) late inside) ∙ line.samples column (subst (λ n. column < n) (sym line.wide) place.column_there)
    ]
  where
    there : IsPlace old.shape component row column
    there = subst (λ (s : Shape). IsPlace s component row column) (sym shape) place

    inside : row < stripe.end
    inside = subst (λ n. row < n) (sym is.end_is) less

-- all lines stand before the end of the last slice
line_before_end : (h : Header) (row : ℕ) → IsAccepted h → row < h.shape.height → row < line_of h (slice_count h * h.hsl)
line_before_end h row accepted less =
    let unit : 1 ≤ 2 ^ h.nly = pow_pos h.nly in
    let lines : h.shape.height ≤ precinct_count h * 2 ^ h.nly = ceil_covers h.shape.height (2 ^ h.nly) unit in
    let precincts : precinct_count h * 2 ^ h.nly ≤ slice_count h * h.hsl * 2 ^ h.nly = mul-le-mul_right (2 ^ h.nly) (ceil_covers (precinct_count h) h.hsl accepted.geometry.hsl) in
    let turned : 2 ^ h.nly * (slice_count h * h.hsl) ≡ slice_count h * h.hsl * 2 ^ h.nly = mul_comm (2 ^ h.nly) (slice_count h * h.hsl) in
    omega (arith, less, lines, precincts, turned)

pub picture_whole : (h : Header) (rows : Rows) (picture : Picture) → IsAccepted h → IsPicture picture → picture.shape ≡ h.shape → AreLinesBefore h rows picture (line_of h (slice_count h * h.hsl)) → IsPictureOf h rows picture
picture_whole h rows picture accepted whole shape lines = record {
  whole = whole;
  shape = shape;
  samples = λ component row column place. lines component row column place (line_before_end h row accepted place.row_there.row_there);
}

-- Rows

-- a row is its entries
row_of_entries : (row : List ℤ) → map (entries_of row) (upto (length row)) ≡ row
row_of_entries row = ext_get_or (pos 0) (map (entries_of row) (upto (length row))) row (length-map-range_with_len (entries_of row) 0 (length row)) each
  where
    each : (k : ℕ) → k < length (map (entries_of row) (upto (length row))) → get_or (map (entries_of row) (upto (length row))) k (pos 0) ≡ get_or row k (pos 0)
    each k below =
        let inside : k < length row = omega (arith, below, length-map-range_with_len (entries_of row) 0 (length row)) in
        let here : 0 + k ≡ k = omega arith in
        get_or-map-range_with_len (entries_of row) 0 (length row) k k (pos 0) inside here

-- the slice of a line
slice_of_line : (h : Header) (slice : ℕ) (rows : List BandLines) (band line : ℕ) → IsAccepted h → AreLinesOf h slice rows → HasLine rows band line → line / slice_height h band ≡ slice
slice_of_line h slice rows band line accepted lines has =
    let inside = subst (λ n. band < n) lines.count has.band_there in
    found (slice_height h band) (band_height_of h band) (lines_at rows band).first (length (lines_at rows band).rows) (lines_some h band accepted) (lines.first band inside) (lines.lines band inside) has.from has.line_there
  where
    found : (height all first count : ℕ) → 0 < height → first ≡ min (slice * height) all → min (slice * height) all + count ≡ min ((slice + 1) * height) all → first ≤ line → line < first + count → line / height ≡ slice
    found height all first count some begins ends from to =
        let low : slice * height ≤ line = omega (arith, begins, ends, from, to) in
        let high : line < (slice + 1) * height = omega (arith, begins, ends, to) in
        let least : slice ≤ line / height = (le-div_iff_mul-le some).1 low in
        let most : line / height < slice + 1 = (div-lt_iff_lt-mul some).1 high in
        omega (arith, least, most)

-- the rows of slices are theirs
each_shown : (h : Header) (count : ℕ) (slices : List (List BandLines)) → IsAccepted h → ((slice : ℕ) → slice < count → AreLinesOf h slice (get_or slices slice [])) → ShowEach h (rows_of_slices h slices) count slices
each_shown h count slices accepted lines slice there band line has =
    let rows = get_or slices slice [] in
    let row = row_at rows band line in
    let wide : length row ≡ band_width_of h band = (lines slice there).width band line has in
    let here = slice_of_line h slice rows band line accepted (lines slice there) has in
    sym (row_of_entries row) ∙ ap (λ n. map (entries_of row) (upto n)) wide ∙ ap (λ k. map (λ column. entries_of (row_at (get_or slices k []) band line) column) (upto (band_width_of h band))) (sym here)

-- The slice that waits

-- what holds of an edge holds of the one that is lent
pub lent_edge : (P : EdgeRows → Type 0) (lent : Option (Bor EdgeRows)) (edge : Option EdgeRows) → option_copied lent ≡ edge → IfSome edge P → IfSome lent (λ e. P e.now)
lent_edge P None edge same p = tt
lent_edge P (Some e) edge same p = subst (λ x. IfSome x P) (sym same) p

module _ (growing : GrowingPicture) (w : Waiting) (last : Some w ≡ growing.waiting) where
  pub next_of : w.slice + 1 ≡ next_slice growing.waiting
  next_of = ap next_slice last

  pub waits : IsGrowing growing → IsWaiting growing.header w
  waits state = subst (λ o. IfSome o (IsWaiting growing.header)) (sym last) state.waiting

  pub holds_last : (rows : Rows) → HoldsRows rows growing → HoldsSlice growing.header rows growing.picture w
  holds_last rows holds = subst (λ o. IfSome o (HoldsSlice growing.header rows growing.picture)) (sym last) holds

  -- what the slice after it hands it
  pub up_of : (rows : Rows) (below : Option (Bor EdgeRows)) → IfSome below (λ edge. ShowsUp growing.header (next_slice growing.waiting) edge.now rows) → IfSome below (λ edge. ShowsUp growing.header (w.slice + 1) edge.now rows)
  up_of rows below up = subst (λ n. IfSome below (λ edge. ShowsUp growing.header n edge.now rows)) (sym next_of) up

  -- its lines are made
  pub lines_made : (rows : Rows) (stripe : Stripe) (new : Picture) → IsGrowing growing → HoldsRows rows growing → IsStripeOf growing.header w.slice stripe rows → new.shape ≡ growing.picture.shape → HasLinesOf new stripe
      → ((component line column : ℕ) → IsPlace growing.picture.shape component line column → (line < stripe.first) ⊎ (stripe.end ≤ line) → sample_at new component line column ≡ sample_at growing.picture component line column)
      → AreLinesBefore growing.header rows new (line_of growing.header (next_slice growing.waiting * growing.header.hsl))
  lines_made rows stripe new state holds is same has others =
      subst (λ n. AreLinesBefore growing.header rows new (line_of growing.header (n * growing.header.hsl))) next_of
      (lines_more growing.header rows w.slice stripe growing.picture new state.shape same is (holds_last rows holds).lines has others)

-- Slices

pub none_grown : (h : Header) (bytes : List ℕ) (start : ℕ) (growing : GrowingPicture) → ((rows : Rows) → HoldsRows rows growing) → IsGrownOf h bytes start 0 growing start
none_grown h bytes start growing holds = record { slices = []; read = none_read h bytes start [] refl; holds = λ rows each. holds rows }

module _ {h : Header} {bytes : List ℕ} {start slice place : ℕ} {growing : GrowingPicture} (so : IsGrownOf h bytes start slice growing place) (body : List BandLines) where
  last_slice : get_or (so.slices ++ body ∷ []) slice [] ≡ body
  last_slice = ap (λ k. get_or (so.slices ++ body ∷ []) k []) (sym so.read.number) ∙ get_or-append_seam so.slices body [] []

  kept_slice : (k : ℕ) → k < slice → get_or (so.slices ++ body ∷ []) k [] ≡ get_or so.slices k []
  kept_slice k less = let there : k < length so.slices = omega (arith, less, so.read.number) in get_or_append_left so.slices (body ∷ []) [] k there

pub more_grown : (h : Header) (bytes : List ℕ) (start slice : ℕ) (old new : GrowingPicture) (body : List BandLines) (place n : ℕ) → IsAccepted h → IsGrownOf h bytes start slice old place → IsFrontRead h slice body (drop place bytes) n
    → ((rows : Rows) → HoldsRows rows old → ShowRows h rows body → HoldsRows rows new) → IsGrownOf h bytes start (slice + 1) new (place + n)
more_grown h bytes start slice old new body place n accepted so read more = record {
  slices = so.slices ++ body ∷ [];
  read = more_read h bytes start slice so.slices body place n accepted so.read read;
  holds = λ rows each.
      more rows (so.holds rows (λ k less. subst (ShowRows h rows) (kept_slice so body k less) (each k (omega (arith, less))))) (subst (ShowRows h rows) (last_slice so body) (each slice (omega arith)));
}

-- there are coefficients that the first slices and the next one have
pub held_with : (h : Header) (bytes : List ℕ) (start slice : ℕ) (growing : GrowingPicture) (body : List BandLines) (place n : ℕ) → IsAccepted h → IsGrownOf h bytes start slice growing place → IsFrontRead h slice body (drop place bytes) n
    → (rows : Rows) × HoldsRows rows growing × ShowRows h rows body
held_with h bytes start slice growing body place n accepted so read = (rows, so.holds rows (λ k less. subst (ShowRows h rows) (kept_slice so body k less) (each k (omega (arith, less)))), subst (ShowRows h rows) (last_slice so body) (each slice (omega arith)))
  where
    rows : Rows
    rows = rows_of_slices h (so.slices ++ body ∷ [])

    each : ShowEach h rows (slice + 1) (so.slices ++ body ∷ [])
    each = each_shown h (slice + 1) (so.slices ++ body ∷ []) accepted (more_read h bytes start slice so.slices body place n accepted so.read read).lines

-- there are coefficients that all slices have
pub held_all : (h : Header) (bytes : List ℕ) (start : ℕ) (growing : GrowingPicture) (place : ℕ) → IsAccepted h → IsGrownOf h bytes start (slice_count h) growing place → (rows : Rows) × HoldsRows rows growing
held_all h bytes start growing place accepted so =
    let rows : Rows = rows_of_slices h so.slices in
    (rows, so.holds rows (each_shown h (slice_count h) so.slices accepted so.read.lines))

-- the picture that grew of all slices
pub grown_read : (h : Header) (bytes : List ℕ) (start place end : ℕ) (growing : GrowingPicture) (picture : Picture) → IsHeaderRead h bytes start → end ≤ length bytes → IsGrownOf h bytes start (slice_count h) growing place → eoc_fault bytes place ≡ None
    → drop place bytes ≡ eoc ++ drop end bytes → end ≡ place + 2 → (h.lcod ≡ 0) ⊎ (h.lcod ≡ end) → ((rows : Rows) → HoldsRows rows growing → IsPictureOf h rows picture) → IsPictureRead picture bytes end
grown_read h bytes start place end growing picture head enough so none ended next stated made =
    picture_read coefs bytes end picture (stream_read coefs bytes start place end head enough so.read none ended next stated)
    (made (rows_of_slices h so.slices) (so.holds (rows_of_slices h so.slices) (each_shown h (slice_count h) so.slices head.spelled.0.1.accepted so.read.lines)))
  where
    coefs : Coefs
    coefs = record { header = h; slices = so.slices }
