-- Which rows of a component's bands are known after some of its rows.
use Rattle.std.proofs.Common.{◌≡◌, ◌⊎◌, ℕ, zero, suc, ◌+◌, ◌-◌, ◌*◌, ◌/◌, ◌^◌, ◌<◌, ◌≤◌, List, [], length, map, get_or, ℤ, pos, Bool, true, false, true≢false, refl, sym, ap, subst, ◌∙◌, arith, inl, inr}
use Rattle.std.specs.Prelude.{if◌then◌else◌, min, nat_eq, nat_lt, Result, Ok, Err, Some, IfOk}
use Rattle.std.proofs.lemmas.Bool.{cases_lt, le-ltb, lt-ltb}
use Rattle.std.proofs.lemmas.List.{ext_get_or}
use Rattle.std.proofs.lemmas.List.FromFn.{length-map-range_with_len, get_or-map-range_with_len}
use Rattle.std.proofs.lemmas.Nat.{mul-le, pow_pos}
use Rattle.std.proofs.Math.Nat.{pow-succ'}
use Rattle.xs_lists.specs.Spelling.{upto}
use Rattle.xs_layout.specs.declared.Format.{Format}
use Rattle.xs_layout.specs.declared.Format.TheVariants.{Mono, C422, C444}
use Rattle.xs_layout.specs.Geometry.{BandType, ll, hl, components_of}
use Rattle.xs_params.specs.declared.header.Header.{Header}
use Rattle.xs_params.specs.Accepted.{IsAccepted}
use Rattle.xs_params.specs.Geometry.{band_component, band_height_of, band_type_of, band_width_of, bands_of, precinct_lines, slice_count}
use Rattle.xs_params.specs.Picture.{Picture, sample_at}
use Rattle.xs_signal.specs.Fold.{fold}
use Rattle.xs_signal.specs.Lines.{Shows, entries_of}
use Rattle.xs_signal.specs.Stripe.{rows_at}
use Rattle.xs_signal.specs.Picture.{analysed, coefficients_of}
use Rattle.xs_signal.specs.Wavelet.{Split, band_plane, bands_of_plane, low_count, high_count, low_count_at}
use Rattle.xs_geometry.specs.SliceLines.{end_line_of}
use Rattle.xs_rate.specs.Coefficients.{rows_of_picture, signal_of}
use Rattle.xs_splitter.specs.Level.{ShowRows, known_rows}
use Rattle.xs_splitter.specs.Chain.{AreChained, HaveAll, HoldBands, HoldPlane, rows_beside, taken_at}
use Rattle.xs_splitter.specs.Chain.{split_of as splitter_split}
use Rattle.xs_splitter.specs.Shown.{ShowBands, hl_rows, lh_rows, hh_rows}
use Rattle.xs_splitter.specs.declared.level.Level.{Level}
use Rattle.xs_splitter.specs.declared.splitter.Splitter.{Splitter}
use Rattle.xs_splitter.proofs.Chains.{given_at, given_count, rows_deep, taken_next}
use Rattle.xs_splitter.proofs.Shown.{bands_shown}
use Rattle.xs_wave.specs.Bands.{band_count, type_at, columns_in, rows_in}
use Rattle.xs_wave.proofs.Splits.{high_columns, low_columns, rows_wide}
use Rattle.xs_wave.proofs.Types.{deep_side, all_counted}
use Rattle.xs_stripe.specs.Joined.{component_split}
use Rattle.xs_picture.specs.Analysed.{IsGiven, IsSplitUp, folded_row, numbers_of, rows_by_type, rows_of_level}
use Rattle.xs_picture.specs.declared.encode.analysis.Component.{Component}
use Rattle.xs_picture.proofs.BandTypes.{at_level, each_type}
use Rattle.xs_picture.proofs.Folded.{each_plane}
use Rattle.xs_enc_lanes.specs.declared.transform.Transform.{Transform}
use Rattle.xs_params.specs.Rows.{Rows}
use Rattle.xs_io.specs.declared.lists.Memory.{Memory}
use Rattle.xs_enc_lanes.specs.Rows.{Carried, Carries, CarriesRows, RowsOf}
use Rattle.xs_enc_lanes.specs.Transformed.{AreFoldedBands, HasReached, IsUnderWay, KnowsSlice, band_rows_of, rows_for}

-- How many rows are enough

-- each level has so many rows of those that lie above a precinct, and so many more as the levels below it take
enough_next : (s : Split) (taken end level : ℕ) → (end + 1) * 2 ^ (s.down - level) - 1 ≤ taken_at s 0 taken level → (end + 1) * 2 ^ (s.down - suc level) - 1 ≤ taken_at s 0 taken (suc level)
enough_next s taken end level before = subst (λ n. (end + 1) * 2 ^ (s.down - suc level) - 1 ≤ n) (sym (taken_next s 0 taken level (omega arith))) (by (cases_lt level s.down))
  where
    t : ℕ
    t = taken_at s 0 taken level

    by : (level < s.down) ⊎ (s.down ≤ level) → (end + 1) * 2 ^ (s.down - suc level) - 1 ≤ (if nat_lt level s.down then known_rows t else t)
    by (inl less) = subst (λ (b : Bool). (end + 1) * 2 ^ (s.down - suc level) - 1 ≤ (if b then known_rows t else t)) (sym (lt-ltb level s.down less)) half
      where
        one : s.down - level ≡ suc (s.down - suc level)
        one = omega (arith, less)

        m : ℕ
        m = 2 ^ (s.down - suc level)

        twice : 2 ^ (s.down - level) ≡ 2 * m
        twice = ap (λ n. 2 ^ n) one ∙ pow-succ' 2 (s.down - suc level)

        half : (end + 1) * m - 1 ≤ (t - 1) / 2
        half =
            let more : (end + 1) * (2 * m) - 1 ≤ t = subst (λ n. (end + 1) * n - 1 ≤ t) twice before in
            let x : ℕ = (end + 1) * m in
            let double : (end + 1) * (2 * m) ≡ 2 * x = omega arith in
            let most : 2 * x - 1 ≤ t = subst (λ n. n - 1 ≤ t) double more in
            omega (arith, most)
    by (inr past) = subst (λ (b : Bool). (end + 1) * 2 ^ (s.down - suc level) - 1 ≤ (if b then known_rows t else t)) (sym (le-ltb level s.down past))
        (let same : s.down - level ≡ s.down - suc level = omega (arith, past) in subst (λ n. (end + 1) * 2 ^ n - 1 ≤ t) same before)

enough : (s : Split) (taken end : ℕ) → (end + 1) * 2 ^ s.down - 1 ≤ taken → (level : ℕ) → (end + 1) * 2 ^ (s.down - level) - 1 ≤ taken_at s 0 taken level
enough s taken end first zero = let none : s.down ≡ s.down - 0 = omega arith in subst (λ n. (end + 1) * 2 ^ n - 1 ≤ taken) none first
enough s taken end first (suc level) = enough_next s taken end level (enough s taken end first level)

lines_known : (s : Split) (taken end : ℕ) → (end + 1) * 2 ^ s.down - 1 ≤ taken → (level : ℕ) → end * 2 ^ (s.down - level) ≤ taken_at s 0 taken level
lines_known s taken end first level =
    let some : 0 < 2 ^ (s.down - level) = pow_pos (s.down - level) in
    let more = enough s taken end first level in
    let x : ℕ = 2 ^ (s.down - level) in
    let next : (end + 1) * x ≡ end * x + x = omega arith in
    let most : end * x + x - 1 ≤ taken_at s 0 taken level = subst (λ n. n - 1 ≤ taken_at s 0 taken level) next more in
    let one : 0 < x = some in
    omega (arith, most, one)

-- The rows of a band

side_at : (c : Splitter) (level : ℕ) (rows : Level → List (List ℤ)) (P : List (List ℤ) → Type 0) → level < length c.levels.items → ((other : Level) → P (rows (get_or c.levels.items level other))) → P (rows_of_level rows c (suc level - 1))
side_at c level rows P inside each = let back : level ≡ suc level - 1 = omega arith in subst (λ k. P (rows_of_level rows c k)) back (at_level c level rows P inside each)

-- those that are kept

module _ (s : Split) (c : Splitter) (from : ℕ) (p : ℕ → ℕ → ℤ) (deep : s.down ≤ s.across) (many : length c.levels.items ≡ s.across) (shown : ShowBands s from p c.levels.items c.low.items) where
  abbrev IsTypeShown : BandType → Type 0
  IsTypeShown type = ShowRows (from * 2 ^ (s.down - type.down)) (columns_in s type) (rows_by_type c type) (band_plane (bands_of_plane s p) type)

  side_shown : (level first width start columns : ℕ) (rows : Level → List (List ℤ)) (band : ℕ → ℕ → ℕ → ℤ) → level < s.across → start ≡ first → columns ≡ width → ((other : Level) → ShowRows first width (rows (get_or c.levels.items level other)) (band (level + 1)))
      → ShowRows start columns (rows_of_level rows c (suc level - 1)) (band (suc level))
  side_shown level first width start columns rows band inside same wide each =
      let one : level + 1 ≡ suc level = omega arith in
      subst (λ k. ShowRows start columns (rows_of_level rows c (suc level - 1)) (band k)) one
      (side_at c level rows (λ r. ShowRows start columns r (band (level + 1))) (omega (arith, inside, many))
      (λ other. subst (λ n. ShowRows n columns (rows (get_or c.levels.items level other)) (band (level + 1))) (sym same) (subst (λ w. ShowRows first w (rows (get_or c.levels.items level other)) (band (level + 1))) (sym wide) (each other))))

  deep_start : (level : ℕ) → level < s.down → from * 2 ^ (s.down - suc level) ≡ rows_beside s level from
  deep_start level less = let e : s.down - suc level ≡ s.down - min (level + 1) s.down = omega (arith, less) in ap (λ n. from * 2 ^ n) e

  deep_shown : (level side : ℕ) → level < s.down → side < 3 → IsTypeShown (deep_side (suc level) side)
  deep_shown level zero less few =
      side_shown level _ (high_count (low_count_at s.width level)) _ _ hl_rows (bands_of_plane s p).hl (omega (arith, less, deep)) (deep_start level less) (high_columns s.width level) (λ other. shown.hl level other (omega (arith, less, deep)))
  deep_shown level (suc zero) less few =
      side_shown level _ (low_count (low_count_at s.width level)) _ _ lh_rows (bands_of_plane s p).lh (omega (arith, less, deep)) (deep_start level less) (low_columns s.width (suc level)) (λ other. shown.lh level other less)
  deep_shown level (suc (suc zero)) less few =
      side_shown level _ (high_count (low_count_at s.width level)) _ _ hh_rows (bands_of_plane s p).hh (omega (arith, less, deep)) (deep_start level less) (high_columns s.width level) (λ other. shown.hh level other less)
  deep_shown level (suc (suc (suc side))) less few = absurd (omega (arith, few))

  wide_shown : (level : ℕ) → s.down ≤ level → level < s.across → IsTypeShown (hl (suc level) s.down)
  wide_shown level past to =
      let e : s.down - s.down ≡ s.down - min (level + 1) s.down = omega (arith, past) in
      side_shown level _ (high_count (low_count_at s.width level)) _ _ hl_rows (bands_of_plane s p).hl to (ap (λ n. from * 2 ^ n) e) (high_columns s.width level) (λ other. shown.hl level other to)

  lowest_shown : IsTypeShown (ll s.across s.down)
  lowest_shown =
      let none : s.down - s.down ≡ 0 = omega arith in
      let one : from * 2 ^ 0 ≡ from = omega arith in
      subst (λ w. ShowRows (from * 2 ^ (s.down - s.down)) w c.low.items (bands_of_plane s p).ll) (sym (low_columns s.width s.across))
      (subst (λ n. ShowRows n (low_count_at s.width s.across) c.low.items (bands_of_plane s p).ll) (sym (ap (λ n. from * 2 ^ n) none ∙ one)) shown.ll)

  pub types_shown : (number : ℕ) → number < band_count s → IsTypeShown (type_at s number)
  types_shown = each_type s IsTypeShown deep lowest_shown wide_shown deep_shown

-- how many there are after some rows

module _ (s : Split) (c : Splitter) (taken end : ℕ) (chain : AreChained s 0 taken c.levels.items c.low.items) (first : (end + 1) * 2 ^ s.down - 1 ≤ taken) where
  abbrev IsTypeKnown : BandType → Type 0
  IsTypeKnown type = end * 2 ^ (s.down - type.down) ≤ length (rows_by_type c type)

  deep : s.down ≤ s.across
  deep = chain.split.deep

  next_known : (level : ℕ) → level < s.down → taken_at s 0 taken (suc level) ≡ known_rows (taken_at s 0 taken level)
  next_known level less = taken_next s 0 taken level (omega arith) ∙ ap (λ (b : Bool). if b then known_rows (taken_at s 0 taken level) else taken_at s 0 taken level) (lt-ltb level s.down less)

  side_known : (level power : ℕ) (rows : Level → List (List ℤ)) → level < s.across → ((other : Level) → end * 2 ^ power ≤ length (rows (get_or c.levels.items level other))) → end * 2 ^ power ≤ length (rows_of_level rows c (suc level - 1))
  side_known level power rows inside each = side_at c level rows (λ r. end * 2 ^ power ≤ length r) (omega (arith, inside, chain.many)) each

  hl_many : (level : ℕ) (other : Level) → level < s.across → end * 2 ^ (s.down - suc level) ≤ length (get_or c.levels.items level other).hl.items
  hl_many level other less =
      let many = given_at s 0 taken level (get_or c.levels.items level other) (omega arith) (chain.each level other (omega arith) less) in
      let least = lines_known s taken end first (suc level) in
      subst (λ n. end * 2 ^ (s.down - suc level) ≤ n) (sym many) least

  lh_many : (level : ℕ) (other : Level) → level < s.down → end * 2 ^ (s.down - suc level) ≤ length (get_or c.levels.items level other).lh.items
  lh_many level other less =
      let at = chain.each level other (omega arith) (omega (arith, less, deep)) in
      let many = at.state.lh (at.deep ∙ lt-ltb level s.down less) ∙ ap known_rows at.taken ∙ sym (next_known level less) in
      subst (λ n. end * 2 ^ (s.down - suc level) ≤ n) (sym many) (lines_known s taken end first (suc level))

  hh_many : (level : ℕ) (other : Level) → level < s.down → end * 2 ^ (s.down - suc level) ≤ length (get_or c.levels.items level other).hh.items
  hh_many level other less =
      let at = chain.each level other (omega arith) (omega (arith, less, deep)) in
      let many = at.state.hh (at.deep ∙ lt-ltb level s.down less) ∙ ap known_rows at.taken ∙ sym (next_known level less) in
      subst (λ n. end * 2 ^ (s.down - suc level) ≤ n) (sym many) (lines_known s taken end first (suc level))

  deep_known : (level side : ℕ) → level < s.down → side < 3 → IsTypeKnown (deep_side (suc level) side)
  deep_known level zero less few = side_known level (s.down - suc level) hl_rows (omega (arith, less, deep)) (λ other. hl_many level other (omega (arith, less, deep)))
  deep_known level (suc zero) less few = side_known level (s.down - suc level) lh_rows (omega (arith, less, deep)) (λ other. lh_many level other less)
  deep_known level (suc (suc zero)) less few = side_known level (s.down - suc level) hh_rows (omega (arith, less, deep)) (λ other. hh_many level other less)
  deep_known level (suc (suc (suc side))) less few = absurd (omega (arith, few))

  wide_known : (level : ℕ) → s.down ≤ level → level < s.across → IsTypeKnown (hl (suc level) s.down)
  wide_known level from to =
      side_known level (s.down - s.down) hl_rows to
      (λ other. let same : s.down - suc level ≡ s.down - s.down = omega (arith, from) in subst (λ n. end * 2 ^ n ≤ length (get_or c.levels.items level other).hl.items) same (hl_many level other to))

  lowest_known : IsTypeKnown (ll s.across s.down)
  lowest_known =
      let same : s.down - s.across ≡ s.down - s.down = omega (arith, deep) in
      subst (λ n. end * 2 ^ n ≤ length c.low.items) same (subst (λ n. end * 2 ^ (s.down - s.across) ≤ n) (sym chain.given) (lines_known s taken end first s.across))

  pub types_known : (number : ℕ) → number < band_count s → IsTypeKnown (type_at s number)
  types_known = each_type s IsTypeKnown deep lowest_known wide_known deep_known

-- and after the last

module _ (s : Split) (c : Splitter) (deep : s.down ≤ s.across) (all : HaveAll s c.levels.items c.low.items) where
  abbrev IsTypeWhole : BandType → Type 0
  IsTypeWhole type = length (rows_by_type c type) ≡ rows_in s type

  side_whole : (level lines : ℕ) (rows : Level → List (List ℤ)) → level < s.across → ((other : Level) → length (rows (get_or c.levels.items level other)) ≡ lines) → length (rows_of_level rows c (suc level - 1)) ≡ lines
  side_whole level lines rows inside each = side_at c level rows (λ r. length r ≡ lines) (omega (arith, inside, all.many)) each

  deep_height : (level : ℕ) (other : Level) → level < s.down → (get_or c.levels.items level other).columns.height ≡ low_count_at s.height level
  deep_height level other less = (all.done level other (omega arith) less).height ∙ rows_deep s level (omega (arith, less))

  deep_whole : (level side : ℕ) → level < s.down → side < 3 → IsTypeWhole (deep_side (suc level) side)
  deep_whole level zero less few =
      side_whole level _ hl_rows (omega (arith, less, deep)) (λ other. (all.done level other (omega arith) less).all.hl ∙ ap low_count (deep_height level other less) ∙ sym (low_columns s.height (suc level)))
  deep_whole level (suc zero) less few =
      side_whole level _ lh_rows (omega (arith, less, deep)) (λ other. (all.done level other (omega arith) less).all.lh ∙ ap high_count (deep_height level other less) ∙ sym (high_columns s.height level))
  deep_whole level (suc (suc zero)) less few =
      side_whole level _ hh_rows (omega (arith, less, deep)) (λ other. (all.done level other (omega arith) less).all.hh ∙ ap high_count (deep_height level other less) ∙ sym (high_columns s.height level))
  deep_whole level (suc (suc (suc side))) less few = absurd (omega (arith, few))

  wide_whole : (level : ℕ) → s.down ≤ level → level < s.across → IsTypeWhole (hl (suc level) s.down)
  wide_whole level from to =
      side_whole level _ hl_rows to
      (λ other.
      given_count s level (rows_at s level) (get_or c.levels.items level other) (all.rest level other from to) ∙ ap (λ (d : Bool). if d then known_rows (rows_at s level) else rows_at s level) (le-ltb level s.down from)
      ∙ rows_wide s level from ∙ sym (low_columns s.height s.down))

  lowest_whole : IsTypeWhole (ll s.across s.down)
  lowest_whole = all.given ∙ rows_wide s s.across deep ∙ sym (low_columns s.height s.down)

  pub types_whole : (number : ℕ) → number < band_count s → IsTypeWhole (type_at s number)
  types_whole = each_type s IsTypeWhole deep lowest_whole wide_whole deep_whole

-- The rows of a slice

-- there are so many rows of a band of a picture's component as a slice hangs on, and its own and those behind them are those of the band
pub record IsBandKnown (h : Header) (picture : Picture) (slice band : ℕ) (rows : List (List ℤ)) : Type 0 where
  pub there : (line : ℕ) → line < end_line_of h slice band → line < length rows
  pub shown : ShowRows (slice * (h.hsl * precinct_lines h band)) (band_width_of h band) rows (band_plane (analysed (signal_of h) (sample_at picture) (band_component h band)) (band_type_of h band))

type_below : (f : Format) (band types : ℕ) → band < types * components_of f → band / components_of f < types
type_below Mono band types inside = omega (arith, inside)
type_below C422 band types inside = omega (arith, inside)
type_below C444 band types inside = omega (arith, inside)

pub number_there : (h : Header) (component band : ℕ) → h.nly ≤ h.nlx → band < bands_of h → band / components_of h.shape.format < band_count (component_split h component)
number_there h component band deep inside =
    let types = type_below h.shape.format band (2 * h.nly + h.nlx + 1) inside in
    omega (arith, types, all_counted (component_split h component) deep)

-- the rows of a list from a later one on
shown_later : (from later width : ℕ) (rows : List (List ℤ)) (q : ℕ → ℕ → ℤ) → from ≤ later → ShowRows from width rows q → ShowRows later width rows q
shown_later from later width rows q less shown = record {
  wide = λ row above inside. shown.wide row (omega (arith, less, above)) inside;
  shown = λ row above inside. shown.shown row (omega (arith, less, above)) inside;
}

module _ (h : Header) (picture : Picture) (kept slice band : ℕ) (c : Splitter) (accepted : IsAccepted h) (inside : band < bands_of h) (early : kept ≤ slice * h.hsl) where
  abbrev s : Split
  s = component_split h (band_component h band)

  abbrev p : ℕ → ℕ → ℤ
  p = numbers_of h picture (band_component h band)

  abbrev number : ℕ
  number = band / components_of h.shape.format

  numbered : number < band_count s
  numbered = number_there h (band_component h band) band (omega (arith, accepted.geometry.nly)) inside

  slice_shown : ShowRows (kept * 2 ^ (s.down - (type_at s number).down)) (columns_in s (type_at s number)) (rows_by_type c (type_at s number)) (band_plane (bands_of_plane s p) (type_at s number))
      → ShowRows (slice * (h.hsl * precinct_lines h band)) (band_width_of h band) (band_rows_of h c band) (band_plane (analysed (signal_of h) (sample_at picture) (band_component h band)) (band_type_of h band))
  slice_shown shown =
      let lines : ℕ = precinct_lines h band in
      let less : kept * lines ≤ slice * h.hsl * lines = mul-le kept lines (slice * h.hsl) lines early (omega arith) in
      let same : slice * h.hsl * lines ≡ slice * (h.hsl * lines) = omega arith in
      shown_later (kept * lines) (slice * (h.hsl * lines)) (band_width_of h band) (band_rows_of h c band) (band_plane (analysed (signal_of h) (sample_at picture) (band_component h band)) (band_type_of h band)) (omega (arith, less, same)) shown

  given_known : (taken : ℕ) → IsGiven h picture (band_component h band) kept taken c → rows_for h slice ≤ taken → IsBandKnown h picture slice band (band_rows_of h c band)
  given_known taken given enough_rows = record {
    there = λ line below.
        let lines : ℕ = precinct_lines h band in
        let least : line < (slice + 1) * (h.hsl * lines) = omega (arith, below) in
        let same : (slice + 1) * (h.hsl * lines) ≡ (slice + 1) * h.hsl * lines = omega arith in
        let many : (slice + 1) * h.hsl * lines ≤ length (band_rows_of h c band) = known in
        omega (arith, least, same, many);
    shown = slice_shown (types_shown s c kept p chain.split.deep chain.many (bands_shown.between s kept p taken c.levels.items c.low.items chain holds) number numbered);
  }
    where
      chain : AreChained s 0 taken c.levels.items c.low.items
      chain = subst (λ t. AreChained t 0 taken c.levels.items c.low.items) given.split (subst (λ n. AreChained (splitter_split c) 0 n c.levels.items c.low.items) given.taken given.chain)

      holds : HoldPlane s 0 kept p c.levels.items c.low.items
      holds = subst (λ t. HoldPlane t 0 kept p c.levels.items c.low.items) given.split given.holds

      known : (slice + 1) * h.hsl * 2 ^ (s.down - (type_at s number).down) ≤ length (rows_by_type c (type_at s number))
      known = types_known s c taken ((slice + 1) * h.hsl) chain enough_rows number numbered

  done_known : IsSplitUp h picture (band_component h band) kept c → IsBandKnown h picture slice band (band_rows_of h c band)
  done_known up = record {
    there = λ line below. let high : length (band_rows_of h c band) ≡ band_height_of h band = types_whole s c deep all number numbered in omega (arith, below, high);
    shown = slice_shown (types_shown s c kept p deep all.many (bands_shown.last s kept p c.levels.items c.low.items deep all holds) number numbered);
  }
    where
      deep : s.down ≤ s.across
      deep = let most : h.nly ≤ h.nlx = omega (arith, accepted.geometry.nly) in most

      all : HaveAll s c.levels.items c.low.items
      all = subst (λ t. HaveAll t c.levels.items c.low.items) up.split up.all

      holds : HoldBands s kept p c.levels.items c.low.items
      holds = subst (λ t. HoldBands t kept p c.levels.items c.low.items) up.split up.holds

pub band_known : (c : Component) (t : Transform) (slice band : ℕ) → IsUnderWay c t → HasReached (rows_for c.header.now slice) t → t.kept ≤ slice * c.header.now.hsl → band < bands_of c.header.now → band_component c.header.now band ≡ c.number
    → IsBandKnown c.header.now c.picture.now slice band (band_rows_of c.header.now t.splitter band)
band_known c t slice band state reached early inside of = by t.done refl
  where
    h : Header
    h = c.header.now

    by : (done : Bool) → t.done ≡ done → IsBandKnown h c.picture.now slice band (band_rows_of h t.splitter band)
    by true is = done_known h c.picture.now t.kept slice band t.splitter state.component.accepted inside early (subst (λ k. IsSplitUp h c.picture.now k t.kept t.splitter) (sym of) (state.split is))
    by false is = given_known h c.picture.now t.kept slice band t.splitter state.component.accepted inside early t.taken (subst (λ k. IsGiven h c.picture.now k t.kept t.taken t.splitter) (sym of) (state.given is))
        (elim reached [ inl yes_done ↦ absurd (true≢false (sym yes_done ∙ is)) | inr enough_rows ↦ enough_rows ])

pub slice_known : (c : Component) (t : Transform) (slice : ℕ) → IsUnderWay c t → HasReached (rows_for c.header.now slice) t → t.kept ≤ slice * c.header.now.hsl → KnowsSlice c.header.now slice c.number t.splitter
slice_known c t slice state reached early band inside of = (band_known c t slice band state reached early inside of).there

-- Coefficients

-- a folded row is that of the picture's coefficients
row_folded : (h : Header) (picture : Picture) (band line : ℕ) (row : List ℤ) → length row ≡ band_width_of h band → Shows row (band_plane (analysed (signal_of h) (sample_at picture) (band_component h band)) (band_type_of h band) line)
    → folded_row h.fq row ≡ map (rows_of_picture h picture band line) (upto (band_width_of h band))
row_folded h picture band line row wide shows = ap (λ n. map f (upto n)) wide ∙ ext_get_or (pos 0) (map f (upto n)) (map g (upto n)) (length-map-range_with_len f 0 n ∙ sym (length-map-range_with_len g 0 n)) same
  where
    n : ℕ
    n = band_width_of h band

    f : ℕ → ℤ
    f column = fold h.fq (entries_of row column)

    g : ℕ → ℤ
    g = rows_of_picture h picture band line

    entry : (k : ℕ) → k < n → f k ≡ g k
    entry k inside =
        ap (fold h.fq) (shows k (omega (arith, inside, wide))) ∙ sym (each_plane (fold h.fq) (analysed (signal_of h) (sample_at picture) (band_component h band)) (band_type_of h band) line k)
        ∙ sym (ap (λ (b : Bool). if b then band_plane (coefficients_of (signal_of h) (sample_at picture) (band_component h band)) (band_type_of h band) line k else pos 0) (lt-ltb k n inside))

    same : (k : ℕ) → k < length (map f (upto n)) → get_or (map f (upto n)) k (pos 0) ≡ get_or (map g (upto n)) k (pos 0)
    same k inside =
        let count = length-map-range_with_len f 0 n in
        let below : k < n = omega (arith, inside, count) in
        get_or-map-range_with_len f 0 n k k (pos 0) below (omega arith) ∙ entry k below ∙ sym (get_or-map-range_with_len g 0 n k k (pos 0) below (omega arith))

pub carries : (c : Component) (t : Transform) (slice : ℕ) (bands : List (List (List ℤ))) (last : Bool) → IsUnderWay c t → HasReached (rows_for c.header.now slice) t → t.kept ≤ slice * c.header.now.hsl → slice < slice_count c.header.now
    → AreFoldedBands c.header.now slice c.number t.splitter bands → last ≡ nat_eq (c.number + 1) (components_of c.header.now.shape.format)
    → Carries c.header.now (rows_of_picture c.header.now c.picture.now) (record { slice = slice; component = c.number; last = last; bands = bands })
carries c t slice bands last state reached early there folded closes = record {
  slice = there;
  component = state.component.there;
  last = closes;
  count = folded.count;
  lines = λ band inside of. (folded.each band inside of).count;
  row = λ band line is of.
      let known = band_known c t slice band state reached early is.band_there of in
      let inside = known.there line is.below in
      let from = is.from in
      let below = is.below in
      let own : slice * (h.hsl * precinct_lines h band) ≤ line = omega (arith, from, below) in
      (folded.each band is.band_there of).each line is ∙ row_folded h c.picture.now band line (get_or (band_rows_of h t.splitter band) line []) (known.shown.wide line own inside) (known.shown.shown line own inside);
}
  where
    h : Header
    h = c.header.now

-- what is made with these rows carries them
pub made_carries : (h : Header) (rows : Rows) (made : Result Carried Memory) (x : RowsOf) → IfOk made (λ v. v ≡ Some x) → Carries h rows x → IfOk made (CarriesRows h rows)
made_carries h rows (Ok v) x is carry = subst (CarriesRows h rows) (sym is) carry
made_carries h rows (Err why) x is carry = tt
