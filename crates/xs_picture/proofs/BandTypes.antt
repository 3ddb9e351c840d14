-- What holds of each type of band holds of each band of a component: so a splitter has the rows of each band.
use Rattle.std.proofs.Common.{◌≡◌, ℕ, zero, suc, ◌+◌, ◌-◌, ◌/◌, ◌%◌, ◌<◌, ◌≤◌, List, [], ◌∷◌, length, map, get_or, ℤ, true, false, ap, sym, subst, ◌∙◌, arith, inl, inr, refl}
use Rattle.std.specs.Prelude.{if◌then◌else◌}
use Rattle.std.proofs.lemmas.Bool.{cases_lt, le-ltb}
use Rattle.std.proofs.lemmas.List.{get_or-map, get_or_past, length-map}
use Rattle.xs_layout.specs.Geometry.{BandType, ll, hl, components_of}
use Rattle.xs_params.specs.declared.header.Header.{Header}
use Rattle.xs_params.specs.Picture.{Picture}
use Rattle.xs_params.specs.Accepted.{IsAccepted}
use Rattle.xs_signal.specs.Wavelet.{Split, Bands, band_plane, bands_of_plane, low_count, high_count, low_count_at}
use Rattle.xs_signal.specs.Stripe.{rows_at}
use Rattle.xs_splitter.specs.Level.{ShowRows, known_rows}
use Rattle.xs_splitter.specs.Chain.{HaveAll, HoldBands, rows_beside}
use Rattle.xs_splitter.specs.Shown.{ShowBands, KnowsRow, IsRow, hl_rows, lh_rows, hh_rows}
use Rattle.xs_splitter.specs.declared.level.Level.{Level}
use Rattle.xs_splitter.specs.declared.splitter.Splitter.{Splitter}
use Rattle.xs_splitter.proofs.Chains.{given_count}
use Rattle.xs_splitter.proofs.Shown.{bands_shown}
use Rattle.xs_wave.specs.Within.{SameWithin}
use Rattle.xs_wave.specs.Planes.{plane_of, HasSize}
use Rattle.xs_wave.specs.Bands.{IsComponent, band_count, first_number, type_at, columns_in, rows_in}
use Rattle.xs_wave.proofs.Splits.{high_columns, low_columns, rows_wide}
use Rattle.xs_wave.proofs.Types.{deep_side, all_counted, first_type, first_wide, first_deep, wide_type, deep_type}
use Rattle.xs_wave.proofs.WithinLaws.{rows_deep}
use Rattle.xs_decoding.proofs.Within.{accepted_component}
use Rattle.xs_stripe.specs.Joined.{component_split}
use Rattle.xs_picture.specs.Analysed.{AreComponentBandsOf, IsSplitUp, numbers_of, rows_by_type, rows_of_level}

-- a type is the lowest, or of a level that is split across only, or one of three of a level that is split both ways
pub each_type : (s : Split) (P : BandType → Type 0) → s.down ≤ s.across → P (ll s.across s.down) → ((level : ℕ) → s.down ≤ level → level < s.across → P (hl (suc level) s.down))
    → ((level side : ℕ) → level < s.down → side < 3 → P (deep_side (suc level) side)) → (number : ℕ) → number < band_count s → P (type_at s number)
each_type s P deep low wide sides zero inside = subst P (sym (first_type s)) low
each_type s P deep low wide sides (suc before) inside =
    let all = all_counted s deep in
    elim (cases_lt before (s.across - s.down)) [
      | inl less ↦
          let level = s.across - suc before in
          let from : s.down ≤ level = omega (arith, less) in
          let to : level < s.across = omega (arith, less) in
          let here : first_number s (suc level) ≡ suc before = omega (arith, first_wide s (suc level) (omega (arith, less)), less) in
          subst (λ k. P (type_at s k)) here (subst P (sym (wide_type s level from to)) (wide level from to))
      | inr past ↦
          let rest = before - (s.across - s.down) in
          let level = s.down - suc (rest / 3) in
          let side = rest % 3 in
          let less : level < s.down = omega (arith, inside, all, past) in
          let few : side < 3 = omega arith in
          let here : first_number s (suc level) + side ≡ suc before = omega (arith, first_deep s (suc level) (omega (arith, less)), inside, all, past, deep) in
          subst (λ k. P (type_at s k)) here (subst P (sym (deep_type s level side deep less few)) (sides level side less few))
    ]

-- ---- the rows of a level

one_there : (levels : List Level) (level : ℕ) (P : Type 0) → level < length levels → ((other : Level) → P) → P
one_there [] level P inside f = absurd (omega (arith, inside))
one_there (l ∷ levels) level P inside f = f l

-- what holds of a level's rows, whatever a level is that is not there
pub at_level : (c : Splitter) (level : ℕ) (rows : Level → List (List ℤ)) (P : List (List ℤ) → Type 0) → level < length c.levels.items → ((other : Level) → P (rows (get_or c.levels.items level other))) → P (rows_of_level rows c level)
at_level c level rows P inside each =
    one_there c.levels.items level (P (rows_of_level rows c level)) inside (λ other. subst P (sym (get_or-map rows c.levels.items level other [] inside)) (each other))

pub level_there : (c : Splitter) (level line : ℕ) (rows : Level → List (List ℤ)) → line < length (rows_of_level rows c level) → level < length c.levels.items
level_there c level line rows inside =
    elim (cases_lt level (length c.levels.items)) [
      | inl less ↦ less
      | inr past ↦
          let none : rows_of_level rows c level ≡ [] = get_or_past (map rows c.levels.items) level [] (omega (arith, past, length-map c.levels.items rows)) in
          let empty : length (rows_of_level rows c level) ≡ 0 = ap length none in
          absurd (omega (arith, empty, inside))
    ]

pub row_known : (c : Splitter) (level line : ℕ) (rows : Level → List (List ℤ)) → line < length (rows_of_level rows c level) → KnowsRow rows c level line
row_known c level line rows inside other = subst (λ r. line < length r) (get_or-map rows c.levels.items level other [] (level_there c level line rows inside)) inside

pub row_is : (c : Splitter) (level line : ℕ) (rows : Level → List (List ℤ)) (numbers : List ℤ) → line < length (rows_of_level rows c level) → IsRow rows c level line numbers → numbers ≡ get_or (rows_of_level rows c level) line []
row_is c level line rows numbers inside is = at_level c level rows (λ r. numbers ≡ get_or r line []) (level_there c level line rows inside) is

-- the rows of a type by its sides
pub low_of_type : (c : Splitter) (t : BandType) → t.high_down ≡ false → t.high_across ≡ false → rows_by_type c t ≡ c.low.items
low_of_type c t down across =
    ap (λ d. if d then (if t.high_across then rows_of_level hh_rows c (t.down - 1) else rows_of_level lh_rows c (t.down - 1)) else (if t.high_across then rows_of_level hl_rows c (t.across - 1) else c.low.items)) down
    ∙ ap (λ a. if a then rows_of_level hl_rows c (t.across - 1) else c.low.items) across

pub hl_of_type : (c : Splitter) (t : BandType) → t.high_down ≡ false → t.high_across ≡ true → rows_by_type c t ≡ rows_of_level hl_rows c (t.across - 1)
hl_of_type c t down across =
    ap (λ d. if d then (if t.high_across then rows_of_level hh_rows c (t.down - 1) else rows_of_level lh_rows c (t.down - 1)) else (if t.high_across then rows_of_level hl_rows c (t.across - 1) else c.low.items)) down
    ∙ ap (λ a. if a then rows_of_level hl_rows c (t.across - 1) else c.low.items) across

pub lh_of_type : (c : Splitter) (t : BandType) → t.high_down ≡ true → t.high_across ≡ false → rows_by_type c t ≡ rows_of_level lh_rows c (t.down - 1)
lh_of_type c t down across =
    ap (λ d. if d then (if t.high_across then rows_of_level hh_rows c (t.down - 1) else rows_of_level lh_rows c (t.down - 1)) else (if t.high_across then rows_of_level hl_rows c (t.across - 1) else c.low.items)) down
    ∙ ap (λ a. if a then rows_of_level hh_rows c (t.down - 1) else rows_of_level lh_rows c (t.down - 1)) across

pub hh_of_type : (c : Splitter) (t : BandType) → t.high_down ≡ true → t.high_across ≡ true → rows_by_type c t ≡ rows_of_level hh_rows c (t.down - 1)
hh_of_type c t down across =
    ap (λ d. if d then (if t.high_across then rows_of_level hh_rows c (t.down - 1) else rows_of_level lh_rows c (t.down - 1)) else (if t.high_across then rows_of_level hl_rows c (t.across - 1) else c.low.items)) down
    ∙ ap (λ a. if a then rows_of_level hh_rows c (t.down - 1) else rows_of_level lh_rows c (t.down - 1)) across

-- ---- the rows of a band

abbrev IsHeld : ℕ → ℕ → List (List ℤ) → (ℕ → ℕ → ℤ) → Type 0
IsHeld columns lines rows p = HasSize columns lines rows × SameWithin columns lines (plane_of rows) p

band_held : (from width height columns lines : ℕ) (rows : List (List ℤ)) (p : ℕ → ℕ → ℤ) → from ≡ 0 → columns ≡ width → lines ≡ height → length rows ≡ height → ShowRows from width rows p → IsHeld columns lines rows p
band_held from width height columns lines rows p all wide high many shown = (sized, same)
  where
    sized : HasSize columns lines rows
    sized = record { wide = λ row inside. shown.wide row (omega (arith, all)) inside ∙ sym wide; high = many ∙ sym high }

    same : SameWithin columns lines (plane_of rows) p
    same row column above within =
        let there : row < length rows = omega (arith, above, high, many) in
        let width_here = shown.wide row (omega (arith, all)) there in
        shown.shown row (omega (arith, all)) there column (omega (arith, within, wide, width_here))

side_held : (c : Splitter) (from level width height columns lines : ℕ) (rows : Level → List (List ℤ)) (band : ℕ → ℕ → ℕ → ℤ) → from ≡ 0 → level < length c.levels.items → columns ≡ width → lines ≡ height → ((other : Level) → length (rows (get_or c.levels.items level other)) ≡ height)
    → ((other : Level) → ShowRows from width (rows (get_or c.levels.items level other)) (band (level + 1))) → IsHeld columns lines (rows_of_level rows c (suc level - 1)) (band (suc level))
side_held c from level width height columns lines rows band all inside wide high many shown =
    let back : level ≡ suc level - 1 = omega arith in
    let one : level + 1 ≡ suc level = omega arith in
    subst (λ k. IsHeld columns lines (rows_of_level rows c k) (band (suc level))) back
    (subst (λ k. IsHeld columns lines (rows_of_level rows c level) (band k)) one
    (at_level c level rows (λ r. IsHeld columns lines r (band (level + 1))) inside (λ other. band_held from width height columns lines (rows (get_or c.levels.items level other)) (band (level + 1)) all wide high (many other) (shown other))))

abbrev IsTypeHeld : Split → Splitter → Bands → BandType → Type 0
IsTypeHeld s c b type = IsHeld (columns_in s type) (rows_in s type) (rows_by_type c type) (band_plane b type)

deep_held : (s : Split) (c : Splitter) (p : ℕ → ℕ → ℤ) → s.down ≤ s.across → HaveAll s c.levels.items c.low.items → ShowBands s 0 p c.levels.items c.low.items → (level side : ℕ) → level < s.down → side < 3
    → IsTypeHeld s c (bands_of_plane s p) (deep_side (suc level) side)
deep_held s c p deep all shown level zero less few =
    side_held c (rows_beside s level 0) level (high_count (low_count_at s.width level)) (low_count_at s.height (suc level)) _ _ hl_rows (bands_of_plane s p).hl (omega arith) (omega (arith, less, deep, all.many)) (high_columns s.width level) (low_columns s.height (suc level))
    (λ other. let d = all.done level other (omega arith) less in d.all.hl ∙ ap low_count (d.height ∙ rows_deep s level (omega (arith, less)))) (λ other. shown.hl level other (omega (arith, less, deep)))
deep_held s c p deep all shown level (suc zero) less few =
    side_held c (rows_beside s level 0) level (low_count (low_count_at s.width level)) (high_count (low_count_at s.height level)) _ _ lh_rows (bands_of_plane s p).lh (omega arith) (omega (arith, less, deep, all.many)) (low_columns s.width (suc level)) (high_columns s.height level)
    (λ other. let d = all.done level other (omega arith) less in d.all.lh ∙ ap high_count (d.height ∙ rows_deep s level (omega (arith, less)))) (λ other. shown.lh level other less)
deep_held s c p deep all shown level (suc (suc zero)) less few =
    side_held c (rows_beside s level 0) level (high_count (low_count_at s.width level)) (high_count (low_count_at s.height level)) _ _ hh_rows (bands_of_plane s p).hh (omega arith) (omega (arith, less, deep, all.many)) (high_columns s.width level) (high_columns s.height level)
    (λ other. let d = all.done level other (omega arith) less in d.all.hh ∙ ap high_count (d.height ∙ rows_deep s level (omega (arith, less)))) (λ other. shown.hh level other less)
deep_held s c p deep all shown level (suc (suc (suc side))) less few = absurd (omega (arith, few))

wide_held : (s : Split) (c : Splitter) (p : ℕ → ℕ → ℤ) → HaveAll s c.levels.items c.low.items → ShowBands s 0 p c.levels.items c.low.items → (level : ℕ) → s.down ≤ level → level < s.across → IsTypeHeld s c (bands_of_plane s p) (hl (suc level) s.down)
wide_held s c p all shown level from to =
    side_held c (rows_beside s level 0) level (high_count (low_count_at s.width level)) (rows_at s level) _ _ hl_rows (bands_of_plane s p).hl (omega arith) (omega (arith, to, all.many)) (high_columns s.width level) (low_columns s.height s.down ∙ sym (rows_wide s level from))
    (λ other. given_count s level (rows_at s level) (get_or c.levels.items level other) (all.rest level other from to) ∙ ap (λ d. if d then known_rows (rows_at s level) else rows_at s level) (le-ltb level s.down from))
    (λ other. shown.hl level other to)

-- the rows of a splitter are those of the bands
rows_held : (s : Split) (c : Splitter) (p : ℕ → ℕ → ℤ) → s.down ≤ s.across → HaveAll s c.levels.items c.low.items → ShowBands s 0 p c.levels.items c.low.items → (number : ℕ) → number < band_count s → IsTypeHeld s c (bands_of_plane s p) (type_at s number)
rows_held s c p deep all shown =
    each_type s (IsTypeHeld s c (bands_of_plane s p)) deep
    (band_held 0 (low_count_at s.width s.across) (rows_at s s.across) _ _ c.low.items (bands_of_plane s p).ll refl (low_columns s.width s.across) (low_columns s.height s.down ∙ sym (rows_wide s s.across deep)) all.given shown.ll)
    (wide_held s c p all shown) (deep_held s c p deep all shown)

pub component_split_up : (h : Header) (picture : Picture) (component : ℕ) (c : Splitter) → IsAccepted h → component < components_of h.shape.format → IsSplitUp h picture component 0 c → AreComponentBandsOf h picture component (rows_by_type c)
component_split_up h picture component c accepted there up = record { are = λ number inside. (held number inside).0; shown = λ number inside. (held number inside).1 }
  where
    s : Split
    s = component_split h component

    p : ℕ → ℕ → ℤ
    p = numbers_of h picture component

    splittable : IsComponent s
    splittable = accepted_component h component accepted there

    all : HaveAll s c.levels.items c.low.items
    all = subst (λ t. HaveAll t c.levels.items c.low.items) up.split up.all

    holds : HoldBands s 0 p c.levels.items c.low.items
    holds = subst (λ t. HoldBands t 0 p c.levels.items c.low.items) up.split up.holds

    held : (number : ℕ) → number < band_count s → IsTypeHeld s c (bands_of_plane s p) (type_at s number)
    held = rows_held s c p splittable.deep all (bands_shown.last s 0 p c.levels.items c.low.items splittable.deep all holds)
