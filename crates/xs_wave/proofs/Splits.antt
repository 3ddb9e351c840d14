-- A plane is split level by level.
use Rattle.std.proofs.Common.{◌≡◌, ℕ, suc, ◌+◌, ◌*◌, ◌<◌, ◌≤◌, min, List, [], length, length-set, get_or, get_or-set_other, ℤ, refl, ap, sym, subst, ◌∙◌, arith, inl, inr}
use Rattle.std.specs.Prelude.{if◌then◌else◌}
use Rattle.std.proofs.Math.ListN.{set}
use Rattle.std.proofs.lemmas.Bool.{cases_eq, lt-ltb, le-ltb}
use Rattle.std.proofs.lemmas.Grind.{get_or-set_at}
use Rattle.xs_layout.specs.Geometry.{BandType, hl, lh, hh, low_size, high_size}
use Rattle.xs_signal.specs.Lines.{column_of}
use Rattle.xs_signal.specs.Wavelet.{Split, Bands, band_plane, low_count, high_count, low_count_at, low_of, high_of, rows_low, rows_high, columns_low, columns_kept}
use Rattle.xs_signal.specs.Stripe.{IsSplit, rows_at}
use Rattle.xs_wave.specs.Within.{SameWithin}
use Rattle.xs_signal.proofs.Sizes.{low_sizes, high_sizes}
use Rattle.xs_wave.proofs.WithinLaws.{rows_deep, rows_kept, low_within, high_within}
use Rattle.xs_wave.specs.Planes.{plane_of, HasSize}
use Rattle.xs_wave.specs.Bands.{type_at, columns_in, rows_in, HasBandSize, ShowsBand, first_number, level_bands}
use Rattle.xs_wave.specs.Corners.{drawn, rows_by, part_at}
use Rattle.xs_wave.specs.Steps.{AreQuarters, IsLevelSplit}
use Rattle.xs_wave.proofs.Corners.{drawn_size, drawn_same}
use Rattle.xs_wave.proofs.Types.{wide_type, deep_type, next_wide, next_deep}

-- ---- sizes

pub high_columns : (n level : ℕ) → high_size n (suc level) ≡ high_count (low_count_at n level)
high_columns n level = let next : suc level ≡ level + 1 = omega arith in ap (high_size n) next ∙ sym (high_sizes n level)

pub low_columns : (n level : ℕ) → low_size n level ≡ low_count_at n level
low_columns n level = sym (low_sizes n level)

pub rows_wide : (s : Split) (level : ℕ) → s.down ≤ level → rows_at s level ≡ low_count_at s.height s.down
rows_wide s level more = let here : min level s.down ≡ s.down = omega (arith, more) in ap (low_count_at s.height) here

-- ---- a plane in its place

pub band_size : (s : Split) (planes : List (List (List ℤ))) (number : ℕ) (t : BandType) (x : List (List ℤ)) (width height : ℕ) → type_at s number ≡ t → get_or planes number [] ≡ x
    → columns_in s t ≡ width → rows_in s t ≡ height → HasSize width height x → HasBandSize s planes number
band_size s planes number t x width height et ex ew eh size =
    subst (λ u. HasSize (columns_in s u) (rows_in s u) (get_or planes number [])) (sym et)
    (subst (λ y. HasSize (columns_in s t) (rows_in s t) y) (sym ex) (subst (λ w. HasSize w (rows_in s t) x) (sym ew) (subst (λ h. HasSize width h x) (sym eh) size)))

pub band_shown : (s : Split) (planes : List (List (List ℤ))) (b : Bands) (number : ℕ) (t : BandType) (x : List (List ℤ)) (width height : ℕ) → type_at s number ≡ t → get_or planes number [] ≡ x
    → columns_in s t ≡ width → rows_in s t ≡ height → SameWithin width height (plane_of x) (band_plane b t) → ShowsBand s planes b number
band_shown s planes b number t x width height et ex ew eh same =
    subst (λ u. SameWithin (columns_in s u) (rows_in s u) (plane_of (get_or planes number [])) (band_plane b u)) (sym et)
    (subst (λ y. SameWithin (columns_in s t) (rows_in s t) (plane_of y) (band_plane b t)) (sym ex)
    (subst (λ w. SameWithin w (rows_in s t) (plane_of x) (band_plane b t)) (sym ew) (subst (λ h. SameWithin width h (plane_of x) (band_plane b t)) (sym eh) same)))

-- ---- a level that is split across only

kept_all : (s : Split) (level : ℕ) (p : ℕ → ℕ → ℤ) → s.down ≤ level → columns_kept s level p ≡ p
kept_all s level p more = ap (λ t. if t then columns_low s level p else p) (le-ltb level s.down more)

kept_low : (s : Split) (level : ℕ) (p : ℕ → ℕ → ℤ) → level < s.down → columns_kept s level p ≡ columns_low s level p
kept_low s level p less = ap (λ t. if t then columns_low s level p else p) (lt-ltb level s.down less)

-- the rows of a plane of this size are split
pub record AreRowsSplit (width height : ℕ) (p : ℕ → ℕ → ℤ) (lows highs : List (List ℤ)) : Type 0 where
  pub low_size : HasSize (low_count width) height lows
  pub high_size : HasSize (high_count width) height highs
  pub low : SameWithin (low_count width) height (plane_of lows) (λ row. low_of width (p row))
  pub high : SameWithin (high_count width) height (plane_of highs) (λ row. high_of width (p row))

pub level_across : (s : Split) (level : ℕ) (p : ℕ → ℕ → ℤ) (low high : List (List ℤ)) (planes : List (List (List ℤ))) → s.down ≤ level → level < s.across → first_number s (suc level) < length planes
    → AreRowsSplit (low_count_at s.width level) (rows_at s level) p low high → IsLevelSplit s level p low planes (set planes (first_number s (suc level)) high)
level_across s level p low high planes more inside room split =
    let w = low_count_at s.width level in
    let f = first_number s (suc level) in
    let next = next_wide s level more inside in
    let tall = rows_kept s level more in
    let kept = kept_all s level p more in
    let high_same : SameWithin (high_count w) (rows_at s (suc level)) (plane_of high) (rows_high s level (columns_kept s level p)) =
    subst (λ q. SameWithin (high_count w) (rows_at s (suc level)) (plane_of high) (rows_high s level q)) (sym kept)
    (subst (λ h. SameWithin (high_count w) h (plane_of high) (rows_high s level p)) (sym tall) split.high) in
    let only : (number : ℕ) → f ≤ number → number < first_number s level → number ≡ f = λ number from to. omega (arith, from, to, next) in
    let rows : rows_in s (hl (suc level) s.down) ≡ rows_at s (suc level) = low_columns s.height s.down ∙ sym (rows_wide s (suc level) (omega (arith, more))) in
    let there : get_or (set planes f high) f [] ≡ high = get_or-set_at planes f f high [] refl room in
    record {
      size = subst (λ h. HasSize (low_count w) h low) (sym tall) split.low_size;
      low = subst (λ q. SameWithin (low_count w) (rows_at s (suc level)) (plane_of low) (rows_low s level q)) (sym kept)
          (subst (λ h. SameWithin (low_count w) h (plane_of low) (rows_low s level p)) (sym tall) split.low);
      as_many = length-set planes f high;
      sizes = λ number from to. subst (HasBandSize s (set planes f high)) (sym (only number from to))
          (band_size s (set planes f high) f (hl (suc level) s.down) high (high_count w) (rows_at s (suc level)) (wide_type s level more inside) there (high_columns s.width level) rows
          (subst (λ h. HasSize (high_count w) h high) (sym tall) split.high_size));
      shown = λ number from to. subst (ShowsBand s (set planes f high) (level_bands s level p)) (sym (only number from to))
          (band_shown s (set planes f high) (level_bands s level p) f (hl (suc level) s.down) high (high_count w) (rows_at s (suc level)) (wide_type s level more inside) there (high_columns s.width level) rows high_same);
      others = λ number from. get_or-set_other planes f number high [] (λ e. omega (arith, e, from, next));
    }

-- the same in the upper left of a plane
pub across_split : (s : Split) (level width height : ℕ) (old new high : List (List ℤ)) (planes : List (List (List ℤ))) → IsSplit s → s.down ≤ level → level < s.across → first_number s (suc level) < length planes
    → width ≡ low_count_at s.width level → height ≡ rows_at s level
    → SameWithin (low_count width) height (plane_of new) (λ row. low_of width (rows_by 1 (plane_of old) row))
    → SameWithin (high_count width) height (plane_of high) (λ row. high_of width (rows_by 1 (plane_of old) row)) → HasSize (high_count width) height high
    → IsLevelSplit s level (plane_of (part_at s level old)) (part_at s (suc level) new) planes (set planes (first_number s (suc level)) high)
across_split s level width height old new high planes split more inside room columns tall lows highs size =
    let w = low_count_at s.width level in
    let h = rows_at s level in
    let p = plane_of (part_at s level old) in
    let kept = rows_kept s level more in
    let source : (row j : ℕ) → row < h → j < w → rows_by 1 (plane_of old) row j ≡ p row j =
    λ row j below less. (let same : 1 * row ≡ row = omega arith in ap (λ k. plane_of old k j) same) ∙ sym (drawn_same w h (plane_of old) row j below less) in
    let low_here : SameWithin (low_count w) h (plane_of new) (λ row. low_of w (rows_by 1 (plane_of old) row)) =
    subst (λ k. SameWithin (low_count k) h (plane_of new) (λ row. low_of k (rows_by 1 (plane_of old) row))) columns (subst (λ k. SameWithin (low_count width) k (plane_of new) (λ row. low_of width (rows_by 1 (plane_of old) row))) tall lows) in
    let high_here : SameWithin (high_count w) h (plane_of high) (λ row. high_of w (rows_by 1 (plane_of old) row)) =
    subst (λ k. SameWithin (high_count k) h (plane_of high) (λ row. high_of k (rows_by 1 (plane_of old) row))) columns (subst (λ k. SameWithin (high_count width) k (plane_of high) (λ row. high_of width (rows_by 1 (plane_of old) row))) tall highs) in
    let next = part_at s (suc level) new in
    level_across s level p next high planes more inside room record {
      low_size = subst (λ k. HasSize (low_count w) k next) kept (drawn_size (low_count w) (rows_at s (suc level)) (plane_of new));
      high_size = subst (λ k. HasSize (high_count k) h high) columns (subst (λ k. HasSize (high_count width) k high) tall size);
      low = λ row column below within. drawn_same (low_count w) (rows_at s (suc level)) (plane_of new) row column (omega (arith, below, kept)) within ∙ low_here row column below within
          ∙ low_within w (rows_by 1 (plane_of old) row) (p row) (split.wide level inside) (λ j less. source row j below less) column within;
      high = λ row column below within. high_here row column below within ∙ high_within w (rows_by 1 (plane_of old) row) (p row) (λ j less. source row j below less) column within;
    }

-- ---- a level that is split both ways

pub same_trans : (width height : ℕ) (p q r : ℕ → ℕ → ℤ) → SameWithin width height p q → SameWithin width height q r → SameWithin width height p r
same_trans width height p q r a b row column inside within = a row column inside within ∙ b row column inside within

-- three planes in a row
abbrev pub three_set : List (List (List ℤ)) → ℕ → List (List ℤ) → List (List ℤ) → List (List ℤ) → List (List (List ℤ))
three_set planes f b c d = set (set (set planes f b) (f + 1) c) (f + 2) d

length-three : (planes : List (List (List ℤ))) (f : ℕ) (b c d : List (List ℤ)) → length (three_set planes f b c d) ≡ length planes
length-three planes f b c d = length-set (set (set planes f b) (f + 1) c) (f + 2) d ∙ length-set (set planes f b) (f + 1) c ∙ length-set planes f b

three_first : (planes : List (List (List ℤ))) (f : ℕ) (b c d : List (List ℤ)) → f + 2 < length planes → get_or (three_set planes f b c d) f [] ≡ b
three_first planes f b c d room =
    get_or-set_other (set (set planes f b) (f + 1) c) (f + 2) f d [] (λ e. omega (arith, e)) ∙ get_or-set_other (set planes f b) (f + 1) f c [] (λ e. omega (arith, e))
    ∙ get_or-set_at planes f f b [] refl (omega (arith, room))

three_second : (planes : List (List (List ℤ))) (f : ℕ) (b c d : List (List ℤ)) → f + 2 < length planes → get_or (three_set planes f b c d) (f + 1) [] ≡ c
three_second planes f b c d room =
    get_or-set_other (set (set planes f b) (f + 1) c) (f + 2) (f + 1) d [] (λ e. omega (arith, e))
    ∙ get_or-set_at (set planes f b) (f + 1) (f + 1) c [] refl (omega (arith, room, length-set planes f b))

three_third : (planes : List (List (List ℤ))) (f : ℕ) (b c d : List (List ℤ)) → f + 2 < length planes → get_or (three_set planes f b c d) (f + 2) [] ≡ d
three_third planes f b c d room =
    get_or-set_at (set (set planes f b) (f + 1) c) (f + 2) (f + 2) d [] refl (omega (arith, room, length-set (set planes f b) (f + 1) c, length-set planes f b))

three_other : (planes : List (List (List ℤ))) (f number : ℕ) (b c d : List (List ℤ)) → f + 3 ≤ number → get_or (three_set planes f b c d) number [] ≡ get_or planes number []
three_other planes f number b c d past =
    get_or-set_other (set (set planes f b) (f + 1) c) (f + 2) number d [] (λ e. omega (arith, e, past)) ∙ get_or-set_other (set planes f b) (f + 1) number c [] (λ e. omega (arith, e, past))
    ∙ get_or-set_other planes f number b [] (λ e. omega (arith, e, past))

-- what holds of all three holds of each number of the level
pub each_of_three : (P : ℕ → Type 0) (f number : ℕ) → P f → P (f + 1) → P (f + 2) → f ≤ number → number < f + 3 → P number
each_of_three P f number a b c from to =
    elim (cases_eq number f) [
      | inl first ↦ subst P (sym first) a
      | inr other ↦ elim (cases_eq number (f + 1)) [
        | inl second ↦ subst P (sym second) b
        | inr another ↦ let third : number ≡ f + 2 = omega (arith, from, to, other, another) in subst P (sym third) c
      ]
    ]

-- what is split of a plane is split of one that is the same within its size
pub quarters_within : (width height : ℕ) (p r q : ℕ → ℕ → ℤ) (b c d : List (List ℤ)) → 2 ≤ width → 2 ≤ height → SameWithin width height p r → AreQuarters width height p q b c d → AreQuarters width height r q b c d
quarters_within width height p r q b c d two_columns two_rows same quarters =
    let low : (row column : ℕ) → row < low_count height → column < width → low_of height (column_of p column) row ≡ low_of height (column_of r column) row =
    λ row column inside within. low_within height (column_of p column) (column_of r column) two_rows (λ k less. same k column less within) row inside in
    let high : (row column : ℕ) → row < high_count height → column < width → high_of height (column_of p column) row ≡ high_of height (column_of r column) row =
    λ row column inside within. high_within height (column_of p column) (column_of r column) (λ k less. same k column less within) row inside in
    record {
      hl_size = quarters.hl_size;
      lh_size = quarters.lh_size;
      hh_size = quarters.hh_size;
      ll = λ row column inside within. quarters.ll row column inside within
          ∙ low_within width (λ k. low_of height (column_of p k) row) (λ k. low_of height (column_of r k) row) two_columns (λ k less. low row k inside less) column within;
      hl = λ row column inside within. quarters.hl row column inside within
          ∙ high_within width (λ k. low_of height (column_of p k) row) (λ k. low_of height (column_of r k) row) (λ k less. low row k inside less) column within;
      lh = λ row column inside within. quarters.lh row column inside within
          ∙ low_within width (λ k. high_of height (column_of p k) row) (λ k. high_of height (column_of r k) row) two_columns (λ k less. high row k inside less) column within;
      hh = λ row column inside within. quarters.hh row column inside within
          ∙ high_within width (λ k. high_of height (column_of p k) row) (λ k. high_of height (column_of r k) row) (λ k less. high row k inside less) column within;
    }

pub level_both : (s : Split) (level : ℕ) (p q : ℕ → ℕ → ℤ) (b c d : List (List ℤ)) (planes : List (List (List ℤ))) → IsSplit s → level < s.down → first_number s (suc level) + 2 < length planes
    → AreQuarters (low_count_at s.width level) (low_count_at s.height level) p q b c d
    → IsLevelSplit s level p (drawn (low_count_at s.width (suc level)) (rows_at s (suc level)) q) planes (three_set planes (first_number s (suc level)) b c d)
level_both s level p q b c d planes split less room quarters =
    let w = low_count_at s.width level in
    let h = low_count_at s.height level in
    let f = first_number s (suc level) in
    let next = next_deep s level less in
    let deep = split.deep in
    let tall : rows_at s (suc level) ≡ low_count h = rows_deep s (suc level) (omega (arith, less)) in
    let kept = kept_low s level p less in
    let none : f + 0 ≡ f = omega arith in
    let first_type : type_at s f ≡ hl (suc level) (suc level) = sym (ap (type_at s) none) ∙ deep_type s level 0 deep less (omega arith) in
    let second_type : type_at s (f + 1) ≡ lh (suc level) (suc level) = deep_type s level 1 deep less (omega arith) in
    let third_type : type_at s (f + 2) ≡ hh (suc level) (suc level) = deep_type s level 2 deep less (omega arith) in
    let new = three_set planes f b c d in
    let bands = level_bands s level p in
    let low_same : SameWithin (low_count w) (low_count h) q (rows_low s level (columns_kept s level p)) = subst (λ x. SameWithin (low_count w) (low_count h) q (rows_low s level x)) (sym kept) quarters.ll in
    let hl_same : SameWithin (high_count w) (low_count h) (plane_of b) (rows_high s level (columns_kept s level p)) = subst (λ x. SameWithin (high_count w) (low_count h) (plane_of b) (rows_high s level x)) (sym kept) quarters.hl in
    record {
      size = drawn_size (low_count w) (rows_at s (suc level)) q;
      low = same_trans (low_count w) (rows_at s (suc level)) _ _ _ (drawn_same (low_count w) (rows_at s (suc level)) q)
          (subst (λ k. SameWithin (low_count w) k q (rows_low s level (columns_kept s level p))) (sym tall) low_same);
      as_many = length-three planes f b c d;
      sizes = λ number from to. each_of_three (HasBandSize s new) f number
          (band_size s new f (hl (suc level) (suc level)) b (high_count w) (low_count h) first_type (three_first planes f b c d room) (high_columns s.width level) (low_columns s.height (suc level)) quarters.hl_size)
          (band_size s new (f + 1) (lh (suc level) (suc level)) c (low_count w) (high_count h) second_type (three_second planes f b c d room) (low_columns s.width (suc level)) (high_columns s.height level) quarters.lh_size)
          (band_size s new (f + 2) (hh (suc level) (suc level)) d (high_count w) (high_count h) third_type (three_third planes f b c d room) (high_columns s.width level) (high_columns s.height level) quarters.hh_size)
          from (omega (arith, to, next));
      shown = λ number from to. each_of_three (ShowsBand s new bands) f number
          (band_shown s new bands f (hl (suc level) (suc level)) b (high_count w) (low_count h) first_type (three_first planes f b c d room) (high_columns s.width level) (low_columns s.height (suc level)) hl_same)
          (band_shown s new bands (f + 1) (lh (suc level) (suc level)) c (low_count w) (high_count h) second_type (three_second planes f b c d room) (low_columns s.width (suc level)) (high_columns s.height level) quarters.lh)
          (band_shown s new bands (f + 2) (hh (suc level) (suc level)) d (high_count w) (high_count h) third_type (three_third planes f b c d room) (high_columns s.width level) (high_columns s.height level) quarters.hh)
          from (omega (arith, to, next));
      others = λ number from. three_other planes f number b c d (omega (arith, from, next));
    }

-- the same in the upper left of a plane
pub both_split : (s : Split) (level width height : ℕ) (old new b c d : List (List ℤ)) (planes : List (List (List ℤ))) → IsSplit s → level < s.down → first_number s (suc level) + 2 < length planes
    → width ≡ low_count_at s.width level → height ≡ rows_at s level → AreQuarters width height (plane_of old) (plane_of new) b c d
    → IsLevelSplit s level (plane_of (part_at s level old)) (part_at s (suc level) new) planes (three_set planes (first_number s (suc level)) b c d)
both_split s level width height old new b c d planes split less room columns tall quarters =
    let w = low_count_at s.width level in
    let h = low_count_at s.height level in
    let deep = split.deep in
    let p = plane_of (part_at s level old) in
    let rows = rows_deep s level (omega (arith, less)) in
    let here : AreQuarters w h (plane_of old) (plane_of new) b c d =
    subst (λ k. AreQuarters k h (plane_of old) (plane_of new) b c d) columns (subst (λ k. AreQuarters width k (plane_of old) (plane_of new) b c d) (tall ∙ rows) quarters) in
    let same : SameWithin w h (plane_of old) p = λ row column inside within. sym (drawn_same w (rows_at s level) (plane_of old) row column (omega (arith, inside, rows)) within) in
    level_both s level p (plane_of new) b c d planes split less room (quarters_within w h (plane_of old) p (plane_of new) b c d (split.wide level (omega (arith, less, deep))) (split.high level less) same here)
