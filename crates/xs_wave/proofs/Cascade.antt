-- A plane is split level by level, down to the last.
use Rattle.std.proofs.Common.{◌≡◌, ℕ, suc, ◌+◌, ◌-◌, ◌*◌, ◌^◌, ◌<◌, ◌≤◌, min, List, [], length, length-set, get_or, get_or-set_other, ℤ, refl, ap, sym, subst, ◌∙◌, arith, inl, inr, Bool, true, false, nat_lt}
use Rattle.std.specs.Prelude.{if◌then◌else◌}
use Rattle.std.proofs.Math.ListN.{set}
use Rattle.std.proofs.Math.Nat.{pow-le-pow_right}
use Rattle.std.proofs.lemmas.Bool.{cases_eq, cases_lt}
use Rattle.std.proofs.lemmas.Grind.{get_or-set_at}
use Rattle.std.proofs.lemmas.Nat.{pow-add, pow_pos}
use Rattle.xs_layout.specs.Geometry.{BandType, ll, hl, lh, hh}
use Rattle.xs_signal.specs.Lines.{IsBelow, column_of}
use Rattle.xs_signal.specs.Wavelet.{Split, Bands, bands_of_plane, band_plane, low_count, high_count, low_count_at, rows_low, rows_high, columns_low, columns_high, columns_kept, low_part}
use Rattle.xs_signal.specs.Stripe.{IsSplit, rows_at}
use Rattle.xs_wave.specs.Within.{SameWithin}
use Rattle.xs_signal.proofs.LineLaws.{low_below}
use Rattle.xs_signal.proofs.StripeLaws.{splits_where_large}
use Rattle.xs_wave.proofs.WithinLaws.{rows_deep, rows_low_within, rows_high_within, columns_high_within, kept_within}
use Rattle.xs_wave.specs.Planes.{plane_of, HasSize, IsSmall}
use Rattle.xs_wave.specs.Bands.{IsComponent, band_count, type_at, columns_in, rows_in, HasBandSize, ShowsBand, AreBandPlanes, ShowBands, first_number, level_bands}
use Rattle.xs_wave.specs.Steps.{IsLevelSplit, IsSplitTo}
use Rattle.xs_wave.proofs.Shown.{below_more}
use Rattle.xs_wave.proofs.Small.{plane_small}
use Rattle.xs_wave.proofs.Splits.{band_size, band_shown, same_trans, each_of_three, high_columns, low_columns, rows_wide}
use Rattle.xs_wave.proofs.Types.{first_type, wide_type, deep_type, next_wide, next_deep, first_of_all, first_of_last}

-- ---- components

pub component_split : (s : Split) → IsComponent s → IsSplit s
component_split s c =
    let power : 2 ^ s.down ≤ 2 ^ 2 = pow-le-pow_right {n = 2} (omega arith) {i = s.down} {j = 2} c.two in
    splits_where_large s c.wide (omega (arith, power, c.high)) c.deep

-- ---- small numbers

kept_small : (s : Split) (level b : ℕ) (p : ℕ → ℕ → ℤ) (deep : Bool) → ((row column : ℕ) → IsBelow b (p row column)) → (row column : ℕ) → IsBelow (2 * b) ((if deep then columns_low s level p else p) row column)
kept_small s level b p true small row column = low_below b (low_count_at s.height level) (column_of p column) (λ k. small k column) row
kept_small s level b p false small row column = below_more b (2 * b) _ (omega arith) (small row column)

pub low_small : (s : Split) (level b : ℕ) (p : ℕ → ℕ → ℤ) → ((row column : ℕ) → IsBelow b (p row column)) → (row column : ℕ) → IsBelow (2 * (2 * b)) (rows_low s level (columns_kept s level p) row column)
low_small s level b p small row column =
    low_below (2 * b) (low_count_at s.width level) (columns_kept s level p row) (λ k. kept_small s level b p (nat_lt level s.down) small row k) column

four_more : (level : ℕ) → 2 ^ (40 + 2 * suc level) ≡ 2 * (2 * 2 ^ (40 + 2 * level))
four_more level =
    let e : 40 + 2 * suc level ≡ 40 + 2 * level + 2 = omega arith in
    ap (λ k. 2 ^ k) e ∙ pow-add 2 (40 + 2 * level) 2 ∙ omega arith

-- ---- the bands of a level are those of the plane

type_same : (s : Split) (x y : Bands) (number : ℕ) (t : BandType) (width height : ℕ) → type_at s number ≡ t → columns_in s t ≡ width → rows_in s t ≡ height → SameWithin width height (band_plane x t) (band_plane y t)
    → SameWithin (columns_in s (type_at s number)) (rows_in s (type_at s number)) (band_plane x (type_at s number)) (band_plane y (type_at s number))
type_same s x y number t width height et ew eh same =
    subst (λ u. SameWithin (columns_in s u) (rows_in s u) (band_plane x u) (band_plane y u)) (sym et)
    (subst (λ w. SameWithin w (rows_in s t) (band_plane x t) (band_plane y t)) (sym ew) (subst (λ h. SameWithin width h (band_plane x t) (band_plane y t)) (sym eh) same))

back : (level : ℕ) → suc level - 1 ≡ level
back level = omega arith

hl_lifted : (s : Split) (p q : ℕ → ℕ → ℤ) (level : ℕ) → IsSplit s → level < s.across → SameWithin (low_count_at s.width level) (rows_at s level) q (low_part s p level)
    → SameWithin (high_count (low_count_at s.width level)) (rows_at s (suc level)) (rows_high s level (columns_kept s level q)) ((bands_of_plane s p).hl (suc level))
hl_lifted s p q level split inside same =
    let w = low_count_at s.width level in
    let kept = kept_within s level w q (low_part s p level) split same in
    let here = rows_high_within s level (rows_at s (suc level)) (columns_kept s level q) (columns_kept s level (low_part s p level)) kept in
    subst (λ l. SameWithin (high_count w) (rows_at s (suc level)) (rows_high s level (columns_kept s level q)) (rows_high s l (columns_kept s l (low_part s p l)))) (sym (back level)) here

deep_same : (s : Split) (p q : ℕ → ℕ → ℤ) (level : ℕ) → level < s.down → SameWithin (low_count_at s.width level) (rows_at s level) q (low_part s p level)
    → SameWithin (low_count_at s.width level) (high_count (low_count_at s.height level)) (columns_high s level q) (columns_high s level (low_part s p level))
deep_same s p q level less same =
    let w = low_count_at s.width level in
    columns_high_within s level w q (low_part s p level) (subst (λ h. SameWithin w h q (low_part s p level)) (rows_deep s level (omega (arith, less))) same)

lh_lifted : (s : Split) (p q : ℕ → ℕ → ℤ) (level : ℕ) → IsSplit s → level < s.down → SameWithin (low_count_at s.width level) (rows_at s level) q (low_part s p level)
    → SameWithin (low_count (low_count_at s.width level)) (high_count (low_count_at s.height level)) (rows_low s level (columns_high s level q)) ((bands_of_plane s p).lh (suc level))
lh_lifted s p q level split less same =
    let w = low_count_at s.width level in
    let h = low_count_at s.height level in
    let deep = split.deep in
    let here = rows_low_within s level (high_count h) (columns_high s level q) (columns_high s level (low_part s p level)) (split.wide level (omega (arith, less, deep))) (deep_same s p q level less same) in
    subst (λ l. SameWithin (low_count w) (high_count h) (rows_low s level (columns_high s level q)) (rows_low s l (columns_high s l (low_part s p l)))) (sym (back level)) here

hh_lifted : (s : Split) (p q : ℕ → ℕ → ℤ) (level : ℕ) → level < s.down → SameWithin (low_count_at s.width level) (rows_at s level) q (low_part s p level)
    → SameWithin (high_count (low_count_at s.width level)) (high_count (low_count_at s.height level)) (rows_high s level (columns_high s level q)) ((bands_of_plane s p).hh (suc level))
hh_lifted s p q level less same =
    let w = low_count_at s.width level in
    let h = low_count_at s.height level in
    let here = rows_high_within s level (high_count h) (columns_high s level q) (columns_high s level (low_part s p level)) (deep_same s p q level less same) in
    subst (λ l. SameWithin (high_count w) (high_count h) (rows_high s level (columns_high s level q)) (rows_high s l (columns_high s l (low_part s p l)))) (sym (back level)) here

abbrev AreLifted : Split → (ℕ → ℕ → ℤ) → (ℕ → ℕ → ℤ) → ℕ → ℕ → Type 0
AreLifted s p q level number =
    SameWithin (columns_in s (type_at s number)) (rows_in s (type_at s number)) (band_plane (level_bands s level q) (type_at s number)) (band_plane (bands_of_plane s p) (type_at s number))

lifted : (s : Split) (p q : ℕ → ℕ → ℤ) (level : ℕ) → IsSplit s → level < s.across → SameWithin (low_count_at s.width level) (rows_at s level) q (low_part s p level)
    → (number : ℕ) → first_number s (suc level) ≤ number → number < first_number s level → AreLifted s p q level number
lifted s p q level split inside same number from to =
    let f = first_number s (suc level) in
    let x = level_bands s level q in
    let y = bands_of_plane s p in
    let w = low_count_at s.width level in
    let h = low_count_at s.height level in
    let deep = split.deep in
    elim (cases_lt level s.down) [
      | inl less ↦
          let next = next_deep s level less in
          let none : f + 0 ≡ f = omega arith in
          let first_at : type_at s f ≡ hl (suc level) (suc level) = sym (ap (type_at s) none) ∙ deep_type s level 0 deep less (omega arith) in
          let tall = rows_deep s (suc level) (omega (arith, less)) in
          let hl_same : SameWithin (high_count w) (low_count h) (rows_high s level (columns_kept s level q)) (y.hl (suc level)) =
          subst (λ k. SameWithin (high_count w) k (rows_high s level (columns_kept s level q)) (y.hl (suc level))) tall (hl_lifted s p q level split inside same) in
          each_of_three (AreLifted s p q level) f number
          (type_same s x y f (hl (suc level) (suc level)) (high_count w) (low_count h) first_at (high_columns s.width level) (low_columns s.height (suc level)) hl_same)
          (type_same s x y (f + 1) (lh (suc level) (suc level)) (low_count w) (high_count h) (deep_type s level 1 deep less (omega arith)) (low_columns s.width (suc level)) (high_columns s.height level)
          (lh_lifted s p q level split less same))
          (type_same s x y (f + 2) (hh (suc level) (suc level)) (high_count w) (high_count h) (deep_type s level 2 deep less (omega arith)) (high_columns s.width level) (high_columns s.height level)
          (hh_lifted s p q level less same))
          from (omega (arith, to, next))
      | inr more ↦
          let only : number ≡ f = omega (arith, from, to, next_wide s level more inside) in
          let rows : rows_in s (hl (suc level) s.down) ≡ rows_at s (suc level) = low_columns s.height s.down ∙ sym (rows_wide s (suc level) (omega (arith, more))) in
          subst (AreLifted s p q level) (sym only)
          (type_same s x y f (hl (suc level) s.down) (high_count w) (rows_at s (suc level)) (wide_type s level more inside) (high_columns s.width level) rows (hl_lifted s p q level split inside same))
    ]

-- ---- level by level

pub split_start : (s : Split) (rows : List (List ℤ)) (planes : List (List (List ℤ))) → s.down ≤ s.across → HasSize s.width s.height rows → IsSmall (2 ^ 40) rows → length planes ≡ band_count s
    → IsSplitTo s (plane_of rows) 0 rows planes
split_start s rows planes deep size small many =
    let none : min 0 s.down ≡ 0 = omega arith in
    let all = first_of_all s deep in
    record {
      size = subst (λ k. HasSize s.width k rows) (sym (ap (low_count_at s.height) none)) size;
      low = λ row column inside within. refl;
      small = small;
      as_many = many;
      sizes = λ number from to. absurd (omega (arith, from, to, all));
      shown = λ number from to. absurd (omega (arith, from, to, all));
    }

pub split_more : (s : Split) (p : ℕ → ℕ → ℤ) (level : ℕ) (part next : List (List ℤ)) (old new : List (List (List ℤ))) → IsSplit s → level < s.across → IsSplitTo s p level part old
    → IsLevelSplit s level (plane_of part) next old new → IsSplitTo s p (suc level) next new
split_more s p level part next old new split inside before step =
    let w = low_count_at s.width level in
    let q = plane_of part in
    let kept = kept_within s level w q (low_part s p level) split before.low in
    record {
      size = step.size;
      low = same_trans _ _ _ _ _ step.low (rows_low_within s level (rows_at s (suc level)) (columns_kept s level q) (columns_kept s level (low_part s p level)) (split.wide level inside) kept);
      small = subst (λ b. IsSmall b next) (sym (four_more level))
          (plane_small (2 * (2 * 2 ^ (40 + 2 * level))) (2 * (2 * 2 ^ (40 + 2 * level))) (low_count w) (rows_at s (suc level)) next (rows_low s level (columns_kept s level q)) (omega (arith, pow_pos (40 + 2 * level))) (omega arith)
          step.size step.low (low_small s level (2 ^ (40 + 2 * level)) q before.small));
      as_many = step.as_many ∙ before.as_many;
      sizes = λ number from to.
          elim (cases_lt number (first_number s level)) [
            | inl less ↦ step.sizes number from less
            | inr past ↦ subst (λ x. HasSize (columns_in s (type_at s number)) (rows_in s (type_at s number)) x) (sym (step.others number past)) (before.sizes number past to)
          ];
      shown = λ number from to.
          elim (cases_lt number (first_number s level)) [
            | inl less ↦ same_trans _ _ _ _ _ (step.shown number from less) (lifted s p q level split inside before.low number from less)
            | inr past ↦ subst (λ x. SameWithin (columns_in s (type_at s number)) (rows_in s (type_at s number)) (plane_of x) (band_plane (bands_of_plane s p) (type_at s number))) (sym (step.others number past)) (before.shown number past to)
          ];
    }

-- the last low part is the first band
done_size : (s : Split) (p : ℕ → ℕ → ℤ) (part : List (List ℤ)) (planes : List (List (List ℤ))) → s.down ≤ s.across → IsSplitTo s p s.across part planes → (number : ℕ) → number < band_count s
    → HasBandSize s (set planes 0 part) number
done_size s p part planes deep done number inside =
    elim (cases_eq number 0) [
      | inl first ↦
          let there : get_or (set planes 0 part) 0 [] ≡ part = get_or-set_at planes 0 0 part [] refl (omega (arith, inside, done.as_many)) in
          subst (HasBandSize s (set planes 0 part)) (sym first)
          (band_size s (set planes 0 part) 0 (ll s.across s.down) part (low_count_at s.width s.across) (rows_at s s.across) (first_type s) there (low_columns s.width s.across)
          (low_columns s.height s.down ∙ sym (rows_wide s s.across deep)) done.size)
      | inr other ↦
          let same : get_or (set planes 0 part) number [] ≡ get_or planes number [] = get_or-set_other planes 0 number part [] (λ e. other e) in
          subst (λ x. HasSize (columns_in s (type_at s number)) (rows_in s (type_at s number)) x) (sym same) (done.sizes number (omega (arith, first_of_last s deep, other)) inside)
    ]

done_shown : (s : Split) (p : ℕ → ℕ → ℤ) (part : List (List ℤ)) (planes : List (List (List ℤ))) → s.down ≤ s.across → IsSplitTo s p s.across part planes → ShowBands s (set planes 0 part) (bands_of_plane s p)
done_shown s p part planes deep done number inside =
    elim (cases_eq number 0) [
      | inl first ↦
          let there : get_or (set planes 0 part) 0 [] ≡ part = get_or-set_at planes 0 0 part [] refl (omega (arith, inside, done.as_many)) in
          subst (ShowsBand s (set planes 0 part) (bands_of_plane s p)) (sym first)
          (band_shown s (set planes 0 part) (bands_of_plane s p) 0 (ll s.across s.down) part (low_count_at s.width s.across) (rows_at s s.across) (first_type s) there (low_columns s.width s.across)
          (low_columns s.height s.down ∙ sym (rows_wide s s.across deep)) done.low)
      | inr other ↦
          let same : get_or (set planes 0 part) number [] ≡ get_or planes number [] = get_or-set_other planes 0 number part [] (λ e. other e) in
          subst (λ x. SameWithin (columns_in s (type_at s number)) (rows_in s (type_at s number)) (plane_of x) (band_plane (bands_of_plane s p) (type_at s number))) (sym same)
          (done.shown number (omega (arith, first_of_last s deep, other)) inside)
    ]

pub split_done : (s : Split) (p : ℕ → ℕ → ℤ) (part : List (List ℤ)) (planes : List (List (List ℤ))) → s.down ≤ s.across → IsSplitTo s p s.across part planes
    → AreBandPlanes s (set planes 0 part) × ShowBands s (set planes 0 part) (bands_of_plane s p)
split_done s p part planes deep done = (record { as_many = length-set planes 0 part ∙ done.as_many; sizes = done_size s p part planes deep done }, done_shown s p part planes deep done)
