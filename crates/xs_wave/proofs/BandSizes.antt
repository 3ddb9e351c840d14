-- The size of a component's band by its number.
use Rattle.std.proofs.Common.{◌≡◌, ℕ, zero, suc, ◌+◌, ◌-◌, ◌*◌, ◌<◌, ◌≤◌, ap, sym, ◌∙◌, arith}
use Rattle.xs_layout.specs.Geometry.{hl}
use Rattle.xs_signal.specs.Wavelet.{Split, low_count, high_count, low_count_at}
use Rattle.xs_signal.specs.Stripe.{rows_at}
use Rattle.xs_wave.specs.Bands.{IsBandSize, type_at, columns_in, rows_in, first_number}
use Rattle.xs_wave.proofs.Splits.{high_columns, low_columns, rows_wide}
use Rattle.xs_wave.proofs.Types.{first_wide, first_deep, first_type, wide_type, deep_type, deep_side}

pub lowest_size : (s : Split) (columns rows : ℕ) → s.down ≤ s.across → columns ≡ low_count_at s.width s.across → rows ≡ rows_at s s.across → IsBandSize s 0 columns rows
lowest_size s columns rows deep ew eh = record {
  columns_are = ew ∙ sym (low_columns s.width s.across) ∙ ap (columns_in s) (sym (first_type s));
  rows_are = eh ∙ rows_wide s s.across deep ∙ sym (low_columns s.height s.down) ∙ ap (rows_in s) (sym (first_type s));
}

pub wide_size : (s : Split) (number columns rows : ℕ) → s.down ≤ s.across → 1 ≤ number → number ≤ s.across - s.down → columns ≡ high_count (low_count_at s.width (s.across - number)) → rows ≡ rows_at s (s.across - number)
    → IsBandSize s number columns rows
wide_size s number columns rows deep one most ew eh =
    let level = s.across - number in
    let more : s.down ≤ level = omega (arith, most, deep) in
    let inside : level < s.across = omega (arith, one, most) in
    let here : number ≡ first_number s (suc level) = omega (arith, first_wide s (suc level) (omega (arith, more)), most, one) in
    let type : type_at s number ≡ hl (suc level) s.down = ap (type_at s) here ∙ wide_type s level more inside in
    record {
      columns_are = ew ∙ sym (high_columns s.width level) ∙ ap (columns_in s) (sym type);
      rows_are = eh ∙ rows_wide s level more ∙ sym (low_columns s.height s.down) ∙ ap (rows_in s) (sym type);
    }

-- the columns and rows of one of the three bands of a level that is split both ways
abbrev pub side_columns : ℕ → ℕ → ℕ
side_columns w zero = high_count w
side_columns w (suc zero) = low_count w
side_columns w (suc (suc side)) = high_count w

abbrev pub side_rows : ℕ → ℕ → ℕ
side_rows h zero = low_count h
side_rows h (suc zero) = high_count h
side_rows h (suc (suc side)) = high_count h

side_columns_in : (s : Split) (level side : ℕ) → columns_in s (deep_side (suc level) side) ≡ side_columns (low_count_at s.width level) side
side_columns_in s level zero = high_columns s.width level
side_columns_in s level (suc zero) = low_columns s.width (suc level)
side_columns_in s level (suc (suc side)) = high_columns s.width level

side_rows_in : (s : Split) (level side : ℕ) → rows_in s (deep_side (suc level) side) ≡ side_rows (low_count_at s.height level) side
side_rows_in s level zero = low_columns s.height (suc level)
side_rows_in s level (suc zero) = high_columns s.height level
side_rows_in s level (suc (suc side)) = high_columns s.height level

pub deep_size : (s : Split) (number rest level side columns rows : ℕ) → s.down ≤ s.across → number ≡ s.across - s.down + 1 + rest → rest ≡ 3 * (s.down - suc level) + side → level < s.down → side < 3
    → columns ≡ side_columns (low_count_at s.width level) side → rows ≡ side_rows (low_count_at s.height level) side → IsBandSize s number columns rows
deep_size s number rest level side columns rows deep en er less inside ew eh =
    let here : number ≡ first_number s (suc level) + side = omega (arith, first_deep s (suc level) (omega (arith, less)), en, er) in
    let type : type_at s number ≡ deep_side (suc level) side = ap (type_at s) here ∙ deep_type s level side deep less inside in
    record {
      columns_are = ew ∙ sym (side_columns_in s level side) ∙ ap (columns_in s) (sym type);
      rows_are = eh ∙ sym (side_rows_in s level side) ∙ ap (rows_in s) (sym type);
    }
