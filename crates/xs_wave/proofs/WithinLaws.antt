-- A transform looks at no entry outside its plane or its bands.
use Rattle.std.proofs.Common.{◌≡◌, ℕ, zero, suc, ◌+◌, ◌-◌, ◌*◌, ◌<◌, ◌≤◌, min, ℤ, arith, ap, sym, subst, ◌∙◌, refl, Bool, true, false, nat_lt}
use Rattle.std.specs.Prelude.{if◌then◌else◌}
use Rattle.std.proofs.lemmas.Bool.{ltb-true, ltb-false}
use Rattle.xs_signal.specs.Lines.{column_of}
use Rattle.xs_signal.specs.Wavelet.{Split, Bands, low_count, high_count, low_count_at, evens_of, high_of, low_of, rows_low, rows_high, columns_low, columns_high, columns_kept, low_part, rows_joined, columns_joined, joined, restored, inverse_line, inverse_plane, bands_of_plane}
use Rattle.xs_signal.specs.Stripe.{IsSplit, rows_at}
use Rattle.xs_wave.specs.Within.{SameWithin, SameBandsWithin, TransformsWithin}
use Rattle.xs_signal.proofs.LineLaws.{line_near, predicted_same, updated_same}

-- ---- sizes

pub rows_deep : (s : Split) (level : ℕ) → level ≤ s.down → rows_at s level ≡ low_count_at s.height level
rows_deep s level less = let here : min level s.down ≡ level = omega (arith, less) in ap (low_count_at s.height) here

pub rows_kept : (s : Split) (level : ℕ) → s.down ≤ level → rows_at s (suc level) ≡ rows_at s level
rows_kept s level more = let here : min (suc level) s.down ≡ min level s.down = omega (arith, more) in ap (low_count_at s.height) here

rows_next : (s : Split) (level : ℕ) → rows_at s (level + 1) ≡ rows_at s (suc level)
rows_next s level = let next : level + 1 ≡ suc level = omega arith in ap (rows_at s) next

-- ---- lines

pub high_within : (n : ℕ) (l m : ℕ → ℤ) → ((j : ℕ) → j < n → l j ≡ m j) → (k : ℕ) → k < high_count n → high_of n l k ≡ high_of n m k
high_within n l m same k inside =
    let odd = same (2 * k + 1) (omega (arith, inside)) in
    let even = predicted_same n k (evens_of l) (evens_of m) (omega (arith, inside)) (λ j less. same (2 * j) (omega (arith, less))) in
    cc

pub low_within : (n : ℕ) (l m : ℕ → ℤ) → 2 ≤ n → ((j : ℕ) → j < n → l j ≡ m j) → (k : ℕ) → k < low_count n → low_of n l k ≡ low_of n m k
low_within n l m two same k inside =
    let even = same (2 * k) (omega (arith, inside)) in
    let high = updated_same n k (high_of n l) (high_of n m) two (omega (arith, inside)) (λ j less. high_within n l m same j less) in
    cc

pub inverse_within : (n : ℕ) (low low' high high' : ℕ → ℤ) → 2 ≤ n → ((j : ℕ) → j < low_count n → low j ≡ low' j) → ((j : ℕ) → j < high_count n → high j ≡ high' j)
    → (k : ℕ) → k < n → inverse_line n low high k ≡ inverse_line n low' high' k
inverse_within n low low' high high' two lows highs k inside = line_near n 0 (low_count n) low low' high high' two (λ j _ _ less. lows j less) (λ j _ _ less. highs j less) k (omega arith) (omega (arith, inside)) inside

-- ---- rows and columns split

pub rows_low_within : (s : Split) (level height : ℕ) (p q : ℕ → ℕ → ℤ) → 2 ≤ low_count_at s.width level → SameWithin (low_count_at s.width level) height p q
    → SameWithin (low_count (low_count_at s.width level)) height (rows_low s level p) (rows_low s level q)
rows_low_within s level height p q two same row column inside within = low_within (low_count_at s.width level) (p row) (q row) two (λ j less. same row j inside less) column within

pub rows_high_within : (s : Split) (level height : ℕ) (p q : ℕ → ℕ → ℤ) → SameWithin (low_count_at s.width level) height p q
    → SameWithin (high_count (low_count_at s.width level)) height (rows_high s level p) (rows_high s level q)
rows_high_within s level height p q same row column inside within = high_within (low_count_at s.width level) (p row) (q row) (λ j less. same row j inside less) column within

pub columns_low_within : (s : Split) (level width : ℕ) (p q : ℕ → ℕ → ℤ) → 2 ≤ low_count_at s.height level → SameWithin width (low_count_at s.height level) p q
    → SameWithin width (low_count (low_count_at s.height level)) (columns_low s level p) (columns_low s level q)
columns_low_within s level width p q two same row column inside within = low_within (low_count_at s.height level) (column_of p column) (column_of q column) two (λ j less. same j column less within) row inside

pub columns_high_within : (s : Split) (level width : ℕ) (p q : ℕ → ℕ → ℤ) → SameWithin width (low_count_at s.height level) p q
    → SameWithin width (high_count (low_count_at s.height level)) (columns_high s level p) (columns_high s level q)
columns_high_within s level width p q same row column inside within = high_within (low_count_at s.height level) (column_of p column) (column_of q column) (λ j less. same j column less within) row inside

kept_cases : (s : Split) (level width : ℕ) (p q : ℕ → ℕ → ℤ) (deep : Bool) → nat_lt level s.down ≡ deep → IsSplit s → SameWithin width (rows_at s level) p q
    → SameWithin width (rows_at s (suc level)) (if deep then columns_low s level p else p) (if deep then columns_low s level q else q)
kept_cases s level width p q true is split same =
    let less : level < s.down = ltb-true level s.down is in
    let here = rows_deep s level (omega (arith, less)) in
    let next = rows_deep s (suc level) (omega (arith, less)) in
    let before = subst (λ h. SameWithin width h p q) here same in
    subst (λ h. SameWithin width h (columns_low s level p) (columns_low s level q)) (sym next) (columns_low_within s level width p q (split.high level less) before)
kept_cases s level width p q false is split same = subst (λ h. SameWithin width h p q) (sym (rows_kept s level (ltb-false level s.down is))) same

pub kept_within : (s : Split) (level width : ℕ) (p q : ℕ → ℕ → ℤ) → IsSplit s → SameWithin width (rows_at s level) p q
    → SameWithin width (rows_at s (suc level)) (columns_kept s level p) (columns_kept s level q)
kept_within s level width p q split same = kept_cases s level width p q (nat_lt level s.down) refl split same

part_within : (s : Split) (p q : ℕ → ℕ → ℤ) → IsSplit s → SameWithin s.width s.height p q → (level : ℕ) → level ≤ s.across
    → SameWithin (low_count_at s.width level) (rows_at s level) (low_part s p level) (low_part s q level)
part_within s p q split same zero inside = let none : min 0 s.down ≡ 0 = omega arith in subst (λ h. SameWithin s.width h p q) (sym (ap (low_count_at s.height) none)) same
part_within s p q split same (suc level) inside =
    let w = low_count_at s.width level in
    let before = kept_within s level w (low_part s p level) (low_part s q level) split (part_within s p q split same level (omega (arith, inside))) in
    rows_low_within s level (rows_at s (suc level)) (columns_kept s level (low_part s p level)) (columns_kept s level (low_part s q level)) (split.wide level (omega (arith, inside))) before

-- ---- rows and columns joined

pub rows_joined_within : (s : Split) (level height : ℕ) (p q u v : ℕ → ℕ → ℤ) → 2 ≤ low_count_at s.width level → SameWithin (low_count (low_count_at s.width level)) height p q
    → SameWithin (high_count (low_count_at s.width level)) height u v → SameWithin (low_count_at s.width level) height (rows_joined s level p u) (rows_joined s level q v)
rows_joined_within s level height p q u v two low high row column inside within =
    inverse_within (low_count_at s.width level) (p row) (q row) (u row) (v row) two (λ j less. low row j inside less) (λ j less. high row j inside less) column within

pub columns_joined_within : (s : Split) (level width : ℕ) (p q u v : ℕ → ℕ → ℤ) → 2 ≤ low_count_at s.height level → SameWithin width (low_count (low_count_at s.height level)) p q
    → SameWithin width (high_count (low_count_at s.height level)) u v → SameWithin width (low_count_at s.height level) (columns_joined s level p u) (columns_joined s level q v)
columns_joined_within s level width p q u v two low high row column inside within =
    inverse_within (low_count_at s.height level) (column_of p column) (column_of q column) (column_of u column) (column_of v column) two (λ j less. low j column less within) (λ j less. high j column less within) row inside

step_cases : (s : Split) (x y : Bands) (level : ℕ) (p q : ℕ → ℕ → ℤ) (deep : Bool) → nat_lt level s.down ≡ deep → IsSplit s → SameBandsWithin s x y → level < s.across
    → SameWithin (low_count_at s.width (suc level)) (rows_at s (suc level)) p q
    → SameWithin (low_count_at s.width level) (rows_at s level)
    (if deep then columns_joined s level (rows_joined s level p (x.hl (level + 1))) (rows_joined s level (x.lh (level + 1)) (x.hh (level + 1))) else rows_joined s level p (x.hl (level + 1)))
    (if deep then columns_joined s level (rows_joined s level q (y.hl (level + 1))) (rows_joined s level (y.lh (level + 1)) (y.hh (level + 1))) else rows_joined s level q (y.hl (level + 1)))
step_cases s x y level p q true is split bands inside same =
    let less : level < s.down = ltb-true level s.down is in
    let w = low_count_at s.width level in
    let h = low_count_at s.height level in
    let two = split.wide level inside in
    let here = rows_deep s level (omega (arith, less)) in
    let next = rows_deep s (suc level) (omega (arith, less)) in
    let low = subst (λ k. SameWithin (low_count w) k p q) next same in
    let hl = subst (λ k. SameWithin (high_count w) k (x.hl (level + 1)) (y.hl (level + 1))) (rows_next s level ∙ next) (bands.hl level inside) in
    let t = rows_joined s level p (x.hl (level + 1)) in
    let t' = rows_joined s level q (y.hl (level + 1)) in
    let r = rows_joined s level (x.lh (level + 1)) (x.hh (level + 1)) in
    let r' = rows_joined s level (y.lh (level + 1)) (y.hh (level + 1)) in
    let top = rows_joined_within s level (low_count h) p q (x.hl (level + 1)) (y.hl (level + 1)) two low hl in
    let rest = rows_joined_within s level (high_count h) (x.lh (level + 1)) (y.lh (level + 1)) (x.hh (level + 1)) (y.hh (level + 1)) two (bands.lh level less) (bands.hh level less) in
    subst (λ k. SameWithin w k (columns_joined s level t r) (columns_joined s level t' r')) (sym here) (columns_joined_within s level w t t' r r' (split.high level less) top rest)
step_cases s x y level p q false is split bands inside same =
    let w = low_count_at s.width level in
    let more = ltb-false level s.down is in
    let two = split.wide level inside in
    let hl = subst (λ k. SameWithin (high_count w) k (x.hl (level + 1)) (y.hl (level + 1))) (rows_next s level ∙ rows_kept s level more) (bands.hl level inside) in
    let low = subst (λ k. SameWithin (low_count w) k p q) (rows_kept s level more) same in
    rows_joined_within s level (rows_at s level) p q (x.hl (level + 1)) (y.hl (level + 1)) two low hl

-- one step back
pub step_within : (s : Split) (x y : Bands) (level : ℕ) (p q : ℕ → ℕ → ℤ) → IsSplit s → SameBandsWithin s x y → level < s.across
    → SameWithin (low_count_at s.width (suc level)) (rows_at s (suc level)) p q → SameWithin (low_count_at s.width level) (rows_at s level) (joined s x level p) (joined s y level q)
step_within s x y level p q split bands inside same = step_cases s x y level p q (nat_lt level s.down) refl split bands inside same

restored_within : (s : Split) (x y : Bands) → IsSplit s → SameBandsWithin s x y → (steps : ℕ) → steps ≤ s.across
    → SameWithin (low_count_at s.width (s.across - steps)) (rows_at s (s.across - steps)) (restored s x steps) (restored s y steps)
restored_within s x y split bands zero inside =
    let all : s.across ≡ s.across - 0 = omega arith in
    subst (λ l. SameWithin (low_count_at s.width l) (rows_at s l) x.ll y.ll) all bands.ll
restored_within s x y split bands (suc steps) inside =
    let level = s.across - suc steps in
    let next : s.across - steps ≡ suc level = omega (arith, inside) in
    let before = subst (λ l. SameWithin (low_count_at s.width l) (rows_at s l) (restored s x steps) (restored s y steps)) next (restored_within s x y split bands steps (omega (arith, inside))) in
    step_within s x y level (restored s x steps) (restored s y steps) split bands (omega (arith, inside)) before

-- ---- planes

split_within : (s : Split) (p q : ℕ → ℕ → ℤ) → IsSplit s → SameWithin s.width s.height p q → SameBandsWithin s (bands_of_plane s p) (bands_of_plane s q)
split_within s p q split same = record {
  ll = part_within s p q split same s.across (omega arith);
  hl = λ level inside. let back : level + 1 - 1 ≡ level = omega arith in hl_at level (level + 1 - 1) back inside;
  lh = λ level inside. let back : level + 1 - 1 ≡ level = omega arith in lh_at level (level + 1 - 1) back inside;
  hh = λ level inside. let back : level + 1 - 1 ≡ level = omega arith in hh_at level (level + 1 - 1) back inside;
}
  where
    hl_at : (level l : ℕ) → l ≡ level → level < s.across
        → SameWithin (high_count (low_count_at s.width level)) (rows_at s (level + 1)) (rows_high s l (columns_kept s l (low_part s p l))) (rows_high s l (columns_kept s l (low_part s q l)))
    hl_at level l e inside =
        let w = low_count_at s.width level in
        let before = kept_within s level w (low_part s p level) (low_part s q level) split (part_within s p q split same level (omega (arith, inside))) in
        let here = rows_high_within s level (rows_at s (suc level)) (columns_kept s level (low_part s p level)) (columns_kept s level (low_part s q level)) before in
        let tall = subst (λ h. SameWithin (high_count w) h (rows_high s level (columns_kept s level (low_part s p level))) (rows_high s level (columns_kept s level (low_part s q level)))) (sym (rows_next s level)) here in
        subst (λ k. SameWithin (high_count w) (rows_at s (level + 1)) (rows_high s k (columns_kept s k (low_part s p k))) (rows_high s k (columns_kept s k (low_part s q k)))) (sym e) tall

    part_deep : (level : ℕ) → level < s.down → SameWithin (low_count_at s.width level) (high_count (low_count_at s.height level)) (columns_high s level (low_part s p level)) (columns_high s level (low_part s q level))
    part_deep level less =
        let w = low_count_at s.width level in
        let deep = split.deep in
        let part = part_within s p q split same level (omega (arith, less, deep)) in
        let here = subst (λ h. SameWithin w h (low_part s p level) (low_part s q level)) (rows_deep s level (omega (arith, less))) part in
        columns_high_within s level w (low_part s p level) (low_part s q level) here

    lh_at : (level l : ℕ) → l ≡ level → level < s.down
        → SameWithin (low_count (low_count_at s.width level)) (high_count (low_count_at s.height level)) (rows_low s l (columns_high s l (low_part s p l))) (rows_low s l (columns_high s l (low_part s q l)))
    lh_at level l e less =
        let deep = split.deep in
        let here = rows_low_within s level (high_count (low_count_at s.height level)) (columns_high s level (low_part s p level)) (columns_high s level (low_part s q level)) (split.wide level (omega (arith, less, deep))) (part_deep level less) in
        subst (λ k. SameWithin (low_count (low_count_at s.width level)) (high_count (low_count_at s.height level)) (rows_low s k (columns_high s k (low_part s p k))) (rows_low s k (columns_high s k (low_part s q k)))) (sym e) here

    hh_at : (level l : ℕ) → l ≡ level → level < s.down
        → SameWithin (high_count (low_count_at s.width level)) (high_count (low_count_at s.height level)) (rows_high s l (columns_high s l (low_part s p l))) (rows_high s l (columns_high s l (low_part s q l)))
    hh_at level l e less =
        let here = rows_high_within s level (high_count (low_count_at s.height level)) (columns_high s level (low_part s p level)) (columns_high s level (low_part s q level)) (part_deep level less) in
        subst (λ k. SameWithin (high_count (low_count_at s.width level)) (high_count (low_count_at s.height level)) (rows_high s k (columns_high s k (low_part s p k))) (rows_high s k (columns_high s k (low_part s q k)))) (sym e) here

joined_within : (s : Split) (x y : Bands) → IsSplit s → SameBandsWithin s x y → SameWithin s.width s.height (inverse_plane s x) (inverse_plane s y)
joined_within s x y split bands =
    let none : s.across - s.across ≡ 0 = omega arith in
    let first : min 0 s.down ≡ 0 = omega arith in
    let all = subst (λ l. SameWithin (low_count_at s.width l) (rows_at s l) (inverse_plane s x) (inverse_plane s y)) none (restored_within s x y split bands s.across (omega arith)) in
    subst (λ h. SameWithin s.width h (inverse_plane s x) (inverse_plane s y)) (ap (low_count_at s.height) first) all

pub transforms_within : TransformsWithin
transforms_within = record { split = split_within; joined = joined_within }
