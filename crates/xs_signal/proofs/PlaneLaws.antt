-- The plane transforms undo each other.
use Rattle.std.proofs.Common.{◌≡◌, ℕ, zero, suc, ◌+◌, ◌-◌, ◌<◌, ◌≤◌, ℤ, arith, ap, ◌∙◌, Bool, true, false, nat_lt, refl}
use Rattle.std.proofs.lemmas.Bool.{lt-ltb}
use Rattle.std.specs.Prelude.{if◌then◌else◌}
use Rattle.xs_signal.specs.Lines.{column_of}
use Rattle.xs_signal.specs.Wavelet.{Split, Bands, low_count_at, rows_low, rows_high, columns_low, columns_high, columns_kept, low_part, bands_of_plane, rows_joined, columns_joined, joined, restored, inverse_plane, SameBands, PlaneUndone}
use Rattle.xs_signal.proofs.LineLaws.{line_back, low_forth, high_forth}

-- equal at each row and column
same_planes : {p q : ℕ → ℕ → ℤ} → ((row column : ℕ) → p row column ≡ q row column) → p ≡ q
same_planes same = λ i row column. same row column i

-- ---- rows and columns of one step

rows_back : (s : Split) (level : ℕ) (p : ℕ → ℕ → ℤ) → rows_joined s level (rows_low s level p) (rows_high s level p) ≡ p
rows_back s level p = same_planes (λ row column. line_back (low_count_at s.width level) (p row) column)

columns_back : (s : Split) (level : ℕ) (p : ℕ → ℕ → ℤ) → columns_joined s level (columns_low s level p) (columns_high s level p) ≡ p
columns_back s level p = same_planes (λ row column. line_back (low_count_at s.height level) (column_of p column) row)

rows_low_forth : (s : Split) (level : ℕ) (low high : ℕ → ℕ → ℤ) → rows_low s level (rows_joined s level low high) ≡ low
rows_low_forth s level low high = same_planes (λ row column. low_forth (low_count_at s.width level) (low row) (high row) column)

rows_high_forth : (s : Split) (level : ℕ) (low high : ℕ → ℕ → ℤ) → rows_high s level (rows_joined s level low high) ≡ high
rows_high_forth s level low high = same_planes (λ row column. high_forth (low_count_at s.width level) (low row) (high row) column)

columns_low_forth : (s : Split) (level : ℕ) (low high : ℕ → ℕ → ℤ) → columns_low s level (columns_joined s level low high) ≡ low
columns_low_forth s level low high = same_planes (λ row column. low_forth (low_count_at s.height level) (column_of low column) (column_of high column) row)

columns_high_forth : (s : Split) (level : ℕ) (low high : ℕ → ℕ → ℤ) → columns_high s level (columns_joined s level low high) ≡ high
columns_high_forth s level low high = same_planes (λ row column. high_forth (low_count_at s.height level) (column_of low column) (column_of high column) row)

-- ---- back

-- the step back from the parts of q is q
step_back : (s : Split) (level : ℕ) (q : ℕ → ℕ → ℤ) (b : Bands) (deep : Bool) → nat_lt level s.down ≡ deep → b.hl (level + 1) ≡ rows_high s level (columns_kept s level q)
    → b.lh (level + 1) ≡ rows_low s level (columns_high s level q) → b.hh (level + 1) ≡ rows_high s level (columns_high s level q) → joined s b level (rows_low s level (columns_kept s level q)) ≡ q
step_back s level q b true is hl lh hh =
    let kept : columns_kept s level q ≡ columns_low s level q = ap (λ t. if t then columns_low s level q else q) is in
    let low = ap (rows_joined s level (rows_low s level (columns_kept s level q))) hl ∙ rows_back s level (columns_kept s level q) ∙ kept in
    let high = ap (λ p. rows_joined s level p (b.hh (level + 1))) lh ∙ ap (rows_joined s level (rows_low s level (columns_high s level q))) hh ∙ rows_back s level (columns_high s level q) in
    ap (λ t. if t then columns_joined s level (rows_joined s level (rows_low s level (columns_kept s level q)) (b.hl (level + 1))) (rows_joined s level (b.lh (level + 1)) (b.hh (level + 1)))
    else rows_joined s level (rows_low s level (columns_kept s level q)) (b.hl (level + 1))) is
    ∙ ap (λ p. columns_joined s level p (rows_joined s level (b.lh (level + 1)) (b.hh (level + 1)))) low ∙ ap (columns_joined s level (columns_low s level q)) high ∙ columns_back s level q
step_back s level q b false is hl lh hh =
    let kept : columns_kept s level q ≡ q = ap (λ t. if t then columns_low s level q else q) is in
    ap (λ t. if t then columns_joined s level (rows_joined s level (rows_low s level (columns_kept s level q)) (b.hl (level + 1))) (rows_joined s level (b.lh (level + 1)) (b.hh (level + 1)))
    else rows_joined s level (rows_low s level (columns_kept s level q)) (b.hl (level + 1))) is
    ∙ ap (rows_joined s level (rows_low s level (columns_kept s level q))) hl ∙ rows_back s level (columns_kept s level q) ∙ kept

joined_back : (s : Split) (p : ℕ → ℕ → ℤ) (level : ℕ) → joined s (bands_of_plane s p) level (low_part s p (suc level)) ≡ low_part s p level
joined_back s p level =
    let one : level + 1 - 1 ≡ level = omega arith in
    step_back s level (low_part s p level) (bands_of_plane s p) (nat_lt level s.down) refl (ap (λ l. rows_high s l (columns_kept s l (low_part s p l))) one)
    (ap (λ l. rows_low s l (columns_high s l (low_part s p l))) one) (ap (λ l. rows_high s l (columns_high s l (low_part s p l))) one)

restored_back : (s : Split) (p : ℕ → ℕ → ℤ) (steps : ℕ) → steps ≤ s.across → restored s (bands_of_plane s p) steps ≡ low_part s p (s.across - steps)
restored_back s p zero inside = let all : s.across ≡ s.across - 0 = omega arith in ap (low_part s p) all
restored_back s p (suc steps) inside =
    let next : s.across - steps ≡ suc (s.across - suc steps) = omega arith in
    ap (joined s (bands_of_plane s p) (s.across - suc steps)) (restored_back s p steps (omega arith) ∙ ap (low_part s p) next) ∙ joined_back s p (s.across - suc steps)

pub plane_back : (s : Split) (p : ℕ → ℕ → ℤ) → inverse_plane s (bands_of_plane s p) ≡ p
plane_back s p = let none : s.across - s.across ≡ 0 = omega arith in restored_back s p s.across (omega arith) ∙ ap (low_part s p) none

-- ---- forth

kept_forth : (s : Split) (b : Bands) (level : ℕ) (q : ℕ → ℕ → ℤ) (deep : Bool) → nat_lt level s.down ≡ deep → columns_kept s level (joined s b level q) ≡ rows_joined s level q (b.hl (level + 1))
kept_forth s b level q true is =
    let rows = rows_joined s level q (b.hl (level + 1)) in
    let rest = rows_joined s level (b.lh (level + 1)) (b.hh (level + 1)) in
    ap (λ t. if t then columns_low s level (joined s b level q) else joined s b level q) is ∙ ap (λ t. columns_low s level (if t then columns_joined s level rows rest else rows)) is
    ∙ columns_low_forth s level rows rest
kept_forth s b level q false is =
    let rows = rows_joined s level q (b.hl (level + 1)) in
    let rest = rows_joined s level (b.lh (level + 1)) (b.hh (level + 1)) in
    ap (λ t. if t then columns_low s level (joined s b level q) else joined s b level q) is ∙ ap (λ t. if t then columns_joined s level rows rest else rows) is

high_kept_forth : (s : Split) (b : Bands) (level : ℕ) (q : ℕ → ℕ → ℤ) → nat_lt level s.down ≡ true → columns_high s level (joined s b level q) ≡ rows_joined s level (b.lh (level + 1)) (b.hh (level + 1))
high_kept_forth s b level q is =
    let rows = rows_joined s level q (b.hl (level + 1)) in
    let rest = rows_joined s level (b.lh (level + 1)) (b.hh (level + 1)) in
    ap (λ t. columns_high s level (if t then columns_joined s level rows rest else rows)) is ∙ columns_high_forth s level rows rest

part_joined : (s : Split) (b : Bands) (level : ℕ) → level < s.across → low_part s (inverse_plane s b) level ≡ restored s b (s.across - level)
    → low_part s (inverse_plane s b) level ≡ joined s b level (restored s b (s.across - suc level))
part_joined s b level inside same =
    let next : s.across - level ≡ suc (s.across - suc level) = omega arith in
    let here : s.across - suc (s.across - suc level) ≡ level = omega arith in
    same ∙ ap (restored s b) next ∙ ap (λ l. joined s b l (restored s b (s.across - suc level))) here

-- the part at a level is that from which the steps go on
part_forth : (s : Split) (b : Bands) (level : ℕ) → level ≤ s.across → low_part s (inverse_plane s b) level ≡ restored s b (s.across - level)
part_forth s b zero inside = let all : s.across ≡ s.across - 0 = omega arith in ap (restored s b) all
part_forth s b (suc level) inside =
    let q = restored s b (s.across - suc level) in
    ap (λ p. rows_low s level (columns_kept s level p)) (part_joined s b level (omega arith) (part_forth s b level (omega arith))) ∙ ap (rows_low s level) (kept_forth s b level q (nat_lt level s.down) refl)
    ∙ rows_low_forth s level q (b.hl (level + 1))

-- the part from which the step to `level + 1` is made
before : (s : Split) (b : Bands) (level : ℕ) → level < s.across → low_part s (inverse_plane s b) level ≡ joined s b level (restored s b (s.across - suc level))
before s b level inside = part_joined s b level inside (part_forth s b level (omega arith))

hl_forth : (s : Split) (b : Bands) (level : ℕ) → level < s.across → rows_high s level (columns_kept s level (low_part s (inverse_plane s b) level)) ≡ b.hl (level + 1)
hl_forth s b level inside =
    let q = restored s b (s.across - suc level) in
    ap (λ p. rows_high s level (columns_kept s level p)) (before s b level inside) ∙ ap (rows_high s level) (kept_forth s b level q (nat_lt level s.down) refl) ∙ rows_high_forth s level q (b.hl (level + 1))

high_forth_at : (s : Split) (b : Bands) (level : ℕ) → level < s.across → level < s.down → columns_high s level (low_part s (inverse_plane s b) level) ≡ rows_joined s level (b.lh (level + 1)) (b.hh (level + 1))
high_forth_at s b level inside deep = ap (columns_high s level) (before s b level inside) ∙ high_kept_forth s b level (restored s b (s.across - suc level)) (lt-ltb level s.down deep)

lh_forth : (s : Split) (b : Bands) (level : ℕ) → level < s.across → level < s.down → rows_low s level (columns_high s level (low_part s (inverse_plane s b) level)) ≡ b.lh (level + 1)
lh_forth s b level inside deep = ap (rows_low s level) (high_forth_at s b level inside deep) ∙ rows_low_forth s level (b.lh (level + 1)) (b.hh (level + 1))

hh_forth : (s : Split) (b : Bands) (level : ℕ) → level < s.across → level < s.down → rows_high s level (columns_high s level (low_part s (inverse_plane s b) level)) ≡ b.hh (level + 1)
hh_forth s b level inside deep = ap (rows_high s level) (high_forth_at s b level inside deep) ∙ rows_high_forth s level (b.lh (level + 1)) (b.hh (level + 1))

pub plane_forth : (s : Split) (b : Bands) → s.down ≤ s.across → SameBands s (bands_of_plane s (inverse_plane s b)) b
plane_forth s b deep = record {
  ll = λ row column. let none : s.across - s.across ≡ 0 = omega arith in ap (λ p. p row column) (part_forth s b s.across (omega arith) ∙ ap (restored s b) none);
  hl = λ level row column one inside. let next : level - 1 + 1 ≡ level = omega arith in ap (λ p. p row column) (hl_forth s b (level - 1) (omega arith) ∙ ap b.hl next);
  lh = λ level row column one inside. let next : level - 1 + 1 ≡ level = omega arith in ap (λ p. p row column) (lh_forth s b (level - 1) (omega arith) (omega arith) ∙ ap b.lh next);
  hh = λ level row column one inside. let next : level - 1 + 1 ≡ level = omega arith in ap (λ p. p row column) (hh_forth s b (level - 1) (omega arith) (omega arith) ∙ ap b.hh next);
}

pub plane_undone : PlaneUndone
plane_undone = record { back = λ s p row column. ap (λ q. q row column) (plane_back s p); forth = plane_forth }
