-- One more row of a level's bands.
use Rattle.std.proofs.Common.{◌≡◌, ◌≢◌, ℕ, ◌%◌, nat_eq, Result, Ok, Err, IfOk, ◌+◌, ◌-◌, ◌*◌, ◌/◌, ◌^◌, ◌<◌, ◌≤◌, ◌++◌, ◌∷◌, [], min, List, length, length-append, get_or, ℤ, Bool, true, false, if◌then◌else◌, arith, ap, sym, subst, ◌∙◌, inl, inr, refl, Vec, take, drop}
use Rattle.std.proofs.Math.Nat.{pow-le-pow_right}
use Rattle.std.proofs.Math.Seq.{get_or-append_seam}
use Rattle.std.proofs.lemmas.Bool.{cases_lt, eqb-true, eqb-false}
use Rattle.std.proofs.lemmas.List.{get_or_append_left, with_items_is}
use Rattle.std.proofs.lemmas.Nat.{pow-add}
use Rattle.std.specs.declared.alloc.Global.{Global}
use Rattle.xs_signal.proofs.LineLaws.{predicted_same, updated_same, high_below}
use Rattle.xs_signal.specs.Lines.{entries_of, Shows, AllBelow}
use Rattle.xs_signal.specs.Wavelet.{low_count, high_count, low_of, high_of, evens_of}
use Rattle.xs_rows.proofs.Shown.{below_more, shown_below}
use Rattle.xs_splitter.specs.Columns.{HasOneMore, HoldsLast, low_rows, high_rows}
use Rattle.xs_splitter.specs.Level.{IsLevel, HoldsRows, HoldsBands, IsHighSplit, IsLastSplit, IsSameLevel, HasAllRows, ShowRows, kept_rows, given_rows, known_rows}
use Rattle.xs_splitter.specs.Parts.{AreParts, IsSplitOff}
use Rattle.xs_splitter.specs.declared.level.Level.{Level}
use Rattle.xs_splitter.specs.declared.columns.Columns.{Columns}
use Rattle.xs_splitter.proofs.Lifted.{raised_small, shows_at}

each_row : (start : ℕ) (rows : List (List ℤ)) (row : List ℤ) (P : ℕ → List ℤ → Type 0) → ((k : ℕ) → start ≤ k → k < length rows → P k (get_or rows k [])) → P (length rows) row
    → (k : ℕ) → start ≤ k → k < length (rows ++ row ∷ []) → P k (get_or (rows ++ row ∷ []) k [])
each_row start rows row P old new k above inside =
    elim (cases_lt k (length rows)) [
      | inl before ↦ subst (P k) (sym (get_or_append_left rows (row ∷ []) [] k before)) (old k above before)
      | inr past ↦
          let last : k ≡ length rows = omega (arith, past, inside, length-append {A = List ℤ} rows (row ∷ [])) in
          let seen : get_or (rows ++ row ∷ []) k [] ≡ row = ap (λ i. get_or (rows ++ row ∷ []) i []) last ∙ get_or-append_seam rows row [] [] in
          subst (P k) (sym seen) (subst (λ i. P i row) (sym last) new)
    ]

pub rows_more : (start width : ℕ) (rows : List (List ℤ)) (row : List ℤ) (q : ℕ → ℕ → ℤ) → ShowRows start width rows q → length row ≡ width → Shows row (q (length rows)) → ShowRows start width (rows ++ row ∷ []) q
rows_more start width rows row q old wide new = record {
  wide = each_row start rows row (λ _ r. length r ≡ width) old.wide wide;
  shown = each_row start rows row (λ k r. Shows r (q k)) old.shown new;
}

pub rows_added : (start width : ℕ) (rows more : List (List ℤ)) (row : List ℤ) (q : ℕ → ℕ → ℤ) → more ≡ rows ++ row ∷ [] → ShowRows start width rows q → length row ≡ width → Shows row (q (length rows)) → ShowRows start width more q
rows_added start width rows more row q added old wide new = subst (λ r. ShowRows start width r q) (sym added) (rows_more start width rows row q old wide new)

pub one_added : (rows more : List (List ℤ)) (row : List ℤ) → more ≡ rows ++ row ∷ [] → length more ≡ length rows + 1
one_added rows more row added = ap length added ∙ length-append rows (row ∷ [])

abbrev digit : Bool → ℕ
digit b = if b then 1 else 0

pub not_both : (b : Bool) → b ≡ false → b ≡ true → ⊥
not_both b clear set =
    let one : digit b ≡ digit true = ap digit set in
    let none : digit b ≡ digit false = ap digit clear in
    let both : digit true ≡ digit false = sym one ∙ none in
    omega (arith, both)

-- ---- a row split across

high_within : (n : ℕ) (l m : ℕ → ℤ) → ((j : ℕ) → j < n → l j ≡ m j) → (k : ℕ) → k < high_count n → high_of n l k ≡ high_of n m k
high_within n l m same k inside =
    let odd = same (2 * k + 1) (omega (arith, inside)) in
    let even = predicted_same n k (evens_of l) (evens_of m) (omega (arith, inside)) (λ j less. same (2 * j) (omega (arith, less))) in
    cc

low_within : (n : ℕ) (l m : ℕ → ℤ) → 2 ≤ n → ((j : ℕ) → j < n → l j ≡ m j) → (k : ℕ) → k < low_count n → low_of n l k ≡ low_of n m k
low_within n l m two same k inside =
    let even = same (2 * k) (omega (arith, inside)) in
    let high = updated_same n k (high_of n l) (high_of n m) two (omega (arith, inside)) (λ j less. high_within n l m same j less) in
    cc

pub low_part_shows : (n : ℕ) (line low high : List ℤ) (row : ℕ → ℤ) → 2 ≤ n → length line ≡ n → AreParts line low high → Shows line row → Shows low (low_of n row)
low_part_shows n line low high row two wide parts seen k inside =
    let within : k < low_count n = subst (λ m. k < low_count m) wide (subst (λ m. k < m) parts.low_width inside) in
    parts.low k inside ∙ ap (λ m. low_of m (entries_of line) k) wide ∙ low_within n (entries_of line) row two (λ j less. seen j (subst (λ m. j < m) (sym wide) less)) k within

pub high_part_shows : (n : ℕ) (line low high : List ℤ) (row : ℕ → ℤ) → length line ≡ n → AreParts line low high → Shows line row → Shows high (high_of n row)
high_part_shows n line low high row wide parts seen k inside =
    let within : k < high_count n = subst (λ m. k < high_count m) wide (subst (λ m. k < m) parts.high_width inside) in
    parts.high k inside ∙ ap (λ m. high_of m (entries_of line) k) wide ∙ high_within n (entries_of line) row (λ j less. seen j (subst (λ m. j < m) (sym wide) less)) k within

-- a low part is below twice the bound of its line
pub low_part_below : (b : ℕ) (line low high : List ℤ) → 0 < b → AllBelow b (entries_of line) → AreParts line low high → AllBelow (2 * b) (entries_of low)
low_part_below b line low high some small parts =
    let n = length line in
    let x = entries_of line in
    shown_below (2 * b) (2 * b) (λ j. j) low (low_of n x) (omega (arith, some)) (omega arith) parts.low
    (λ k. raised_small b (x (2 * k)) (high_of n x (k - 1)) (high_of n x (min k (high_count n - 1))) some (small (2 * k)) (high_below b n x small (k - 1)) (high_below b n x small (min k (high_count n - 1))))

pub parts_of : (line slice : List ℤ) (low high : Vec ℤ Global) (lows highs : List ℤ) → slice ≡ line → length lows ≡ low.len → length highs ≡ high.len → low.len ≡ low_count (length line) → high.len ≡ high_count (length line)
    → Shows lows (low_of (length slice) (entries_of slice)) → Shows highs (high_of (length slice) (entries_of slice))
    → AreParts line (take low.len (lows ++ drop (length lows) low.items)) (take high.len (highs ++ drop (length highs) high.items))
parts_of line slice low high lows highs same long_low long_high width_low width_high shows_low shows_high =
    let first : take low.len (lows ++ drop (length lows) low.items) ≡ lows = with_items_is low lows long_low in
    let second : take high.len (highs ++ drop (length highs) high.items) ≡ highs = with_items_is high highs long_high in
    subst (λ l. AreParts line l (take high.len (highs ++ drop (length highs) high.items))) (sym first) (subst (λ h. AreParts line lows h) (sym second) (record {
      low_width = long_low ∙ width_low;
      high_width = long_high ∙ width_high;
      low = subst (λ s. Shows lows (low_of (length s) (entries_of s))) same shows_low;
      high = subst (λ s. Shows highs (high_of (length s) (entries_of s))) same shows_high;
    }))

-- ---- bounds

pub row_fits : (bits : ℕ) (line : ℕ → ℤ) → bits ≤ 26 → AllBelow (2 ^ bits) line → AllBelow (2 ^ 28) line
row_fits bits line few small k =
    let most : 2 ^ bits ≤ 2 ^ 26 = pow-le-pow_right (omega arith) few in
    below_more (2 ^ bits) (2 ^ 28) (line k) (omega (arith, most)) (small k)

pub row_fits_twice : (bits : ℕ) (line : ℕ → ℤ) → bits ≤ 26 → AllBelow (2 * 2 ^ bits) line → AllBelow (2 ^ 28) line
row_fits_twice bits line few small k =
    let most : 2 ^ bits ≤ 2 ^ 26 = pow-le-pow_right (omega arith) few in
    below_more (2 * 2 ^ bits) (2 ^ 28) (line k) (omega (arith, most)) (small k)

pub bits_one : (bits : ℕ) (deep : Bool) (line : ℕ → ℤ) → deep ≡ false → AllBelow (2 * 2 ^ bits) line → AllBelow (2 ^ (bits + (if deep then 2 else 1))) line
bits_one bits deep line flat small =
    let one : 2 * 2 ^ bits ≡ 2 ^ (bits + 1) = omega (arith, pow-add 2 bits 1) in
    subst (λ d. AllBelow (2 ^ (bits + (if d then 2 else 1))) line) (sym flat) (subst (λ b. AllBelow b line) one small)

pub bits_two : (bits : ℕ) (deep : Bool) (line : ℕ → ℤ) → deep ≡ true → AllBelow (2 * (2 * 2 ^ bits)) line → AllBelow (2 ^ (bits + (if deep then 2 else 1))) line
bits_two bits deep line down small =
    let two : 2 * (2 * 2 ^ bits) ≡ 2 ^ (bits + 2) = omega (arith, pow-add 2 bits 2) in
    subst (λ d. AllBelow (2 ^ (bits + (if d then 2 else 1))) line) (sym down) (subst (λ b. AllBelow b line) two small)

-- ---- a level that is split across only

pub flat_state : (l n : Level) → l.deep ≡ false → IsLevel l → HasOneMore l.columns n.columns → n.deep ≡ l.deep → length n.hl.items ≡ length l.hl.items + 1 → IsLevel n
flat_state l n flat s more same added = record {
  two = omega (arith, more.width, s.two);
  bits = omega (arith, more.bits, s.bits);
  columns = λ deep. absurd (not_both n.deep (same ∙ flat) deep);
  low =
      let before : length l.hl.items ≡ l.columns.taken = s.low ∙ ap (λ d. if d then known_rows l.columns.taken else l.columns.taken) flat in
      let after : (if n.deep then known_rows n.columns.taken else n.columns.taken) ≡ n.columns.taken = ap (λ d. if d then known_rows n.columns.taken else n.columns.taken) (same ∙ flat) in
      let sum : length n.hl.items ≡ n.columns.taken = omega (arith, added, before, more.taken) in
      sum ∙ sym after;
  lh = λ deep. absurd (not_both n.deep (same ∙ flat) deep);
  hh = λ deep. absurd (not_both n.deep (same ∙ flat) deep);
}

kept_flat : (l : Level) (p : ℕ → ℕ → ℤ) → l.deep ≡ false → kept_rows l p ≡ p
kept_flat l p flat = ap (λ d. if d then low_rows l.columns.height p else p) flat

kept_deep : (l : Level) (p : ℕ → ℕ → ℤ) → l.deep ≡ true → kept_rows l p ≡ low_rows l.columns.height p
kept_deep l p deep = ap (λ d. if d then low_rows l.columns.height p else p) deep

pub one_more : (l n : Level) → HasOneMore l.columns n.columns → n.deep ≡ l.deep → IsSameLevel l n
one_more l n more deep = record { width = more.width; height = more.height; bits = more.bits; deep = deep }

-- then its rows are those of the same planes
pub hl_same : (start : ℕ) (l n : Level) (p : ℕ → ℕ → ℤ) (rows : List (List ℤ)) → IsSameLevel l n → ShowRows start (high_count l.columns.width) rows (λ row. high_of l.columns.width (kept_rows l p row)) → ShowRows start (high_count n.columns.width) rows (λ row. high_of n.columns.width (kept_rows n p row))
hl_same start l n p rows same old =
    subst (λ w. ShowRows start (high_count w) rows (λ row. high_of w (kept_rows n p row))) (sym same.width)
    (subst (λ d. ShowRows start (high_count l.columns.width) rows (λ row. high_of l.columns.width ((if d then low_rows n.columns.height p else p) row))) (sym same.deep)
    (subst (λ h. ShowRows start (high_count l.columns.width) rows (λ row. high_of l.columns.width ((if l.deep then low_rows h p else p) row))) (sym same.height) old))

pub lh_same : (start : ℕ) (l n : Level) (p : ℕ → ℕ → ℤ) (rows : List (List ℤ)) → IsSameLevel l n → ShowRows start (low_count l.columns.width) rows (λ row. low_of l.columns.width (high_rows l.columns.height p row)) → ShowRows start (low_count n.columns.width) rows (λ row. low_of n.columns.width (high_rows n.columns.height p row))
lh_same start l n p rows same old =
    subst (λ w. ShowRows start (low_count w) rows (λ row. low_of w (high_rows n.columns.height p row))) (sym same.width) (subst (λ h. ShowRows start (low_count l.columns.width) rows (λ row. low_of l.columns.width (high_rows h p row))) (sym same.height) old)

pub hh_same : (start : ℕ) (l n : Level) (p : ℕ → ℕ → ℤ) (rows : List (List ℤ)) → IsSameLevel l n → ShowRows start (high_count l.columns.width) rows (λ row. high_of l.columns.width (high_rows l.columns.height p row)) → ShowRows start (high_count n.columns.width) rows (λ row. high_of n.columns.width (high_rows n.columns.height p row))
hh_same start l n p rows same old =
    subst (λ w. ShowRows start (high_count w) rows (λ row. high_of w (high_rows n.columns.height p row))) (sym same.width) (subst (λ h. ShowRows start (high_count l.columns.width) rows (λ row. high_of l.columns.width (high_rows h p row))) (sym same.height) old)

-- the row that is split across, as the plane's row with its number
pub record IsGiven (p : ℕ → ℕ → ℤ) (l : Level) (row : List ℤ) : Type 0 where
  pub wide : length row ≡ l.columns.width
  pub shown : Shows row (kept_rows l p (length l.hl.items))

pub given_shown : (p : ℕ → ℕ → ℤ) (l : Level) (row low : List ℤ) (old new : List (List ℤ)) → 2 ≤ l.columns.width → IsGiven p l row → IsSplitOff row low old new → Shows low (given_rows l p (length l.hl.items))
given_shown p l row low old new two given split = low_part_shows l.columns.width row low split.high (kept_rows l p (length l.hl.items)) two given.wide split.parts given.shown

hl_more : (start : ℕ) (p : ℕ → ℕ → ℤ) (l n : Level) (row low : List ℤ) → HoldsRows start p l → IsSameLevel l n → IsGiven p l row → IsSplitOff row low l.hl.items n.hl.items
    → ShowRows start (high_count n.columns.width) n.hl.items (λ k. high_of n.columns.width (kept_rows n p k))
hl_more start p l n row low h same given split =
    hl_same start l n p n.hl.items same
    (rows_added start (high_count l.columns.width) l.hl.items n.hl.items split.high (λ k. high_of l.columns.width (kept_rows l p k)) split.added h.bands.hl (split.parts.high_width ∙ ap high_count given.wide) (high_part_shows l.columns.width row low split.high (kept_rows l p (length l.hl.items)) given.wide split.parts given.shown))

pub flat_given : (p : ℕ → ℕ → ℤ) (l : Level) (row : List ℤ) → l.deep ≡ false → IsLevel l → length row ≡ l.columns.width → Shows row (p l.columns.taken) → IsGiven p l row
flat_given p l row flat s wide shown =
    let count : length l.hl.items ≡ l.columns.taken = s.low ∙ ap (λ d. if d then known_rows l.columns.taken else l.columns.taken) flat in
    record { wide = wide; shown = subst (λ q. Shows row (q (length l.hl.items))) (sym (kept_flat l p flat)) (subst (λ k. Shows row (p k)) (sym count) shown) }

pub flat_bands : (start : ℕ) (p : ℕ → ℕ → ℤ) (l n : Level) (row low : List ℤ) → HoldsRows start p l → IsSameLevel l n → n.lh ≡ l.lh → n.hh ≡ l.hh → IsGiven p l row → IsSplitOff row low l.hl.items n.hl.items → HoldsBands start p n
flat_bands start p l n row low h same lhs hhs given split = record {
  hl = hl_more start p l n row low h same given split;
  lh = subst (λ v. ShowRows start (low_count n.columns.width) v.items (λ k. low_of n.columns.width (high_rows n.columns.height p k))) (sym lhs) (lh_same start l n p l.lh.items same h.bands.lh);
  hh = subst (λ v. ShowRows start (high_count n.columns.width) v.items (λ k. high_of n.columns.width (high_rows n.columns.height p k))) (sym hhs) (hh_same start l n p l.hh.items same h.bands.hh);
}

pub flat_holds : (start : ℕ) (p : ℕ → ℕ → ℤ) (l n : Level) (row low : List ℤ) → l.deep ≡ false → HoldsRows start p l → HasOneMore l.columns n.columns → n.deep ≡ l.deep → n.lh ≡ l.lh → n.hh ≡ l.hh → IsGiven p l row → IsSplitOff row low l.hl.items n.hl.items
    → HoldsRows start p n
flat_holds start p l n row low flat h more same lhs hhs given split = record {
  last = λ deep. absurd (not_both n.deep (same ∙ flat) deep);
  bands = flat_bands start p l n row low h (one_more l n more same) lhs hhs given split;
}

-- ---- a level that is split both ways

pub deep_given : (p : ℕ → ℕ → ℤ) (l : Level) (row : List ℤ) (k : ℕ) → l.deep ≡ true → IsLevel l → length row ≡ l.columns.width → k ≡ known_rows l.columns.taken → Shows row (low_rows l.columns.height p k) → IsGiven p l row
deep_given p l row k deep s wide known shown =
    let count : length l.hl.items ≡ k = s.low ∙ ap (λ d. if d then known_rows l.columns.taken else l.columns.taken) deep ∙ sym known in
    record { wide = wide; shown = subst (λ q. Shows row (q (length l.hl.items))) (sym (kept_deep l p deep)) (subst (λ i. Shows row (low_rows l.columns.height p i)) (sym count) shown) }

pub deep_bands : (start : ℕ) (p : ℕ → ℕ → ℤ) (l n : Level) (row low line : List ℤ) (k : ℕ) → l.deep ≡ true → IsLevel l → HoldsRows start p l → IsSameLevel l n → IsGiven p l row → IsSplitOff row low l.hl.items n.hl.items
    → length line ≡ l.columns.width → k ≡ known_rows l.columns.taken → Shows line (high_rows l.columns.height p k) → IsHighSplit line l n → HoldsBands start p n
deep_bands start p l n row low line k deep s h same given split wide known shown high =
    let w = l.columns.width in
    let lows : length l.lh.items ≡ k = s.lh deep ∙ sym known in
    let highs : length l.hh.items ≡ k = s.hh deep ∙ sym known in
    let seen_low : Shows line (high_rows l.columns.height p (length l.lh.items)) = subst (λ i. Shows line (high_rows l.columns.height p i)) (sym lows) shown in
    let seen_high : Shows line (high_rows l.columns.height p (length l.hh.items)) = subst (λ i. Shows line (high_rows l.columns.height p i)) (sym highs) shown in
    record {
      hl = hl_more start p l n row low h same given split;
      lh = lh_same start l n p n.lh.items same
          (rows_added start (low_count w) l.lh.items n.lh.items high.low (λ i. low_of w (high_rows l.columns.height p i)) high.added h.bands.lh (high.split.parts.low_width ∙ ap low_count wide) (low_part_shows w line high.low high.split.high _ s.two wide high.split.parts seen_low));
      hh = hh_same start l n p n.hh.items same
          (rows_added start (high_count w) l.hh.items n.hh.items high.split.high (λ i. high_of w (high_rows l.columns.height p i)) high.split.added h.bands.hh (high.split.parts.high_width ∙ ap high_count wide) (high_part_shows w line high.low high.split.high _ wide high.split.parts seen_high));
    }

pub deep_holds : (start : ℕ) (p : ℕ → ℕ → ℤ) (l n : Level) (row low line : List ℤ) (k : ℕ) → l.deep ≡ true → IsLevel l → HoldsRows start p l → HasOneMore l.columns n.columns → n.deep ≡ l.deep → IsGiven p l row → IsSplitOff row low l.hl.items n.hl.items
    → HoldsLast p n.columns → length line ≡ l.columns.width → k ≡ known_rows l.columns.taken → Shows line (high_rows l.columns.height p k) → IsHighSplit line l n → HoldsRows start p n
deep_holds start p l n row low line k deep s h more same given split last wide known shown high = record {
  last = λ _. last;
  bands = deep_bands start p l n row low line k deep s h (one_more l n more same) given split wide known shown high;
}

pub last_known : (p : ℕ → ℕ → ℤ) (old new : Columns) → HasOneMore old new → HoldsLast p new → 2 ≤ old.taken → Shows new.high (high_rows old.height p (old.taken / 2 - 1))
last_known p old new more h two =
    subst (λ e. Shows new.high (high_rows e p (old.taken / 2 - 1))) more.height
    (shows_at new.high (high_rows new.height p) ((new.taken - 1) / 2 - 1) (old.taken / 2 - 1) (omega (arith, more.taken)) (h.high (omega (arith, more.taken, two))))

-- ---- the last rows

pub if_ok : {A E : Type 0} → (r : Result A E) → (P Q : A → Type 0) → ((a : A) → P a → Q a) → IfOk r P → IfOk r Q
if_ok (Ok a) P Q f h = f a h
if_ok (Err e) P Q f h = h

-- the row that a level gives at last
pub last_given : (p : ℕ → ℕ → ℤ) (l : Level) (row : List ℤ) → l.deep ≡ true → IsLevel l → l.columns.taken ≡ l.columns.height → 2 ≤ l.columns.height → length row ≡ l.columns.width → Shows row (low_rows l.columns.height p (low_count l.columns.height - 1)) → IsGiven p l row
last_given p l row deep s all two wide shown = deep_given p l row (low_count l.columns.height - 1) deep s wide (omega (arith, all, two)) shown

pub last_bands : (start : ℕ) (p : ℕ → ℕ → ℤ) (l n : Level) (pair : Bool) (row low line : List ℤ) → nat_eq (l.columns.taken % 2) 0 ≡ pair → l.deep ≡ true → IsLevel l → HoldsRows start p l → l.columns.taken ≡ l.columns.height → 2 ≤ l.columns.height → IsSameLevel l n
    → IsGiven p l row → IsSplitOff row low l.hl.items n.hl.items → length line ≡ l.columns.width → Shows line (high_rows l.columns.height p (high_count l.columns.height - 1)) → IsLastSplit pair line l n → HoldsBands start p n
last_bands start p l n true row low line is deep s h all two same given split wide shown last =
    let even : l.columns.taken % 2 ≡ 0 = eqb-true (l.columns.taken % 2) 0 is in
    deep_bands start p l n row low line (high_count l.columns.height - 1) deep s h same given split wide (omega (arith, all, two, even)) shown (last.more refl)
last_bands start p l n false row low line is deep s h all two same given split wide shown last = flat_bands start p l n row low h same (last.lh refl) (last.hh refl) given split

pub last_counts : (l n : Level) (pair : Bool) (row low line : List ℤ) → nat_eq (l.columns.taken % 2) 0 ≡ pair → l.deep ≡ true → IsLevel l → l.columns.taken ≡ l.columns.height → 2 ≤ l.columns.height → IsSameLevel l n
    → IsSplitOff row low l.hl.items n.hl.items → IsLastSplit pair line l n → HasAllRows n
last_counts l n true row low line is deep s all two same split last =
    let even : l.columns.taken % 2 ≡ 0 = eqb-true (l.columns.taken % 2) 0 is in
    let high = last.more refl in
    let before : length l.hl.items ≡ known_rows l.columns.taken = s.low ∙ ap (λ d. if d then known_rows l.columns.taken else l.columns.taken) deep in
    record {
      hl = omega (arith, one_added l.hl.items n.hl.items split.high split.added, before, all, two, same.height);
      lh = omega (arith, one_added l.lh.items n.lh.items high.low high.added, s.lh deep, all, two, even, same.height);
      hh = omega (arith, one_added l.hh.items n.hh.items high.split.high high.split.added, s.hh deep, all, two, even, same.height);
    }
last_counts l n false row low line is deep s all two same split last =
    let odd : l.columns.taken % 2 ≢ 0 = eqb-false (l.columns.taken % 2) 0 is in
    let before : length l.hl.items ≡ known_rows l.columns.taken = s.low ∙ ap (λ d. if d then known_rows l.columns.taken else l.columns.taken) deep in
    record {
      hl = omega (arith, one_added l.hl.items n.hl.items split.high split.added, before, all, two, same.height);
      lh = omega (arith, ap (λ v. length v.items) (last.lh refl), s.lh deep, all, two, odd, same.height);
      hh = omega (arith, ap (λ v. length v.items) (last.hh refl), s.hh deep, all, two, odd, same.height);
    }

pub two_bits_more : (bits : ℕ) (line : ℕ → ℤ) → AllBelow (2 * (2 * 2 ^ bits)) line → AllBelow (2 ^ (bits + 2)) line
two_bits_more bits line small =
    let two : 2 * (2 * 2 ^ bits) ≡ 2 ^ (bits + 2) = omega (arith, pow-add 2 bits 2) in
    subst (λ b. AllBelow b line) two small
