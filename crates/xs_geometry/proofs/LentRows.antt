-- A row that was left behind a reference.
use Rattle.std.proofs.Common.{◌≡◌, ℕ, zero, suc, ◌+◌, ◌-◌, ◌<◌, ◌≤◌, ℤ, List, [], ◌∷◌, ◌++◌, length, take, drop, get_or, refl, sym, ap, ◌∙◌, arith, Vec, take-add}
use Rattle.std.proofs.Math.ListN.{set}
use Rattle.std.proofs.lemmas.List.{length-drop, length-append, take_at, drop_at, take_all, append_assoc, take-append-le, length-take-le, set_split, set-get_or}
use Rattle.std.proofs.lemmas.List.Concat.{flat_map-append}
use Rattle.std.specs.Vec.{with_items_from}
use Rattle.std.specs.declared.alloc.Global.{Global}
use Rattle.xs_geometry.specs.SliceLines.{BandLines, no_lines, lines_at}
use Rattle.xs_geometry.specs.Written.{with_line, with_row, row_numbers, band_numbers, numbers_before, rows_refilled, bands_refilled, written_from}
use Rattle.xs_geometry.specs.Laws.{RowLent}

-- Numbers of the old ones' length that are written over them

written_over : (front old back new : List ℤ) (place : ℕ) → length front ≡ place → length new ≡ length old → written_from place (front ++ (old ++ back)) new ≡ front ++ (new ++ back)
written_over front old back new place here same =
    let all = front ++ (old ++ back) in
    let behind : drop place all ≡ old ++ back = drop_at front (old ++ back) place here in
    let rest : drop (length new) (old ++ back) ≡ back = drop_at old back (length new) (sym same) in
    ap (λ l. l ++ take (length (drop place all)) (new ++ drop (length new) (drop place all))) (take_at front (old ++ back) place here)
    ∙ ap (λ l. front ++ take (length l) (new ++ drop (length new) l)) behind
    ∙ ap (λ l. front ++ take (length (old ++ back)) (new ++ l)) rest
    ∙ ap (λ l. front ++ l) (take_all (length (old ++ back)) (new ++ back) (omega (arith, length-append new back, length-append old back, same)))

-- Rows

rows_filled : (rows : List (List ℤ)) (rest : List ℤ) → rows_refilled rows (row_numbers rows ++ rest) ≡ rows
rows_filled [] rest = refl
rows_filled (row ∷ rows) rest =
    let back = row_numbers rows ++ rest in
    ap (λ l. rows_refilled (row ∷ rows) l) (append_assoc row (row_numbers rows) rest)
    ∙ ap (λ l. l ∷ rows_refilled rows (drop (length row) (row ++ back))) (take_at row back (length row) refl)
    ∙ ap (λ l. row ∷ rows_refilled rows l) (drop_at row back (length row) refl) ∙ ap (λ l. row ∷ l) (rows_filled rows rest)

rows_alike : (rows : List (List ℤ)) (k : ℕ) (new numbers : List ℤ) → length new ≡ length (get_or rows k []) → rows_refilled rows numbers ≡ rows_refilled (set rows k new) numbers
rows_alike [] k new numbers same = refl
rows_alike (row ∷ rows) zero new numbers same = ap (λ n. take n numbers ∷ rows_refilled rows (drop n numbers)) (sym same)
rows_alike (row ∷ rows) (suc k) new numbers same = ap (λ l. take (length row) numbers ∷ l) (rows_alike rows k new (drop (length row) numbers) same)

rows_set : (rows : List (List ℤ)) (k : ℕ) (new : List ℤ) → k < length rows → row_numbers (set rows k new) ≡ row_numbers (take k rows) ++ (new ++ row_numbers (drop (suc k) rows))
rows_set rows k new inside = ap row_numbers (set_split rows k new inside) ∙ flat_map-append (λ row. row) (take k rows) (new ∷ drop (suc k) rows)

rows_split : (rows : List (List ℤ)) (k : ℕ) → k < length rows → row_numbers rows ≡ row_numbers (take k rows) ++ (get_or rows k [] ++ row_numbers (drop (suc k) rows))
rows_split rows k inside = sym (ap row_numbers (set-get_or rows k [])) ∙ rows_set rows k (get_or rows k []) inside

rows_long : (rows : List (List ℤ)) (k : ℕ) (new : List ℤ) → k < length rows → length new ≡ length (get_or rows k []) → length (row_numbers (set rows k new)) ≡ length (row_numbers rows)
rows_long rows k new inside same =
    let front = row_numbers (take k rows) in
    let old = get_or rows k [] in
    let back = row_numbers (drop (suc k) rows) in
    omega (
      arith,
      ap length (rows_set rows k new inside),
      ap length (rows_split rows k inside),
      length-append front (new ++ back),
      length-append new back,
      length-append front (old ++ back),
      length-append old back,
      same,
    )

-- Bands

abbrev band : ℕ → List (List ℤ) → BandLines
band first rows = record { first = first; rows = rows }

bands_filled : (bands : List BandLines) → bands_refilled bands (band_numbers bands) ≡ bands
bands_filled [] = refl
bands_filled (lines ∷ bands) =
    let here = row_numbers lines.rows in
    ap (λ l. band lines.first l ∷ bands_refilled bands (drop (length here) (here ++ band_numbers bands))) (rows_filled lines.rows (band_numbers bands))
    ∙ ap (λ l. lines ∷ bands_refilled bands l) (drop_at here (band_numbers bands) (length here) refl) ∙ ap (λ l. lines ∷ l) (bands_filled bands)

-- lines that take the same numbers
record AreAlike (old new : BandLines) : Type 0 where
  first : new.first ≡ old.first
  long : length (row_numbers new.rows) ≡ length (row_numbers old.rows)
  rows : (numbers : List ℤ) → rows_refilled old.rows numbers ≡ rows_refilled new.rows numbers

bands_alike : (bands : List BandLines) (i : ℕ) (new : BandLines) (numbers : List ℤ) → AreAlike (get_or bands i no_lines) new → bands_refilled bands numbers ≡ bands_refilled (set bands i new) numbers
bands_alike [] i new numbers alike = refl
bands_alike (lines ∷ bands) zero new numbers alike =
    ap (λ l. band lines.first l ∷ bands_refilled bands (drop (length (row_numbers lines.rows)) numbers)) (alike.rows numbers)
    ∙ ap (λ first. band first (rows_refilled new.rows numbers) ∷ bands_refilled bands (drop (length (row_numbers lines.rows)) numbers)) (sym alike.first)
    ∙ ap (λ n. band new.first (rows_refilled new.rows numbers) ∷ bands_refilled bands (drop n numbers)) (sym alike.long)
bands_alike (lines ∷ bands) (suc i) new numbers alike =
    ap (λ l. record { first = lines.first; rows = rows_refilled lines.rows numbers } ∷ l) (bands_alike bands i new (drop (length (row_numbers lines.rows)) numbers) alike)

bands_set : (bands : List BandLines) (i : ℕ) (new : BandLines) → i < length bands → band_numbers (set bands i new) ≡ band_numbers (take i bands) ++ (row_numbers new.rows ++ band_numbers (drop (suc i) bands))
bands_set bands i new inside = ap band_numbers (set_split bands i new inside) ∙ flat_map-append (λ (l : BandLines). row_numbers l.rows) (take i bands) (new ∷ drop (suc i) bands)

bands_split : (bands : List BandLines) (i : ℕ) → i < length bands → band_numbers bands ≡ band_numbers (take i bands) ++ (row_numbers (lines_at bands i).rows ++ band_numbers (drop (suc i) bands))
bands_split bands i inside = sym (ap band_numbers (set-get_or bands i no_lines)) ∙ bands_set bands i (lines_at bands i) inside

-- five parts of a list, of which the third is a row
regroup : (a b row c d : List ℤ) → a ++ ((b ++ (row ++ c)) ++ d) ≡ (a ++ b) ++ (row ++ (c ++ d))
regroup a b row c d =
    ap (λ l. a ++ l) (append_assoc b (row ++ c) d ∙ ap (λ l. b ++ l) (append_assoc row c d)) ∙ sym (append_assoc a b (row ++ (c ++ d)))

pub row_lent : RowLent
row_lent bands number line new has same =
    let lines = lines_at bands number in
    let rows = lines.rows in
    let k = line - lines.first in
    let inside : k < length rows = omega (arith, has.from, has.line_there) in
    let a = band_numbers (take number bands) in
    let b = row_numbers (take k rows) in
    let c = row_numbers (drop (suc k) rows) in
    let d = band_numbers (drop (suc number) bands) in
    let old = get_or rows k [] in
    let before : band_numbers bands ≡ (a ++ b) ++ (old ++ (c ++ d)) =
    bands_split bands number has.band_there ∙ ap (λ l. a ++ (l ++ d)) (rows_split rows k inside) ∙ regroup a b old c d in
    let after : band_numbers (with_row bands number line new) ≡ (a ++ b) ++ (new ++ (c ++ d)) =
    bands_set bands number (with_line lines line new) has.band_there ∙ ap (λ l. a ++ (l ++ d)) (rows_set rows k new inside) ∙ regroup a b new c d in
    let alike : AreAlike lines (with_line lines line new) = record {
      first = refl;
      long = rows_long rows k new inside same;
      rows = λ numbers. rows_alike rows k new numbers same;
    } in
    ap (λ l. bands_refilled bands (written_from (numbers_before bands number line) l new)) before
    ∙ ap (bands_refilled bands) (written_over (a ++ b) old (c ++ d) new (numbers_before bands number line) (length-append a b) same ∙ sym after)
    ∙ bands_alike bands number (with_line lines line new) (band_numbers (with_row bands number line new)) alike
    ∙ bands_filled (with_row bands number line new)

-- In the list that holds the rows

pub lent_items : (v : Vec ℤ Global) (start : ℕ) (new : List ℤ) → start ≤ length v.items → (with_items_from v start new).items ≡ written_from start v.items new
lent_items v start new inside =
    let xs = v.items in
    let back = drop start xs in
    let part = new ++ drop (length new) back in
    let whole = take start xs ++ part in
    let rest = drop (length whole) xs in
    let front : length (take start xs) ≡ start = length-take-le start xs inside in
    let count : length xs ≡ start + length back = omega (arith, length-drop {A = ℤ} start xs, inside) in
    let most : length back ≤ length part = omega (arith, length-append {A = ℤ} new (drop (length new) back), length-drop {A = ℤ} (length new) back) in
    let over_front : drop start (whole ++ rest) ≡ part ++ rest = ap (drop start) (append_assoc (take start xs) part rest) ∙ drop_at (take start xs) (part ++ rest) start front in
    let first : take start (whole ++ rest) ≡ take start xs = ap (take start) (append_assoc (take start xs) part rest) ∙ take_at (take start xs) (part ++ rest) start front in
    ap (λ n. take n (whole ++ rest)) (v.ok.0 ∙ count) ∙ take-add start (length back) (whole ++ rest) ∙ ap (λ l. l ++ take (length back) (drop start (whole ++ rest))) first
    ∙ ap (λ l. take start xs ++ take (length back) l) over_front ∙ ap (λ l. take start xs ++ l) (take-append-le (length back) part rest most)

pub length_written : (place : ℕ) (old new : List ℤ) → place ≤ length old → length (written_from place old new) ≡ length old
length_written place old new inside =
    let back = drop place old in
    let part = new ++ drop (length new) back in
    let most : length back ≤ length part = omega (arith, length-append {A = ℤ} new (drop (length new) back), length-drop {A = ℤ} (length new) back) in
    omega (
      arith,
      length-append {A = ℤ} (take place old) (take (length back) part),
      length-take-le place old inside,
      length-take-le (length back) part most,
      length-drop {A = ℤ} place old,
      inside,
    )
