-- A row is lifted in the list that holds all rows.
use Rattle.std.proofs.Common.{◌≡◌, ◌≢◌, ◌<◌, ◌≤◌, ◌+◌, ◌*◌, ◌⊎◌, ℕ, ℤ, pos, List, [], length, take, drop, get_or, sym, ap, subst, ◌∙◌, arith, inl, inr, Vec}
use Rattle.std.proofs.lemmas.Bool.{cases_lt}
use Rattle.std.proofs.lemmas.List.{get_or-take, get_or-drop, get_or_past, ext_get_or, length-take, length-drop}
use Rattle.xs_signal.specs.Lines.{entries_of}
use Rattle.xs_wave.specs.Rows.{rows_of_entries}
use Rattle.xs_wave.specs.Planes.{plane_of}
use Rattle.xs_wave.proofs.Values.{below_same}
use Rattle.xs_wave.specs.Corners.{AreApart, BelowFrom, BelowIn, SameShape}
use Rattle.std.specs.Vec.{with_items}
use Rattle.std.proofs.lemmas.List.{with_items_is}
use Rattle.std.specs.declared.alloc.Global.{Global}
use Rattle.xs_wave.proofs.Flat.{times_less, length_rows, row_at, rows_wide}

-- ---- places in the list

pub apart_place : (width row other k : ℕ) → AreApart width row other → k < width → (other + k < row ⊎ row + k ≤ other + k)
apart_place width row other k (inl past) inside = inr (omega (arith, past))
apart_place width row other k (inr before) inside = inl (omega (arith, before, inside))

pub outside_other : (row k place : ℕ) → (place < row ⊎ row + (k + 1) ≤ place) → place ≢ row + k
outside_other row k place (inl before) e = omega (arith, before, e)
outside_other row k place (inr past) e = omega (arith, past, e)

pub outside_more : (row k place : ℕ) → (place < row ⊎ row + (k + 1) ≤ place) → (place < row ⊎ row + k ≤ place)
outside_more row k place (inl before) = inl before
outside_more row k place (inr past) = inr (omega (arith, past))

-- ---- rows of the list

pub entry_at : (width height row column : ℕ) (xs : List ℤ) → row < height → column < width → plane_of (rows_of_entries width height xs) row column ≡ entries_of xs (row * width + column)
entry_at width height row column xs inside within =
    ap (λ r. entries_of r column) (row_at width height row xs inside) ∙ get_or-take width (drop (row * width) xs) column (pos 0) within ∙ get_or-drop (row * width) xs column (pos 0)

-- rows of this width that are not the same have no place in common
pub rows_apart : (width part a b : ℕ) → part ≤ width → b ≢ a → AreApart part (a * width) (b * width)
rows_apart width part a b most other =
    elim (cases_lt a b) [
      | inl less ↦ inl (omega (arith, times_less a b width less, most))
      | inr more ↦ inr (omega (arith, times_less b a width (omega (arith, more, other)), most))
    ]

place_outside : (part start width row column : ℕ) → AreApart width start row → part ≤ width → column < width → (row + column < start ⊎ start + part ≤ row + column)
place_outside part start width row column (inl past) most within = inr (omega (arith, past, most))
place_outside part start width row column (inr before) most within = inl (omega (arith, before, within))

pub lifted_other : (width height at start part : ℕ) (xs ys : List ℤ) → length xs ≡ height * width → length ys ≡ length xs → start ≡ at * width → part ≤ width
    → ((place : ℕ) → (place < start ⊎ start + part ≤ place) → entries_of ys place ≡ entries_of xs place)
    → (row : ℕ) → row ≢ at → get_or (rows_of_entries width height ys) row [] ≡ get_or (rows_of_entries width height xs) row []
lifted_other width height at start part xs ys size same place most others row other =
    elim (cases_lt row height) [
      | inl inside ↦
          let less = times_less row height width inside in
          let long : length (take width (drop (row * width) ys)) ≡ width = omega (arith, length-take {A = ℤ} width (drop (row * width) ys), length-drop {A = ℤ} (row * width) ys, size, same, less) in
          let long_before : length (take width (drop (row * width) xs)) ≡ width = omega (arith, length-take {A = ℤ} width (drop (row * width) xs), length-drop {A = ℤ} (row * width) xs, size, less) in
          let apart : AreApart width start (row * width) = subst (λ s. AreApart width s (row * width)) (sym place) (rows_apart width width at row (omega arith) other) in
          row_at width height row ys inside
          ∙ ext_get_or (pos 0) (take width (drop (row * width) ys)) (take width (drop (row * width) xs)) (long ∙ sym long_before)
          (λ k below.
          let within : k < width = omega (arith, below, long) in
          get_or-take width (drop (row * width) ys) k (pos 0) within ∙ get_or-drop (row * width) ys k (pos 0) ∙ others (row * width + k) (place_outside part start width (row * width) k apart most within)
          ∙ sym (get_or-take width (drop (row * width) xs) k (pos 0) within ∙ get_or-drop (row * width) xs k (pos 0)))
          ∙ sym (row_at width height row xs inside)
      | inr past ↦ get_or_past (rows_of_entries width height ys) row [] (omega (arith, past, length_rows width height ys)) ∙ sym (get_or_past (rows_of_entries width height xs) row [] (omega (arith, past, length_rows width height xs)))
    ]

length_row : (width height row : ℕ) (xs ys : List ℤ) → length xs ≡ height * width → length ys ≡ length xs → length (get_or (rows_of_entries width height ys) row []) ≡ length (get_or (rows_of_entries width height xs) row [])
length_row width height row xs ys size same =
    elim (cases_lt row height) [
      | inl inside ↦
          ap length (row_at width height row ys inside)
          ∙ omega (arith, length-take {A = ℤ} width (drop (row * width) ys), length-drop {A = ℤ} (row * width) ys, length-take {A = ℤ} width (drop (row * width) xs), length-drop {A = ℤ} (row * width) xs, same)
          ∙ sym (ap length (row_at width height row xs inside))
      | inr past ↦ ap length (get_or_past (rows_of_entries width height ys) row [] (omega (arith, past, length_rows width height ys)) ∙ sym (get_or_past (rows_of_entries width height xs) row [] (omega (arith, past, length_rows width height xs))))
    ]

pub lifted_shape : (width height : ℕ) (xs ys : List ℤ) → length xs ≡ height * width → length ys ≡ length xs → SameShape (rows_of_entries width height xs) (rows_of_entries width height ys)
lifted_shape width height xs ys size same = record {
  many = length_rows width height ys ∙ sym (length_rows width height xs);
  widths = λ row. length_row width height row xs ys size same;
}

-- ---- a plane's numbers, which stand in `xs` and are lent as `slice`

pub record AreHeld (width height : ℕ) (v : Vec ℤ Global) (rows : List (List ℤ)) (slice : List ℤ) : Type 0 where
  pub seen : rows_of_entries width height v.items ≡ rows
  pub size : length v.items ≡ height * width
  pub same : slice ≡ v.items

pub part_most : (width height at part : ℕ) (v : Vec ℤ Global) (rows : List (List ℤ)) (slice : List ℤ) → AreHeld width height v rows slice → at < length rows → part ≤ length (get_or rows at []) → part ≤ width
part_most width height at part v rows slice held inside most = omega (arith, most, rows_wide width height v.items rows held.seen held.size at inside)

pub entry_held : (width height at start column : ℕ) (v : Vec ℤ Global) (rows : List (List ℤ)) (slice : List ℤ) → AreHeld width height v rows slice → at < length rows → start ≡ at * width → column < width
    → entries_of slice (start + column) ≡ plane_of rows at column
entry_held width height at start column v rows slice held inside place within =
    let many : length rows ≡ height = sym (ap length held.seen) ∙ length_rows width height v.items in
    ap (λ l. entries_of l (start + column)) held.same ∙ ap (λ n. entries_of v.items (n + column)) place ∙ sym (entry_at width height at column v.items (omega (arith, inside, many)) within) ∙ ap (λ r. plane_of r at column) held.seen

pub small_held : (width height at start part bound : ℕ) (v : Vec ℤ Global) (rows : List (List ℤ)) (slice : List ℤ) → AreHeld width height v rows slice → at < length rows → start ≡ at * width → part ≤ width
    → BelowIn bound part (plane_of rows at) → BelowFrom bound part start (entries_of slice)
small_held width height at start part bound v rows slice held inside place most small k less =
    below_same bound _ _ (entry_held width height at start k v rows slice held inside place (omega (arith, less, most))) (small k less)

pub starts_apart : (width part a b start other : ℕ) → part ≤ width → b ≢ a → start ≡ a * width → other ≡ b * width → AreApart part start other
starts_apart width part a b start other most differ here there =
    subst (λ s. AreApart part s other) (sym here) (subst (λ s. AreApart part (a * width) s) (sym there) (rows_apart width part a b most differ))

-- the plane's rows after the slice was written
abbrev pub rewritten : ℕ → ℕ → Vec ℤ Global → List ℤ → List (List ℤ)
rewritten width height v new = rows_of_entries width height (with_items v new).items

module _ (width height : ℕ) (v : Vec ℤ Global) (rows : List (List ℤ)) (slice new : List ℤ) (held : AreHeld width height v rows slice) (long : length new ≡ length slice) where
  items_new : (with_items v new).items ≡ new
  items_new = with_items_is v new (long ∙ ap length held.same ∙ sym v.ok.0)

  as_long : length new ≡ length v.items
  as_long = long ∙ ap length held.same

  pub new_entry : (at start column : ℕ) → at < length rows → start ≡ at * width → column < width → plane_of (rewritten width height v new) at column ≡ entries_of new (start + column)
  new_entry at start column inside place within =
      let many : length rows ≡ height = sym (ap length held.seen) ∙ length_rows width height v.items in
      ap (λ l. plane_of (rows_of_entries width height l) at column) items_new ∙ entry_at width height at column new (omega (arith, inside, many)) within ∙ ap (λ n. entries_of new (n + column)) (sym place)

  pub new_other : (at start part : ℕ) → start ≡ at * width → part ≤ width → ((place : ℕ) → (place < start ⊎ start + part ≤ place) → entries_of new place ≡ entries_of slice place)
      → (row : ℕ) → row ≢ at → get_or (rewritten width height v new) row [] ≡ get_or rows row []
  new_other at start part place most others row other =
      ap (λ l. get_or (rows_of_entries width height l) row []) items_new
      ∙ lifted_other width height at start part v.items new held.size as_long place most (λ k outside. others k outside ∙ ap (λ l. entries_of l k) held.same) row other
      ∙ ap (λ r. get_or r row []) held.seen

  pub new_shape : SameShape rows (rewritten width height v new)
  new_shape = subst (λ r. SameShape r (rewritten width height v new)) held.seen (subst (λ l. SameShape (rows_of_entries width height v.items) (rows_of_entries width height l)) (sym items_new) (lifted_shape width height v.items new held.size as_long))
