-- A row of samples is written into a picture.
use Rattle.std.proofs.Common.{◌≡◌, ◌≢◌, ◌⊎◌, ℕ, ◌+◌, ◌-◌, ◌<◌, ◌≤◌, List, ◌++◌, length, get_or, take, drop, sym, ap, ◌∙◌, arith, inl, inr, length-append}
use Rattle.std.proofs.Math.ListN.{get_or-append}
use Rattle.std.proofs.lemmas.Bool.{cases_eq, cases_lt}
use Rattle.std.proofs.lemmas.List.{get_or-append_right, get_or-take, get_or-drop, length-take}
use Rattle.xs_params.specs.Picture.{Picture, IsPicture, IsPlace, IsRow, row_first, sample_at, width_of, with_samples}
use Rattle.xs_params.proofs.Areas.{rows_apart, row_end}

-- a list with a part in its place
part_at : (xs part : List ℕ) (first k : ℕ) → first ≤ length xs → k < length part → get_or (take first xs ++ part ++ drop (first + length part) xs) (first + k) 0 ≡ get_or part k 0
part_at xs part first k inside within =
    let head : length (take first xs) ≡ first = omega (arith, length-take first xs, inside) in
    let back : first + k - first ≡ k = omega arith in
    get_or-append (take first xs ++ part) (drop (first + length part) xs) 0 (first + k) (omega (arith, length-append (take first xs) part, head, within))
    ∙ get_or-append_right (take first xs) part first (first + k) 0 head (omega arith) ∙ ap (λ i. get_or part i 0) back

before_part : (xs part : List ℕ) (first k : ℕ) → first ≤ length xs → k < first → get_or (take first xs ++ part ++ drop (first + length part) xs) k 0 ≡ get_or xs k 0
before_part xs part first k inside less =
    let head : length (take first xs) ≡ first = omega (arith, length-take first xs, inside) in
    get_or-append (take first xs ++ part) (drop (first + length part) xs) 0 k (omega (arith, length-append (take first xs) part, head, less))
    ∙ get_or-append (take first xs) part 0 k (omega (arith, head, less)) ∙ get_or-take first xs k 0 less

after_part : (xs part : List ℕ) (first k : ℕ) → first ≤ length xs → first + length part ≤ k → get_or (take first xs ++ part ++ drop (first + length part) xs) k 0 ≡ get_or xs k 0
after_part xs part first k inside more =
    let head : length (take first xs) ≡ first = omega (arith, length-take first xs, inside) in
    let both : length (take first xs ++ part) ≡ first + length part = omega (arith, length-append (take first xs) part, head) in
    let back : first + length part + (k - (first + length part)) ≡ k = omega (arith, more) in
    get_or-append_right (take first xs ++ part) (drop (first + length part) xs) (first + length part) k 0 both more
    ∙ get_or-drop (first + length part) xs (k - (first + length part)) 0 ∙ ap (λ i. get_or xs i 0) back

-- the samples of the row that was written
pub row_written : (p : Picture) (component row column : ℕ) (samples : List ℕ) → IsPicture p → IsRow p.shape component row → length samples ≡ width_of p.shape component → column < length samples
    → sample_at (with_samples p component row samples) component row column ≡ get_or samples column 0
row_written p component row column samples picture there wide within =
    part_at p.samples samples (row_first p.shape component row) column (omega (arith, row_end p.shape component row there, picture.size)) within

-- and of each other row
pub row_kept : (p : Picture) (component row other later column : ℕ) (samples : List ℕ) → IsPicture p → IsRow p.shape component row → length samples ≡ width_of p.shape component
    → IsPlace p.shape other later column → (other ≢ component) ⊎ (later ≢ row) → sample_at (with_samples p component row samples) other later column ≡ sample_at p other later column
row_kept p component row other later column samples picture there wide place apart =
    elim (cases_lt other component) [
      | inl less ↦ earlier (rows_apart p.shape other later component row place.row_there there (inl less))
      | inr past ↦ elim (cases_eq other component) [
        | inr different ↦ beyond (rows_apart p.shape component row other later there place.row_there (inl (omega (arith, past, different))))
        | inl same ↦ elim (cases_lt later row) [
          | inl less ↦ earlier (rows_apart p.shape other later component row place.row_there there (inr (same, less)))
          | inr more ↦ beyond (rows_apart p.shape component row other later there place.row_there (inr (sym same, after same more apart)))
        ]
      ]
    ]
  where
    inside : row_first p.shape component row ≤ length p.samples
    inside = omega (arith, row_end p.shape component row there, picture.size)

    after : other ≡ component → row ≤ later → (other ≢ component) ⊎ (later ≢ row) → row < later
    after same more (inl different) = absurd (different same)
    after same more (inr different) = omega (arith, more, different)

    earlier : row_first p.shape other later + width_of p.shape other ≤ row_first p.shape component row → sample_at (with_samples p component row samples) other later column ≡ sample_at p other later column
    earlier before = before_part p.samples samples (row_first p.shape component row) (row_first p.shape other later + column) inside (omega (arith, before, place.column_there))

    beyond : row_first p.shape component row + width_of p.shape component ≤ row_first p.shape other later → sample_at (with_samples p component row samples) other later column ≡ sample_at p other later column
    beyond behind = after_part p.samples samples (row_first p.shape component row) (row_first p.shape other later + column) inside (omega (arith, behind, wide))
