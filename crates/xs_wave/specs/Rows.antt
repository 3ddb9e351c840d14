-- How the rows of a plane are held, for '5/3 wavelet'.
use Rattle.std.specs.Prelude.{ℕ, zero, suc, ℤ, List, [], ◌∷◌, ◌++◌, take, drop, length}

-- so many rows of this width, one after the other
unfoldable pub rows_of_entries : ℕ → ℕ → List ℤ → List (List ℤ)
rows_of_entries width zero numbers = []
rows_of_entries width (suc height) numbers = take width numbers ∷ rows_of_entries width height (drop width numbers)

-- what is left in the place of old where new was written: of the same length, and new itself where its length is that
abbrev pub kept_entries : List ℤ → List ℤ → List ℤ
kept_entries old new = take (length old) (new ++ drop (length new) old)

-- the rows with these numbers written over them, from the first on
abbrev pub over : List (List ℤ) → List ℤ → List (List ℤ)
over [] new = []
over (row ∷ rows) new = kept_entries row new ∷ over rows (drop (length row) new)
