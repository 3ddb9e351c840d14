-- Lines and planes of signed numbers, that '5/3 wavelet' and 'Samples, scaling and colour' speak of.
--
-- A line is a function of the place, a plane one of row and column, and both go on for ever: a size is said only where
-- one matters, as the number of samples to a transform, which mirrors there. So a transform is a formula at one place,
-- a proof speaks of one place and its neighbours (the same whether they come from a whole plane, a stripe or the row that
-- a neighbour handed over), and a column is a line by swapping two arguments. Lists stand only where code holds them:
-- `entries_of` reads a list as a line, and `Shows` says that a list has a line's first entries.
use Rattle.std.specs.Prelude.{◌≡◌, ℕ, ◌<◌, List, length, slice_index_or, ℤ, pos, ◌+ℤ◌, ◌<ℤ◌}

-- the line of a list, 0 past its end
abbrev pub entries_of : List ℤ → ℕ → ℤ
entries_of xs k = slice_index_or xs k (pos 0)

-- the line at a column of a plane
abbrev pub column_of : (ℕ → ℕ → ℤ) → ℕ → ℕ → ℤ
column_of p column row = p row column

-- the list has the line's entries, as many as it has places
abbrev pub Shows : List ℤ → (ℕ → ℤ) → Type 0
Shows xs line = (k : ℕ) → k < length xs → entries_of xs k ≡ line k

-- the magnitude of z is below the bound
pub record IsBelow (bound : ℕ) (z : ℤ) : Type 0 where
  pub least : pos 0 <ℤ (z +ℤ pos bound)
  pub most : z <ℤ pos bound

-- each entry of the line has a magnitude below the bound
abbrev pub AllBelow : ℕ → (ℕ → ℤ) → Type 0
AllBelow bound line = (k : ℕ) → IsBelow bound (line k)
