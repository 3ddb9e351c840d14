-- How the coefficients of a band's line are spelled: 'Truncation, data and signs'.
use Rattle.std.specs.Prelude.{◌≡◌, ◌≢◌, ℕ, ◌-◌, ◌*◌, ◌/◌, ◌%◌, ◌^◌, ◌<◌, Bool, not, nat_lt, ◌&&◌, ℤ, pos, unsigned_abs, List, [], ◌∷◌, ◌++◌, map}
use Rattle.std.specs.Bool.{MatchBool}
use Rattle.std.specs.Int.{is_negative}
use Rattle.std.specs.List.{range_with_len, flat_map, filter, AllByRecursion}
use Rattle.xs_lists.specs.Bits.{bit_of}
use Rattle.xs_lists.specs.Spelling.{upto, downto, SpellsEach}
use Rattle.xs_spelling.specs.Counts.{Line}

-- the columns of a code group
abbrev pub columns_of : ℕ → List ℕ
columns_of group = range_with_len (4 * group) 4

-- a bit is set for a negative number and clear for a positive one; for 0 it may be either
abbrev pub SpellsSign : ℤ → List ℕ → Type 0
SpellsSign z bits = (bit : ℕ) × (bit < 2) × (z ≢ pos 0 → bit ≡ bit_of (is_negative z)) × (bits ≡ bit ∷ [])

-- one bit plane of a code group: a bit of each magnitude; the plane of the truncation holds their lowest bits
abbrev pub plane_bits : Line → ℕ → ℕ → List ℕ
plane_bits line group plane = map (λ column. unsigned_abs (line.value column) / 2 ^ (plane - line.truncation) % 2) (columns_of group)

-- the bits spell the numbers of one code group: first the signs, unless they stand apart or no plane is left, then the planes from the highest down
pub record SpellsGroup (apart : Bool) (line : Line) (group : ℕ) (bits : List ℕ) : Type 0 where
  pub small : AllByRecursion (λ column. unsigned_abs (line.value column) < 2 ^ (line.count group - line.truncation)) (columns_of group)
  pub signs : List ℕ
  pub signed : MatchBool (nat_lt line.truncation (line.count group) && not apart)
      (SpellsEach (λ column. SpellsSign (line.value column)) (columns_of group) signs)
      (signs ≡ [])
  pub joined : bits ≡ signs ++ flat_map (plane_bits line group) (downto (line.count group) line.truncation)

-- the bits spell the numbers of a line
abbrev pub SpellsData : Bool → Line → List ℕ → Type 0
SpellsData apart line = SpellsEach (SpellsGroup apart line) (upto line.groups)

-- the signs of a line where they stand apart: a bit for each number other than 0
abbrev pub sign_bits : Line → List ℕ
sign_bits line =
    map (λ column. bit_of (is_negative (line.value column))) (filter (λ column. nat_lt 0 (unsigned_abs (line.value column))) (upto (4 * line.groups)))
