-- What a writer of bits stands for. Bits go most significant first, as the head of docs/FORMAT.md says.
use Rattle.std.specs.Prelude.{ℕ, List}

pub record Written : Type 0 where
  -- the bits, in the order in which they were put
  pub bits : List ℕ
  -- how many more can be put with no memory taken
  pub spare : ℕ
