-- What a reader of bits stands for. Bits come most significant first, as the head of docs/FORMAT.md says.
use Rattle.std.specs.Prelude.{ℕ, List, drop}

pub record BitReading : Type 0 where
  -- all the bits that it was given
  pub bits : List ℕ
  -- how many of them were read
  pub place : ℕ

-- the bits that are left
abbrev pub left : BitReading → List ℕ
left r = drop r.place r.bits
