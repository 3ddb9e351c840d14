-- A share as the machine keeps it: a number as a sum of powers of two, and how often it was halved.
use Rattle.std.specs.Prelude.{ℕ, ◌^◌, List, sum_by}

pub record Portion : Type 0 where
  pub parts : ℕ
  pub halved : ℕ

abbrev pub portion : ℕ → ℕ → Portion
portion parts halved = record { parts = parts; halved = halved }

abbrev pub parts_of : List ℕ → ℕ
parts_of powers = sum_by (λ d. 2 ^ d) powers
