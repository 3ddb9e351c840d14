-- The range of what a list holds.
use Rattle.std.specs.Prelude.{ℕ, ◌<◌, ◌^◌, List, All}

-- each item is a byte
abbrev pub AreByteItems : List ℕ → Type 0
AreByteItems items = All (λ item. item < 256) items

-- each item is a number of 32 bits
abbrev pub AreWords : List ℕ → Type 0
AreWords items = All (λ item. item < 2 ^ 32) items
