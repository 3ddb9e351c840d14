-- Fields that can be written: the head of docs/FORMAT.md, and 'Codestream layout' for the length of a segment.
use Rattle.std.specs.Prelude.{ℕ, ◌+◌, ◌^◌, ◌<◌, ◌≤◌, List, length}
use Rattle.std.specs.List.{AllByRecursion}
use Rattle.xs_grammar.specs.Coded.{field_bytes}

-- each has at most 32 bits, and its value has room in them
abbrev pub AreFields : List (ℕ × ℕ) → Type 0
AreFields fields = AllByRecursion (λ (field : ℕ × ℕ). (field.0 ≤ 32) × (field.1 < 2 ^ field.0)) fields

-- they can be the body of a segment, whose length has 16 bits and counts itself
pub record IsBody (fields : List (ℕ × ℕ)) : Type 0 where
  pub room : AreFields fields
  pub short : length (field_bytes fields) + 2 < 2 ^ 16
