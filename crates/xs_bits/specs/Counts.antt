-- What a bit-plane count may be: docs/FORMAT.md, 'Bit-plane counts'.
use Rattle.std.specs.Prelude.{ℕ, ◌≤◌, List, All}

-- each item is a count
abbrev pub AreCounts : List ℕ → Type 0
AreCounts items = All (λ item. item ≤ 15) items
