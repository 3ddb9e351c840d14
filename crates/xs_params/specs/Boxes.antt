-- Boxes of a file format, which may stand before the header: 'Picture header' and 'Command words'.
use Rattle.std.specs.Prelude.{◌≡◌, ◌≢◌, ℕ, ◌/◌, ◌^◌, ◌<◌, ◌≤◌, List, length}
use Rattle.std.specs.Int.{to_be_bytes, w32}
use Rattle.std.specs.List.{concat, AllByRecursion}
use Rattle.xs_lists.specs.Spelling.{BeginsWith}

-- a box: its length in four bytes, which do not begin like the start marker, and then what makes up that length
pub record IsBox (bytes : List ℕ) : Type 0 where
  pub size : (8 ≤ length bytes) × (length bytes < 2 ^ 32)
  pub unlike : length bytes / 2 ^ 16 ≢ 0xff10
  pub begin : BeginsWith bytes (to_be_bytes w32 (length bytes))

-- whole boxes, one after the other
pub record AreBoxes (bytes : List ℕ) : Type 0 where
  pub boxes : List (List ℕ)
  pub whole : AllByRecursion IsBox boxes
  pub joined : bytes ≡ concat boxes
