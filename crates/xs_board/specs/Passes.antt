-- The passes of a board.
use Rattle.std.specs.Prelude.{◌≡◌, ℕ, Option, Some, IfSome}
use Rattle.once_cell.specs.Once.{cell_name}
use Rattle.xs_lane_core.specs.Machine.{Actor}
use Rattle.xs_lanes.specs.Passes.{IsPassOf, view}
use Rattle.xs_capture.specs.Offer.{Offer}
use Rattle.xs_stored.specs.Stored.{AreIn}
use Rattle.xs_board.specs.declared.head.HeadRead.{HeadRead}
use Rattle.xs_board.specs.declared.board.Board.{Board}
use Rattle.xs_board.specs.declared.board.BoardPass.{BoardPass}

-- how many units a board has
abbrev pub unit_count : Board → ℕ
unit_count b = b.units

-- what a pass stored, repeated, got and saw, and its share
abbrev pub actor : BoardPass → Actor Offer
actor p = view p.pass

-- the header that a pass knows
abbrev pub knows : BoardPass → Option HeadRead
knows p = p.note.known

-- what was known is known still
abbrev pub KnowsStill : Option HeadRead → Option HeadRead → Type 0
KnowsStill before now = IfSome before (λ read. now ≡ Some read)

-- The pass is of this board, and so are the units and places of what it stored.
pub record IsBoardPass (b : Board) (p : BoardPass) : Type 0 where
  pub pass : IsPassOf b.lanes p.pass
  pub cell : p.note.cell ≡ cell_name b.head
  pub stored : AreIn b.units (actor p).stored
