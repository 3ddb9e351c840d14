-- A pass of these lanes that stands free: no slot is out with it.
use Rattle.std.specs.Prelude.{◌≡◌, ℕ, [], Option, true}
use Rattle.atomic_table.specs.declared.shared.Seat.{Seat}
use Rattle.xs_lane_core.specs.Machine.{Actor}
use Rattle.xs_lane_core.specs.Steps.{is_free}
use Rattle.xs_lanes.specs.declared.table.Lanes.{Lanes}

module _ {T : Type 0} where
  -- what the pass stored, repeated and saw, and its share
  abbrev pub view : Seat (Option T) (Actor T) → Actor T
  view p = p.me.0

  abbrev pub lane_count : Lanes T → ℕ
  lane_count l = l.count

  abbrev pub IsPassOf : Lanes T → Seat (Option T) (Actor T) → Type 0
  IsPassOf l p = (p.table_id ≡ l.table.shared.table_id) × (p.me.1 ≡ []) × (is_free p.me.0.stand ≡ true)
