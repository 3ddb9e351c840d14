-- One lane of the machine changes.
use Rattle.std.specs.Prelude.{ℕ, slice_set}
use Rattle.xs_lane_core.specs.Machine.{Lane, Machine}

module _ {V : Type 0} where
  abbrev pub with_lane : Machine V → ℕ → Lane V → Machine V
  with_lane m l x = record { lanes = slice_set m.lanes l x; actors = m.actors }
