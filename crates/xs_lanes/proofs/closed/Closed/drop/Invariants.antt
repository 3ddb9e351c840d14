use Rattle.std.proofs.Common.{◌≡◌, ℕ, ◌-◌, ◌<◌, false, get_or}
use Rattle.std.specs.Mem.Slots.{slots_filled, slots_len}
use Rattle.std.specs.Mem.Slots.Ownership.{Filled}
use Rattle.xs_lanes.proofs.closed.Closed.drop.Given as goal

abbrev pub invariant-emptying : goal.invariant-emptying
invariant-emptying g l = Filled (slots_filled l.table.slots) l.slot (slots_len l.table.slots) × ((k : ℕ) → k < l.slot → get_or (slots_filled l.table.slots) k false ≡ false)

abbrev pub decreases-emptying : goal.decreases-emptying
decreases-emptying g l = slots_len l.table.slots - l.slot
