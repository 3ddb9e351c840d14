-- The values that a list of events offers.
use Rattle.std.specs.Prelude.{ℕ, List}
use Rattle.std.specs.List.{Contains}
use Rattle.xs_lane_core.specs.declared.values.Numbered.{Numbered}
use Rattle.xs_lane_core.specs.declared.values.Event.{Event}
use Rattle.xs_lane_core.specs.declared.values.Event.TheVariants as event

abbrev pub IsOffered : List Event → Numbered → Type 0
IsOffered events v = (a : ℕ) × Contains events (event.Take a v)
