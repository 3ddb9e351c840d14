use Rattle.std.proofs.Common.{◌≡◌, ◌+◌, ◌*◌, ◌^◌, take}
use Rattle.xs_lane_core.specs.Share.{parts_of}
use Rattle.xs_lane_core.proofs.share.add_raised.Given as goal

abbrev pub invariant-adding : goal.invariant-adding
invariant-adding l = parts_of l.into.items ≡ parts_of l.initial.into.items + parts_of (take l.power-index l.powers) * 2 ^ l.by
