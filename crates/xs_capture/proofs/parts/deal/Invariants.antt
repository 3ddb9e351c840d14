use Rattle.std.proofs.Common.{◌≡◌, take}
use Rattle.xs_capture.specs.Pictures.{dealt_parts}
use Rattle.xs_capture.proofs.parts.deal.Given as goal

abbrev pub invariant-dealing : goal.invariant-dealing
invariant-dealing l = l.dealt ≡ dealt_parts l.parts (take l.at l.packets)
