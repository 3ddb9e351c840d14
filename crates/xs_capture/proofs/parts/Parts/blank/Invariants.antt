use Rattle.std.proofs.Common.{◌≡◌, [], replicate}
use Rattle.xs_capture.specs.Lists.{lists_in}
use Rattle.xs_capture.proofs.parts.Parts.blank.Given as goal

abbrev pub invariant-making : goal.invariant-making
invariant-making l = lists_in l.lists.items ≡ replicate l.at []
