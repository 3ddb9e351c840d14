use Rattle.std.proofs.Common.{◌≡◌, ◌++◌, take}
use Rattle.xs_lists.specs.Bits.{bits_of_fields}
use Rattle.xs_markers.proofs.fields.put_fields.Given as goal

abbrev pub invariant-putting : goal.invariant-putting
invariant-putting l = l.out.bits ≡ l.fn.out.bits ++ bits_of_fields (take l.at l.fields)
