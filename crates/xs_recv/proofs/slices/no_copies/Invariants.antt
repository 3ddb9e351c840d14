use Rattle.std.proofs.Common.{◌≡◌, All, Option, None, length}
use Rattle.xs_recv.specs.declared.activity.SliceCopy.{SliceCopy}
use Rattle.xs_recv.proofs.slices.no_copies.Given as goal

abbrev pub invariant-making : goal.invariant-making
invariant-making l = (length l.places.items ≡ l.counter) × All (λ (o : Option SliceCopy). o ≡ None) l.places.items
