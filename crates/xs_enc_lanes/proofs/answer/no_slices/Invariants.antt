use Rattle.std.proofs.Common.{◌≡◌, All, Option, None, length}
use Rattle.xs_enc_lanes.specs.declared.activity.CodedSlice.{CodedSlice}
use Rattle.xs_enc_lanes.proofs.answer.no_slices.Given as goal

abbrev pub invariant-making : goal.invariant-making
invariant-making l = (length l.places.items ≡ l.counter) × All (λ (o : Option CodedSlice). o ≡ None) l.places.items
