use Rattle.std.proofs.Common.{◌≡◌, map}
use Rattle.xs_capture.specs.Offers.{offers_at}
use Rattle.xs_capture.proofs.pictures.by_picture.Given as goal

abbrev pub invariant-filing : goal.invariant-filing
invariant-filing l = l.lists ≡ map (λ t. offers_at t l.yielded) l.timestamps
