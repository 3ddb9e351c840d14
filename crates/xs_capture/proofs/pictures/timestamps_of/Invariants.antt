use Rattle.std.proofs.Common.{◌≡◌, map, take}
use Rattle.xs_capture.specs.Offer.{Offer}
use Rattle.xs_capture.proofs.pictures.timestamps_of.Given as goal

abbrev pub invariant-listing : goal.invariant-listing
invariant-listing l = l.list.items ≡ map (λ (p : Offer). p.timestamp) (take l.packet-index l.packets)
