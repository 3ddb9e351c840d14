use Rattle.std.proofs.Common.{◌≤◌, ◌<◌, All, take}
use Rattle.xs_capture.specs.Offer.{Offer}
use Rattle.xs_recv.proofs.feeds.units_with.Given as goal

abbrev pub invariant-looking : goal.invariant-looking
invariant-looking l = record {
  few : l.most ≤ 2048;
  more : l.units ≤ l.most;
  of : All (λ (p : Offer). p.unit < l.most) (take l.packet-index l.packets);
}
