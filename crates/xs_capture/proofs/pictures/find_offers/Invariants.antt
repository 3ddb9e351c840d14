use Rattle.std.proofs.Common.{◌≤◌, ◌-◌, ◌*◌, length, take}
use Rattle.xs_capture.specs.Found.{HasOffers}
use Rattle.xs_capture.proofs.pictures.find_offers.Given as goal

abbrev pub invariant-finding : goal.invariant-finding
invariant-finding l = (l.place ≤ length l.bytes) × (2 * l.found.stepped ≤ l.place) × HasOffers (take l.place l.bytes) l.found.packets.items l.found.stepped

abbrev pub decreases-finding : goal.decreases-finding
decreases-finding l = length l.bytes - l.place
