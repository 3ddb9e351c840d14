use Rattle.std.proofs.Common.{◌≡◌, ◌≤◌, ◌-◌, ◌*◌, length, Ok}
use Rattle.xs_pcap.specs.File.{header_read, order_of}
use Rattle.xs_pcap.proofs.Walks.{HasWalked}
use Rattle.xs_pcap.proofs.unwrapping.unwrap.Given as goal

abbrev pub invariant-unwrapping : goal.invariant-unwrapping
invariant-unwrapping l =
    (l.order ≡ order_of l.bytes) × (header_read l.bytes ≡ Ok (order_of l.bytes)) × (l.place ≤ length l.bytes) × (16 * l.unwrapped.stepped ≤ l.place) × HasWalked l.bytes l.port l.place l.unwrapped.capture l.unwrapped.stepped

abbrev pub decreases-unwrapping : goal.decreases-unwrapping
decreases-unwrapping l = length l.bytes - l.place
