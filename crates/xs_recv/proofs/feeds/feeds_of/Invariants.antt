use Rattle.std.proofs.Common.{◌≡◌, ◌≤◌, ℕ, [], length, take, get_or}
use Rattle.xs_recv.specs.Received.{offers_of_parts}
use Rattle.xs_recv.specs.Filing.{AreOfUnits, fed}
use Rattle.xs_recv.proofs.feeds.feeds_of.Given as goal

abbrev pub invariant-parts : goal.invariant-parts
invariant-parts l = record {
  count : length l.parts ≡ length l.initial.parts;
  left : (k : ℕ) → l.at ≤ k → get_or l.parts k [] ≡ get_or l.initial.parts k [];
  all : fed l.feeds.items ≡ offers_of_parts (take l.at l.initial.parts);
  of : AreOfUnits l.units l.feeds.items;
  some : 1 ≤ l.units;
  few : l.units ≤ 2048;
}
