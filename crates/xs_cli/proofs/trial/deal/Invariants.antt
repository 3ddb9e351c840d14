use Rattle.std.proofs.Common.{◌≡◌, length, take}
use Rattle.xs_capture.specs.Offers.{offers_of}
use Rattle.xs_capture.specs.Pictures.{dealt_parts}
use Rattle.xs_cli.specs.Trying.{in_order}
use Rattle.xs_cli.proofs.trial.deal.Given as goal

abbrev pub invariant-sending : goal.invariant-sending
invariant-sending l = record {
  parts : l.parts ≡ dealt_parts l.feeders (offers_of (in_order l.packets (take l.entry l.numbers)));
  count : length (offers_of (in_order l.packets (take l.entry l.numbers))) ≡ l.entry;
}
