use Rattle.std.proofs.Common.{◌≡◌, drop}
use Rattle.xs_markers.specs.Values.{fields_fault}
use Rattle.xs_markers.proofs.rules.first_refused.Given as goal

abbrev pub invariant-rules : goal.invariant-rules
invariant-rules l = fields_fault l.rules ≡ fields_fault (drop l.rule-index l.rules)
