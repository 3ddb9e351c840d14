use Rattle.std.proofs.Common.{◌≡◌}
use Rattle.xs_markers.specs.Values.{fields_fault, table_rules}
use Rattle.xs_markers.proofs.TakenTable.{rules_from}
use Rattle.xs_markers.proofs.components.first_refused_component.Given as goal

abbrev pub invariant-components : goal.invariant-components
invariant-components l = fields_fault (rules_from l.picture l.body l.component l.picture.nc) ≡ fields_fault (table_rules l.picture l.body)
