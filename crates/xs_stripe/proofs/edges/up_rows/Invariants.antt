use Rattle.std.proofs.Common.{◌≡◌, map}
use Rattle.xs_lists.specs.Spelling.{upto}
use Rattle.xs_stripe.specs.Edges.{first_row}
use Rattle.xs_stripe.proofs.edges.up_rows.Given as goal

abbrev pub invariant-each : goal.invariant-each
invariant-each l = l.rows ≡ map (first_row l.body) (upto l.band)
