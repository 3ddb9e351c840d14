use Rattle.std.proofs.Common.{◌≡◌, map}
use Rattle.xs_lists.specs.Spelling.{upto}
use Rattle.xs_stripe.specs.Edges.{last_high_row}
use Rattle.xs_stripe.proofs.edges.down_rows.Given as goal

abbrev pub invariant-each : goal.invariant-each
invariant-each l = l.rows ≡ map (last_high_row l.geometry l.body) (upto l.band)
