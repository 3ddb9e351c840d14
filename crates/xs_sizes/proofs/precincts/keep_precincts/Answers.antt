use Rattle.std.proofs.Common.{ℕ, ◌+◌, length, sym, subst, arith}
use Rattle.xs_geometry.specs.SliceLines.{rows_held}
use Rattle.xs_sizes.specs.declared.precincts.PrecinctCounts.{PrecinctCounts}
use Rattle.xs_sizes.specs.Precincts.{IsPrecinctKept}
use Rattle.xs_sizes.proofs.FirstBand.{line_precinct}
use Rattle.xs_sizes.proofs.Sets.{pushed_more}
use Rattle.xs_sizes.proofs.precincts.keep_precincts.Goals as goal

pub keep_precinct-requires-clause-lines : goal.keep_precinct-requires-clause-lines
keep_precinct-requires-clause-lines c =
    let lines = c.requires.lines in
    (lines.0, lines.1, (line_precinct c.args.counting.now.geometry.now lines.0 c.precincts.precinct (omega (arith, lines.2, c.precincts.invariant.count)) (omega (arith, lines.3, c.precincts-test.true))).0)

pub keep_precinct-requires-clause-precinct : goal.keep_precinct-requires-clause-precinct
keep_precinct-requires-clause-precinct c =
    let lines = c.requires.lines in
    (line_precinct c.args.counting.now.geometry.now lines.0 c.precincts.precinct (omega (arith, lines.2, c.precincts.invariant.count)) (omega (arith, lines.3, c.precincts-test.true))).1

pub precincts-preserved : goal.precincts-preserved
precincts-preserved c =
    let P : ℕ → PrecinctCounts → Type 0 = λ number kept. IsPrecinctKept c.args.counting.now.geometry.now (rows_held c.args.counting.now.rows.now) (c.args.precincts.0 + number) kept in
    let own = c.in_ok-counts.counts in
    let here : IsPrecinctKept c.args.counting.now.geometry.now (rows_held c.args.counting.now.rows.now) (c.args.precincts.0 + length c.precincts.kept.items) own =
    subst (λ p. IsPrecinctKept c.args.counting.now.geometry.now (rows_held c.args.counting.now.rows.now) p own) (sym c.precincts.invariant.count) c.in_ok-counts.ensures in
    let more = pushed_more P c.precincts.kept.items c.push_precinct.new.kept.items own c.precincts.invariant.each here c.in_ok-push_precinct.ensures in
    record { count = omega (arith, more.0, c.precincts.invariant.count); each = more.1 }
