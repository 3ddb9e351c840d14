use Rattle.std.proofs.Common.{◌<◌, sym, subst}
use Rattle.xs_params.specs.Geometry.{slice_count}
use Rattle.xs_geometry.specs.SliceLines.{ShowRows}
use Rattle.xs_stripe.specs.Edges.{IsDownEdge, IsUpEdge, ShowsDown, ShowsUp}
use Rattle.xs_codec_tests.specs.Made.{IsMade}
use Rattle.xs_codec_tests.proofs.Made.{made_kept}
use Rattle.xs_codec_tests.proofs.stripe.slice_of.Goals as goal

pub slice_rows-requires : goal.slice_rows-requires
slice_rows-requires c = subst (λ g. c.args.slice < slice_count g) (sym c.of-geometry.ensures) c.requires.slice

pub edges_of-requires-clause-slice : goal.edges_of-requires-clause-slice
edges_of-requires-clause-slice c = (c.args.slice, subst (λ g. c.args.slice < slice_count g) (sym c.of-geometry.ensures) c.requires.slice, c.in_ok-rows.ensures.lines)

pub returns-clause-rows : goal.returns-clause-rows
returns-clause-rows c =
    let rows = c.in_ok-rows.rows in
    made_kept c.args.header.now c.args.slice rows (subst (λ g. IsMade g c.args.slice rows) c.of-geometry.ensures c.in_ok-rows.ensures)

pub returns-clause-up : goal.returns-clause-up
returns-clause-up c =
    let there = subst (λ g. c.args.slice < slice_count g) (sym c.of-geometry.ensures) c.requires.slice in
    subst (λ g. IsUpEdge g c.args.slice c.in_ok-edges.edges.0) c.of-geometry.ensures (c.in_ok-edges.ensures.up c.args.slice there c.in_ok-rows.ensures.lines)

pub returns-clause-down : goal.returns-clause-down
returns-clause-down c =
    let there = subst (λ g. c.args.slice < slice_count g) (sym c.of-geometry.ensures) c.requires.slice in
    subst (λ g. IsDownEdge g c.args.slice c.in_ok-edges.edges.1) c.of-geometry.ensures (c.in_ok-edges.ensures.down c.args.slice there c.in_ok-rows.ensures.lines)

pub returns-clause-shows_up : goal.returns-clause-shows_up
returns-clause-shows_up c rows shown =
    let before = subst (λ g. ShowRows g rows c.in_ok-rows.rows) (sym c.of-geometry.ensures) shown in
    subst (λ g. ShowsUp g c.args.slice c.in_ok-edges.edges.0 rows) c.of-geometry.ensures (c.in_ok-edges.ensures.shows_up c.args.slice rows c.in_ok-rows.ensures.lines before)

pub returns-clause-shows_down : goal.returns-clause-shows_down
returns-clause-shows_down c rows shown =
    let before = subst (λ g. ShowRows g rows c.in_ok-rows.rows) (sym c.of-geometry.ensures) shown in
    subst (λ g. ShowsDown g c.args.slice c.in_ok-edges.edges.1 rows) c.of-geometry.ensures (c.in_ok-edges.ensures.shows_down c.args.slice rows c.in_ok-rows.ensures.lines before)
