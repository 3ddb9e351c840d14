use Rattle.std.proofs.Common.{◌-◌}
use Rattle.xs_geometry.specs.SliceLines.{first_line_of, end_line_of}
use Rattle.xs_stripe.specs.Edges.{HasLines, HasHighLines, first_row, last_high_row}
use Rattle.xs_stripe.proofs.Edged.{edge_is, edge_shows, picked_up, picked_down}
use Rattle.xs_stripe.proofs.edges.edges_of.Goals as goal

pub returns-clause-up : goal.returns-clause-up
returns-clause-up c slice there lines =
    let h = c.args.geometry.now in
    let body = c.args.body.now in
    edge_is h slice body (HasLines h slice) (first_line_of h slice) (first_row body) (record { slice = c.slice_of-slice.result; rows = c.in_ok-up.up }) lines c.requires.small (picked_up h slice body lines) (c.slice_of-slice.ensures slice there lines) c.in_ok-up.ensures

pub returns-clause-down : goal.returns-clause-down
returns-clause-down c slice there lines =
    let h = c.args.geometry.now in
    let body = c.args.body.now in
    edge_is h slice body (HasHighLines h slice) (λ band. end_line_of h slice band - 1) (last_high_row h body) (record { slice = c.slice_of-slice.result; rows = c.in_ok-down.down }) lines c.requires.small (picked_down h slice body lines)
    (c.slice_of-slice.ensures slice there lines) c.in_ok-down.ensures

pub returns-clause-shows_up : goal.returns-clause-shows_up
returns-clause-shows_up c slice rows lines show =
    let h = c.args.geometry.now in
    let body = c.args.body.now in
    edge_shows h rows body (HasLines h slice) (first_line_of h slice) (first_row body) (record { slice = c.slice_of-slice.result; rows = c.in_ok-up.up }) (picked_up h slice body lines) show c.in_ok-up.ensures

pub returns-clause-shows_down : goal.returns-clause-shows_down
returns-clause-shows_down c slice rows lines show =
    let h = c.args.geometry.now in
    let body = c.args.body.now in
    edge_shows h rows body (HasHighLines h slice) (λ band. end_line_of h slice band - 1) (last_high_row h body) (record { slice = c.slice_of-slice.result; rows = c.in_ok-down.down }) (picked_down h slice body lines) show c.in_ok-down.ensures
