use Rattle.xs_stripe.proofs.HeaderEdges.{downs, shows_downs, shows_ups, slice_there, ups}
use Rattle.xs_stripe.proofs.edges.slice_edges.Goals as goal

pub edges_of-requires-clause-slice : goal.edges_of-requires-clause-slice
edges_of-requires-clause-slice c = slice_there c.args.header.now c.of.result c.args.slice c.args.body.now c.of.ensures c.requires.slice c.requires.lines

pub returns-clause-up : goal.returns-clause-up
returns-clause-up c = ups c.args.header.now c.of.result c.args.slice c.args.body.now c.edges_of.result c.of.ensures c.requires.slice c.requires.lines c.edges_of.ensures.up

pub returns-clause-down : goal.returns-clause-down
returns-clause-down c = downs c.args.header.now c.of.result c.args.slice c.args.body.now c.edges_of.result c.of.ensures c.requires.slice c.requires.lines c.edges_of.ensures.down

pub returns-clause-shows_up : goal.returns-clause-shows_up
returns-clause-shows_up c = shows_ups c.args.header.now c.of.result c.args.slice c.args.body.now c.edges_of.result c.of.ensures c.requires.lines c.edges_of.ensures.shows_up

pub returns-clause-shows_down : goal.returns-clause-shows_down
returns-clause-shows_down c = shows_downs c.args.header.now c.of.result c.args.slice c.args.body.now c.edges_of.result c.of.ensures c.requires.lines c.edges_of.ensures.shows_down
