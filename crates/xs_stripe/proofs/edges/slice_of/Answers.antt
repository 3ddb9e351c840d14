use Rattle.xs_stripe.proofs.Edged.{slice_found, some_bands}
use Rattle.xs_stripe.proofs.edges.slice_of.Goals as goal

pub returns : goal.returns
returns c slice there lines =
    let h = c.args.geometry.now in
    slice_found h slice c.args.body.now _ _ c.known_geometry.ensures there lines (some_bands h.nlx h.nly h.shape.format) c.lines-first.ensures.first c.slice_precincts-each.ensures.end
