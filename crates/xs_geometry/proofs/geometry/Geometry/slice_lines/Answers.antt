use Rattle.std.proofs.Common.{◌<◌, arith, sym, subst}
use Rattle.xs_params.specs.declared.header.Header.{Header}
use Rattle.xs_params.specs.Geometry.{slice_count, blank_header}
use Rattle.xs_geometry.proofs.Counts.{precincts_most, slice_begins}
use Rattle.xs_geometry.proofs.geometry.Geometry.slice_lines.Goals as goal

pub overflow_add-first : goal.overflow_add-first
overflow_add-first c =
    let g = c.self.inside in
    let own = blank_header g.shape g.hsl g.nlx g.nly in
    let there : c.args.slice < slice_count own = subst (λ (h : Header). c.args.slice < slice_count h) (sym c.self.view_is) c.requires.slice in
    omega (arith, slice_begins own c.args.slice c.self.invariant.0.hsl there, precincts_most own c.self.invariant.0, c.self.invariant.1)

pub cut-requires-2-clause-count : goal.cut-requires-2-clause-count
cut-requires-2-clause-count c =
    let g = c.self.inside in
    let own = blank_header g.shape g.hsl g.nlx g.nly in
    let there : c.args.slice < slice_count own = subst (λ (h : Header). c.args.slice < slice_count h) (sym c.self.view_is) c.requires.slice in
    omega (arith, slice_begins own c.args.slice c.self.invariant.0.hsl there, precincts_most own c.self.invariant.0, c.self.invariant.1)
