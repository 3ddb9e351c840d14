use Rattle.std.proofs.Common.{ap, ◌∙◌, arith, ◌+◌, ◌-◌, take, drop}
use Rattle.xs_wave.proofs.Flat.{row_inside, row_is}
use Rattle.xs_wave.proofs.planes.Plane.line.Goals as goal

pub start_of-start-requires : goal.start_of-start-requires
start_of-start-requires c =
    let p = c.self.inside in
    let inside = row_inside p.width p.height c.args.at p.samples.items c.args.self.now c.self.view_is c.self.invariant c.requires in
    omega (arith, inside, c.len.ensures, p.samples.ok)

pub returns : goal.returns
returns c =
    let start = c.start_of-start.result in
    let width = c.self.inside.width in
    ap (λ xs. take (start + width - start) (drop start xs)) c.deref.ensures.value
    ∙ row_is width c.self.inside.height c.args.at start c.self.inside.samples.items c.args.self.now c.self.view_is c.start_of-start.ensures.value c.requires
