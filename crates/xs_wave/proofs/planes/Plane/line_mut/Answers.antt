use Rattle.std.proofs.Common.{◌≤◌, ◌∙◌, refl, arith, length}
use Rattle.xs_wave.proofs.Flat.{row_inside, row_is}
use Rattle.xs_wave.proofs.Kept.{view_lent, length_lent}
use Rattle.xs_wave.proofs.planes.Plane.line_mut.Goals as goal

pub start_of-start-requires : goal.start_of-start-requires
start_of-start-requires c =
    let p = c.self.inside in
    let inside = row_inside p.width p.height c.args.at p.samples.items c.args.self.now c.self.view_is c.self.invariant c.requires in
    omega (arith, inside, c.len.ensures, p.samples.ok)

pub returns : goal.returns
returns c =
    let p = c.self.inside in
    let start = c.start_of-start.result in
    let fits : start ≤ length p.samples.items = omega (arith, c.start_of-start.ensures.inside, c.len.ensures, p.samples.ok) in (
      (refl, λ w. view_lent p.width p.height c.args.at start p.samples c.args.self.now w c.self.view_is c.self.invariant c.requires c.start_of-start.ensures.value fits),
      record {
        after = tt;
        value = c.slice_mut.ensures.value ∙ row_is p.width p.height c.args.at start p.samples.items c.args.self.now c.self.view_is c.start_of-start.ensures.value c.requires;
      },
    )

pub invariant_of-self-lent : goal.invariant_of-self-lent
invariant_of-self-lent c w =
    let p = c.self.inside in
    let start = c.start_of-start.result in
    let fits : start ≤ length p.samples.items = omega (arith, c.start_of-start.ensures.inside, c.len.ensures, p.samples.ok) in
    length_lent start p.samples w fits ∙ c.self.invariant
