use Rattle.std.proofs.Common.{◌-◌, ◌≤◌, take, drop, length, arith, sym, ap, ◌∙◌}
use Rattle.xs_geometry.proofs.BlockRows.{AreSeen, numbers_seen}
use Rattle.xs_geometry.specs.Blocks.{blocks_of}
use Rattle.xs_geometry.proofs.rows.SliceRows.row.Goals as goal

pub offset_bounds-deref-start : goal.offset_bounds-deref-start
offset_bounds-deref-start c =
    let are : AreSeen (blocks_of c.self.inside.table) c.self.inside.numbers.items c.args.self.now = record { seen = c.self.view_is; stand = c.self.invariant.0 } in
    let inside : c.place-start.result.1 ≤ length c.deref.result.now = omega (arith, c.place-start.ensures.inside, ap length (numbers_seen _ _ _ are), ap length c.deref.ensures.value) in
    omega (arith, inside, c.place-start.ensures.end)

pub slice_bounds-result-end : goal.slice_bounds-result-end
slice_bounds-result-end c =
    let are : AreSeen (blocks_of c.self.inside.table) c.self.inside.numbers.items c.args.self.now = record { seen = c.self.view_is; stand = c.self.invariant.0 } in
    omega (arith, c.place-start.ensures.inside, ap length (numbers_seen _ _ _ are), ap length c.deref.ensures.value)

pub returns : goal.returns
returns c =
    let are : AreSeen (blocks_of c.self.inside.table) c.self.inside.numbers.items c.args.self.now = record { seen = c.self.view_is; stand = c.self.invariant.0 } in
    ap (λ l. take (c.place-start.result.1 - c.place-start.result.0) (drop c.place-start.result.0 l)) (c.deref.ensures.value ∙ sym (numbers_seen _ _ _ are)) ∙ c.place-start.ensures.row
