use Rattle.std.proofs.Common.{◌-◌, ◌≤◌, take, drop, length, refl, arith, sym, ap, subst, ◌∙◌}
use Rattle.xs_geometry.specs.Written.{with_lent}
use Rattle.xs_geometry.specs.SliceLines.{row_at}
use Rattle.xs_geometry.specs.Blocks.{blocks_of, bands_cut, StandFrom}
use Rattle.xs_geometry.proofs.BlockRows.{AreSeen, numbers_seen, view_lent}
use Rattle.xs_geometry.proofs.LentRows.{lent_items, length_written}
use Rattle.xs_geometry.proofs.rows.SliceRows.row_mut.Goals as goal

pub slice_mut-requires-clause-in_bounds : goal.slice_mut-requires-clause-in_bounds
slice_mut-requires-clause-in_bounds c =
    let blocks = blocks_of c.self.inside.table in
    let numbers = c.self.inside.numbers in
    let are : AreSeen blocks numbers.items (bands_cut blocks numbers.items) = record { seen = refl; stand = c.self.invariant.0 } in
    omega (arith, c.place-start.ensures.inside, ap length (numbers_seen _ _ _ are), numbers.ok.0)

pub returns : goal.returns
returns c =
    let blocks = blocks_of c.self.inside.table in
    let numbers = c.self.inside.numbers in
    let start = c.place-start.result.0 in
    let are : AreSeen blocks numbers.items (bands_cut blocks numbers.items) = record { seen = refl; stand = c.self.invariant.0 } in
    let all = numbers_seen blocks numbers.items (bands_cut blocks numbers.items) are in
    let fits : start ≤ length numbers.items = omega (arith, c.place-start.ensures.inside, c.place-start.ensures.end, ap length all) in (
      (refl, λ w. view_lent blocks numbers start (bands_cut blocks numbers.items) c.args.band c.args.line w are c.place-start.ensures.start fits ∙ ap (λ bands. with_lent bands c.args.band c.args.line w) c.self.view_is),
      record {
        after = tt;
        value = c.slice_mut.ensures.value ∙ ap (λ l. take (c.place-start.result.1 - start) (drop start l)) (sym all) ∙ c.place-start.ensures.row ∙ ap (λ bands. row_at bands c.args.band c.args.line) c.self.view_is;
      },
    )

pub invariant_of-self-lent : goal.invariant_of-self-lent
invariant_of-self-lent c w =
    let blocks = blocks_of c.self.inside.table in
    let numbers = c.self.inside.numbers in
    let start = c.place-start.result.0 in
    let are : AreSeen blocks numbers.items (bands_cut blocks numbers.items) = record { seen = refl; stand = c.self.invariant.0 } in
    let fits : start ≤ length numbers.items = omega (arith, c.place-start.ensures.inside, c.place-start.ensures.end, ap length (numbers_seen _ _ _ are)) in
    (subst (StandFrom 0 blocks) (sym (ap length (lent_items numbers start w fits) ∙ length_written start numbers.items w fits)) c.self.invariant.0, c.self.invariant.1)
