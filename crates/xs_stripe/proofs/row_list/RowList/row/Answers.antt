use Rattle.std.proofs.Common.{◌<◌, ◌-◌, [], length, get_or, take, drop, ap, sym, ◌∙◌, arith}
use Rattle.xs_stripe.specs.declared.place.RowPlace.{RowPlace}
use Rattle.xs_stripe.proofs.Places.{stand_at, row_at_place, rows_count}
use Rattle.xs_stripe.proofs.row_list.RowList.row.Goals as goal

pub part-requires-clause-order : goal.part-requires-clause-order
part-requires-clause-order c =
    let ps = c.self.inside.places.items in
    let inside : c.args.at < length ps = omega (arith, c.requires, ap length c.self.view_is, rows_count ps c.self.inside.numbers.items) in
    let s = stand_at (length c.self.inside.numbers.items) ps c.args.at c.index.result.now inside c.self.invariant in
    omega (arith, s.0, ap (λ (p : RowPlace). p.start) c.index.ensures, ap (λ (p : RowPlace). p.end) c.index.ensures)

pub part-requires-clause-inside : goal.part-requires-clause-inside
part-requires-clause-inside c =
    let ps = c.self.inside.places.items in
    let inside : c.args.at < length ps = omega (arith, c.requires, ap length c.self.view_is, rows_count ps c.self.inside.numbers.items) in
    let s = stand_at (length c.self.inside.numbers.items) ps c.args.at c.index.result.now inside c.self.invariant in
    omega (arith, s.1, ap length c.as_slice.ensures.value, ap (λ (p : RowPlace). p.end) c.index.ensures)

pub returns : goal.returns
returns c =
    let ps = c.self.inside.places.items in
    let xs = c.self.inside.numbers.items in
    let place = c.index.result.now in
    let inside : c.args.at < length ps = omega (arith, c.requires, ap length c.self.view_is, rows_count ps xs) in
    c.part.ensures ∙ ap (λ l. take (place.end - place.start) (drop place.start l)) c.as_slice.ensures.value ∙ ap (λ (p : RowPlace). take (p.end - p.start) (drop p.start xs)) c.index.ensures
    ∙ sym (row_at_place ps xs c.args.at place inside) ∙ ap (λ l. get_or l c.args.at []) c.self.view_is
