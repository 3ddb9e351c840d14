use Rattle.std.proofs.Common.{◌≡◌, ◌+◌, ◌≤◌, ◌++◌, ◌∷◌, [], length, ap, sym, subst, ◌∙◌, arith}
use Rattle.std.proofs.lemmas.List.{length-append}
use Rattle.xs_stripe.specs.Block.{rows_at_places, StandIn}
use Rattle.xs_stripe.specs.declared.place.RowPlace.{RowPlace}
use Rattle.xs_stripe.proofs.Places.{stand_more, stand_push, rows_added}
use Rattle.xs_stripe.proofs.sample_list.SampleList.push.Goals as goal

pub invariant_of-self-2 : goal.invariant_of-self-2
invariant_of-self-2 c =
    let xs = c.self.inside.samples.items in
    let all = length c.add_samples.new.samples.items in
    let count : all ≡ length xs + length c.args.row.now = ap length c.in_ok-add_samples.ensures.added ∙ length-append xs c.args.row.now in
    let p : RowPlace = record { start = c.len-start.result; end = c.len-end.result } in
    let order : p.start ≤ p.end = omega (arith, c.len-start.ensures, c.len-end.ensures, c.self.inside.samples.ok.0, c.add_samples.new.samples.ok.0, count) in
    let inside : p.end ≤ all = omega (arith, c.len-end.ensures, c.add_samples.new.samples.ok.0) in
    subst (StandIn all) (sym c.in_ok-add_place.ensures.added) (stand_push all c.self.inside.places.items p order inside (stand_more (length xs) all c.self.inside.places.items (omega (arith, count)) c.self.invariant))

pub invariant_of-self-in_err-add_place : goal.invariant_of-self-in_err-add_place
invariant_of-self-in_err-add_place c =
    let xs = c.self.inside.samples.items in
    let all = length c.add_samples.new.samples.items in
    let count : all ≡ length xs + length c.args.row.now = ap length c.in_ok-add_samples.ensures.added ∙ length-append xs c.args.row.now in
    subst (StandIn all) (sym c.in_err-add_place.ensures.refused) (stand_more (length xs) all c.self.inside.places.items (omega (arith, count)) c.self.invariant)

pub returns : goal.returns
returns c =
    let xs = c.self.inside.samples.items in
    let ps = c.self.inside.places.items in
    let row = c.args.row.now in
    let p : RowPlace = record { start = c.len-start.result; end = c.len-end.result } in
    let count : length c.add_samples.new.samples.items ≡ length xs + length row = ap length c.in_ok-add_samples.ensures.added ∙ length-append xs row in
    let start : p.start ≡ length xs = omega (arith, c.len-start.ensures, c.self.inside.samples.ok.0) in
    let end : p.end ≡ length xs + length row = omega (arith, c.len-end.ensures, c.add_samples.new.samples.ok.0, count) in
    ap (λ l. rows_at_places l c.add_samples.new.samples.items) c.in_ok-add_place.ensures.added ∙ ap (rows_at_places (ps ++ p ∷ [])) c.in_ok-add_samples.ensures.added ∙ rows_added ps p xs row start end c.self.invariant
    ∙ ap (λ l. l ++ row ∷ []) c.self.view_is
