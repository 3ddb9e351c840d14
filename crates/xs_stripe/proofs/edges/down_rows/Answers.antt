use Rattle.std.proofs.Common.{◌≡◌, ◌++◌, ◌∷◌, [], map, ap, sym, ◌∙◌, arith}
use Rattle.std.proofs.lemmas.List.FromFn.{map-range_with_len_more}
use Rattle.xs_lists.specs.Spelling.{upto}
use Rattle.xs_params.specs.Geometry.{bands_of}
use Rattle.xs_stripe.specs.Edges.{last_high_row}
use Rattle.xs_stripe.proofs.edges.down_rows.Goals as goal

pub each-preserved : goal.each-preserved
each-preserved c =
    let f = last_high_row c.args.geometry.now c.args.body.now in
    let k = c.each.band in
    c.in_ok-push.ensures ∙ ap (λ r. r ++ c.last_high_row.result.now ∷ []) c.each.invariant ∙ ap (λ x. map f (upto k) ++ x ∷ []) c.last_high_row.ensures ∙ sym (map-range_with_len_more f 0 k k (omega arith))

pub returns : goal.returns
returns c =
    let all : c.each.band ≡ bands_of c.args.geometry.now = omega (arith, c.each-test.false, c.each.auto.band-end, c.bands-count.ensures.count) in
    c.each.invariant ∙ ap (λ n. map (last_high_row c.args.geometry.now c.args.body.now) (upto n)) all
