use Rattle.std.proofs.Common.{◌<◌, ◌++◌, [], All, length, take, get_or, sym, ap, subst, ◌∙◌, arith}
use Rattle.std.proofs.lemmas.List.{get_or-set_other, length-set, take_all}
use Rattle.xs_capture.specs.Offer.{Offer}
use Rattle.xs_recv.specs.declared.activity.Feed.{Feed}
use Rattle.xs_recv.specs.Filing.{AreOfUnits, fed}
use Rattle.xs_recv.specs.Received.{offers_of_parts}
use Rattle.xs_recv.proofs.Fed.{fed_more, of_more}
use Rattle.xs_recv.proofs.Filing.{parts_more}
use Rattle.xs_recv.proofs.feeds.feeds_of.Goals as goal

pub parts-preserved : goal.parts-preserved
parts-preserved c =
    let at = c.parts.at in
    let initial = c.args.parts in
    let there : at < length initial = omega (arith, c.parts-test.true, c.parts.auto.at-end) in
    let f : Feed = record { part = c.take-part.result } in
    let items = c.take-part.ensures.taken ∙ c.parts.invariant.left at (omega arith) in
    let below = subst (All (λ (p : Offer). p.unit < c.units_with-units.result)) c.as_slice.ensures.value c.units_with-units.ensures.of in
    record {
      count = ap length c.take-part.ensures.left ∙ length-set _ _ _ ∙ c.parts.invariant.count;
      left = λ k from. ap (λ l. get_or l k []) c.take-part.ensures.left ∙ get_or-set_other _ _ k [] [] (λ e. absurd (omega (arith, e, from))) ∙ c.parts.invariant.left k (omega (arith, from));
      all = ap fed c.in_ok-push_feed.ensures ∙ fed_more c.parts.feeds.items f ∙ ap (λ l. l ++ f.part.items) c.parts.invariant.all ∙ ap (λ l. offers_of_parts (take at initial) ++ l) items ∙ sym (parts_more initial at there);
      of = subst (AreOfUnits c.units_with-units.result) (sym c.in_ok-push_feed.ensures) (of_more c.parts.feeds.items f c.parts.units c.units_with-units.result c.units_with-units.ensures.more c.parts.invariant.of below);
      some = omega (arith, c.parts.invariant.some, c.units_with-units.ensures.more);
      few = c.units_with-units.ensures.few;
    }

pub returns-clause-all : goal.returns-clause-all
returns-clause-all c = c.parts.invariant.all ∙ ap offers_of_parts (take_all c.parts.at c.args.parts (omega (arith, c.parts-test.false, c.parts.auto.at-end)))
