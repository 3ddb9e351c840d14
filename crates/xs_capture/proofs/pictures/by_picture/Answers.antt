use Rattle.std.proofs.Common.{◌≡◌, ◌∷◌, ◌++◌, [], length, map, get_or, set, arith, sym, ap, subst, ◌∙◌, Contains}
use Rattle.std.proofs.lemmas.List.{length-map, map-id}
use Rattle.std.proofs.lemmas.Iterator.Adapters.{YieldsList-from_vec}
use Rattle.std.proofs.lemmas.Iterator.Consumers.{YieldsList-turn, YieldsList-end}
use Rattle.xs_capture.specs.Offer.{Offer}
use Rattle.xs_capture.specs.Offers.{offers_at}
use Rattle.xs_capture.proofs.Edits.{map_one}
use Rattle.xs_capture.proofs.Sorting.{filed_more, its_timestamp}
use Rattle.xs_capture.proofs.pictures.by_picture.Goals as goal

pub filing-init : goal.filing-init
filing-init c = c.in_ok-lists.ensures.empty ∙ sym (map_one [] c.args.timestamps.now)

pub number_of-requires-clause-there : goal.number_of-requires-clause-there
number_of-requires-clause-there c =
    let gives = c.into_iter-packet-iterator.ensures.into_iter_gives in
    let turn = YieldsList-turn (YieldsList-from_vec {s = c.into_iter-packet-iterator.result} c.args.packets.items gives.0 (gives.1 ∙ c.args.packets.ok.0)) c.filing.yielded c.filing.packet-iterator c.filing.yielded_by
    c.next.result c.next.new.self c.in-Some.packet c.in-Some.is c.next.ensures.steps in
    let there : Contains (map (λ (p : Offer). p.timestamp) c.args.packets.items) c.in-Some.packet.timestamp = its_timestamp c.args.packets.items (length c.filing.yielded) c.in-Some.packet turn.0 turn.1 in
    let same : c.packet.inside.timestamp ≡ c.in-Some.packet.timestamp = ap (λ (p : Offer). p.timestamp) c.packet.view_is in
    subst (Contains c.args.timestamps.now) (sym same) ((c.requires.timestamps.those c.in-Some.packet.timestamp).1 there)

pub add-requires : goal.add-requires
add-requires c = omega (arith, c.number_of.ensures.inside, ap length c.filing.invariant, length-map c.args.timestamps.now (λ t. offers_at t c.filing.yielded))

pub filing-preserved : goal.filing-preserved
filing-preserved c =
    let found : get_or c.args.timestamps.now c.number_of.result 0 ≡ c.in-Some.packet.timestamp = c.number_of.ensures.found ∙ ap (λ (p : Offer). p.timestamp) c.packet.view_is in
    c.in_ok-add.ensures.added ∙ ap (λ l. set l c.number_of.result (get_or l c.number_of.result [] ++ c.in-Some.packet ∷ [])) c.filing.invariant
    ∙ sym (filed_more c.args.timestamps.now c.filing.yielded c.in-Some.packet c.number_of.result c.requires.timestamps.ascending c.number_of.ensures.inside found)

pub returns : goal.returns
returns c =
    let gives = c.into_iter-packet-iterator.ensures.into_iter_gives in
    let end = YieldsList-end (YieldsList-from_vec {s = c.into_iter-packet-iterator.result} c.args.packets.items gives.0 (gives.1 ∙ c.args.packets.ok.0)) c.filing.yielded c.filing.packet-iterator c.filing.yielded_by
    c.next.result c.next.new.self c.in-None.is c.next.ensures.steps in
    let all : c.filing.yielded ≡ c.args.packets.items = sym (map-id c.filing.yielded) ∙ end.0 in
    c.filing.invariant ∙ ap (λ l. map (λ t. offers_at t l) c.args.timestamps.now) all
