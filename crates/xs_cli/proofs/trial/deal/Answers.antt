use Rattle.std.proofs.Common.{◌≡◌, ◌%◌, ◌<◌, ◌++◌, ◌∷◌, [], length, length-append, get_or, set, take, refl, sym, ap, subst, ◌∙◌, arith}
use Rattle.std.specs.Prelude.{IsSome}
use Rattle.xs_capture.specs.Offers.{offer_of, offers_of}
use Rattle.xs_capture.specs.Pictures.{dealt_parts}
use Rattle.xs_capture.proofs.Dealing.{dealt_more, dealt_none}
use Rattle.xs_recv.proofs.Dealt.{offers_are_dealt}
use Rattle.xs_trial.specs.Generator.{shuffle_of}
use Rattle.xs_cli.specs.Trying.{in_order}
use Rattle.xs_cli.proofs.TrialDealt.{next_offer, order_below}
use Rattle.xs_cli.proofs.trial.deal.Goals as goal

pub sending-init : goal.sending-init
sending-init c = record { parts = c.in_ok-parts.ensures.empty ∙ sym (dealt_none c.args.feeders); count = refl }

pub get-requires : goal.get-requires
get-requires c =
    let packets = c.args.packets.now in
    let entry = c.sending.entry in
    let numbers = c.as_slice-numbers.result.now in
    let order : numbers ≡ shuffle_of (length packets) c.args.state =
    c.as_slice-numbers.ensures.items ∙ c.in_ok-order.ensures ∙ ap (λ n. shuffle_of n c.args.state) c.len.ensures in
    let inside : entry < length numbers = omega (arith, c.sending-test.true, c.sending.auto.entry-end) in
    let there : entry < length (shuffle_of (length packets) c.args.state) = omega (arith, inside, ap length order) in
    subst (λ l. get_or l entry 0 < length packets) (sym order) (order_below (length packets) c.args.state entry there)

pub offer_in-requires : goal.offer_in-requires
offer_in-requires c =
    let packets = c.args.packets.now in
    let entry = c.sending.entry in
    let numbers = c.as_slice-numbers.result.now in
    let order : numbers ≡ shuffle_of (length packets) c.args.state =
    c.as_slice-numbers.ensures.items ∙ c.in_ok-order.ensures ∙ ap (λ n. shuffle_of n c.args.state) c.len.ensures in
    let inside : entry < length numbers = omega (arith, c.sending-test.true, c.sending.auto.entry-end) in
    let there : entry < length (shuffle_of (length packets) c.args.state) = omega (arith, inside, ap length order) in
    let below = subst (λ l. get_or l entry 0 < length packets) (sym order) (order_below (length packets) c.args.state entry there) in
    subst (λ l. IsSome (offer_of l)) (sym c.get.ensures) (c.requires.offers (get_or numbers entry 0) below)

pub add-requires : goal.add-requires
add-requires c =
    let offers = offers_of (in_order c.args.packets.now (take c.sending.entry c.as_slice-numbers.result.now)) in
    let dealt = offers_are_dealt c.args.feeders offers c.requires.some in
    let size = ap length c.sending.invariant.parts in
    let some = c.requires.some in
    let less : c.sending.entry % c.args.feeders < c.args.feeders = omega (arith, some) in
    omega (arith, dealt.count, size, less)

pub sending-preserved : goal.sending-preserved
sending-preserved c =
    let packets = c.args.packets.now in
    let entry = c.sending.entry in
    let feeders = c.args.feeders in
    let numbers = c.as_slice-numbers.result.now in
    let p = c.in_ok-packet.packet in
    let offers = offers_of (in_order packets (take entry numbers)) in
    let inside : entry < length numbers = omega (arith, c.sending-test.true, c.sending.auto.entry-end) in
    let next = next_offer packets numbers entry p inside (ap offer_of (sym c.get.ensures) ∙ c.in_ok-packet.ensures) in
    let count = c.sending.invariant.count in
    let part = entry % feeders in
    record {
      parts =
          c.in_ok-add.ensures.added ∙ ap (λ l. set l part (get_or l part [] ++ p ∷ [])) c.sending.invariant.parts
          ∙ ap (λ n. set (dealt_parts feeders offers) (n % feeders) (get_or (dealt_parts feeders offers) (n % feeders) [] ++ p ∷ [])) (sym count)
          ∙ sym (dealt_more feeders offers p c.requires.some) ∙ ap (dealt_parts feeders) (sym next);
      count = ap length next ∙ length-append offers (p ∷ []) ∙ omega (arith, count);
    }
