use Rattle.std.proofs.Common.{◌≡◌, ◌%◌, ◌<◌, ◌+◌, ◌∷◌, ◌++◌, [], length, take, get_or, set, arith, sym, ap, ◌∙◌, length-take-le}
use Rattle.std.proofs.lemmas.List.{take_more, get_or_default}
use Rattle.std.proofs.lemmas.List.FromFn.{length-map-range_with_len}
use Rattle.xs_capture.specs.Pictures.{dealt_part, dealt_parts}
use Rattle.xs_capture.proofs.Dealing.{dealt_more, dealt_none}
use Rattle.xs_capture.proofs.parts.deal.Goals as goal

pub dealing-init : goal.dealing-init
dealing-init c = c.in_ok-dealt.ensures.empty ∙ sym (dealt_none c.args.parts)

pub add-requires : goal.add-requires
add-requires c =
    let count : length c.dealing.dealt ≡ c.args.parts = ap length c.dealing.invariant ∙ length-map-range_with_len (dealt_part c.args.parts (take c.dealing.at c.args.packets.now)) 0 c.args.parts in
    omega (arith, count, c.requires.some)

pub dealing-preserved : goal.dealing-preserved
dealing-preserved c =
    let inside : c.dealing.at < length c.args.packets.now = omega arith in
    let item : c.in_ok-again.field-0 ≡ get_or c.args.packets.now c.dealing.at c.in_ok-again.field-0 = c.in_ok-again.ensures ∙ c.index-packets-at.is ∙ get_or_default c.args.packets.now c.dealing.at _ _ inside in
    let more : take (c.dealing.at + 1) c.args.packets.now ≡ take c.dealing.at c.args.packets.now ++ c.in_ok-again.field-0 ∷ [] =
    take_more c.args.packets.now c.dealing.at c.in_ok-again.field-0 inside ∙ ap (λ p. take c.dealing.at c.args.packets.now ++ p ∷ []) (sym item) in
    let size : length (take c.dealing.at c.args.packets.now) ≡ c.dealing.at = length-take-le c.dealing.at c.args.packets.now (omega arith) in
    let done = take c.dealing.at c.args.packets.now in
    let step = dealt_more c.args.parts (take c.dealing.at c.args.packets.now) c.in_ok-again.field-0 c.requires.some in
    c.in_ok-add.ensures.added
    ∙ ap (λ l. set l (c.dealing.at % c.args.parts) (get_or l (c.dealing.at % c.args.parts) [] ++ c.in_ok-again.field-0 ∷ [])) c.dealing.invariant
    ∙ ap (λ n. set (dealt_parts c.args.parts (take c.dealing.at c.args.packets.now)) (n % c.args.parts) (get_or (dealt_parts c.args.parts (take c.dealing.at c.args.packets.now)) (n % c.args.parts) [] ++ c.in_ok-again.field-0 ∷ [])) (sym size)
    ∙ sym step ∙ ap (dealt_parts c.args.parts) (sym more)
