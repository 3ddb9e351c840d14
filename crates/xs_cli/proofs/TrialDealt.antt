-- The packets of a trial, in their order.
use Rattle.std.proofs.Common.{◌≡◌, ℕ, zero, suc, ◌+◌, ◌*◌, ◌<◌, ◌≤◌, ◌++◌, ◌∷◌, List, [], Contains, Some, length, length-append, get_or, take, ap, subst, ◌∙◌, arith}
use Rattle.std.specs.List.{cons_option, flat_map, range_with_len}
use Rattle.std.proofs.lemmas.List.{get_or_default, map-append, take_more}
use Rattle.std.proofs.lemmas.List.Elements.{Contains-get_or, filter_map-append}
use Rattle.xs_capture.specs.Offer.{Offer}
use Rattle.xs_capture.specs.Offers.{offer_of, offers_of}
use Rattle.xs_pack.specs.Laws.{HaveSame}
use Rattle.xs_pack.proofs.Members.{in_map, in_range, of_map, of_range}
use Rattle.xs_trial.specs.Generator.{shuffle_of}
use Rattle.xs_trial.proofs.Mixing.{in_shuffle, of_shuffle}
use Rattle.xs_cli.specs.Trying.{in_order}

-- the numbers of the order are those of packets
pub order_below : (count state k : ℕ) → k < length (shuffle_of count state) → get_or (shuffle_of count state) k 0 < count
order_below count state k inside =
    let order = shuffle_of count state in
    let there = of_range 0 count (get_or order k 0) (of_shuffle count state (get_or order k 0) (Contains-get_or order k 0 inside)) in omega (arith, there.1)

-- one more offer
pub next_offer : (packets : List (List ℕ)) (order : List ℕ) (k : ℕ) (p : Offer) → k < length order → offer_of (get_or packets (get_or order k 0) []) ≡ Some p
    → offers_of (in_order packets (take (k + 1) order)) ≡ offers_of (in_order packets (take k order)) ++ p ∷ []
next_offer packets order k p inside e =
    let packet : ℕ → List ℕ = λ number. get_or packets number [] in
    ap (λ l. offers_of (in_order packets l)) (take_more order k 0 inside) ∙ ap offers_of (map-append packet (take k order) (get_or order k 0 ∷ []))
    ∙ filter_map-append offer_of (in_order packets (take k order)) (packet (get_or order k 0) ∷ []) ∙ ap (λ o. offers_of (in_order packets (take k order)) ++ cons_option o []) e

-- the packets in their order are the packets
pub order_same : (packets : List (List ℕ)) (state : ℕ) → HaveSame (in_order packets (shuffle_of (length packets) state)) packets
order_same packets state packet = (to, from)
  where
    at : ℕ → List ℕ
    at number = get_or packets number []

    order : List ℕ
    order = shuffle_of (length packets) state

    to : Contains (in_order packets (shuffle_of (length packets) state)) packet → Contains packets packet
    to has =
        let found = of_map at order packet has in
        let there = of_range 0 (length packets) found.0 (of_shuffle (length packets) state found.0 found.1) in
        subst (Contains packets) found.2 (Contains-get_or packets found.0 [] (omega (arith, there.1)))

    from : Contains packets packet → Contains (in_order packets (shuffle_of (length packets) state)) packet
    from has =
        let listed = in_shuffle (length packets) state has.0 (in_range 0 (length packets) has.0 (omega arith) (omega (arith, has.1))) in
        subst (Contains (in_order packets order)) (get_or_default packets has.0 [] packet has.1 ∙ has.2) (in_map at order has.0 listed)

-- there are few of them
pub few_flat : (f : ℕ → List (List ℕ)) (a n : ℕ) → ((k : ℕ) → a ≤ k → k < a + n → length (f k) ≤ 512) → length (flat_map f (range_with_len a n)) ≤ 512 * n
few_flat f a zero few = omega arith
few_flat f a (suc n) few =
    let here = few a (omega arith) (omega arith) in
    let rest = few_flat f (a + 1) n (λ k low high. few k (omega (arith, low)) (omega (arith, high))) in
    omega (arith, here, rest, length-append (f a) (flat_map f (range_with_len (a + 1) n)))
