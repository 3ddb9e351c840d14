-- What is dealt of a capture is in few parts, and has no more bytes than the capture.
use Rattle.std.proofs.Common.{◌≡◌, ◌∙◌, ℕ, ◌<◌, ◌≤◌, ◌^◌, List, [], length, get_or, ap, arith}
use Rattle.std.proofs.lemmas.List.{get_or-map}
use Rattle.xs_capture.specs.Offer.{Offer}
use Rattle.xs_capture.specs.Offers.{offers_at, offers_of}
use Rattle.xs_capture.specs.Pictures.{IsSorting, Sorting, dealt_parts}
use Rattle.xs_recv.proofs.Dealt.{offers_are_dealt, offers_are_in_capture}
use Rattle.xs_recv.specs.Received.{offered_bytes, offers_of_parts}

module _ (parts : List (List Offer)) (count : ℕ) (offers : List Offer) (dealt : parts ≡ dealt_parts count offers) (some : 1 ≤ count) where
  pub few_parts : count ≤ 8 → length parts ≤ 8
  few_parts few = let known = (offers_are_dealt count offers some).count in omega (arith, ap length dealt, known, few)

  pub small_parts : offered_bytes offers < 2 ^ 32 → offered_bytes (offers_of_parts parts) < 2 ^ 32
  small_parts small = let known = (offers_are_dealt count offers some).size in omega (arith, ap (λ l. offered_bytes (offers_of_parts l)) dealt, known, small)

pub small_at : (bytes : List ℕ) (sorting : Sorting) → length bytes < 2 ^ 32 → IsSorting bytes sorting → (number : ℕ) → number < length sorting.timestamps
    → offered_bytes (get_or sorting.offers number []) < 2 ^ 32
small_at bytes sorting short sorts number below =
    let here : get_or sorting.offers number [] ≡ offers_at (get_or sorting.timestamps number 0) (offers_of sorts.packets) =
    ap (λ l. get_or l number []) sorts.offers ∙ get_or-map (λ timestamp. offers_at timestamp (offers_of sorts.packets)) sorting.timestamps number 0 [] below in
    let size = (offers_are_in_capture sorts.packets bytes (get_or sorting.timestamps number 0) sorts.whole).size in
    omega (arith, ap offered_bytes here, size, short)
