-- What is known of offers and of what is received of them.
use Rattle.std.proofs.Common.{◌≡◌, ℕ, ◌<◌, ◌≤◌, ◌^◌, List, [], ◌∷◌, length, map, true, false, slice_index_or, get_or, sym, ap, subst, arith, ◌∙◌}
use Rattle.std.specs.List.{AllByRecursion}
use Rattle.std.proofs.lemmas.List.{get_or-map, length-map}
use Rattle.xs_lists.specs.Packing.{AreBytes}
use Rattle.xs_capture.specs.Capture.{IsCapture}
use Rattle.xs_capture.specs.Offer.{Offer}
use Rattle.xs_capture.specs.Offers.{offers_at, offers_of}
use Rattle.xs_capture.specs.Pictures.{IsSorting, Sorting, dealt_parts}
use Rattle.xs_capture.specs.Selection.{Held, IsSelection}
use Rattle.xs_capture.proofs.Firsts.{selection_exists}
use Rattle.xs_capture.proofs.Selections.{selection_of_set}
use Rattle.xs_recv.specs.declared.received.Damage.TheVariants as damage
use Rattle.xs_recv.specs.declared.received.Received.{Received}
use Rattle.xs_recv.specs.declared.received.Received.TheVariants as received
use Rattle.xs_recv.proofs.Answered.{answer_exists}
use Rattle.xs_recv.proofs.Dealt.{offers_are_dealt, offers_are_in_capture}
use Rattle.xs_recv.specs.Received.{IsReceived, offered_bytes, offers_of_parts}
use Rattle.xs_cli.specs.Captured.{IsReceivedOf}
use Rattle.xs_cli.specs.Receiving.{IsNamed}
use Rattle.xs_cli.proofs.CapturedNamed.{header_unit_named, slice_unit_named}

-- Parts

module _ (parts : List (List Offer)) (count : ℕ) (offers : List Offer) (dealt : parts ≡ dealt_parts count offers) (some : 1 ≤ count) where
  pub few_parts : count ≤ 8 → length parts ≤ 8
  few_parts few = let known = (offers_are_dealt count offers some).count in omega (arith, ap length dealt, known, few)

  pub small_parts : offered_bytes offers < 2 ^ 32 → offered_bytes (offers_of_parts parts) < 2 ^ 32
  small_parts small = let known = (offers_are_dealt count offers some).size in omega (arith, ap (λ l. offered_bytes (offers_of_parts l)) dealt, known, small)

  pub received_of_parts : (answer : Received) → (held : Held) × IsSelection (offers_of_parts parts) held × IsReceived held answer → IsReceivedOf offers answer
  received_of_parts answer found = record {
    held = found.0;
    selection = selection_of_set (offers_of_parts (dealt_parts count offers)) offers found.0 (λ p. (((offers_are_dealt count offers some).same p).1, ((offers_are_dealt count offers some).same p).0))
        (subst (λ l. IsSelection (offers_of_parts l) found.0) dealt found.1);
    received = found.2;
  }

-- Answers

-- a fault is named
pub received_named : (answer : Received) (held : Held) → IsReceived held answer → IsNamed answer
received_named (received.Picture picture) held is = tt
received_named (received.Missing true slices) held is = tt
received_named (received.Missing false slices) held is = is.4
received_named (received.Damaged (damage.Head fault)) held is = λ timestamp. header_unit_named is.0 fault is.2
received_named (received.Damaged (damage.Slice slice fault)) held is = λ timestamp. slice_unit_named is.0 slice (slice_index_or is.3 slice []) fault is.5.faulty
received_named (received.Damaged (damage.Lcod stated actual)) held is = λ timestamp. tt

-- each picture of a capture has an answer
abbrev pub HasAnswer : List Offer → Type 0
HasAnswer offers = (answer : Received) × IsReceivedOf offers answer

pub answer_of : (bytes : List ℕ) (packets : List (List ℕ)) → AreBytes bytes → IsCapture packets bytes → (timestamp : ℕ) → HasAnswer (offers_at timestamp (offers_of packets))
answer_of bytes packets are whole timestamp =
    let offers = offers_at timestamp (offers_of packets) in
    let held = selection_exists offers in
    let answer = answer_exists offers held.0 ((offers_are_in_capture packets bytes timestamp whole).sound are) held.1 in
    (answer.0, record { held = held.0; selection = held.1; received = answer.1 })

all_of_map : (F : ℕ → List Offer) → ((timestamp : ℕ) → HasAnswer (F timestamp)) → (timestamps : List ℕ) → AllByRecursion HasAnswer (map F timestamps)
all_of_map F has [] = tt
all_of_map F has (timestamp ∷ timestamps) = (has timestamp, all_of_map F has timestamps)

pub all_answered : (bytes : List ℕ) (sorting : Sorting) → AreBytes bytes → IsSorting bytes sorting → AllByRecursion HasAnswer sorting.offers
all_answered bytes sorting are sorts =
    subst (AllByRecursion HasAnswer) (sym sorts.offers) (all_of_map (λ timestamp. offers_at timestamp (offers_of sorts.packets)) (answer_of bytes sorts.packets are sorts.whole) sorting.timestamps)

-- Sorted offers

pub as_many : (bytes : List ℕ) (sorting : Sorting) → IsSorting bytes sorting → length sorting.offers ≡ length sorting.timestamps
as_many bytes sorting sorts = ap length sorts.offers ∙ length-map sorting.timestamps (λ timestamp. offers_at timestamp (offers_of sorts.packets))

pub small_at : (bytes : List ℕ) (sorting : Sorting) → length bytes < 2 ^ 32 → IsSorting bytes sorting → (number : ℕ) → number < length sorting.timestamps
    → offered_bytes (get_or sorting.offers number []) < 2 ^ 32
small_at bytes sorting short sorts number below =
    let here : get_or sorting.offers number [] ≡ offers_at (get_or sorting.timestamps number 0) (offers_of sorts.packets) =
    ap (λ l. get_or l number []) sorts.offers ∙ get_or-map (λ timestamp. offers_at timestamp (offers_of sorts.packets)) sorting.timestamps number 0 [] below in
    let size = (offers_are_in_capture sorts.packets bytes (get_or sorting.timestamps number 0) sorts.whole).size in
    omega (arith, ap offered_bytes here, size, short)
