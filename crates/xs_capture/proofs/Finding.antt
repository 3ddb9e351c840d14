-- One frame more of a capture.
use Rattle.std.proofs.Common.{◌≡◌, ℕ, suc, ◌+◌, ◌-◌, ◌*◌, ◌<◌, ◌≤◌, List, [], ◌∷◌, ◌++◌, length, take, drop, get_or, refl, sym, ap, subst, ◌∙◌, arith, length-append, append-nil, Option, Some, None, Ok, Err}
use Rattle.std.specs.Prelude.{slice_range, is_none, if◌then◌else◌, flat_map, filter_map}
use Rattle.std.specs.List.{cons_option}
use Rattle.std.specs.Option.{option_to_list}
use Rattle.std.proofs.Math.Seq.{take-add}
use Rattle.std.proofs.lemmas.List.{take_at, length-take-le, length-drop}
use Rattle.std.proofs.lemmas.List.Concat.{flat_map-append}
use Rattle.std.proofs.lemmas.List.Elements.{filter_map-append}
use Rattle.std.proofs.lemmas.List.Sums.{sum_by-append}
use Rattle.xs_lists.specs.Packing.{AreBytes}
use Rattle.xs_lists.proofs.Walk.{all-append}
use Rattle.xs_capture.specs.declared.frames.FrameFault.{FrameFault}
use Rattle.xs_capture.specs.declared.frames.FrameFault.TheVariants as frames
use Rattle.xs_capture.specs.Offer.{Offer}
use Rattle.xs_capture.specs.Capture.{frame, frame_read, IsCutAt, IsShort}
use Rattle.xs_capture.specs.Offers.{offer_of, offers_of, stepped_of}
use Rattle.xs_capture.specs.Pictures.{sort_fault_of}
use Rattle.xs_capture.specs.Found.{HasOffers, IsFindFault}
use Rattle.xs_capture.specs.Laws.{IsFrameRead}
use Rattle.xs_capture.proofs.WholeFrames.{frame_is_read}

-- what a slice says of its items
pub are_bytes : (xs : List ℕ) → ((i : ℕ) → get_or xs i 0 < 256) → AreBytes xs
are_bytes [] each = tt
are_bytes (x ∷ xs) each = (each 0, are_bytes xs (λ i. each (suc i)))

offered : (o : Option Offer) → filter_map (λ (x : Option Offer). x) (o ∷ []) ≡ option_to_list o
offered None = refl
offered (Some p) = refl

pub frame_more : (bytes : List ℕ) (place : ℕ) (read : ℕ × ℕ) (offers : List Offer) (stepped : ℕ) → AreBytes bytes → place < length bytes → read.0 ≡ place + 2
    → frame_read bytes place ≡ Ok read → HasOffers (take place bytes) offers stepped
    → (now : List Offer) (others : ℕ) → now ≡ offers ++ option_to_list (offer_of (slice_range bytes read.0 read.1))
    → others ≡ stepped + (if is_none (offer_of (slice_range bytes read.0 read.1)) then 1 else 0) → HasOffers (take read.1 bytes) now others
frame_more bytes place read offers stepped all inside first answer before now others those these =
    let f = subst (IsFrameRead bytes place) answer (frame_is_read bytes place all inside) in
    let packet = slice_range bytes read.0 read.1 in
    let room : read.1 - read.0 ≤ length (drop read.0 bytes) = omega (arith, f.0, f.1, length-drop read.0 bytes) in
    let size : length packet ≡ read.1 - read.0 = length-take-le (read.1 - read.0) (drop read.0 bytes) room in
    let long : length (frame packet) ≡ 2 + length packet = omega arith in
    let end : read.1 ≡ place + length (frame packet) = omega (arith, f.0, first, size, long) in
    let front : take read.1 bytes ≡ take place bytes ++ frame packet =
    ap (λ n. take n bytes) end ∙ take-add place (length (frame packet)) bytes
    ∙ ap (λ l. take place bytes ++ take (length (frame packet)) l) f.3.1 ∙ ap (λ l. take place bytes ++ l) (take_at (frame packet) f.3.0 (length (frame packet)) refl) in
    record {
      packets = before.packets ++ packet ∷ [];
      whole = record {
        joined = front ∙ ap (λ l. l ++ frame packet) before.whole.joined ∙ ap (λ l. flat_map frame before.packets ++ l) (sym (append-nil (frame packet))) ∙ sym (flat_map-append frame before.packets (packet ∷ []));
        short = all-append IsShort before.packets (packet ∷ []) before.whole.short (f.2, tt);
      };
      those = those ∙ ap (λ l. l ++ option_to_list (offer_of packet)) before.those ∙ ap (λ l. offers_of before.packets ++ l) (sym (offered (offer_of packet))) ∙ sym (filter_map-append offer_of before.packets (packet ∷ []));
      others = counted (sum_by-append (λ (p : List ℕ). if is_none (offer_of p) then 1 else 0) before.packets (packet ∷ [])) before.others;
    }
  where
    counted : stepped_of (before.packets ++ slice_range bytes read.0 read.1 ∷ []) ≡ stepped_of before.packets + stepped_of (slice_range bytes read.0 read.1 ∷ [])
        → stepped ≡ stepped_of before.packets → others ≡ stepped_of (before.packets ++ slice_range bytes read.0 read.1 ∷ [])
    counted sum was = omega (arith, sum, was, these)

-- a frame that is cut
pub cut_here : (bytes : List ℕ) (place : ℕ) (fault : FrameFault) (offers : List Offer) (stepped : ℕ) → AreBytes bytes → place < length bytes
    → frame_read bytes place ≡ Err fault → HasOffers (take place bytes) offers stepped → IsFindFault bytes (sort_fault_of fault)
cut_here bytes place (frames.Cut first) offers stepped all inside answer before =
    let f = subst (IsFrameRead bytes place) answer (frame_is_read bytes place all inside) in
    subst (IsCutAt bytes) (sym f.0) (record { packets = before.packets; whole = before.whole; follow = inside; cut = f.1 })

-- nothing is read yet
pub none_found : (bytes : List ℕ) → HasOffers (take 0 bytes) [] 0
none_found bytes = record { packets = []; whole = record { joined = refl; short = tt }; those = refl; others = refl }

-- Each frame has two bytes or more, and is an offer or stepped over.

told : (packets : List (List ℕ)) → length (offers_of packets) + stepped_of packets ≡ length packets
told [] = refl
told (packet ∷ packets) =
    let sum = sum_by-append (λ (p : List ℕ). if is_none (offer_of p) then 1 else 0) (packet ∷ []) packets in
    omega (arith, sum, one (offer_of packet), told packets)
  where
    one : (o : Option Offer) → length (cons_option o (offers_of packets)) + (if is_none o then 1 else 0) ≡ length (offers_of packets) + 1
    one None = omega arith
    one (Some p) = omega arith

long_enough : (packets : List (List ℕ)) → 2 * length packets ≤ length (flat_map frame packets)
long_enough [] = omega arith
long_enough (packet ∷ packets) =
    let rest = long_enough packets in
    let size : length (flat_map frame (packet ∷ packets)) ≡ 2 + length packet + length (flat_map frame packets) = omega (arith, length-append (frame packet) (flat_map frame packets)) in
    omega (arith, rest, size)

pub few_offers : (bytes : List ℕ) (offers : List Offer) (stepped : ℕ) → HasOffers bytes offers stepped → 2 * (length offers + stepped) ≤ length bytes
few_offers bytes offers stepped found =
    let count = told found.packets in
    let those : length offers ≡ length (offers_of found.packets) = ap length found.those in
    let size : length bytes ≡ length (flat_map frame found.packets) = ap length found.whole.joined in
    let long = long_enough found.packets in
    omega (arith, count, those, found.others, size, long)
