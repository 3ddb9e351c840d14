-- Offers that are dealt to parts, and the offers of a capture.
use Rattle.std.proofs.Common.{◌≡◌, ℕ, zero, suc, ◌+◌, ◌-◌, ◌%◌, ◌<◌, ◌≤◌, List, [], ◌∷◌, ◌++◌, length, get_or, set, replicate, take, drop, Bool, true, false, Option, Some, None, Ok, Err, refl, sym, ap, subst, ◌∙◌, arith, inl, inr, Contains, append_assoc, append-nil, length-append, cond}
use mathlib.Core.Logic.{◌⊎◌}
use Rattle.std.specs.Prelude.{Result, nat_eq, nat_lt, not, ◌&&◌, IfSome, if◌then◌else◌}
use Rattle.std.specs.Int.{to_be_bytes, w16}
use Rattle.std.specs.List.{cons_option, flat_map}
use Rattle.std.proofs.lemmas.Bool.{ltb-true}
use Rattle.std.proofs.lemmas.List.{length-drop, length-take}
use Rattle.std.proofs.lemmas.List.Elements.{Contains-append_cases, Contains-append_left, Contains-append_right, Contains-push, Contains-push_cases}
use Rattle.std.proofs.lemmas.List.FromFn.{length-map-range_with_len}
use Rattle.std.proofs.lemmas.List.Sums.{sum_by-append, sum_by-cons, sum_by_push}
use Rattle.xs_lists.specs.Packing.{AreBytes}
use Rattle.xs_rtp.specs.declared.packet.Rtp.{Rtp}
use Rattle.xs_rtp.specs.declared.packet.RtpFault.{RtpFault}
use Rattle.xs_rtp.specs.Packet.{rtp_read}
use Rattle.xs_rtp.specs.Payload.{pay_of}
use Rattle.xs_capture.specs.Capture.{frame}
use Rattle.xs_capture.specs.Offer.{Offer, unit_places}
use Rattle.xs_capture.specs.Offers.{is_offered, offer_of, offer_of_payload, offers_at, offers_of}
use Rattle.xs_capture.specs.Pictures.{dealt_part, dealt_parts}
use Rattle.xs_capture.proofs.Dealing.{dealt_more, dealt_none}
use Rattle.xs_capture.proofs.Firsts.{cons_cases}
use Rattle.xs_recv.specs.Received.{offered_bytes, offers_of_parts}
use Rattle.xs_recv.specs.Laws.{OffersAreDealt, OffersAreInCapture}

-- A packet that is added to one part

abbrev with_packet : List (List Offer) → ℕ → Offer → List (List Offer)
with_packet parts part p = set parts part (get_or parts part [] ++ p ∷ [])

more_size : (parts : List (List Offer)) (part : ℕ) (p : Offer) → part < length parts → offered_bytes (offers_of_parts (with_packet parts part p)) ≡ offered_bytes (offers_of_parts parts) + length p.bytes
more_size [] part p there = absurd (omega (arith, there))
more_size (x ∷ xs) zero p there =
    let size = λ (q : Offer). length q.bytes in
    let one = sum_by-append (λ (q : Offer). length q.bytes) (x ++ p ∷ []) (offers_of_parts xs) in
    let two = sum_by_push (λ (q : Offer). length q.bytes) x p in
    let three = sum_by-append (λ (q : Offer). length q.bytes) x (offers_of_parts xs) in
    omega (arith, one, two, three)
more_size (x ∷ xs) (suc part) p there =
    let one = sum_by-append (λ (q : Offer). length q.bytes) x (offers_of_parts (with_packet xs part p)) in
    let two = sum_by-append (λ (q : Offer). length q.bytes) x (offers_of_parts xs) in
    let rest = more_size xs part p (omega (arith, there)) in
    omega (arith, one, two, rest)

more_has : (parts : List (List Offer)) (part : ℕ) (p : Offer) → part < length parts → (q : Offer) → Contains (offers_of_parts parts) q ⊎ (p ≡ q) → Contains (offers_of_parts (with_packet parts part p)) q
more_has [] part p there q has = absurd (omega (arith, there))
more_has (x ∷ xs) zero p there q (inl old) = elim (Contains-append_cases x (offers_of_parts xs) q old) [
  | inl left ↦ Contains-append_left (x ++ p ∷ []) (offers_of_parts xs) q (Contains-append_left x (p ∷ []) q left)
  | inr right ↦ Contains-append_right (x ++ p ∷ []) (offers_of_parts xs) q right
]
more_has (x ∷ xs) zero p there q (inr new) = Contains-append_left (x ++ p ∷ []) (offers_of_parts xs) q (subst (Contains (x ++ p ∷ [])) new (Contains-push x p))
more_has (x ∷ xs) (suc part) p there q (inl old) = elim (Contains-append_cases x (offers_of_parts xs) q old) [
  | inl left ↦ Contains-append_left x (offers_of_parts (with_packet xs part p)) q left
  | inr right ↦ Contains-append_right x (offers_of_parts (with_packet xs part p)) q (more_has xs part p (omega (arith, there)) q (inl right))
]
more_has (x ∷ xs) (suc part) p there q (inr new) = Contains-append_right x (offers_of_parts (with_packet xs part p)) q (more_has xs part p (omega (arith, there)) q (inr new))

has_more : (parts : List (List Offer)) (part : ℕ) (p : Offer) → part < length parts → (q : Offer) → Contains (offers_of_parts (with_packet parts part p)) q → Contains (offers_of_parts parts) q ⊎ (p ≡ q)
has_more [] part p there q has = absurd (omega (arith, there))
has_more (x ∷ xs) zero p there q has = elim (Contains-append_cases (x ++ p ∷ []) (offers_of_parts xs) q has) [
  | inl left ↦ elim (Contains-push_cases x p q left) [ inl old ↦ inl (Contains-append_left x (offers_of_parts xs) q old) | inr new ↦ inr new ]
  | inr right ↦ inl (Contains-append_right x (offers_of_parts xs) q right)
]
has_more (x ∷ xs) (suc part) p there q has = elim (Contains-append_cases x (offers_of_parts (with_packet xs part p)) q has) [
  | inl left ↦ inl (Contains-append_left x (offers_of_parts xs) q left)
  | inr right ↦ elim (has_more xs part p (omega (arith, there)) q right) [ inl old ↦ inl (Contains-append_right x (offers_of_parts xs) q old) | inr new ↦ inr new ]
]

-- Offers that are dealt one after the other

pub record AreThere (offers dealt : List Offer) : Type 0 where
  pub to : (p : Offer) → Contains offers p → Contains dealt p
  pub from : (p : Offer) → Contains dealt p → Contains offers p
  pub size : offered_bytes dealt ≡ offered_bytes offers

flat_none : (n : ℕ) → offers_of_parts (replicate n []) ≡ []
flat_none zero = refl
flat_none (suc n) = flat_none n

count_is : (parts : ℕ) (offers : List Offer) → length (dealt_parts parts offers) ≡ parts
count_is parts offers = length-map-range_with_len (dealt_part parts offers) 0 parts

there_more : (parts : ℕ) (offers : List Offer) (p : Offer) → 1 ≤ parts → AreThere offers (offers_of_parts (dealt_parts parts offers)) → AreThere (offers ++ p ∷ []) (offers_of_parts (dealt_parts parts (offers ++ p ∷ [])))
there_more parts offers p some so = subst (λ l. AreThere (offers ++ p ∷ []) (offers_of_parts l)) (sym (dealt_more parts offers p some)) (record {
  to = λ q has. more_has now at p inside q (elim (Contains-push_cases offers p q has) [ inl old ↦ inl (so.to q old) | inr new ↦ inr new ]);
  from = λ q has. elim (has_more now at p inside q has) [ inl old ↦ Contains-append_left offers (p ∷ []) q (so.from q old) | inr new ↦ subst (Contains (offers ++ p ∷ [])) new (Contains-push offers p) ];
  size = more_size now at p inside ∙ ap (λ n. n + length p.bytes) so.size ∙ sym (sum_by_push (λ (q : Offer). length q.bytes) offers p);
})
  where
    now : List (List Offer)
    now = dealt_parts parts offers

    at : ℕ
    at = length offers % parts

    inside : length offers % parts < length (dealt_parts parts offers)
    inside = let count = count_is parts offers in let less : length offers % parts < parts = omega (arith, some) in omega (arith, count, less)

there_all : (parts : ℕ) (front rest : List Offer) → 1 ≤ parts → AreThere front (offers_of_parts (dealt_parts parts front)) → AreThere (front ++ rest) (offers_of_parts (dealt_parts parts (front ++ rest)))
there_all parts front [] some so = subst (λ l. AreThere l (offers_of_parts (dealt_parts parts l))) (sym (append-nil front)) so
there_all parts front (p ∷ rest) some so =
    subst (λ l. AreThere l (offers_of_parts (dealt_parts parts l))) (append_assoc front (p ∷ []) rest) (there_all parts (front ++ p ∷ []) rest some (there_more parts front p some so))

pub offers_are_dealt : OffersAreDealt
offers_are_dealt parts offers some = record {
  count = count_is parts offers;
  same = λ p. (all.to p, all.from p);
  size = all.size;
}
  where
    none : AreThere [] (offers_of_parts (dealt_parts parts []))
    none = subst (AreThere []) (sym (ap offers_of_parts (dealt_none parts) ∙ flat_none parts)) (record { to = λ p has. has; from = λ p has. has; size = refl })

    all : AreThere offers (offers_of_parts (dealt_parts parts offers))
    all = there_all parts [] offers some none

-- The offers of a capture

-- the offer of a packet is within it
record IsWithin (packet : List ℕ) (p : Offer) : Type 0 where
  place : p.place < unit_places
  size : length p.bytes ≤ length packet
  bytes : AreBytes packet → AreBytes p.bytes

both : (a b : Bool) → (a && b) ≡ true → (a ≡ true) × (b ≡ true)
both true b e = (refl, e)
both false b e = absurd (cc e)

drop_bytes : (n : ℕ) (xs : List ℕ) → AreBytes xs → AreBytes (drop n xs)
drop_bytes zero xs are = are
drop_bytes (suc n) [] are = tt
drop_bytes (suc n) (x ∷ xs) are = drop_bytes n xs are.1

take_bytes : (n : ℕ) (xs : List ℕ) → AreBytes xs → AreBytes (take n xs)
take_bytes zero xs are = tt
take_bytes (suc n) [] are = tt
take_bytes (suc n) (x ∷ xs) are = (are.0, take_bytes n xs are.1)

within_if : (packet : List ℕ) (b : Bool) (p : Offer) → (b ≡ true → IsWithin packet p) → IfSome (if b then Some p else None) (IsWithin packet)
within_if packet true p holds = holds refl
within_if packet false p holds = tt

payload_within : (packet : List ℕ) (timestamp n m : ℕ) → IfSome (offer_of_payload timestamp (take n (drop m packet))) (IsWithin packet)
payload_within packet timestamp n m = within_if packet _ _ (λ e.
    let payload = take n (drop m packet) in
    let offered = (both (not (nat_lt (length payload) 4)) (is_offered (pay_of payload)) e).1 in
    let small = (both ((pay_of payload).slice_mode && nat_eq (pay_of payload).interlace 0) (nat_lt (pay_of payload).place unit_places) offered).1 in
    record {
      place = ltb-true (pay_of payload).place unit_places small;
      size = omega (arith, length-drop 4 payload, length-take n (drop m packet), length-drop m packet);
      bytes = λ are. drop_bytes 4 payload (take_bytes n (drop m packet) (drop_bytes m packet are));
    })

offer_within : (packet : List ℕ) → IfSome (offer_of packet) (IsWithin packet)
unfolding offer_of
offer_within packet = go (rtp_read packet)
  where
    go : (read : Result (Rtp × ℕ × ℕ) RtpFault) → IfSome (elim read [ Ok r ↦ offer_of_payload r.0.timestamp (take (r.2 - r.1) (drop r.1 packet)) | Err fault ↦ None ]) (IsWithin packet)
    go (Ok r) = payload_within packet r.0.timestamp (r.2 - r.1) r.1
    go (Err fault) = tt

-- the offers of a picture: sound where the bytes are, and no more bytes than there are
record AreWithin (bytes : List ℕ) (offers : List Offer) : Type 0 where
  size : offered_bytes offers ≤ length bytes
  place : (p : Offer) → Contains offers p → p.place < unit_places
  sound : AreBytes bytes → (p : Offer) → Contains offers p → AreBytes p.bytes

front_bytes : (xs ys : List ℕ) → AreBytes (xs ++ ys) → AreBytes xs
front_bytes [] ys are = tt
front_bytes (x ∷ xs) ys are = (are.0, front_bytes xs ys are.1)

back_bytes : (xs ys : List ℕ) → AreBytes (xs ++ ys) → AreBytes ys
back_bytes [] ys are = are
back_bytes (x ∷ xs) ys are = back_bytes xs ys are.1

within_more : (timestamp : ℕ) (packet rest : List ℕ) (offers : List Offer) (o : Option Offer) → IfSome o (IsWithin packet) → AreWithin rest (offers_at timestamp offers) → AreWithin (frame packet ++ rest) (offers_at timestamp (cons_option o offers))
within_more timestamp packet rest offers o one so = go o one
  where
    longer : length (frame packet ++ rest) ≡ 2 + length packet + length rest
    longer = let all = length-append (frame packet) rest in let head = length-append (to_be_bytes w16 (length packet)) packet in omega (arith, all, head)

    skip : AreWithin (frame packet ++ rest) (offers_at timestamp offers)
    skip = record {
      size = let small = so.size in let size = longer in omega (arith, small, size);
      place = so.place;
      sound = λ are. so.sound (back_bytes (frame packet) rest are);
    }

    add : (p : Offer) → IsWithin packet p → AreWithin (frame packet ++ rest) (p ∷ offers_at timestamp offers)
    add p is = record {
      size = let small = so.size in let size = longer in let own = is.size in let sum = sum_by-cons (λ (q : Offer). length q.bytes) p (offers_at timestamp offers) in omega (arith, small, size, own, sum);
      place = λ q has. elim (cons_cases p q (offers_at timestamp offers) has) [ inl same ↦ subst (λ (x : Offer). x.place < unit_places) same is.place | inr later ↦ so.place q later ];
      sound = λ are q has. elim (cons_cases p q (offers_at timestamp offers) has) [
        | inl same ↦ subst (λ (x : Offer). AreBytes x.bytes) same (is.bytes (back_bytes (to_be_bytes w16 (length packet)) packet (front_bytes (frame packet) rest are)))
        | inr later ↦ so.sound (back_bytes (frame packet) rest are) q later
      ];
    }

    chosen : (b : Bool) (p : Offer) → IsWithin packet p → AreWithin (frame packet ++ rest) (cond b (p ∷ offers_at timestamp offers) (offers_at timestamp offers))
    chosen true p is = add p is
    chosen false p is = skip

    go : (o : Option Offer) → IfSome o (IsWithin packet) → AreWithin (frame packet ++ rest) (offers_at timestamp (cons_option o offers))
    go None is = skip
    go (Some p) is = chosen (nat_eq p.timestamp timestamp) p is

all_within : (timestamp : ℕ) (packets : List (List ℕ)) → AreWithin (flat_map frame packets) (offers_at timestamp (offers_of packets))
all_within timestamp [] = record { size = omega arith; place = λ p has. absurd (omega (arith, has.1)); sound = λ are p has. absurd (omega (arith, has.1)) }
all_within timestamp (packet ∷ packets) = within_more timestamp packet (flat_map frame packets) (offers_of packets) (offer_of packet) (offer_within packet) (all_within timestamp packets)

pub offers_are_in_capture : OffersAreInCapture
offers_are_in_capture packets bytes timestamp whole =
    let so = all_within timestamp packets in
    record {
      size = subst (λ l. offered_bytes (offers_at timestamp (offers_of packets)) ≤ length l) (sym whole.joined) so.size;
      sound = λ are. record { place = so.place; bytes = so.sound (subst AreBytes whole.joined are) };
    }
