-- Where exactly the packets of pictures arrive, the pictures are written.
use Rattle.std.proofs.Common.{◌≡◌, ℕ, suc, zero, ◌+◌, ◌*◌, ◌<◌, ◌≤◌, List, [], ◌∷◌, length, map, get_or, Bool, false, cond, Option, Some, refl, sym, ap, subst, ◌∙◌, arith, inl, inr, Contains}
use Rattle.std.specs.Prelude.{nat_lt, is_none, MatchBool}
use Rattle.std.specs.List.{count_by, flat_map}
use Rattle.std.specs.List.Sorted.{IsStrictlyIncreasing}
use Rattle.std.proofs.lemmas.Bool.{cases_order}
use Rattle.std.proofs.lemmas.Bool.Decides.{nat_tests}
use Rattle.std.proofs.lemmas.Nat.{mul-le}
use Rattle.std.proofs.lemmas.List.Sums.{sum_by-cons}
use Rattle.std.proofs.lemmas.List.Elements.{Contains-append_cases, Contains-append_left, Contains-append_right}
use Rattle.xs_lists.specs.Spelling.{upto}
use Rattle.xs_layout.specs.declared.Format.TheVariants.{Mono}
use Rattle.xs_params.specs.declared.settings.Settings.{Settings}
use Rattle.xs_params.specs.Picture.{raw_bytes}
use Rattle.xs_capture.specs.Offer.{Offer}
use Rattle.xs_capture.specs.Offers.{Agree, AllAgree, offer_of, offers_at, offers_of, stepped_of}
use Rattle.xs_capture.specs.Pictures.{AreTimestamps}
use Rattle.xs_capture.proofs.Firsts.{here, selection_exists, there}
use Rattle.xs_capture.proofs.Selections.{selection_of_set}
use Rattle.xs_pack.specs.Datagrams.{datagram, datagrams_of, sent_unit, unit_at, unit_datagrams, unit_pieces, units_of}
use Rattle.xs_pack.specs.Laws.{HaveSame}
use Rattle.xs_pack.specs.Sent.{IsPiece, IsSent, sent_offer}
use Rattle.xs_pack.proofs.Arrived.{offers_are_sent}
use Rattle.xs_pack.proofs.Members.{in_filter_map, in_map, of_filter_map, of_flat, of_map, of_range}
use Rattle.xs_pack.proofs.Offered.{datagram_is_offer}
use Rattle.xs_pack.proofs.Pieces.{some_pieces}
use Rattle.xs_notes.specs.declared.note.Note.TheVariants as note
use Rattle.xs_endings.specs.Said.{Said, only_note}
use Rattle.xs_recv.specs.declared.received.Received.TheVariants as received
use Rattle.xs_recv.proofs.Sent.{sent_is_received}
use Rattle.xs_cli.specs.Captured.{AreSaidOf, IsCaptured, IsReceivedOf, said_of, said_then, stepped_said}
use Rattle.xs_cli.specs.CapturedLaws.{AreSentFrom, IsSentPicture, Sent, SentIsWritten, packets_from}
use Rattle.xs_cli.specs.Decoded.{input_limit}
use Rattle.xs_cli.proofs.CapturedOne.{in_picture, of_picture, one_said}
use Rattle.xs_cli.proofs.CapturedWhole.{captured_by}

-- Lists

abbrev counted : Bool → ℕ
counted b = cond b 1 0

-- a test that holds nowhere
none_counted : (test : List ℕ → Bool) (xs : List (List ℕ)) → ((x : List ℕ) → Contains xs x → test x ≡ false) → count_by test xs ≡ 0
none_counted test [] fails = refl
none_counted test (x ∷ xs) fails =
    let rest = none_counted test xs (λ y has. fails y (there x y xs has)) in
    let first : counted (test x) ≡ 0 = ap counted (fails x (here x xs)) in
    let both : count_by test (x ∷ xs) ≡ counted (test x) + count_by test xs = sum_by-cons (λ y. counted (test y)) x xs in
    let sum : 0 + count_by test xs ≡ 0 = omega (arith, rest) in
    both ∙ ap (λ n. n + count_by test xs) first ∙ sum

same_some : (p q : Offer) → Some p ≡ Some q → p ≡ q
same_some p q e = cc e

agree_with : (p q r : Offer) → p ≡ r → q ≡ r → Agree p q
agree_with p q r e f = record { last = ap (λ (x : Offer). x.last) e ∙ sym (ap (λ (x : Offer). x.last) f); bytes = ap (λ (x : Offer). x.bytes) e ∙ sym (ap (λ (x : Offer). x.bytes) f) }

-- a packet of one picture is an offer of it
packet_is_sent : (s : Settings) (number : ℕ) (one : Sent) → IsSentPicture s number one → (packet : List ℕ) → Contains (datagrams_of s one.stream number one.sequence) packet
    → (p : Offer) × (offer_of packet ≡ Some p) × IsSent s (units_of s.boxes one.stream) number p
packet_is_sent s number one is packet has =
    let units = units_of s.boxes one.stream in
    let unit = of_flat (λ u. unit_datagrams s (sent_unit s (units_of s.boxes one.stream) number one.sequence u)) (upto (length (units_of s.boxes one.stream))) packet has in
    let piece = of_map (datagram s (sent_unit s (units_of s.boxes one.stream) number one.sequence unit.0)) (upto (unit_pieces s.chunk (units_of s.boxes one.stream) unit.0)) packet unit.2 in
    let unit_there = of_range 0 (length (units_of s.boxes one.stream)) unit.0 unit.1 in
    let piece_there = of_range 0 (unit_pieces s.chunk (units_of s.boxes one.stream) unit.0) piece.0 piece.1 in
    let inside : IsPiece s (units_of s.boxes one.stream) unit.0 piece.0 = (omega (arith, unit_there.1), omega (arith, piece_there.1)) in
    let offer = datagram_is_offer s (units_of s.boxes one.stream) number one.sequence unit.0 piece.0 is.sendable inside in
    (sent_offer s (units_of s.boxes one.stream) number unit.0 piece.0, ap offer_of (sym piece.2) ∙ offer, (unit.0, piece.0, inside, refl))

same_packets : (packets : List (List ℕ)) → HaveSame packets packets
same_packets packets packet = ((λ has. has), (λ has. has))

module _ (s : Settings) (d : Sent) where
  -- the picture of a number in a list
  abbrev one_at : List Sent → ℕ → Sent
  one_at sent k = get_or sent k d

  abbrev IsSentAt : ℕ → List Sent → ℕ → Offer → Type 0
  IsSentAt number sent k p = (k < length sent) × IsSent s (units_of s.boxes (get_or sent k d).stream) (number + k) p

  -- each can be sent
  each_sent : (number : ℕ) (sent : List Sent) → AreSentFrom s number sent → (k : ℕ) → k < length sent → IsSentPicture s (number + k) (get_or sent k d)
  each_sent number [] are k below = absurd (omega (arith, below))
  each_sent number (one ∷ more) are zero below = let e : number ≡ number + 0 = omega arith in subst (λ n. IsSentPicture s n one) e are.0
  each_sent number (one ∷ more) are (suc k) below =
      let e : number + 1 + k ≡ number + suc k = omega arith in subst (λ n. IsSentPicture s n (get_or more k d)) e (each_sent (number + 1) more are.1 k (omega (arith, below)))

  -- a packet is an offer of one of them
  of_packets : (number : ℕ) (sent : List Sent) → AreSentFrom s number sent → (packet : List ℕ) → Contains (packets_from s number sent) packet
      → (p : Offer) × (offer_of packet ≡ Some p) × (k : ℕ) × IsSentAt number sent k p
  of_packets number [] are packet has = absurd (omega (arith, has.1))
  of_packets number (one ∷ more) are packet has = elim (Contains-append_cases (datagrams_of s one.stream number one.sequence) (packets_from s (number + 1) more) packet has) [
    | inl first ↦
        let p = packet_is_sent s number one are.0 packet first in
        let e : number ≡ number + 0 = omega arith in
        (p.0, p.1, 0, (omega arith, subst (λ n. IsSent s (units_of s.boxes one.stream) n p.0) e p.2))
    | inr later ↦
        let p = of_packets (number + 1) more are.1 packet later in
        let e : number + 1 + p.2 ≡ number + suc p.2 = omega arith in
        (p.0, p.1, suc p.2, (omega (arith, p.3.0), subst (λ n. IsSent s (units_of s.boxes (get_or more p.2 d).stream) n p.0) e p.3.1))
  ]

  -- each offer of one of them is a packet
  in_packets : (number : ℕ) (sent : List Sent) → AreSentFrom s number sent → (k : ℕ) (p : Offer) → IsSentAt number sent k p → (packet : List ℕ) × Contains (packets_from s number sent) packet × (offer_of packet ≡ Some p)
  in_packets number [] are k p is = absurd (omega (arith, is.0))
  in_packets number (one ∷ more) are zero p is =
      let e : number + 0 ≡ number = omega arith in
      let there = (offers_are_sent s (units_of s.boxes one.stream) (datagrams_of s one.stream number one.sequence) number one.sequence are.0.sendable (same_packets (datagrams_of s one.stream number one.sequence)) p).1
      (subst (λ n. IsSent s (units_of s.boxes one.stream) n p) e is.1) in
      let packet = of_filter_map offer_of (datagrams_of s one.stream number one.sequence) p there in
      (packet.0, Contains-append_left (datagrams_of s one.stream number one.sequence) (packets_from s (number + 1) more) packet.0 packet.1, packet.2)
  in_packets number (one ∷ more) are (suc k) p is =
      let e : number + suc k ≡ number + 1 + k = omega arith in
      let packet = in_packets (number + 1) more are.1 k p (omega (arith, is.0), subst (λ n. IsSent s (units_of s.boxes (get_or more k d).stream) n p) e is.1) in
      (packet.0, Contains-append_right (datagrams_of s one.stream number one.sequence) (packets_from s (number + 1) more) packet.0 packet.1, packet.2)

  -- the timestamps
  abbrev times : ℕ → List Sent → List ℕ
  times number [] = []
  times number (one ∷ more) = (s.first_timestamp + number * s.step) ∷ times (number + 1) more

  length-times : (number : ℕ) (sent : List Sent) → length (times number sent) ≡ length sent
  length-times number [] = refl
  length-times number (one ∷ more) = ap suc (length-times (number + 1) more)

  time_at : (number : ℕ) (sent : List Sent) (k t : ℕ) → k < length sent → get_or (times number sent) k t ≡ s.first_timestamp + (number + k) * s.step
  time_at number [] k t below = absurd (omega (arith, below))
  time_at number (one ∷ more) zero t below = let e : number ≡ number + 0 = omega arith in ap (λ n. s.first_timestamp + n * s.step) e
  time_at number (one ∷ more) (suc k) t below =
      let e : number + 1 + k ≡ number + suc k = omega arith in time_at (number + 1) more k t (omega (arith, below)) ∙ ap (λ n. s.first_timestamp + n * s.step) e

  rising : 1 ≤ s.step → (number : ℕ) (sent : List Sent) → IsStrictlyIncreasing (times number sent)
  rising some number sent k below =
      let size = length-times number sent in
      let here = time_at number sent k 0 (omega (arith, below, size)) in
      let next = time_at number sent (k + 1) 0 (omega (arith, below, size)) in
      let step : (number + (k + 1)) * s.step ≡ (number + k) * s.step + s.step = omega arith in
      omega (arith, here, next, step, some)

  -- a timestamp is that of one number
  one_time : 1 ≤ s.step → (number j k : ℕ) → s.first_timestamp + (number + j) * s.step ≡ s.first_timestamp + (number + k) * s.step → j ≡ k
  one_time some number j k e = elim (cases_order j k) [
    | inl same ↦ same
    | inr apart ↦ elim apart [
      | inl less ↦
          let more : (number + j + 1) * s.step ≤ (number + k) * s.step = mul-le (number + j + 1) s.step (number + k) s.step (omega (arith, less)) (omega arith) in
          let step : (number + j + 1) * s.step ≡ (number + j) * s.step + s.step = omega arith in
          absurd (omega (arith, e, more, step, some))
      | inr less ↦
          let more : (number + k + 1) * s.step ≤ (number + j) * s.step = mul-le (number + k + 1) s.step (number + j) s.step (omega (arith, less)) (omega arith) in
          let step : (number + k + 1) * s.step ≡ (number + k) * s.step + s.step = omega arith in
          absurd (omega (arith, e, more, step, some))
    ]
  ]

  module _ (some : 1 ≤ s.step) (number : ℕ) (sent : List Sent) (are : AreSentFrom s number sent) (arrived : List (List ℕ)) (same : HaveSame arrived (packets_from s number sent)) where
    -- an offer is one of a picture
    of_offers : (p : Offer) → Contains (offers_of arrived) p → (k : ℕ) × IsSentAt number sent k p
    of_offers p has =
        let packet = of_filter_map offer_of arrived p has in
        let found = of_packets number sent are packet.0 ((same packet.0).0 packet.1) in
        let e = same_some found.0 p (sym found.1 ∙ packet.2) in
        (found.2, (found.3.0, subst (IsSent s (units_of s.boxes (get_or sent found.2 d).stream) (number + found.2)) e found.3.1))

    in_offers : (k : ℕ) (p : Offer) → IsSentAt number sent k p → Contains (offers_of arrived) p
    in_offers k p is = let packet = in_packets number sent are k p is in in_filter_map offer_of arrived packet.0 p ((same packet.0).1 packet.1) packet.2

    -- whose timestamp it has
    its_time : (k : ℕ) (p : Offer) → IsSentAt number sent k p → p.timestamp ≡ s.first_timestamp + (number + k) * s.step
    its_time k p is = ap (λ (q : Offer). q.timestamp) is.1.3

    none_stepped : stepped_of arrived ≡ 0
    none_stepped = none_counted (λ packet. is_none (offer_of packet)) arrived (λ packet has. let found = of_packets number sent are packet ((same packet).0 has) in ap (λ (o : Option Offer). is_none o) found.1)

    all_agree : AllAgree (offers_of arrived)
    all_agree p q has has' times units places =
        let one = of_offers p has in
        let other = of_offers q has' in
        alike one.0 other.0 (one_time some number other.0 one.0 (sym (its_time other.0 q other.1) ∙ sym times ∙ its_time one.0 p one.1)) one.1 other.1
      where
        alike : (j k : ℕ) → k ≡ j → IsSentAt number sent j p → IsSentAt number sent k q → Agree p q
        alike j k e one other =
            let moved = subst (λ i. IsSentAt number sent i q) e other in
            let unit : moved.1.0 ≡ one.1.0 = sym (ap (λ (x : Offer). x.unit) moved.1.3) ∙ sym units ∙ ap (λ (x : Offer). x.unit) one.1.3 in
            let place : moved.1.1 ≡ one.1.1 = sym (ap (λ (x : Offer). x.place) moved.1.3) ∙ sym places ∙ ap (λ (x : Offer). x.place) one.1.3 in
            agree_with p q (sent_offer s (units_of s.boxes (get_or sent j d).stream) (number + j) one.1.0 one.1.1) one.1.3
            (moved.1.3 ∙ ap (λ u. sent_offer s (units_of s.boxes (get_or sent j d).stream) (number + j) u moved.1.1) unit ∙ ap (sent_offer s (units_of s.boxes (get_or sent j d).stream) (number + j) one.1.0) place)

    listed : AreTimestamps (offers_of arrived) (times number sent)
    listed = record { ascending = rising some number sent; those = λ t. (to t, from t) }
      where
        first_offer : ℕ → Offer
        first_offer k = sent_offer s (units_of s.boxes (get_or sent k d).stream) (number + k) 0 0

        has_first : (k : ℕ) → k < length sent → IsSentAt number sent k (first_offer k)
        has_first k below =
            let is = each_sent number sent are k below in
            let there = is.sendable.some 0 (omega arith) in
            let pieces = some_pieces s.chunk (unit_at (units_of s.boxes (get_or sent k d).stream) 0) is.sendable.chunk there in
            (below, (0, 0, (omega arith, omega (arith, pieces)), refl))

        to : (t : ℕ) → Contains (times number sent) t → Contains (map (λ (p : Offer). p.timestamp) (offers_of arrived)) t
        to t has =
            let size = length-times number sent in
            let below : has.0 < length sent = omega (arith, has.1, size) in
            let named = sym (time_at number sent has.0 t below) ∙ has.2 in
            subst (Contains (map (λ (p : Offer). p.timestamp) (offers_of arrived))) named
            (in_map (λ (p : Offer). p.timestamp) (offers_of arrived) (first_offer has.0) (in_offers has.0 (first_offer has.0) (has_first has.0 below)))

        from : (t : ℕ) → Contains (map (λ (p : Offer). p.timestamp) (offers_of arrived)) t → Contains (times number sent) t
        from t has =
            let p = of_map (λ (p : Offer). p.timestamp) (offers_of arrived) t has in
            let found = of_offers p.0 p.1 in
            let size = length-times number sent in
            let named = time_at number sent found.0 t found.1.0 in
            (found.0, omega (arith, found.1.0, size), named ∙ sym (its_time found.0 p.0 found.1) ∙ p.2)

    -- the offers of a picture are those of its packets
    own_offers : (k : ℕ) → k < length sent → (p : Offer)
        → (Contains (offers_at (s.first_timestamp + (number + k) * s.step) (offers_of arrived)) p → IsSentAt number sent k p) × (IsSentAt number sent k p → Contains (offers_at (s.first_timestamp + (number + k) * s.step) (offers_of arrived)) p)
    own_offers k below p = (
      (λ has.
          let of = of_picture (s.first_timestamp + (number + k) * s.step) (offers_of arrived) p has in
          let found = of_offers p of.0 in
          subst (λ i. IsSentAt number sent i p) (one_time some number found.0 k (sym (its_time found.0 p found.1) ∙ of.1)) found.1),
      (λ is. in_picture (s.first_timestamp + (number + k) * s.step) (offers_of arrived) p (in_offers k p is) (its_time k p is)),
    )

    one_received : (k : ℕ) → k < length sent → IsReceivedOf (offers_at (s.first_timestamp + (number + k) * s.step) (offers_of arrived)) (received.Picture (get_or sent k d).picture)
    one_received k below =
        let own = offers_at (s.first_timestamp + (number + k) * s.step) (offers_of arrived) in
        let one = get_or sent k d in
        let is = each_sent number sent are k below in
        let packets = datagrams_of s (get_or sent k d).stream (number + k) (get_or sent k d).sequence in
        let known = offers_are_sent s (units_of s.boxes (get_or sent k d).stream) (datagrams_of s (get_or sent k d).stream (number + k) (get_or sent k d).sequence) (number + k) (get_or sent k d).sequence is.sendable
        (same_packets (datagrams_of s (get_or sent k d).stream (number + k) (get_or sent k d).sequence)) in
        let held = selection_exists (offers_at (s.first_timestamp + (number + k) * s.step) (offers_of arrived)) in
        let selection = selection_of_set (offers_at (s.first_timestamp + (number + k) * s.step) (offers_of arrived))
        (offers_of (datagrams_of s (get_or sent k d).stream (number + k) (get_or sent k d).sequence)) held.0
        (λ p. ((λ has. (known p).1 ((own_offers k below p).0 has).1), (λ has. (own_offers k below p).1 (below, (known p).0 has)))) held.1 in
        record {
          held = held.0;
          selection = held.1;
          received = sent_is_received s is.header is.content (get_or sent k d).stream (get_or sent k d).picture (number + k) (get_or sent k d).sequence
              (datagrams_of s (get_or sent k d).stream (number + k) (get_or sent k d).sequence) held.0 is.stream is.sendable
              (same_packets (datagrams_of s (get_or sent k d).stream (number + k) (get_or sent k d).sequence)) selection is.picture;
        }

    all_said : AreSaidOf (times number sent) (map (λ timestamp. offers_at timestamp (offers_of arrived)) (times number sent)) (record { out = flat_map (λ (one : Sent). raw_bytes one.picture) sent; notes = [] })
    all_said = go number sent one_received
      where
        go : (first : ℕ) (left : List Sent) → ((k : ℕ) → k < length left → IsReceivedOf (offers_at (s.first_timestamp + (first + k) * s.step) (offers_of arrived)) (received.Picture (get_or left k d).picture))
            → AreSaidOf (times first left) (map (λ timestamp. offers_at timestamp (offers_of arrived)) (times first left)) (record { out = flat_map (λ (one : Sent). raw_bytes one.picture) left; notes = [] })
        go first [] each = refl
        go first (one ∷ more) each =
            let e : first + 0 ≡ first = omega arith in
            let now = subst (λ n. IsReceivedOf (offers_at (s.first_timestamp + n * s.step) (offers_of arrived)) (received.Picture one.picture)) e (each 0 (omega arith)) in
            let rest = go (first + 1) more (λ k below. next k (each (suc k) (omega (arith, below)))) in
            (said_of (s.first_timestamp + first * s.step) (received.Picture one.picture), (received.Picture one.picture, now, refl), record { out = flat_map (λ (x : Sent). raw_bytes x.picture) more; notes = [] }, rest, refl)
          where
            next : (k : ℕ) → IsReceivedOf (offers_at (s.first_timestamp + (first + suc k) * s.step) (offers_of arrived)) (received.Picture (get_or more k d).picture)
                → IsReceivedOf (offers_at (s.first_timestamp + (first + 1 + k) * s.step) (offers_of arrived)) (received.Picture (get_or more k d).picture)
            next k p = let e : first + suc k ≡ first + 1 + k = omega arith in subst (λ n. IsReceivedOf (offers_at (s.first_timestamp + n * s.step) (offers_of arrived)) (received.Picture (get_or more k d).picture)) e p

-- a picture that is not asked for
no_picture : Sent
no_picture = record { sequence = 0; stream = record { header = []; slices = [] }; picture = record { shape = record { width = 0; height = 0; format = Mono; depth = 0 }; samples = [] } }

pub sent_is_written : SentIsWritten
sent_is_written s sent arrived input said some few are same whole bytes within answer =
    let good : Said = record { out = flat_map (λ (one : Sent). raw_bytes one.picture) sent; notes = [] } in
    let test : nat_lt input_limit (length input) ≡ false = grind (arith, nat_tests) in
    let captured : IsCaptured input said = subst (λ (b : Bool). MatchBool b (said ≡ only_note (note.InputLimit input_limit)) (IsCaptured input said)) test answer in
    let known = captured_by arrived input (times s no_picture 0 sent) (record { out = flat_map (λ (one : Sent). raw_bytes one.picture) sent; notes = [] }) whole (listed s no_picture some 0 sent are arrived same)
    (omega (arith, few, length-times s no_picture 0 sent)) (all_said s no_picture some 0 sent are arrived same) in
    one_said arrived input said _ whole bytes (all_agree s no_picture some 0 sent are arrived same) captured known
    ∙ ap (λ n. said_then (stepped_said n) (record { out = flat_map (λ (one : Sent). raw_bytes one.picture) sent; notes = [] })) (none_stepped s no_picture some 0 sent are arrived same)
