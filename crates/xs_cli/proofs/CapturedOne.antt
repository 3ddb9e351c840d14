-- Where offers agree, one thing is said of a capture.
use Rattle.std.proofs.Common.{◌≡◌, ℕ, ◌+◌, ◌<◌, ◌≤◌, List, [], ◌∷◌, length, map, Bool, true, false, cond, Result, Ok, Err, refl, sym, ap, subst, ◌∙◌, arith, inl, inr, ◌⊎◌, Contains}
use Rattle.std.specs.Prelude.{nat_eq, filter, ◌↔◌}
use Rattle.std.specs.List.{AllByRecursion}
use Rattle.std.proofs.lemmas.Bool.{eqb-true}
use Rattle.std.proofs.lemmas.Bool.Decides.{nat_tests}
use Rattle.xs_lists.specs.Packing.{AreBytes}
use Rattle.xs_capture.specs.declared.pictures.SortFault.{SortFault}
use Rattle.xs_capture.specs.declared.pictures.SortFault.TheVariants as sort
use Rattle.xs_capture.specs.Capture.{IsCapture}
use Rattle.xs_capture.specs.Offer.{Offer}
use Rattle.xs_capture.specs.Offers.{AllAgree, offers_at, offers_of, stepped_of}
use Rattle.xs_capture.specs.Pictures.{AreTimestamps, IsSorted, Sorting, most_pictures}
use Rattle.xs_capture.proofs.Firsts.{all_of, cons_cases, here, there}
use Rattle.xs_capture.proofs.OneCapture.{frames_are_one}
use Rattle.xs_capture.proofs.Times.{timestamps_exist}
use Rattle.xs_pack.proofs.Members.{in_map, of_map}
use Rattle.xs_notes.specs.declared.note.Note.TheVariants as note
use Rattle.xs_endings.specs.Said.{Said, only_note}
use Rattle.xs_recv.proofs.Ascending.{one_ascending}
use Rattle.xs_recv.proofs.Dealt.{offers_are_in_capture}
use Rattle.xs_recv.proofs.OneAnswer.{answer_of_set}
use Rattle.xs_cli.specs.Captured.{AreSaidOf, IsCaptured, IsCapturedAfter, IsSaidOf, IsSaidOfSorted, also_stepped, said_of, said_then, stepped_said}
use Rattle.xs_cli.specs.CapturedLaws.{OneCaptured}
use Rattle.xs_cli.proofs.CapturedHalts.{as_after}

-- The offers of a picture

filtered : (test : Offer → Bool) (xs : List Offer) → AllByRecursion (λ p. Contains xs p × (test p ≡ true)) (filter test xs)
filtered test [] = tt
filtered test (x ∷ xs) = go (filtered test xs) (test x) refl
  where
    later : (ys : List Offer) → AllByRecursion (λ p. Contains xs p × (test p ≡ true)) ys → AllByRecursion (λ p. Contains (x ∷ xs) p × (test p ≡ true)) ys
    later [] all = tt
    later (y ∷ ys) all = ((there x y xs all.0.0, all.0.1), later ys all.1)

    go : AllByRecursion (λ p. Contains xs p × (test p ≡ true)) (filter test xs) → (b : Bool) → test x ≡ b → AllByRecursion (λ p. Contains (x ∷ xs) p × (test p ≡ true)) (cond b (x ∷ filter test xs) (filter test xs))
    go rest true e = ((here x xs, e), later (filter test xs) rest)
    go rest false e = later (filter test xs) rest

pub of_picture : (timestamp : ℕ) (offers : List Offer) (p : Offer) → Contains (offers_at timestamp offers) p → Contains offers p × (p.timestamp ≡ timestamp)
of_picture timestamp offers p has =
    let both = all_of (λ (q : Offer). Contains offers q × (nat_eq q.timestamp timestamp ≡ true)) (offers_at timestamp offers) (filtered (λ (q : Offer). nat_eq q.timestamp timestamp) offers) p has in
    (both.0, eqb-true p.timestamp timestamp both.1)

-- elements at which a test holds
in_filter : (test : Offer → Bool) (xs : List Offer) (p : Offer) → Contains xs p → test p ≡ true → Contains (filter test xs) p
in_filter test [] p has holds = absurd (omega (arith, has.1))
in_filter test (x ∷ xs) p has holds = at (λ later. in_filter test xs p later holds) (test x) refl (cons_cases x p xs has)
  where
    at : (Contains xs p → Contains (filter test xs) p) → (b : Bool) → test x ≡ b → (x ≡ p) ⊎ Contains xs p → Contains (cond b (x ∷ filter test xs) (filter test xs)) p
    at rest true e (inl same) = subst (λ y. Contains (x ∷ filter test xs) y) same (here x (filter test xs))
    at rest true e (inr later) = there x p (filter test xs) (rest later)
    at rest false e (inl same) = let wrong : true ≡ false = sym holds ∙ ap test (sym same) ∙ e in absurd (cc wrong)
    at rest false e (inr later) = rest later

pub in_picture : (timestamp : ℕ) (offers : List Offer) (p : Offer) → Contains offers p → p.timestamp ≡ timestamp → Contains (offers_at timestamp offers) p
in_picture timestamp offers p has time =
    let test : nat_eq p.timestamp timestamp ≡ true = grind (arith, nat_tests, time) in in_filter (λ (q : Offer). nat_eq q.timestamp timestamp) offers p has test

-- the same offers have the same timestamps
same_times : (offers others : List Offer) (timestamps : List ℕ) → ((p : Offer) → Contains offers p ↔ Contains others p) → AreTimestamps offers timestamps → AreTimestamps others timestamps
same_times offers others timestamps same times = record {
  ascending = times.ascending;
  those = λ n. ((λ has. forth n ((times.those n).0 has)), (λ has. (times.those n).1 (back n has)));
}
  where
    forth : (n : ℕ) → Contains (map (λ (q : Offer). q.timestamp) offers) n → Contains (map (λ (q : Offer). q.timestamp) others) n
    forth n has =
        let p = of_map (λ (q : Offer). q.timestamp) offers n has in
        subst (Contains (map (λ (q : Offer). q.timestamp) others)) p.2 (in_map (λ (q : Offer). q.timestamp) others p.0 ((same p.0).0 p.1))

    back : (n : ℕ) → Contains (map (λ (q : Offer). q.timestamp) others) n → Contains (map (λ (q : Offer). q.timestamp) offers) n
    back n has =
        let p = of_map (λ (q : Offer). q.timestamp) others n has in
        subst (Contains (map (λ (q : Offer). q.timestamp) offers)) p.2 (in_map (λ (q : Offer). q.timestamp) offers p.0 ((same p.0).1 p.1))

module _ (records : ℕ) (packets : List (List ℕ)) (bytes : List ℕ) (whole : IsCapture packets bytes) where
  abbrev offers_of_picture : ℕ → List Offer
  offers_of_picture timestamp = offers_at timestamp (offers_of packets)

  -- what is said by the timestamps
  abbrev IsSaidBy : List ℕ → Said → Type 0
  IsSaidBy timestamps said =
      ((most_pictures < length timestamps) × (said ≡ only_note (note.InputPictures (length timestamps))))
      ⊎ ((length timestamps ≤ most_pictures) × (pictures : Said) × AreSaidOf timestamps (map offers_of_picture timestamps) pictures × (said ≡ said_then (stepped_said (stepped_of packets + records)) pictures))

  said_by : (timestamps : List ℕ) → AreTimestamps (offers_of packets) timestamps → (said : Said) (sorted : Result Sorting SortFault) → IsSorted bytes sorted
      → IsSaidOfSorted (also_stepped records sorted) said → IsSaidBy timestamps said
  said_by timestamps times said (Ok sorting) sorts is =
      let same = frames_are_one.whole bytes sorts.packets packets sorts.whole whole in
      let own = subst (λ ps. AreTimestamps (offers_of ps) sorting.timestamps) same sorts.timestamps in
      let names = one_ascending _ sorting.timestamps timestamps own times in
      let offers : sorting.offers ≡ map offers_of_picture timestamps =
      sorts.offers ∙ ap (λ ps. map (λ timestamp. offers_at timestamp (offers_of ps)) sorting.timestamps) same ∙ ap (map offers_of_picture) names in
      let stepped : sorting.stepped ≡ stepped_of packets = sorts.stepped ∙ ap stepped_of same in
      inr (
        subst (λ l. length l ≤ most_pictures) names sorts.most,
        is.0,
        subst (λ os. AreSaidOf timestamps os is.0) offers (subst (λ ts. AreSaidOf ts sorting.offers is.0) names is.1),
        is.2 ∙ ap (λ n. said_then (stepped_said (n + records)) is.0) stepped,
      )
  said_by timestamps times said (Err (sort.Pictures count)) sorts is =
      let same = frames_are_one.whole bytes sorts.packets packets sorts.whole whole in
      let own = subst (λ ps. AreTimestamps (offers_of ps) sorts.timestamps) same sorts.sorted in
      let names = one_ascending _ sorts.timestamps timestamps own times in
      let counted : count ≡ length timestamps = sorts.counted ∙ ap length names in
      let many : most_pictures < length timestamps = omega (arith, sorts.many, counted) in
      inl (many, is ∙ ap (λ n. only_note (note.InputPictures n)) counted)
  said_by timestamps times said (Err (sort.Cut place)) sorts is = absurd (frames_are_one.either bytes packets place whole sorts)
  said_by timestamps times said (Err sort.Memory) sorts is = absurd is

module _ (records besides : ℕ) (packets others : List (List ℕ)) (bytes more : List ℕ) (whole : IsCapture packets bytes) (whole' : IsCapture others more) (are : AreBytes bytes)
    (same : (p : Offer) → Contains (offers_of packets) p ↔ Contains (offers_of others) p) (agree : AllAgree (offers_of packets)) where
  one_picture : (timestamp : ℕ) (said other : Said) → IsSaidOf timestamp (offers_at timestamp (offers_of packets)) said → IsSaidOf timestamp (offers_at timestamp (offers_of others)) other → said ≡ other
  one_picture timestamp said other x y =
      let alike = answer_of_set (offers_at timestamp (offers_of packets)) (offers_at timestamp (offers_of others)) timestamp x.1.held y.1.held x.0 y.0
      (λ p. (
        (λ has. let of = of_picture timestamp (offers_of packets) p has in in_picture timestamp (offers_of others) p ((same p).0 of.0) of.1),
        (λ has. let of = of_picture timestamp (offers_of others) p has in in_picture timestamp (offers_of packets) p ((same p).1 of.0) of.1),
      ))
      ((offers_are_in_capture packets bytes timestamp whole).sound are)
      (λ p has. (of_picture timestamp (offers_of packets) p has).1)
      (λ p q has has'. agree p q (of_picture timestamp (offers_of packets) p has).0 (of_picture timestamp (offers_of packets) q has').0)
      x.1.selection y.1.selection x.1.received y.1.received in
      x.2 ∙ ap (said_of timestamp) alike ∙ sym y.2

  one_of_all : (timestamps : List ℕ) (said other : Said) → AreSaidOf timestamps (map (λ timestamp. offers_at timestamp (offers_of packets)) timestamps) said
      → AreSaidOf timestamps (map (λ timestamp. offers_at timestamp (offers_of others)) timestamps) other → said ≡ other
  one_of_all [] said other x y = x ∙ sym y
  one_of_all (timestamp ∷ timestamps) said other x y =
      let first = one_picture timestamp x.0 y.0 x.1 y.1 in
      let rest = one_of_all timestamps x.2 y.2 x.3 y.3 in
      x.4 ∙ ap (λ s. said_then s x.2) first ∙ ap (said_then y.0) rest ∙ sym y.4

  one_by : (timestamps : List ℕ) (said other : Said) → stepped_of packets + records ≡ stepped_of others + besides
      → IsSaidBy records packets bytes whole timestamps said → IsSaidBy besides others more whole' timestamps other → said ≡ other
  one_by timestamps said other stepped (inl x) (inl y) = x.1 ∙ sym y.1
  one_by timestamps said other stepped (inl x) (inr y) = absurd (omega (arith, x.0, y.0))
  one_by timestamps said other stepped (inr x) (inl y) = absurd (omega (arith, x.0, y.0))
  one_by timestamps said other stepped (inr x) (inr y) =
      x.3 ∙ ap (λ n. said_then (stepped_said n) x.1) stepped ∙ ap (said_then (stepped_said (stepped_of others + besides))) (one_of_all timestamps x.1 y.1 x.2 y.2) ∙ sym y.3

-- also where records were stepped over before
pub one_after : (records besides : ℕ) (packets others : List (List ℕ)) (bytes more : List ℕ) (said other : Said) → IsCapture packets bytes → IsCapture others more → AreBytes bytes
    → ((p : Offer) → Contains (offers_of packets) p ↔ Contains (offers_of others) p) → stepped_of packets + records ≡ stepped_of others + besides → AllAgree (offers_of packets)
    → IsCapturedAfter records bytes said → IsCapturedAfter besides more other → said ≡ other
one_after records besides packets others bytes more said other whole whole' are same stepped agree x y =
    let times = timestamps_exist packets in
    one_by records besides packets others bytes more whole whole' are same agree times.0 said other stepped
    (said_by records packets bytes whole times.0 times.1 said x.sorted x.sorts x.answer)
    (said_by besides others more whole' times.0 (same_times (offers_of packets) (offers_of others) times.0 same times.1) other y.sorted y.sorts y.answer)

pub one_captured : OneCaptured
one_captured packets others bytes more said other whole whole' are same stepped agree x y =
    one_after 0 0 packets others bytes more said other whole whole' are same (ap (λ n. n + 0) stepped) agree (as_after bytes said x) (as_after more other y)

-- one capture has one answer
pub one_said : (packets : List (List ℕ)) (bytes : List ℕ) (said other : Said) → IsCapture packets bytes → AreBytes bytes → AllAgree (offers_of packets) → IsCaptured bytes said → IsCaptured bytes other → said ≡ other
one_said packets bytes said other whole are agree x y = one_captured packets packets bytes bytes said other whole whole are (λ p. ((λ has. has), (λ has. has))) refl agree x y
