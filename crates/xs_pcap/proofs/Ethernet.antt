-- Frames of Ethernet with IPv4 are read exactly where they are some.
use Rattle.std.proofs.Common.{◌≡◌, ℕ, ◌≤◌, List, [], ◌∷◌, ◌++◌, length, take, drop, Bool, true, false, refl, sym, ap, subst, ◌∙◌, arith, append_assoc, append-nil, length-append, Option, None, Some}
use Rattle.std.specs.Prelude.{nat_eq, nat_lt, not, ◌&&◌, if◌then◌else◌, flat_map}
use Rattle.std.specs.Int.{to_be_bytes, w16}
use Rattle.std.specs.List.{AllByRecursion}
use Rattle.std.proofs.lemmas.Bool.{eqb-true, le-ltb, ltb-false}
use Rattle.std.proofs.lemmas.List.{drop_at, length-take-le, take-append-drop}
use Rattle.xs_lists.specs.Fields.{half_word_at}
use Rattle.xs_lists.specs.First.{when}
use Rattle.xs_lists.specs.Packing.{AreBytes}
use Rattle.xs_pcap.specs.Datagram.{after_tags, ethernet_carried, has_tag, ipv4_type, IsEthernet, tag_bytes, tag_type, typed_ipv4, without_tag}
use Rattle.xs_pcap.proofs.Parts.{after_part, and_false, assoc_4, at_least, both_hold, drop_are, guarded, half_word_back, part_size, peel}

-- Reading tags

-- what stands before the rest: at most one tag
record Tagged (bytes rest : List ℕ) : Type 0 where
  pub labels : List (List ℕ)
  pub joined : bytes ≡ flat_map tag_bytes labels ++ rest
  pub few : length labels ≤ 1
  pub sizes : AllByRecursion (λ label. length label ≡ 2) labels

tag_is : (bytes : List ℕ) → AreBytes bytes → has_tag bytes ≡ true → bytes ≡ tag_bytes (take 2 (drop 2 bytes)) ++ drop 4 bytes
tag_is bytes all has =
    let p = both_hold (not (nat_lt (length bytes) 4)) (nat_eq (half_word_at bytes 0) tag_type) has in
    let room : 4 ≤ length bytes = at_least (length bytes) 4 p.0 in
    let number : take 2 bytes ≡ to_be_bytes w16 tag_type = sym (half_word_back bytes 0 all (omega (arith, room))) ∙ ap (to_be_bytes w16) (eqb-true (half_word_at bytes 0) tag_type p.1) in
    peel 2 0 bytes ∙ ap (λ l. l ++ drop 2 bytes) number ∙ ap (λ l. to_be_bytes w16 tag_type ++ l) (peel 2 2 bytes) ∙ sym (append_assoc (to_be_bytes w16 tag_type) (take 2 (drop 2 bytes)) (drop 4 bytes))

tagged : (bytes : List ℕ) → AreBytes bytes → Tagged bytes (without_tag bytes)
tagged bytes all = go (has_tag bytes) refl
  where
    go : (b : Bool) → has_tag bytes ≡ b → Tagged bytes (if b then drop 4 bytes else bytes)
    go true has =
        let p = both_hold (not (nat_lt (length bytes) 4)) (nat_eq (half_word_at bytes 0) tag_type) has in
        let room : 4 ≤ length bytes = at_least (length bytes) 4 p.0 in
        record { labels = take 2 (drop 2 bytes) ∷ []; joined = tag_is bytes all has ∙ ap (λ l. l ++ drop 4 bytes) (sym (append-nil (tag_bytes (take 2 (drop 2 bytes))))); few = omega arith; sizes = (part_size 2 2 bytes (omega (arith, room)), tt) }
    go false has = record { labels = []; joined = refl; few = omega arith; sizes = tt }

without_are : (bytes : List ℕ) → AreBytes bytes → AreBytes (without_tag bytes)
without_are bytes all = go (has_tag bytes)
  where
    go : (b : Bool) → AreBytes (if b then drop 4 bytes else bytes)
    go true = drop_are 4 bytes all
    go false = all

typed_is : (bytes carried : List ℕ) → AreBytes bytes → typed_ipv4 bytes ≡ Some carried → bytes ≡ to_be_bytes w16 ipv4_type ++ carried
typed_is bytes carried all e =
    let g = guarded false (not (nat_lt (length bytes) 2) && nat_eq (half_word_at bytes 0) ipv4_type) (drop 2 bytes) carried e in
    let p = both_hold (not (nat_lt (length bytes) 2)) (nat_eq (half_word_at bytes 0) ipv4_type) g.1 in
    let number : take 2 bytes ≡ to_be_bytes w16 ipv4_type = sym (half_word_back bytes 0 all (at_least (length bytes) 2 p.0)) ∙ ap (to_be_bytes w16) (eqb-true (half_word_at bytes 0) ipv4_type p.1) in
    peel 2 0 bytes ∙ ap (λ l. l ++ drop 2 bytes) number ∙ ap (λ l. to_be_bytes w16 ipv4_type ++ l) g.2

behind : (short : Bool) (x : Option (List ℕ)) (y : List ℕ) → (if short then None else x) ≡ Some y → (short ≡ false) × (x ≡ Some y)
behind true x y e = absurd (cc e)
behind false x y e = (refl, e)

-- two rows of at most one tag
two_rows : (a b : List (List ℕ)) → length a ≤ 1 → length b ≤ 1 → AllByRecursion (λ label. length label ≡ 2) a → AllByRecursion (λ label. length label ≡ 2) b
    → (length (a ++ b) ≤ 2) × AllByRecursion (λ label. length label ≡ 2) (a ++ b) × (flat_map tag_bytes (a ++ b) ≡ flat_map tag_bytes a ++ flat_map tag_bytes b)
two_rows [] b few some p q = (omega (arith, some), q, refl)
two_rows (x ∷ []) b few some p q = (omega (arith, some), (p.0, q), ap (λ l. l ++ flat_map tag_bytes b) (nothing (tag_bytes x)))
  where
    nothing : (xs : List ℕ) → xs ≡ xs ++ []
    nothing [] = refl
    nothing (x ∷ xs) = ap (λ l. x ∷ l) (nothing xs)
two_rows (x ∷ y ∷ a) b few some p q = absurd (omega (arith, few))

-- and what it carries is bytes
pub packet_are : (frame packet : List ℕ) → AreBytes frame → ethernet_carried frame ≡ Some packet → AreBytes packet
packet_are frame packet all e =
    let g = behind (nat_lt (length frame) 12) (typed_ipv4 (after_tags frame)) packet e in
    let h = guarded false (not (nat_lt (length (after_tags frame)) 2) && nat_eq (half_word_at (after_tags frame) 0) ipv4_type) (drop 2 (after_tags frame)) packet g.1 in
    subst AreBytes h.2 (drop_are 2 (after_tags frame) (without_are (without_tag (drop 12 frame)) (without_are (drop 12 frame) (drop_are 12 frame all))))

pub ethernet_is : (frame carried : List ℕ) → AreBytes frame → ethernet_carried frame ≡ Some carried → IsEthernet carried frame
ethernet_is frame carried all e =
    let g = behind (nat_lt (length frame) 12) (typed_ipv4 (after_tags frame)) carried e in
    let room : 12 ≤ length frame = ltb-false (length frame) 12 g.0 in
    let first = tagged (drop 12 frame) (drop_are 12 frame all) in
    let bytes : AreBytes (without_tag (drop 12 frame)) = without_are (drop 12 frame) (drop_are 12 frame all) in
    let second = tagged (without_tag (drop 12 frame)) bytes in
    let last = typed_is (after_tags frame) carried (without_are (without_tag (drop 12 frame)) bytes) g.1 in
    let rows = two_rows first.labels second.labels first.few second.few first.sizes second.sizes in
    record {
      addresses = take 12 frame;
      labels = first.labels ++ second.labels;
      joined =
          sym (take-append-drop 12 frame) ∙ ap (λ l. take 12 frame ++ l) (first.joined ∙ ap (λ l. flat_map tag_bytes first.labels ++ l) (second.joined ∙ ap (λ l. flat_map tag_bytes second.labels ++ l) last)
          ∙ sym (append_assoc (flat_map tag_bytes first.labels) (flat_map tag_bytes second.labels) (to_be_bytes w16 ipv4_type ++ carried))
          ∙ ap (λ l. l ++ (to_be_bytes w16 ipv4_type ++ carried)) (sym rows.2))
          ∙ sym (assoc_4 (take 12 frame) (flat_map tag_bytes (first.labels ++ second.labels)) (to_be_bytes w16 ipv4_type) carried);
      sizes = (length-take-le 12 frame room, rows.0, rows.1);
    }

-- Tags that are spelled

tag_left : (label rest : List ℕ) → length label ≡ 2 → without_tag (tag_bytes label ++ rest) ≡ rest
tag_left label rest size =
    let four : length (tag_bytes label) ≡ 4 = omega (arith, size) in
    let long : nat_lt (length (tag_bytes label ++ rest)) 4 ≡ false = le-ltb (length (tag_bytes label ++ rest)) 4 (omega (arith, four, length-append (tag_bytes label) rest)) in
    let has : has_tag (tag_bytes label ++ rest) ≡ true = ap (λ (t : Bool). not t && nat_eq (half_word_at (tag_bytes label ++ rest) 0) tag_type) long in
    ap (λ (t : Bool). if t then drop 4 (tag_bytes label ++ rest) else tag_bytes label ++ rest) has ∙ drop_at (tag_bytes label) rest 4 four

type_stays : (carried : List ℕ) → without_tag (to_be_bytes w16 ipv4_type ++ carried) ≡ to_be_bytes w16 ipv4_type ++ carried
type_stays carried =
    let none : has_tag (to_be_bytes w16 ipv4_type ++ carried) ≡ false = and_false (not (nat_lt (length (to_be_bytes w16 ipv4_type ++ carried)) 4)) in
    ap (λ (t : Bool). if t then drop 4 (to_be_bytes w16 ipv4_type ++ carried) else to_be_bytes w16 ipv4_type ++ carried) none

tags_left : (labels : List (List ℕ)) (carried : List ℕ) → length labels ≤ 2 → AllByRecursion (λ label. length label ≡ 2) labels
    → without_tag (without_tag (flat_map tag_bytes labels ++ (to_be_bytes w16 ipv4_type ++ carried))) ≡ to_be_bytes w16 ipv4_type ++ carried
tags_left [] carried few sizes = ap without_tag (type_stays carried) ∙ type_stays carried
tags_left (a ∷ []) carried few sizes =
    ap (λ l. without_tag (without_tag l)) (append_assoc (tag_bytes a) [] (to_be_bytes w16 ipv4_type ++ carried)) ∙ ap without_tag (tag_left a (to_be_bytes w16 ipv4_type ++ carried) sizes.0) ∙ type_stays carried
tags_left (a ∷ b ∷ []) carried few sizes =
    ap (λ l. without_tag (without_tag l)) (append_assoc (tag_bytes a) (tag_bytes b ++ []) (to_be_bytes w16 ipv4_type ++ carried) ∙ ap (λ l. tag_bytes a ++ l) (append_assoc (tag_bytes b) [] (to_be_bytes w16 ipv4_type ++ carried)))
    ∙ ap without_tag (tag_left a (tag_bytes b ++ (to_be_bytes w16 ipv4_type ++ carried)) sizes.0) ∙ tag_left b (to_be_bytes w16 ipv4_type ++ carried) sizes.1.0
tags_left (a ∷ b ∷ c ∷ labels) carried few sizes = absurd (omega (arith, few))

type_is_read : (carried : List ℕ) → typed_ipv4 (to_be_bytes w16 ipv4_type ++ carried) ≡ Some carried
type_is_read carried =
    let long : nat_lt (length (to_be_bytes w16 ipv4_type ++ carried)) 2 ≡ false = le-ltb (length (to_be_bytes w16 ipv4_type ++ carried)) 2 (omega arith) in
    ap (λ (t : Bool). when (not t && true) carried) long

pub ethernet_is_read : (frame carried : List ℕ) → IsEthernet carried frame → ethernet_carried frame ≡ Some carried
ethernet_is_read frame carried f =
    let split : frame ≡ f.addresses ++ (flat_map tag_bytes f.labels ++ (to_be_bytes w16 ipv4_type ++ carried)) = f.joined ∙ assoc_4 f.addresses (flat_map tag_bytes f.labels) (to_be_bytes w16 ipv4_type) carried in
    let room : nat_lt (length frame) 12 ≡ false = le-ltb (length frame) 12 (omega (arith, ap length split, length-append f.addresses (flat_map tag_bytes f.labels ++ (to_be_bytes w16 ipv4_type ++ carried)), f.sizes.0)) in
    let at_12 : drop 12 frame ≡ flat_map tag_bytes f.labels ++ (to_be_bytes w16 ipv4_type ++ carried) = after_part 0 12 frame f.addresses _ split f.sizes.0 in
    let after : after_tags frame ≡ to_be_bytes w16 ipv4_type ++ carried = ap (λ l. without_tag (without_tag l)) at_12 ∙ tags_left f.labels carried f.sizes.1 f.sizes.2 in
    ap (λ (t : Bool). if t then None else typed_ipv4 (after_tags frame)) room ∙ ap typed_ipv4 after ∙ type_is_read carried
