-- Whole boxes, one after the other.
use Rattle.std.proofs.Common.{◌≡◌, ℕ, zero, suc, ◌-◌, ◌^◌, ◌<◌, ◌≤◌, Bool, true, false, List, [], ◌∷◌, ◌++◌, length, take, drop, get_or, refl, sym, ap, ◌∙◌, arith, inl, inr}
use Rattle.std.specs.Prelude.{nat_le, ◌&&◌, if◌then◌else◌, Some, None}
use Rattle.std.specs.Int.{from_be_bytes, to_be_bytes, w32}
use Rattle.std.specs.List.{concat, AllByRecursion}
use Rattle.std.proofs.lemmas.List.{length-take-le, length-drop, length-append, drop_at, take-append-drop, nil_from_length, append_assoc}
use Rattle.std.proofs.lemmas.Bool.{and_parts, leb-true, leb-false, le-leb, cases_Bool, true≢false}
use Rattle.std.proofs.lemmas.Nat.{be_bytes_4, from_be_bytes-to_be_bytes_4}
use Rattle.xs_lists.specs.Fields.{word_at}
use Rattle.xs_lists.specs.Spelling.{BeginsWith}
use Rattle.xs_lists.specs.Packing.{AreBytes}
use Rattle.xs_params.specs.Boxes.{IsBox, AreBoxes}
use Rattle.xs_params.specs.Check.{are_boxes, BoxesTold}

-- the front of some bytes is a whole box
abbrev pub has_box : List ℕ → Bool
has_box bytes = nat_le 8 (word_at bytes 0) && nat_le (word_at bytes 0) (length bytes)

pub box_sizes : (bytes : List ℕ) → has_box bytes ≡ true → (8 ≤ word_at bytes 0) × (word_at bytes 0 ≤ length bytes)
box_sizes bytes p =
    let parts = and_parts (nat_le 8 (word_at bytes 0)) (nat_le (word_at bytes 0) (length bytes)) p in
    (leb-true 8 (word_at bytes 0) parts.0, leb-true (word_at bytes 0) (length bytes) parts.1)

-- past the bytes that are left of a box
past : (left : ℕ) (bytes : List ℕ) → left ≤ length bytes → are_boxes left bytes ≡ are_boxes 0 (drop left bytes)
past zero bytes p = refl
past (suc left) [] p = absurd (omega (arith, p))
past (suc left) (byte ∷ bytes) p = past left bytes (omega (arith, p))

cut_short : (left : ℕ) (bytes : List ℕ) → length bytes < left → are_boxes left bytes ≡ false
cut_short zero bytes p = absurd (omega (arith, p))
cut_short (suc left) [] p = refl
cut_short (suc left) (byte ∷ bytes) p = cut_short left bytes (omega (arith, p))

-- past a box
pub next_box : (bytes : List ℕ) → 0 < length bytes → has_box bytes ≡ true → are_boxes 0 bytes ≡ are_boxes 0 (drop (word_at bytes 0) bytes)
next_box [] some p = absurd (omega (arith, some))
next_box (byte ∷ bytes) some p =
    let size = word_at (byte ∷ bytes) 0 in
    let sizes = box_sizes (byte ∷ bytes) p in
    let parts = and_parts (nat_le 8 size) (nat_le size (length (byte ∷ bytes))) p in
    let one : size ≡ suc (size - 1) = omega (arith, sizes) in
    ap (λ t. t && are_boxes (size - 1) bytes) parts.0 ∙ past (size - 1) bytes (omega (arith, sizes)) ∙ sym (ap (λ n. are_boxes 0 (drop n (byte ∷ bytes))) one)

-- no box
pub no_box : (bytes : List ℕ) → 0 < length bytes → has_box bytes ≡ false → are_boxes 0 bytes ≡ false
no_box [] some p = absurd (omega (arith, some))
no_box (byte ∷ bytes) some p = cases (nat_le 8 size) refl
  where
    size : ℕ
    size = word_at (byte ∷ bytes) 0

    cases : (long : Bool) → nat_le 8 size ≡ long → (nat_le 8 size && are_boxes (size - 1) bytes) ≡ false
    cases false q = ap (λ t. t && are_boxes (size - 1) bytes) q
    cases true q =
        let short : length (byte ∷ bytes) < size = leb-false size (length (byte ∷ bytes)) (sym (ap (λ t. t && nat_le size (length (byte ∷ bytes))) q) ∙ p) in
        ap (λ t. t && are_boxes (size - 1) bytes) q ∙ cut_short (size - 1) bytes (omega (arith, short))

-- what the answer of the first box tells
pub told : (found : Bool) (size stated : ℕ) → Some size ≡ (if found then Some stated else None) → (found ≡ true) × (size ≡ stated)
told true size stated e = (refl, cc e)
told false size stated e = absurd (cc e)

pub untold : (found : Bool) (stated : ℕ) → None ≡ (if found then Some stated else None) → found ≡ false
untold true stated e = absurd (cc e)
untold false stated e = refl

-- the bytes of the front
all_take : (n : ℕ) (bytes : List ℕ) → AreBytes bytes → AreBytes (take n bytes)
all_take zero bytes p = tt
all_take (suc n) [] p = tt
all_take (suc n) (byte ∷ bytes) p = (p.0, all_take n bytes p.1)

all_drop : (n : ℕ) (bytes : List ℕ) → AreBytes bytes → AreBytes (drop n bytes)
all_drop zero bytes p = p
all_drop (suc n) [] p = tt
all_drop (suc n) (byte ∷ bytes) p = all_drop n bytes p.1

byte_small : (bytes : List ℕ) → AreBytes bytes → (i : ℕ) → get_or bytes i 0 < 256
byte_small [] p i = omega arith
byte_small (byte ∷ bytes) p zero = omega (arith, p.0)
byte_small (byte ∷ bytes) p (suc i) = byte_small bytes p.1 i

-- items that are each a byte
pub each_byte : (list : List ℕ) → ((i : ℕ) → get_or list i 0 < 2 ^ 8) → AreBytes list
each_byte [] h = tt
each_byte (byte ∷ bytes) h = (h 0, each_byte bytes (λ i. h (suc i)))

take_front : (few more : ℕ) (bytes : List ℕ) → few ≤ more → take few (take more bytes) ≡ take few bytes
take_front zero more bytes p = refl
take_front (suc few) zero bytes p = absurd (omega (arith, p))
take_front (suc few) (suc more) [] p = refl
take_front (suc few) (suc more) (byte ∷ bytes) p = ap (λ l. byte ∷ l) (take_front few more bytes (omega (arith, p)))

-- so many bytes from the front on, which begin with their number
box_begins : (size : ℕ) (bytes : List ℕ) → 4 ≤ size → size ≤ length bytes → take 4 bytes ≡ to_be_bytes w32 size → BeginsWith (take size bytes) (to_be_bytes w32 (length (take size bytes)))
box_begins size bytes some inside four = (
  drop 4 (take size bytes),
  sym (take-append-drop 4 (take size bytes))
      ∙ ap (λ l. l ++ drop 4 (take size bytes)) (take_front 4 size bytes some ∙ four ∙ ap (to_be_bytes w32) (sym (length-take-le size bytes inside))),
)

-- the front of the bytes is a box
first_box : (bytes : List ℕ) → AreBytes bytes → length bytes ≤ 2048 → has_box bytes ≡ true → IsBox (take (word_at bytes 0) bytes)
first_box bytes small short p =
    let size = word_at bytes 0 in
    let sizes = box_sizes bytes p in
    let count : length (take size bytes) ≡ size = length-take-le size bytes sizes.1 in
    let four : take 4 bytes ≡ to_be_bytes w32 size = sym (be_bytes_4 (take 4 bytes) size (length-take-le 4 bytes (omega (arith, sizes))) (byte_small (take 4 bytes) (all_take 4 bytes small)) refl) in
    record {
      size = (omega (arith, count, sizes), omega (arith, count, sizes, short));
      unlike = λ same. omega (arith, count, sizes, short, same);
      begin = box_begins size bytes (omega (arith, sizes)) sizes.1 four;
    }

-- one box more at the front
one_more : (box rest whole : List ℕ) → whole ≡ box ++ rest → IsBox box → AreBoxes rest → AreBoxes whole
one_more box rest whole joined is are = record { boxes = box ∷ are.boxes; whole = (is, are.whole); joined = joined ∙ ap (λ l. box ++ l) are.joined }

boxes_are : (most : ℕ) (bytes : List ℕ) → length bytes ≤ most → AreBytes bytes → length bytes ≤ 2048 → are_boxes 0 bytes ≡ true → AreBoxes bytes
boxes_are zero bytes most small short p = record { boxes = []; whole = tt; joined = nil_from_length bytes (omega (arith, most)) }
boxes_are (suc n) [] most small short p = record { boxes = []; whole = tt; joined = refl }
boxes_are (suc n) (byte ∷ tail) most small short p =
    let bytes : List ℕ = byte ∷ tail in
    let some : 0 < length bytes = omega arith in
    elim (cases_Bool (has_box bytes)) [
      | inl has ↦
          let size = word_at bytes 0 in
          let sizes = box_sizes bytes has in
          let left = length-drop size bytes in
          let more = boxes_are n (drop size bytes) (omega (arith, left, sizes, most)) (all_drop size bytes small) (omega (arith, left, short)) (sym (next_box bytes some has) ∙ p) in
          one_more (take size bytes) (drop size bytes) bytes (sym (take-append-drop size bytes)) (first_box bytes small short has) more
      | inr none ↦ absurd (true≢false (sym p ∙ no_box bytes some none))
    ]

-- past a box and what follows it
past_box : (box rest : List ℕ) → IsBox box → are_boxes 0 (box ++ rest) ≡ are_boxes 0 rest
past_box box rest is =
    let size = length box in
    let after = is.begin.0 in
    let whole : box ++ rest ≡ to_be_bytes w32 size ++ (after ++ rest) = ap (λ l. l ++ rest) is.begin.1 ∙ append_assoc (to_be_bytes w32 size) after rest in
    let said : word_at (box ++ rest) 0 ≡ size =
    ap (λ l. from_be_bytes w32 (take 4 l)) whole ∙ from_be_bytes-to_be_bytes_4 size is.size.1 in
    let count = length-append box rest in
    let has : has_box (box ++ rest) ≡ true =
    ap (λ n. nat_le 8 n && nat_le n (length (box ++ rest))) said
    ∙ ap (λ t. t && nat_le size (length (box ++ rest))) (le-leb 8 size is.size.0) ∙ le-leb size (length (box ++ rest)) (omega (arith, count)) in
    next_box (box ++ rest) (omega (arith, count, is.size)) has ∙ ap (λ n. are_boxes 0 (drop n (box ++ rest))) said ∙ ap (are_boxes 0) (drop_at box rest size refl)

are_of : (boxes : List (List ℕ)) → AllByRecursion IsBox boxes → are_boxes 0 (concat boxes) ≡ true
are_of [] p = refl
are_of (box ∷ boxes) p = past_box box (concat boxes) p.0 ∙ are_of boxes p.1

pub boxes_told : BoxesTold
boxes_told bytes small short = (boxes_are (length bytes) bytes (omega arith) small short, λ are. ap (are_boxes 0) are.joined ∙ are_of are.boxes are.whole)
