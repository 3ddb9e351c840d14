-- Bytes are whole frames, or are cut at a place.
use Rattle.std.proofs.Common.{Bool, true, false, ◌-◌, ◌≡◌, ℕ, zero, suc, ◌+◌, ◌<◌, ◌≤◌, ◌^◌, List, [], ◌∷◌, ◌++◌, length, take, drop, get_or, refl, sym, ap, subst, ◌∙◌, arith, length-append}
use mathlib.Core.Logic.{◌⊎◌, inl, inr}
use Rattle.std.specs.Int.{to_be_bytes, from_be_bytes, w16}
use Rattle.std.specs.Prelude.{nat_lt, ◌||◌, if◌then◌else◌, Result, Ok, Err}
use Rattle.std.proofs.lemmas.Bool.{cases_order, ltb-true, ltb-false}
use Rattle.std.proofs.lemmas.Nat.{be_bytes_2, from_be_bytes-to_be_bytes_2}
use Rattle.std.proofs.lemmas.List.{take-append-drop, length-take-le}
use Rattle.xs_lists.specs.Spelling.{BeginsWith}
use Rattle.xs_lists.specs.Packing.{AreBytes}
use Rattle.xs_lists.specs.Fields.{half_word_at}
use Rattle.xs_capture.specs.declared.frames.FrameFault.{FrameFault}
use Rattle.xs_capture.specs.declared.frames.FrameFault.TheVariants.{Cut}
use Rattle.xs_capture.specs.Capture.{frame, IsShort, HasNoFrame, IsCapture, IsCutAt, frame_end}
use Rattle.xs_capture.specs.Laws.{CutOrWhole, FrameIsRead, IsFrameRead}

below_or_not : (a b : ℕ) → (a < b) ⊎ (b ≤ a)
below_or_not a b = elim (cases_order a b) [
  | inl same ↦ inr (omega (arith, same))
  | inr other ↦ elim other [ inl less ↦ inl less | inr more ↦ inr (omega (arith, more)) ]
]

-- past a front of a joined list

take_past : (xs ys : List ℕ) (n : ℕ) → take (length xs + n) (xs ++ ys) ≡ xs ++ take n ys
take_past [] ys n = let e : 0 + n ≡ n = omega arith in ap (λ k. take k ys) e
take_past (x ∷ xs) ys n =
    let e : length (x ∷ xs) + n ≡ suc (length xs + n) = omega arith in
    ap (λ k. take k (x ∷ (xs ++ ys))) e ∙ ap (λ l. x ∷ l) (take_past xs ys n)

drop_past : (xs ys : List ℕ) (n : ℕ) → drop (length xs + n) (xs ++ ys) ≡ drop n ys
drop_past [] ys n = let e : 0 + n ≡ n = omega arith in ap (λ k. drop k ys) e
drop_past (x ∷ xs) ys n =
    let e : length (x ∷ xs) + n ≡ suc (length xs + n) = omega arith in
    ap (λ k. drop k (x ∷ (xs ++ ys))) e ∙ drop_past xs ys n

-- bytes begin with a whole frame, or with none
abbrev HasFrame : List ℕ → Type 0
HasFrame bytes = (packet : List ℕ) × (rest : List ℕ) × IsShort packet × (bytes ≡ frame packet ++ rest)

abbrev size_of : ℕ → ℕ → ℕ
size_of high low = from_be_bytes w16 (high ∷ low ∷ [])

both_bytes : (high low : ℕ) → high < 256 → low < 256 → (i : ℕ) → get_or (high ∷ low ∷ []) i 0 < 256
both_bytes high low h l zero = h
both_bytes high low h l (suc zero) = l
both_bytes high low h l (suc (suc i)) = omega arith

framed : (high low : ℕ) (bytes : List ℕ) → high < 256 → low < 256 → size_of high low ≤ length bytes → HasFrame (high ∷ low ∷ bytes)
framed high low bytes h l fits =
    let n = size_of high low in
    let size : length (take (size_of high low) bytes) ≡ size_of high low = length-take-le (size_of high low) bytes fits in
    let short : length (take (size_of high low) bytes) < 2 ^ 16 = omega (arith, size, h, l) in
    let head : to_be_bytes w16 (length (take (size_of high low) bytes)) ≡ high ∷ low ∷ [] = ap (to_be_bytes w16) size ∙ be_bytes_2 (high ∷ low ∷ []) (size_of high low) refl (both_bytes high low h l) refl in (
      take (size_of high low) bytes,
      drop (size_of high low) bytes,
      short,
      sym (ap (λ l. (l ++ take (size_of high low) bytes) ++ drop (size_of high low) bytes) head ∙ ap (λ l. high ∷ low ∷ l) (take-append-drop (size_of high low) bytes)),
    )

framed_so : (high low : ℕ) (bytes : List ℕ) → high < 256 → low < 256 → size_of high low ≤ length bytes → high ∷ low ∷ bytes ≡ frame (take (size_of high low) bytes) ++ drop (size_of high low) bytes
unfolding framed
framed_so high low bytes h l fits = (framed high low bytes h l fits).3

short_so : (high low : ℕ) (bytes : List ℕ) → high < 256 → low < 256 → size_of high low ≤ length bytes → IsShort (take (size_of high low) bytes)
short_so high low bytes h l fits = let size : length (take (size_of high low) bytes) ≡ size_of high low = length-take-le (size_of high low) bytes fits in omega (arith, size, h, l)

-- what a frame's front says of its packet
front_of : (high low : ℕ) (bytes packet : List ℕ) → IsShort packet → BeginsWith (high ∷ low ∷ bytes) (frame packet) → (high < 256) × (low < 256) × (size_of high low ≤ length bytes)
front_of high low bytes packet short begin =
    let first : high ≡ get_or (to_be_bytes w16 (length packet)) 0 0 = ap (λ l. get_or l 0 0) begin.1 in
    let second : low ≡ get_or (to_be_bytes w16 (length packet)) 1 0 = ap (λ l. get_or l 1 0) begin.1 in
    let size : size_of high low ≡ length packet = ap (λ k. size_of k low) first ∙ ap (λ k. size_of (get_or (to_be_bytes w16 (length packet)) 0 0) k) second ∙ from_be_bytes-to_be_bytes_2 (length packet) short in
    let rest : bytes ≡ packet ++ begin.0 = ap (λ l. drop 2 l) begin.1 in
    let long : length bytes ≡ length packet + length begin.0 = ap length rest ∙ length-append packet begin.0 in
    (omega (arith, first), omega (arith, second), omega (arith, size, long))

front : (bytes : List ℕ) → HasFrame bytes ⊎ HasNoFrame bytes
front [] = inr (λ packet short begin. absurd (cc begin.1))
front (high ∷ []) = inr (λ packet short begin. absurd (cc begin.1))
front (high ∷ low ∷ bytes) = elim (below_or_not high 256) [
  | inr big ↦ inr (λ packet short begin. let f = front_of high low bytes packet short begin in absurd (omega (arith, big, f.0)))
  | inl h ↦ elim (below_or_not low 256) [
    | inr big ↦ inr (λ packet short begin. let f = front_of high low bytes packet short begin in absurd (omega (arith, big, f.1)))
    | inl l ↦ elim (below_or_not (length bytes) (size_of high low)) [
      | inl few ↦ inr (λ packet short begin. let f = front_of high low bytes packet short begin in absurd (omega (arith, few, f.2)))
      | inr fits ↦ inl (framed high low bytes h l fits)
    ]
  ]
]

abbrev IsCutOrWhole : List ℕ → Type 0
IsCutOrWhole bytes = ((packets : List (List ℕ)) × IsCapture packets bytes) ⊎ ((place : ℕ) × IsCutAt bytes place)

-- a frame before bytes that are whole, or that are cut
after_frame : (bytes packet rest : List ℕ) → IsShort packet → bytes ≡ frame packet ++ rest → IsCutOrWhole rest → IsCutOrWhole bytes
after_frame bytes packet rest short e (inl whole) = inl (packet ∷ whole.0, record { joined = e ∙ ap (λ l. frame packet ++ l) whole.1.joined; short = (short, whole.1.short) })
after_frame bytes packet rest short e (inr cut) =
    let front : take (length (frame packet) + cut.0) bytes ≡ frame packet ++ take cut.0 rest = ap (take (length (frame packet) + cut.0)) e ∙ take_past (frame packet) rest cut.0 in
    let back : drop (length (frame packet) + cut.0) bytes ≡ drop cut.0 rest = ap (drop (length (frame packet) + cut.0)) e ∙ drop_past (frame packet) rest cut.0 in
    let size : length bytes ≡ length (frame packet) + length rest = ap length e ∙ length-append (frame packet) rest in
    let some : cut.0 < length rest = cut.1.follow in
    inr (
      length (frame packet) + cut.0,
      record {
        packets = packet ∷ cut.1.packets;
        whole = record { joined = front ∙ ap (λ l. frame packet ++ l) cut.1.whole.joined; short = (short, cut.1.whole.short) };
        follow = omega (arith, size, some);
        cut = subst HasNoFrame (sym back) cut.1.cut;
      },
    )

cut_at_front : (bytes : List ℕ) → 0 < length bytes → HasNoFrame bytes → IsCutAt bytes 0
cut_at_front bytes some none = record { packets = []; whole = record { joined = refl; short = tt }; follow = some; cut = none }

within : (fuel : ℕ) (bytes : List ℕ) → length bytes ≤ fuel → IsCutOrWhole bytes
within fuel [] few = inl ([], record { joined = refl; short = tt })
within zero (b ∷ bytes) few = absurd (omega (arith, few))
within (suc fuel) (b ∷ bytes) few = elim (front (b ∷ bytes)) [
  | inr none ↦ inr (0, cut_at_front (b ∷ bytes) (omega arith) none)
  | inl f ↦
      let size : length (b ∷ bytes) ≡ suc (suc (length f.0)) + length f.1 = ap length f.3 ∙ length-append (frame f.0) f.1 in
      let less : length f.1 ≤ fuel = omega (arith, few, size) in
      after_frame (b ∷ bytes) f.0 f.1 f.2 f.3 (within fuel f.1 less)
]

pub cut_or_whole : CutOrWhole
cut_or_whole bytes = within (length bytes) bytes (omega arith)

-- Reading a frame

-- two bytes at the front, or fewer
two_or_few : (bytes : List ℕ) → ((high : ℕ) × (low : ℕ) × (rest : List ℕ) × (bytes ≡ high ∷ low ∷ rest)) ⊎ (length bytes < 2)
two_or_few [] = inr (omega arith)
two_or_few (high ∷ []) = inr (omega arith)
two_or_few (high ∷ low ∷ rest) = inl (high, low, rest, refl)

few_have_none : (bytes : List ℕ) → length bytes < 2 → HasNoFrame bytes
few_have_none bytes few packet short begin =
    let size : length bytes ≡ length (frame packet) + length begin.0 = ap length begin.1 ∙ length-append (frame packet) begin.0 in
    absurd (omega (arith, size, few))

dropped_bytes : (bytes : List ℕ) (place : ℕ) → AreBytes bytes → AreBytes (drop place bytes)
dropped_bytes bytes zero all = all
dropped_bytes [] (suc place) all = tt
dropped_bytes (b ∷ bytes) (suc place) all = dropped_bytes bytes place all.1

rest_of : (bytes : List ℕ) (place : ℕ) → place < length bytes → place + length (drop place bytes) ≡ length bytes
rest_of bytes place inside =
    let size : length (take place bytes) ≡ place = length-take-le place bytes (omega (arith, inside)) in
    let joined : length bytes ≡ length (take place bytes) + length (drop place bytes) = ap length (sym (take-append-drop place bytes)) ∙ length-append (take place bytes) (drop place bytes) in
    omega (arith, size, joined)

past_two : (bytes : List ℕ) (place : ℕ) → drop (place + 2) bytes ≡ drop 2 (drop place bytes)
past_two bytes zero = refl
past_two [] (suc place) = let e : suc place + 2 ≡ suc (place + 2) = omega arith in ap (λ k. drop {A = ℕ} k []) e
past_two (b ∷ bytes) (suc place) = let e : suc place + 2 ≡ suc (place + 2) = omega arith in ap (λ k. drop k (b ∷ bytes)) e ∙ past_two bytes place

-- either test, or none
by_tests : (P : Result (ℕ × ℕ) FrameFault → Type 0) (a b : Bool) (refused given : Result (ℕ × ℕ) FrameFault) → (a ≡ true → P refused) → (b ≡ true → P refused) → (a ≡ false → b ≡ false → P given)
    → P (if a || b then refused else given)
by_tests P true b refused given first second none = first refl
by_tests P false true refused given first second none = second refl
by_tests P false false refused given first second none = none refl refl

two_more : (high low : ℕ) (rest : List ℕ) → length (high ∷ low ∷ rest) ≡ 2 + length rest
two_more high low rest = omega arith

pub frame_is_read : FrameIsRead
frame_is_read bytes place all inside =
    by_tests (IsFrameRead bytes place) (nat_lt (length bytes) (place + 2)) (nat_lt (length bytes) (frame_end bytes place)) (Err (Cut place)) (Ok (place + 2, frame_end bytes place))
    (λ e. let few : length bytes < place + 2 = ltb-true (length bytes) (place + 2) e in (refl, few_have_none (drop place bytes) (omega (arith, few, whole))))
    (λ e. (refl, past_end (ltb-true (length bytes) (frame_end bytes place) e)))
    (λ a b. stands (ltb-false (length bytes) (place + 2) a) (ltb-false (length bytes) (frame_end bytes place) b))
  where
    whole : place + length (drop place bytes) ≡ length bytes
    whole = rest_of bytes place inside

    rest_bytes : AreBytes (drop place bytes)
    rest_bytes = dropped_bytes bytes place all

    past_end : length bytes < frame_end bytes place → HasNoFrame (drop place bytes)
    past_end few = elim (two_or_few (drop place bytes)) [
      | inr short ↦ few_have_none (drop place bytes) short
      | inl pair ↦ λ packet short begin.
          let f = front_of pair.0 pair.1 pair.2 packet short (begin.0, sym pair.3 ∙ begin.1) in
          let size : half_word_at bytes place ≡ size_of pair.0 pair.1 = ap (λ l. from_be_bytes w16 (take 2 l)) pair.3 in
          let long : length (drop place bytes) ≡ 2 + length pair.2 = ap length pair.3 ∙ two_more pair.0 pair.1 pair.2 in
          absurd (omega (arith, few, f.2, size, long, whole))
    ]

    stands : place + 2 ≤ length bytes → frame_end bytes place ≤ length bytes
        → (place + 2 ≤ frame_end bytes place) × (frame_end bytes place ≤ length bytes) × IsShort (take (frame_end bytes place - (place + 2)) (drop (place + 2) bytes)) × BeginsWith (drop place bytes) (frame (take (frame_end bytes place - (place + 2)) (drop (place + 2) bytes)))
    stands enough fits = elim (two_or_few (drop place bytes)) [
      | inr few ↦ absurd (omega (arith, enough, few, whole))
      | inl pair ↦
          let some = subst AreBytes pair.3 rest_bytes in
          let size : half_word_at bytes place ≡ size_of pair.0 pair.1 = ap (λ l. from_be_bytes w16 (take 2 l)) pair.3 in
          let long : length (drop place bytes) ≡ 2 + length pair.2 = ap length pair.3 ∙ two_more pair.0 pair.1 pair.2 in
          let room : size_of pair.0 pair.1 ≤ length pair.2 = omega (arith, fits, size, long, whole) in
          let made = framed_so pair.0 pair.1 pair.2 some.0 some.1.0 room in
          let count : frame_end bytes place - (place + 2) ≡ size_of pair.0 pair.1 = omega (arith, size) in
          let back : drop (place + 2) bytes ≡ pair.2 = past_two bytes place ∙ ap (drop 2) pair.3 in
          let packet : take (frame_end bytes place - (place + 2)) (drop (place + 2) bytes) ≡ take (size_of pair.0 pair.1) pair.2 =
          ap (λ n. take n (drop (place + 2) bytes)) count ∙ ap (take (size_of pair.0 pair.1)) back in
          (omega arith, fits, subst IsShort (sym packet) (short_so pair.0 pair.1 pair.2 some.0 some.1.0 room), (drop (size_of pair.0 pair.1) pair.2, pair.3 ∙ made ∙ ap (λ l. frame l ++ drop (size_of pair.0 pair.1) pair.2) (sym packet)))
    ]
