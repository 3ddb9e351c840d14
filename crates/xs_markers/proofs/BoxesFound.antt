-- Boxes before a header, and the start marker after them.
use Rattle.std.proofs.Common.{◌≡◌, ℕ, zero, suc, ◌+◌, ◌/◌, ◌^◌, ◌<◌, ◌≤◌, ◌≢◌, Bool, true, false, nat_eq, nat_le, nat_lt, ◌&&◌, List, [], ◌∷◌, ◌++◌, length, take, drop, Option, Some, None, Ok, refl, sym, ap, subst, ◌∙◌, arith, append_assoc, length-append, take-add, append-nil}
use Rattle.std.specs.Int.{from_be_bytes, to_be_bytes, w16, w32}
use Rattle.std.specs.List.{concat, AllByRecursion}
use Rattle.std.proofs.lemmas.Nat.{from_be_bytes-to_be_bytes_4}
use Rattle.std.proofs.lemmas.List.{take-append-drop, drop_at, length-drop}
use Rattle.std.proofs.lemmas.Bool.{ltb-false, le-ltb, and_from, true≢false, eq-eqb, le-leb, ne_eqb}
use Rattle.xs_lists.specs.Fields.{half_word_at, word_at}
use Rattle.xs_lists.specs.First.{first_of}
use Rattle.xs_lists.proofs.Walk.{all-append}
use Rattle.xs_params.specs.Boxes.{IsBox}
use Rattle.xs_faults.specs.declared.HeadFault.{HeadFault}
use Rattle.xs_faults.specs.declared.HeadFault.TheVariants.{Truncated, BoxLength}
use Rattle.xs_markers.specs.Segments.{soc_code}
use Rattle.xs_markers.specs.Units.{is_start, box_fault, boxes_from}
use Rattle.xs_markers.proofs.Cut.{IsBytes, word_bytes, word_small, piece_size}
use Rattle.xs_markers.proofs.OneStep.{box_end, box_refused, box_on}
use Rattle.xs_markers.proofs.Found.{ok_same, ok_err}
use Rattle.xs_markers.proofs.Refusals.{no_row, skipped}

-- A box at a place

pub record IsBoxFine (bytes : List ℕ) (place : ℕ) : Type 0 where
  pub there : place + 4 ≤ length bytes
  pub some : 8 ≤ word_at bytes place
  pub whole : place + word_at bytes place ≤ length bytes

box_fine : (bytes : List ℕ) (place : ℕ) → box_fault bytes place ≡ None → IsBoxFine bytes place
unfolding box_fault
box_fine bytes place e = let parts = go (word_at bytes place) e in record { there = parts.0; some = parts.1; whole = parts.2 }
  where
    go : (size : ℕ) → first_of ((nat_lt (length bytes) (place + 4), Truncated (length bytes)) ∷ (nat_lt size 8, BoxLength size place) ∷ (nat_lt (length bytes) (place + size), Truncated (length bytes)) ∷ []) ≡ None
        → (place + 4 ≤ length bytes) × (8 ≤ size) × (place + size ≤ length bytes)
    go size e =
        let first : (nat_lt (length bytes) (place + 4) ≡ false) × (first_of ((nat_lt size 8, BoxLength size place) ∷ (nat_lt (length bytes) (place + size), Truncated (length bytes)) ∷ []) ≡ None) = no_row _ _ _ e in
        let second : (nat_lt size 8 ≡ false) × (first_of ((nat_lt (length bytes) (place + size), Truncated (length bytes)) ∷ []) ≡ None) = no_row _ _ _ first.1 in
        let third : (nat_lt (length bytes) (place + size) ≡ false) × (None ≡ None) = no_row _ _ _ second.1 in
        (ltb-false (length bytes) (place + 4) first.0, ltb-false size 8 second.0, ltb-false (length bytes) (place + size) third.0)

fine_box : (bytes : List ℕ) (place : ℕ) → IsBoxFine bytes place → box_fault bytes place ≡ None
unfolding box_fault
fine_box bytes place f =
    skipped (nat_lt (length bytes) (place + 4)) (Truncated (length bytes)) _ (le-ltb (length bytes) (place + 4) f.there)
    (skipped (nat_lt (word_at bytes place) 8) (BoxLength (word_at bytes place) place) _ (le-ltb (word_at bytes place) 8 f.some)
    (skipped (nat_lt (length bytes) (place + word_at bytes place)) (Truncated (length bytes)) None (le-ltb (length bytes) (place + word_at bytes place) f.whole) refl))

-- the first two of the four bytes of a number
half_of : (number : ℕ) (rest : List ℕ) → number < 2 ^ 32 → from_be_bytes w16 (take 2 (to_be_bytes w32 number ++ rest)) ≡ number / 2 ^ 16
half_of number rest small = omega (arith, small)

-- bytes that begin with a number
pub record BeginsAt (bytes : List ℕ) (place number : ℕ) : Type 0 where
  pub word : word_at bytes place ≡ number
  pub half : half_word_at bytes place ≡ number / 2 ^ 16

begins_at : (bytes rest : List ℕ) (place number : ℕ) → number < 2 ^ 32 → drop place bytes ≡ to_be_bytes w32 number ++ rest → BeginsAt bytes place number
begins_at bytes rest place number small e = record {
  word = ap (λ l. from_be_bytes w32 (take 4 l)) e ∙ from_be_bytes-to_be_bytes_4 number small;
  half = ap (λ l. from_be_bytes w16 (take 2 l)) e ∙ half_of number rest small;
}

take_front : (few more : ℕ) (bytes : List ℕ) → few ≤ more → take few (take more bytes) ≡ take few bytes
take_front zero more bytes p = refl
take_front (suc few) zero bytes p = absurd (omega (arith, p))
take_front (suc few) (suc more) [] p = refl
take_front (suc few) (suc more) (byte ∷ bytes) p = ap (λ l. byte ∷ l) (take_front few more bytes (omega (arith, p)))

-- no start marker stands where there is room for one
no_start : (bytes : List ℕ) (place : ℕ) → place + 4 ≤ length bytes → is_start bytes place ≡ false → half_word_at bytes place ≢ soc_code
no_start bytes place there e same =
    true≢false (sym (and_from (nat_le (place + 2) (length bytes)) (nat_eq (half_word_at bytes place) soc_code) (le-leb (place + 2) (length bytes) (omega (arith, there))) (eq-eqb (half_word_at bytes place) soc_code same)) ∙ e)

box_is : (bytes : List ℕ) (place : ℕ) → IsBytes bytes → is_start bytes place ≡ false → IsBoxFine bytes place → IsBox (take (word_at bytes place) (drop place bytes))
box_is bytes place small more f = go (word_at bytes place) refl f.some f.whole
  where
    go : (size : ℕ) → word_at bytes place ≡ size → 8 ≤ size → place + size ≤ length bytes → IsBox (take size (drop place bytes))
    go size e some whole =
        let count : length (take size (drop place bytes)) ≡ size = piece_size size place bytes whole in
        let four : take 4 (drop place bytes) ≡ to_be_bytes w32 size = word_bytes bytes place small f.there ∙ ap (to_be_bytes w32) e in
        let word : size < 2 ^ 32 = subst (λ n. n < 2 ^ 32) e (word_small bytes place small f.there) in
        let begins = begins_at bytes (drop 4 (drop place bytes)) place size word (sym (take-append-drop 4 (drop place bytes)) ∙ ap (λ l. l ++ drop 4 (drop place bytes)) four) in
        record {
          size = (omega (arith, count, some), omega (arith, count, word));
          unlike = λ same. no_start bytes place f.there more (begins.half ∙ ap (λ n. n / 2 ^ 16) (sym count) ∙ same);
          begin = (
            drop 4 (take size (drop place bytes)),
            sym (take-append-drop 4 (take size (drop place bytes)))
                ∙ ap (λ l. l ++ drop 4 (take size (drop place bytes))) (take_front 4 size (drop place bytes) (omega (arith, some)) ∙ four ∙ ap (to_be_bytes w32) (sym count)),
          );
        }

-- Boxes are found

pub record AreBoxesBefore (bytes : List ℕ) (place : ℕ) : Type 0 where
  pub boxes : List (List ℕ)
  pub within : place ≤ length bytes
  pub whole : AllByRecursion IsBox boxes
  pub joined : take place bytes ≡ concat boxes

pub record AreBoxesFound (bytes : List ℕ) (place : ℕ) : Type 0 where
  pub before : AreBoxesBefore bytes place
  pub start : is_start bytes place ≡ true

concat_more : (boxes : List (List ℕ)) (box : List ℕ) → concat (boxes ++ box ∷ []) ≡ concat boxes ++ box
concat_more [] box = append-nil box
concat_more (first ∷ boxes) box = ap (λ l. first ++ l) (concat_more boxes box) ∙ sym (append_assoc first (concat boxes) box)

one_box_more : (bytes : List ℕ) (place : ℕ) → IsBytes bytes → is_start bytes place ≡ false → IsBoxFine bytes place → AreBoxesBefore bytes place → AreBoxesBefore bytes (place + word_at bytes place)
one_box_more bytes place small more f before =
    let box = take (word_at bytes place) (drop place bytes) in
    record {
      boxes = before.boxes ++ box ∷ [];
      within = f.whole;
      whole = all-append IsBox before.boxes (box ∷ []) before.whole (box_is bytes place small more f, tt);
      joined = take-add place (word_at bytes place) bytes ∙ ap (λ l. l ++ box) before.joined ∙ sym (concat_more before.boxes box);
    }

fewer_boxes : (n place size length : ℕ) → length < suc n + place → 8 ≤ size → length < n + (place + size)
fewer_boxes n place size length enough some = omega (arith, enough, some)

boxes_from_found : (n steps : ℕ) (bytes : List ℕ) (place end : ℕ) → IsBytes bytes → length bytes < n + place → length bytes < steps + place → AreBoxesBefore bytes place → boxes_from steps bytes place ≡ Ok end → AreBoxesFound bytes end
boxes_from_found zero steps bytes place end small most enough before e = absurd (omega (arith, most, before.within))
boxes_from_found (suc n) steps bytes place end small most enough before e =
    at_start (λ fewer next more few before same. boxes_from_found n fewer bytes next end small more few before same) (is_start bytes place) refl
  where
    Rest : Type 0
    Rest = (fewer next : ℕ) → length bytes < n + next → length bytes < fewer + next → AreBoxesBefore bytes next → boxes_from fewer bytes next ≡ Ok end → AreBoxesFound bytes end

    on : Rest → is_start bytes place ≡ false → (fault : Option HeadFault) → box_fault bytes place ≡ fault → AreBoxesFound bytes end
    on rest more (Some fault) f = absurd (ok_err end fault (sym e ∙ box_refused steps bytes place fault enough before.within more (sym f)))
    on rest more None f =
        let fine = box_fine bytes place f in
        let next = box_on steps bytes place enough before.within more (sym f) fine.some in
        rest next.fewer (place + word_at bytes place) (fewer_boxes n place (word_at bytes place) (length bytes) most fine.some) next.enough (one_box_more bytes place small more fine before) (sym next.same ∙ e)

    at_start : Rest → (test : Bool) → is_start bytes place ≡ test → AreBoxesFound bytes end
    at_start rest true start = subst (AreBoxesFound bytes) (ok_same place end (sym (box_end steps bytes place enough before.within start) ∙ e)) (record { before = before; start = start })
    at_start rest false more = on rest more (box_fault bytes place) refl

pub boxes_found : (bytes : List ℕ) (end : ℕ) → IsBytes bytes → boxes_from (suc (length bytes)) bytes 0 ≡ Ok end → AreBoxesFound bytes end
boxes_found bytes end small e =
    boxes_from_found (suc (length bytes)) (suc (length bytes)) bytes 0 end small (omega arith) (omega arith) (record { boxes = []; within = omega arith; whole = tt; joined = refl }) e

-- Boxes are not refused

box_here : (bytes front box rest : List ℕ) (place : ℕ) → bytes ≡ front ++ (box ++ rest) → length front ≡ place → IsBox box → (word_at bytes place ≡ length box) × IsBoxFine bytes place × (is_start bytes place ≡ false)
box_here bytes front box rest place joined at is =
    let after : drop place bytes ≡ to_be_bytes w32 (length box) ++ (is.begin.0 ++ rest) =
    ap (drop place) joined ∙ drop_at front (box ++ rest) place at ∙ ap (λ l. l ++ rest) is.begin.1 ∙ append_assoc (to_be_bytes w32 (length box)) is.begin.0 rest in
    let begins = begins_at bytes (is.begin.0 ++ rest) place (length box) is.size.1 after in
    let whole : place + length box ≤ length bytes = let size = ap length joined in let sum = length-append front (box ++ rest) in let more = length-append box rest in omega (arith, size, sum, more, at) in
    let some : 8 ≤ length box = is.size.0 in (
      begins.word,
      record {
        there = omega (arith, whole, some);
        some = subst (λ n. 8 ≤ n) (sym begins.word) some;
        whole = subst (λ n. place + n ≤ length bytes) (sym begins.word) whole;
      },
      ap (λ n. nat_le (place + 2) (length bytes) && nat_eq n soc_code) begins.half ∙ ap (λ t. nat_le (place + 2) (length bytes) && t) (ne_eqb (length box / 2 ^ 16) soc_code is.unlike) ∙ never (nat_le (place + 2) (length bytes)),
    )
  where
    never : (t : Bool) → (t && false) ≡ false
    never true = refl
    never false = refl

starts : (bytes front stream : List ℕ) (place : ℕ) → bytes ≡ front ++ stream → length front ≡ place → (rest : List ℕ) → stream ≡ 0xff ∷ 0x10 ∷ rest → is_start bytes place ≡ true
starts bytes front stream place joined at rest begin =
    let after : drop place bytes ≡ 0xff ∷ 0x10 ∷ rest = ap (drop place) joined ∙ drop_at front stream place at ∙ begin in
    let long = ap length after in
    and_from (nat_le (place + 2) (length bytes)) (nat_eq (half_word_at bytes place) soc_code) (le-leb (place + 2) (length bytes) (omega (arith, long, length-drop place bytes)))
    (eq-eqb (half_word_at bytes place) soc_code (ap (λ l. from_be_bytes w16 (take 2 l)) after))

pub boxes_on : (boxes : List (List ℕ)) (steps place : ℕ) (bytes front stream : List ℕ) → AllByRecursion IsBox boxes → bytes ≡ front ++ (concat boxes ++ stream) → length front ≡ place → (rest : List ℕ) → stream ≡ 0xff ∷ 0x10 ∷ rest
    → length bytes < steps + place → boxes_from steps bytes place ≡ Ok (place + length (concat boxes))
boxes_on [] steps place bytes front stream whole joined at rest begin enough =
    let within : place ≤ length bytes = let size = ap length joined in omega (arith, size, at, length-append front stream) in
    let none : place ≡ place + 0 = omega arith in
    box_end steps bytes place enough within (starts bytes front stream place joined at rest begin) ∙ ap Ok none
boxes_on (box ∷ boxes) steps place bytes front stream whole joined at rest begin enough =
    let cut : bytes ≡ front ++ (box ++ (concat boxes ++ stream)) = joined ∙ ap (λ l. front ++ l) (append_assoc box (concat boxes) stream) in
    let is = box_here bytes front box (concat boxes ++ stream) place cut at whole.0 in
    let within : place ≤ length bytes = let size = ap length cut in omega (arith, size, at, length-append front (box ++ (concat boxes ++ stream))) in
    let on = box_on steps bytes place enough within is.2 (sym (fine_box bytes place is.1)) is.1.some in
    let next : place + word_at bytes place ≡ place + length box = ap (λ n. place + n) is.0 in
    let at_on : length (front ++ box) ≡ place + length box = length-append front box ∙ ap (λ n. n + length box) at in
    let sum : place + length box + length (concat boxes) ≡ place + length (box ++ concat boxes) = let all = length-append box (concat boxes) in omega (arith, all) in
    let more = boxes_on boxes on.fewer (place + length box) bytes (front ++ box) stream whole.1 (cut ∙ sym (append_assoc front box (concat boxes ++ stream))) at_on rest begin (subst (λ n. length bytes < on.fewer + n) next on.enough) in
    on.same ∙ ap (boxes_from on.fewer bytes) next ∙ more ∙ ap Ok sum
