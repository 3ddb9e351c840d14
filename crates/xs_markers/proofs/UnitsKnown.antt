-- What is sent of a header is read.
use Rattle.std.specs.Prelude.{◌⊎◌}
use Rattle.std.proofs.Common.{◌≡◌, ℕ, zero, suc, ◌+◌, ◌^◌, ◌<◌, ◌≤◌, nat_lt, List, [], ◌∷◌, ◌++◌, length, take, drop, Option, None, Result, Ok, Err, refl, sym, ap, subst, ◌∙◌, arith, length-append, inl, inr}
use Rattle.std.specs.Result.{result_err, result_unwrap_or}
use Rattle.std.specs.List.{concat, flat_map}
use Rattle.std.proofs.lemmas.List.{take-append-drop, take_all, take_at, drop_at, get_or-drop}
use Rattle.std.proofs.lemmas.Bool.{ltb-false, le-ltb}
use Rattle.xs_lists.specs.First.{first_some, when}
use Rattle.xs_lists.specs.Packing.{AreBytes}
use Rattle.xs_lists.specs.Spelling.{BeginsWith}
use Rattle.xs_params.specs.Markers.{slh}
use Rattle.xs_lists.proofs.Walk.{all-append}
use Rattle.xs_params.specs.declared.header.Header.{Header}
use Rattle.xs_faults.specs.declared.HeadFault.{HeadFault}
use Rattle.xs_faults.specs.declared.HeadFault.TheVariants.{Marker}
use Rattle.xs_grammar.specs.Coded.{header_bytes}
use Rattle.xs_grammar.specs.Header.{IsHeader, IsHeaderFront, IsHeaderUnit, segment_bytes}
use Rattle.xs_grammar.specs.Laws.{FollowsHeader}
use Rattle.xs_grammar.proofs.CodedStream.{written_header}
use Rattle.xs_grammar.proofs.Sizes.{header_are}
use Rattle.xs_markers.specs.Laws.{HeadersKnown, HeaderUnitsKnown, HeaderReadAgain}
use Rattle.xs_markers.specs.Reading.{head_fault, header_at, header_end}
use Rattle.xs_markers.specs.Segments.{slh_code}
use Rattle.xs_markers.specs.Units.{boxes_from, boxes_fault, boxes_end, whole_header_fault, header_unit_fault, header_unit_at}
use Rattle.xs_markers.proofs.BoxesFound.{boxes_found, boxes_on}
use Rattle.xs_markers.proofs.Cut.{IsBytes}
use Rattle.xs_markers.proofs.Fine.{no_when}
use Rattle.xs_markers.proofs.HeaderRead.{header_spelled}
use Rattle.xs_markers.proofs.HeaderSeen.{header_known}
use Rattle.xs_markers.proofs.Refusals.{none_first, some_none, passed}

pub each_byte : (bytes : List ℕ) → AreBytes bytes → IsBytes bytes
each_byte [] h i = omega arith
each_byte (b ∷ bytes) h zero = h.0
each_byte (b ∷ bytes) h (suc i) = each_byte bytes h.1 i

pub headers_known : HeadersKnown
headers_known bytes are = record {
  spelled = header_spelled bytes (each_byte bytes are);
  read = λ h n front. header_known h bytes n (each_byte bytes are) front;
}

-- Boxes and a header

drop_small : (n : ℕ) (bytes : List ℕ) → IsBytes bytes → IsBytes (drop n bytes)
drop_small n bytes small i = subst (λ b. b < 256) (sym (get_or-drop n bytes i 0)) (small (n + i))

-- the header alone

whole_spelled : (bytes : List ℕ) → IsBytes bytes → whole_header_fault bytes ≡ None → IsHeader (header_at bytes) bytes × (header_end bytes ≡ length bytes)
whole_spelled bytes small e =
    let parts = none_first (head_fault bytes) _ e in
    let last = none_first (when (nat_lt (header_end bytes) (length bytes)) (Marker slh_code (header_end bytes))) [] parts.1 in
    let past : length bytes ≤ header_end bytes = ltb-false (header_end bytes) (length bytes) (no_when _ _ last.0) in
    let front = header_spelled bytes small parts.0 in
    (subst (IsHeader (header_at bytes)) (take_all (header_end bytes) bytes past) front.0.1, same (header_end bytes) (length bytes) front.0.0 past)
  where
    same : (end all : ℕ) → end ≤ all → all ≤ end → end ≡ all
    same end all a b = omega (arith, a, b)

whole_known : (h : Header) (bytes : List ℕ) → IsBytes bytes → IsHeader h bytes → (whole_header_fault bytes ≡ None) × (header_at bytes ≡ h) × (header_end bytes ≡ length bytes)
whole_known h bytes small is =
    let all : take (length bytes) bytes ≡ bytes = take_all (length bytes) bytes (omega arith) in
    let known = header_known h bytes (length bytes) small ((omega arith, subst (IsHeader h) (sym all) is), inl refl) in (
      passed (head_fault bytes) _ (sym known.0) ∙ ap (λ t. first_some (when t (Marker slh_code (header_end bytes)) ∷ [])) (le-ltb (header_end bytes) (length bytes) (subst (λ n. length bytes ≤ n) (sym known.2) (omega arith))),
      known.1,
      known.2,
    )

-- what begins with the start marker
begins : (h : Header) (stream : List ℕ) → IsHeader h stream → (rest : List ℕ) × (stream ≡ 0xff ∷ 0x10 ∷ rest)
begins h stream is = (flat_map segment_bytes is.segments, is.joined)

unit_spelled : (bytes : List ℕ) → IsBytes bytes → header_unit_fault bytes ≡ None → IsHeaderUnit (header_unit_at bytes).0 bytes (header_unit_at bytes).1
unit_spelled bytes small e = go (boxes_from (suc (length bytes)) bytes 0) refl e
  where
    go : (r : Result ℕ HeadFault) → boxes_from (suc (length bytes)) bytes 0 ≡ r → first_some (result_err r ∷ whole_header_fault (drop (result_unwrap_or r 0) bytes) ∷ []) ≡ None
        → IsHeaderUnit (header_at (drop (result_unwrap_or r 0) bytes)) bytes (header_end (drop (result_unwrap_or r 0) bytes))
    go (Err fault) same e = absurd (some_none fault e)
    go (Ok end) same e =
        let found = boxes_found bytes end small same in
        let stream = drop end bytes in
        let last = none_first (whole_header_fault stream) [] e in
        let is = whole_spelled stream (drop_small end bytes small) last.0 in
        (take end bytes, stream, record { boxes = found.before.boxes; whole = found.before.whole; joined = found.before.joined }, sym (take-append-drop end bytes), is.0, is.1)

unit_known : (h : Header) (bytes : List ℕ) (len : ℕ) → IsBytes bytes → IsHeaderUnit h bytes len → (header_unit_fault bytes ≡ None) × (header_unit_at bytes ≡ (h, len))
unit_known h bytes len small (boxes, stream, are, joined, is, size) =
    let begin = begins h stream is in
    let whole : bytes ≡ [] ++ (concat are.boxes ++ stream) = joined ∙ ap (λ l. l ++ stream) are.joined in
    let found : boxes_from (suc (length bytes)) bytes 0 ≡ Ok (length (concat are.boxes)) =
    boxes_on are.boxes (suc (length bytes)) 0 bytes [] stream are.whole whole refl begin.0 begin.1 (omega arith) ∙ ap Ok (sum (length (concat are.boxes))) in
    let end : boxes_end bytes ≡ length (concat are.boxes) = ap (λ r. result_unwrap_or r 0) found in
    let rest : drop (boxes_end bytes) bytes ≡ stream = ap (λ n. drop n bytes) end ∙ ap (drop (length (concat are.boxes))) whole ∙ drop_at (concat are.boxes) stream (length (concat are.boxes)) refl in
    let small_rest : IsBytes stream = subst IsBytes rest (drop_small (boxes_end bytes) bytes small) in
    let known = whole_known h stream small_rest is in
    let none : first_some (whole_header_fault (drop (boxes_end bytes) bytes) ∷ []) ≡ None = ap (λ s. first_some (whole_header_fault s ∷ [])) rest ∙ ap (λ o. first_some (o ∷ [])) known.0 in
    let read : header_unit_at bytes ≡ (header_at stream, header_end stream) = ap (λ s. (header_at s, header_end s)) rest in
    let same : ◌≡◌ {A = Header × ℕ} (header_at stream, header_end stream) (h, len) = both (header_at stream) h (header_end stream) len known.1 (known.2 ∙ sym size) in
    (past (boxes_fault bytes) (whole_header_fault (drop (boxes_end bytes) bytes)) (ap result_err found) none, read ∙ same)
  where
    sum : (n : ℕ) → 0 + n ≡ n
    sum n = omega arith

    past : (first second : Option HeadFault) → first ≡ None → first_some (second ∷ []) ≡ None → first_some (first ∷ second ∷ []) ≡ None
    past first second e f = passed first (second ∷ []) (sym e) ∙ f

    both : (a b : Header) (m n : ℕ) → a ≡ b → m ≡ n → ◌≡◌ {A = Header × ℕ} (a, m) (b, n)
    both a b m n p q = cc (p, q)

pub header_units_known : HeaderUnitsKnown
header_units_known bytes are = record {
  spelled = unit_spelled bytes (each_byte bytes are);
  read = λ h len is. unit_known h bytes len (each_byte bytes are) is;
}

-- What is written

after_written : (bytes written rest : List ℕ) → bytes ≡ written ++ rest → FollowsHeader rest → (length written ≡ length bytes) ⊎ BeginsWith (drop (length written) bytes) slh
after_written bytes written rest joined (inl none) =
    let size = ap length joined in
    let empty = ap length none in
    inl (omega (arith, size, empty, length-append written rest))
after_written bytes written rest joined (inr begin) = inr (begin.0, ap (drop (length written)) joined ∙ drop_at written rest (length written) refl ∙ begin.1)

pub header_read_again : HeaderReadAgain
header_read_again h rest p q are follows =
    let written = header_bytes h in
    let bytes = written ++ rest in
    let inside : length written ≤ length bytes = omega (arith, length-append written rest) in
    let front : take (length written) bytes ≡ written = take_at written rest (length written) refl in
    let spelled : IsHeaderFront h bytes (length written) = ((inside, subst (IsHeader h) (sym front) (written_header h p q)), after_written bytes written rest refl follows) in
    let known = header_known h bytes (length written) (each_byte bytes (all-append (λ byte. byte < 2 ^ 8) written rest (header_are h) are)) spelled in
    record { no_fault = known.0; header = known.1; ends = known.2; spelled = spelled }
