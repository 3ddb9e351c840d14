-- Where exactly the packets of a codestream arrive its picture is received.
use Rattle.std.proofs.Common.{◌≡◌, ℕ, zero, suc, ◌+◌, ◌<◌, ◌≤◌, List, [], ◌∷◌, ◌++◌, length, Bool, true, false, refl, sym, ap, subst, ◌∙◌, arith, length-append, inl, inr}
use mathlib.Core.Logic.{◌⊎◌}
use Rattle.std.specs.Prelude.{nat_eq, slice_index_or}
use Rattle.std.specs.Bool.{MatchBool}
use Rattle.std.specs.List.{concat, sum_by}
use Rattle.std.proofs.lemmas.Bool.{eqb-true, eqb-false}
use Rattle.std.proofs.lemmas.List.Concat.{concat_is, length-flat_map}
use Rattle.std.proofs.lemmas.List.Sums.{sum_by-cons}
use Rattle.xs_params.specs.declared.header.Header.{Header}
use Rattle.xs_params.specs.Geometry.{slice_count}
use Rattle.xs_params.specs.Markers.{eoc}
use Rattle.xs_params.specs.Stream.{Stream, stream_bytes}
use Rattle.xs_grammar.specs.Precinct.{Content}
use Rattle.xs_grammar.specs.Slice.{IsSlice, IsSliceUnit}
use Rattle.xs_capture.specs.Offers.{offers_of}
use Rattle.xs_capture.specs.Selection.{HasBytes}
use Rattle.xs_pack.specs.Datagrams.{ended, unit_at, units_of}
use Rattle.xs_pack.proofs.Arrived.{offers_are_sent}
use Rattle.xs_pack.proofs.Units.{units_come_back}
use Rattle.xs_recv.specs.Received.{AreUnits, stream_size}
use Rattle.xs_recv.specs.Laws.{SentIsReceived}

-- The slices, the last with the end marker

length-ended : (xs : List (List ℕ)) → length (ended xs) ≡ length xs
length-ended [] = refl
length-ended (x ∷ []) = refl
length-ended (x ∷ y ∷ xs) = let rest : length (ended (y ∷ xs)) ≡ length (y ∷ xs) = length-ended (y ∷ xs) in ap suc rest

ended_last : (xs : List (List ℕ)) (k : ℕ) → k + 1 ≡ length xs → slice_index_or (ended xs) k [] ≡ slice_index_or xs k [] ++ eoc
ended_last [] k e = absurd (omega (arith, e))
ended_last (x ∷ []) zero e = refl
ended_last (x ∷ []) (suc k) e = absurd (omega (arith, e))
ended_last (x ∷ y ∷ xs) zero e = absurd (omega (arith, e))
ended_last (x ∷ y ∷ xs) (suc k) e = ended_last (y ∷ xs) k (omega (arith, e))

ended_other : (xs : List (List ℕ)) (k : ℕ) → k + 1 < length xs → slice_index_or (ended xs) k [] ≡ slice_index_or xs k []
ended_other [] k e = absurd (omega (arith, e))
ended_other (x ∷ []) k e = absurd (omega (arith, e))
ended_other (x ∷ y ∷ xs) zero e = refl
ended_other (x ∷ y ∷ xs) (suc k) e = ended_other (y ∷ xs) k (omega (arith, e))

sum-ended : (xs : List (List ℕ)) → 1 ≤ length xs → sum_by length (ended xs) ≡ sum_by length xs + 2
sum-ended [] some = absurd (omega (arith, some))
sum-ended (x ∷ []) some =
    let marked : length (x ++ eoc) ≡ length x + 2 = length-append x eoc in
    omega (arith, sum_by-cons length (x ++ eoc) [], sum_by-cons length x [], marked)
sum-ended (x ∷ y ∷ xs) some =
    let rest = sum-ended (y ∷ xs) (omega arith) in
    omega (arith, sum_by-cons length x (ended (y ∷ xs)), sum_by-cons length x (y ∷ xs), rest)

length-joined : (xs : List (List ℕ)) → length (concat xs) ≡ sum_by length xs
length-joined xs = ap length (concat_is xs) ∙ length-flat_map (λ l. l) xs

-- the length of a codestream
length-stream : (stream : Stream) → 1 ≤ length stream.slices → length (stream_bytes stream) ≡ stream_size (length stream.header) (ended stream.slices)
length-stream stream some =
    let whole : length (stream_bytes stream) ≡ length (stream.header ++ concat stream.slices) + 2 = length-append (stream.header ++ concat stream.slices) eoc in
    omega (arith, whole, length-append stream.header (concat stream.slices), length-joined stream.slices, sum-ended stream.slices some)

-- a slice as it is sent is a slice unit
unit_of_slice : (h : Header) (content : Content) (slices : List (List ℕ)) (slice : ℕ) → length slices ≡ slice_count h → slice < slice_count h → IsSlice h content slice (slice_index_or slices slice [])
    → IsSliceUnit h content slice (slice_index_or (ended slices) slice [])
unit_of_slice h content slices slice count there spelled = go (nat_eq (slice + 1) (slice_count h)) refl
  where
    below : (a b : ℕ) → a ≤ b → (a ≡ b → ⊥) → a < b
    below a b less unlike = omega (arith, less, unlike)

    go : (b : Bool) → nat_eq (slice + 1) (slice_count h) ≡ b
        → MatchBool b ((front : List ℕ) × (slice_index_or (ended slices) slice [] ≡ front ++ eoc) × IsSlice h content slice front) (IsSlice h content slice (slice_index_or (ended slices) slice []))
    go true e =
        let last : slice + 1 ≡ length slices = eqb-true (slice + 1) (slice_count h) e ∙ sym count in
        (slice_index_or slices slice [], ended_last slices slice last, spelled)
    go false e =
        let other : slice + 1 < length slices = below (slice + 1) (length slices) (omega (arith, there, count)) (λ same. eqb-false (slice + 1) (slice_count h) e (same ∙ count)) in
        subst (IsSlice h content slice) (sym (ended_other slices slice other)) spelled

pub sent_is_received : SentIsReceived
sent_is_received s h content stream picture number sequence arrived held is_stream sendable same selection decoded = (
  h,
  length stream.header,
  record { bytes = s.boxes ++ stream.header; whole = first; spelled = (s.boxes, stream.header, is_stream.boxed, refl, is_stream.headed, refl) },
  ended stream.slices,
  whole,
  content,
  (λ slice there. unit_of_slice h content stream.slices slice is_stream.count there (is_stream.each slice there)),
  stated_so is_stream.stated,
  decoded,
)
  where
    units : List (List ℕ)
    units = units_of s.boxes stream

    back : (unit : ℕ) → unit < length (units_of s.boxes stream) → HasBytes held unit (unit_at (units_of s.boxes stream) unit)
    back = units_come_back s (units_of s.boxes stream) number (offers_of arrived) held sendable (offers_are_sent s (units_of s.boxes stream) arrived number sequence sendable same) selection

    count : length (ended stream.slices) ≡ slice_count h
    count = length-ended stream.slices ∙ is_stream.count

    first : HasBytes held 0 (s.boxes ++ stream.header)
    first = back 0 (omega arith)

    at_unit : (slice : ℕ) → HasBytes held (suc slice) (slice_index_or (ended stream.slices) slice []) → HasBytes held (slice + 1) (slice_index_or (ended stream.slices) slice [])
    at_unit slice p = let e : suc slice ≡ slice + 1 = omega arith in subst (λ u. HasBytes held u (slice_index_or (ended stream.slices) slice [])) e p

    whole : AreUnits held h (ended stream.slices)
    whole = record {
      count = count;
      each = λ slice there. at_unit slice (back (suc slice) (omega (arith, there, count)));
    }

    some : 1 ≤ length stream.slices
    some = let size = is_stream.count in let least = is_stream.some in omega (arith, size, least)

    stated_so : (h.lcod ≡ 0) ⊎ (h.lcod ≡ length (stream_bytes stream)) → (h.lcod ≡ 0) ⊎ (h.lcod ≡ stream_size (length stream.header) (ended stream.slices))
    stated_so (inl none) = inl none
    stated_so (inr right) = inr (right ∙ length-stream stream some)
