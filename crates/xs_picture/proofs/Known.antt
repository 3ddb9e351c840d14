-- Bytes have no fault exactly where they begin with a codestream.
use Rattle.std.proofs.Common.{◌≡◌, ℕ, zero, suc, ◌+◌, ◌≤◌, List, [], ◌∷◌, ◌++◌, take, drop, length, refl, sym, ap, subst, ◌∙◌, arith, append_assoc, length-append, length-take-le, append-nil, inl, inr}
use Rattle.std.specs.Prelude.{◌⊎◌, Option, None, Some}
use Rattle.std.specs.List.{range_with_len}
use Rattle.std.specs.Option.{option_map}
use Rattle.std.proofs.lemmas.List.{take-append-drop, take_at, drop_at, drop-drop, length-drop}
use Rattle.xs_lists.specs.First.{first_some}
use Rattle.xs_lists.specs.Packing.{AreBytes}
use Rattle.xs_lists.specs.Spelling.{BeginsWith, SpellsEach}
use Rattle.xs_params.specs.declared.header.Header.{Header}
use Rattle.xs_params.specs.Accepted.{IsAccepted}
use Rattle.xs_params.specs.Geometry.{slice_count}
use Rattle.xs_params.specs.Markers.{eoc, slh}
use Rattle.xs_grammar.specs.Precinct.{Content}
use Rattle.xs_grammar.specs.Header.{IsHeader, IsHeaderFront}
use Rattle.xs_grammar.specs.Slice.{IsSlice}
use Rattle.xs_grammar.specs.Codestream.{IsCodestream, IsCodestreamFront}
use Rattle.xs_grammar.specs.Laws.{FollowsHeader}
use Rattle.xs_grammar.proofs.OneStream.{follows}
use Rattle.xs_markers.specs.Laws.{AreHeadersKnown}
use Rattle.xs_markers.proofs.UnitsKnown.{headers_known}
use Rattle.xs_markers.specs.Reading.{head_fault, header_at, header_end}
use Rattle.xs_reading.specs.Laws.{IsSliceKnown}
use Rattle.xs_reading.specs.Stream.{body_fault, end_place, slice_start, stream_fault_of_head}
use Rattle.xs_reading.proofs.Parts.{bytes-drop}
use Rattle.xs_reading.proofs.Streams.{stream_known}
use Rattle.xs_reading.proofs.Whole.{slices_known}
use Rattle.xs_picture.specs.Faults.{stream_end, stream_fault}
use Rattle.xs_picture.specs.OnePicture.{StreamsKnown}
use Rattle.xs_picture.proofs.SlicesRead.{start_more}

-- Two parts

two_none : {A : Type 0} (a b : Option A) → first_some (a ∷ b ∷ []) ≡ None → (a ≡ None) × (b ≡ None)
two_none None None e = (refl, refl)
two_none (Some x) b e = absurd (cc e)
two_none None (Some x) e = absurd (cc e)

none_two : {A : Type 0} (a b : Option A) → a ≡ None → b ≡ None → first_some (a ∷ b ∷ []) ≡ None
none_two a b p q = ap (λ x. first_some (x ∷ b ∷ [])) p ∙ ap (λ x. first_some (x ∷ [])) q

unmapped : {A B : Type 0} (f : A → B) (x : Option A) → option_map f x ≡ None → x ≡ None
unmapped f None e = refl
unmapped f (Some x) e = absurd (cc e)

-- Where the slices of a content end

slices_end_at : (h : Header) → IsAccepted h → (bytes : List ℕ) (place : ℕ) → AreBytes bytes → (content : Content) (first n : ℕ) (front rest : List ℕ) → first + n ≤ slice_count h
    → SpellsEach (IsSlice h content) (range_with_len first n) front → drop (slice_start h bytes place first) bytes ≡ front ++ rest
    → slice_start h bytes place (first + n) ≡ slice_start h bytes place first + length front
slices_end_at h accepted bytes place are content first zero front rest room p e =
    let same : first + 0 ≡ first = omega arith in ap (slice_start h bytes place) same ∙ omega (arith, ap length p)
slices_end_at h accepted bytes place are content first (suc n) front rest room p e =
    let start : ℕ → ℕ = slice_start h bytes place in
    let own : List ℕ = drop (start first) bytes in
    let whole : own ≡ p.0 ++ (p.1 ++ rest) = e ∙ ap (λ l. l ++ rest) p.2 ∙ append_assoc p.0 p.1 rest in
    let enough : length p.0 ≤ length own = omega (arith, ap length whole, length-append p.0 (p.1 ++ rest)) in
    let seam : take (length p.0) own ≡ p.0 = ap (take (length p.0)) whole ∙ take_at p.0 (p.1 ++ rest) (length p.0) refl in
    let known : IsSliceKnown h first own = slices_known h first own accepted (omega (arith, room)) (bytes-drop (start first) bytes are) in
    let one = known.no_fault content (length p.0) (enough, subst (IsSlice h content first) (sym seam) p.3) in
    let more : start (first + 1) ≡ start first + length p.0 = start_more h bytes place first ∙ ap (λ k. start first + k) one.1 in
    let cut : drop (start (first + 1)) bytes ≡ p.1 ++ rest =
    ap (λ k. drop k bytes) more ∙ sym (drop-drop (length p.0) (start first) bytes) ∙ ap (drop (length p.0)) whole ∙ drop_at p.0 (p.1 ++ rest) (length p.0) refl in
    let others = slices_end_at h accepted bytes place are content (first + 1) n p.1 rest (omega (arith, room)) p.4 cut in
    let next : first + suc n ≡ first + 1 + n = omega arith in
    ap start next ∙ omega (arith, others, more, ap length p.2, length-append p.0 p.1)

-- a codestream's header is one that the bytes begin with, and it ends where its header, its slices and the end marker do
record HasFront (h : Header) (bytes : List ℕ) (n : ℕ) : Type 0 where
  pub size : ℕ
  pub headed : IsHeaderFront h bytes size
  pub follows : FollowsHeader (drop size bytes)
  pub ends : n ≡ end_place h bytes size + 2

has_front : (h : Header) (content : Content) (bytes : List ℕ) (n : ℕ) → AreBytes bytes → IsCodestreamFront h content bytes n → HasFront h bytes n
has_front h content bytes n are front = record {
  size = size;
  headed = ((enough, subst (IsHeader h) (sym taken) s.headed), next after);
  follows = after;
  ends = omega (arith, total, ends);
}
  where
    s : IsCodestream h content (take n bytes)
    s = front.1

    size : ℕ
    size = length s.header

    rest : List ℕ
    rest = eoc ++ drop n bytes

    whole : bytes ≡ s.header ++ (s.slices ++ rest)
    whole = sym (take-append-drop n bytes) ∙ ap (λ l. l ++ drop n bytes) s.joined ∙ append_assoc s.header (s.slices ++ eoc) (drop n bytes) ∙ ap (λ l. s.header ++ l) (append_assoc s.slices eoc (drop n bytes))

    enough : size ≤ length bytes
    enough = omega (arith, ap length whole, length-append s.header (s.slices ++ rest))

    taken : take size bytes ≡ s.header
    taken = ap (take size) whole ∙ take_at s.header (s.slices ++ rest) size refl

    left : drop size bytes ≡ s.slices ++ rest
    left = ap (drop size) whole ∙ drop_at s.header (s.slices ++ rest) size refl

    after : FollowsHeader (drop size bytes)
    after = subst FollowsHeader (sym left) (follows h content (take n bytes) rest s)

    next : FollowsHeader (drop size bytes) → (size ≡ length bytes) ⊎ BeginsWith (drop size bytes) slh
    next (inl none) = inl (omega (arith, ap length none, length-drop size bytes, enough))
    next (inr some) = inr some

    ends : end_place h bytes size ≡ size + length s.slices
    ends =
        let all : 0 + slice_count h ≡ slice_count h = omega arith in
        ap (slice_start h bytes size) (sym all) ∙ slices_end_at h s.headed.accepted bytes size are content 0 (slice_count h) s.slices rest (omega arith) s.spelled left

    total : n ≡ size + (length s.slices + 2)
    total = omega (arith, length-take-le n bytes front.0, ap length s.joined, length-append s.header (s.slices ++ eoc), length-append s.slices eoc)

-- Codestreams

pub streams_known : StreamsKnown
streams_known bytes are = record { spelled = spelled; known = known }
  where
    head : AreHeadersKnown bytes
    head = headers_known bytes are

    h : Header
    h = header_at bytes

    place : ℕ
    place = header_end bytes

    spelled : stream_fault bytes ≡ None → (content : Content) × IsCodestreamFront h content bytes (stream_end bytes)
    spelled none =
        let both = two_none (option_map (stream_fault_of_head (length bytes)) (head_fault bytes)) (body_fault h bytes place) none in
        let headed = head.spelled (unmapped (stream_fault_of_head (length bytes)) (head_fault bytes) both.0) in
        let found = (stream_known h bytes place are headed.0.0 headed.0.1 (after headed.1)).0 both.1 in
        let front = has_front h found.0 bytes found.1 are found.2 in
        let same = (head.read h front.size front.headed).2 in
        let ends : found.1 ≡ stream_end bytes = front.ends ∙ ap (λ k. end_place h bytes k + 2) (sym same) in
        (found.0, subst (IsCodestreamFront h found.0 bytes) ends found.2)
      where
        after : (place ≡ length bytes) ⊎ BeginsWith (drop place bytes) slh → FollowsHeader (drop place bytes)
        after (inl e) = inl (ap (drop place) (sym (append-nil bytes)) ∙ drop_at bytes [] place (sym e))
        after (inr begun) = inr begun

    known : (g : Header) (content : Content) (n : ℕ) → IsCodestreamFront g content bytes n → (stream_fault bytes ≡ None) × (g ≡ h) × (n ≡ stream_end bytes)
    known g content n front =
        let found = has_front g content bytes n are front in
        let one = head.read g found.size found.headed in
        let body : body_fault g bytes found.size ≡ None = (stream_known g bytes found.size are found.headed.0.0 found.headed.0.1 found.follows).1 (content, n, front) in (
          none_two (option_map (stream_fault_of_head (length bytes)) (head_fault bytes)) (body_fault h bytes place) (ap (option_map (stream_fault_of_head (length bytes))) one.0)
              (ap (λ x. body_fault x bytes place) one.1 ∙ ap (body_fault g bytes) one.2 ∙ body),
          sym one.1,
          found.ends ∙ ap (λ x. end_place x bytes found.size + 2) (sym one.1) ∙ ap (λ k. end_place h bytes k + 2) (sym one.2),
        )
