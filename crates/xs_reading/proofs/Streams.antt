-- A codestream has no fault after its header exactly where a content fits.
use Rattle.std.proofs.Common.{◌≡◌, ℕ, zero, suc, ◌+◌, ◌-◌, ◌/◌, ◌≤◌, List, [], ◌∷◌, ◌++◌, map, length, take, drop, refl, sym, ap, subst, ◌∙◌, arith, append_assoc, length-append, inl, inr}
use Rattle.std.specs.Prelude.{◌⊎◌, Bool, true, false, not, ◌||◌, nat_eq, nat_lt, Option, None, Some}
use Rattle.std.specs.List.{AllByRecursion, range_with_len}
use Rattle.std.specs.Option.{option_map}
use Rattle.std.proofs.Math.Seq.{take-add}
use Rattle.std.proofs.lemmas.Bool.{le-ltb, ltb-false, eqb-true, eq-eqb}
use Rattle.std.proofs.lemmas.List.{take_at, drop_at, take-append-drop, length-take-le}
use Rattle.xs_lists.specs.First.{when, first_some}
use Rattle.xs_lists.specs.Packing.{AreBytes}
use Rattle.xs_lists.specs.Spelling.{upto, SpellsEach}
use Rattle.xs_lists.proofs.Cut.{all-each}
use Rattle.xs_lists.proofs.Each.{range-more}
use Rattle.xs_params.specs.declared.header.Header.{Header}
use Rattle.xs_faults.specs.declared.StreamFault.TheVariants as fault
use Rattle.xs_params.specs.Geometry.{slice_count}
use Rattle.xs_params.specs.Accepted.{IsAccepted}
use Rattle.xs_grammar.specs.Header.{IsHeader}
use Rattle.xs_grammar.specs.Laws.{FollowsHeader}
use Rattle.xs_grammar.specs.Precinct.{Content, precinct_of}
use Rattle.xs_params.specs.Markers.{eoc}
use Rattle.xs_grammar.specs.Slice.{IsSlice}
use Rattle.xs_grammar.specs.Codestream.{IsCodestream, IsCodestreamFront}
use Rattle.xs_grammar.proofs.Local.{slice_is_local}
use Rattle.xs_grammar.proofs.OneHeader.{one_header}
use Rattle.xs_grammar.proofs.OneStream.{follows}
use Rattle.xs_reading.specs.Slice.{is_same, slice_content, slice_end, slice_fault as fault_of_slice}
use Rattle.xs_reading.specs.Stream.{stream_fault_of_slice, slices_end, slice_start, end_place, slices_fault, body_fault}
use Rattle.xs_reading.specs.Laws.{StreamKnown}
use Rattle.xs_reading.proofs.Parts.{none_first, none_when, none_map, not-false, bytes-drop, length-drop}
use Rattle.xs_reading.proofs.Slices.{all_same, slice_spelled}
use Rattle.xs_reading.proofs.Whole.{same_lists, slice_known}
use Rattle.xs_spelling.proofs.Redata.{drop-drop}

-- Where slices begin

ends-append : (h : Header) (xs : List ℕ) (x : ℕ) (bytes : List ℕ) (place : ℕ) → slices_end h (xs ++ x ∷ []) bytes place ≡ slices_end h xs bytes place + slice_end h x (drop (slices_end h xs bytes place) bytes)
ends-append h [] x bytes place = refl
ends-append h (y ∷ ys) x bytes place = ends-append h ys x bytes (place + slice_end h y (drop place bytes))

start-more : (h : Header) (bytes : List ℕ) (place slice : ℕ) → slice_start h bytes place (slice + 1) ≡ slice_start h bytes place slice + slice_end h slice (drop (slice_start h bytes place slice) bytes)
start-more h bytes place slice =
    let here : 0 + slice ≡ slice = omega arith in
    ap (λ xs. slices_end h xs bytes place) (range-more 0 slice ∙ ap (λ k. upto slice ++ k ∷ []) here) ∙ ends-append h (upto slice) slice bytes place

none_all : {A : Type 0} (f : ℕ → Option A) (xs : List ℕ) → first_some (map f xs) ≡ None → AllByRecursion (λ x. f x ≡ None) xs
none_all f [] e = tt
none_all f (x ∷ xs) e = let both = none_first (f x) (map f xs) e in (both.0, none_all f xs both.1)

all_none : {A : Type 0} (f : ℕ → Option A) (xs : List ℕ) → AllByRecursion (λ x. f x ≡ None) xs → first_some (map f xs) ≡ None
all_none f [] h = refl
all_none f (x ∷ xs) h = ap (λ o. first_some (o ∷ map f xs)) h.0 ∙ all_none f xs h.1

-- The content of all slices

content_at : Header → List ℕ → ℕ → ℕ → Content
content_at h bytes place slice = slice_content h slice (drop (slice_start h bytes place slice) bytes)

content_of : Header → List ℕ → ℕ → Content
content_of h bytes place = record {
  q = λ precinct. (content_at h bytes place (precinct / h.hsl)).q precinct;
  r = λ precinct. (content_at h bytes place (precinct / h.hsl)).r precinct;
  count = λ band line. (content_at h bytes place (precinct_of h band line / h.hsl)).count band line;
  value = λ band line. (content_at h bytes place (precinct_of h band line / h.hsl)).value band line;
}

record AreSlices (h : Header) (bytes : List ℕ) (place first n : ℕ) : Type 0 where
  pub order : slice_start h bytes place first ≤ slice_start h bytes place (first + n)
  pub within : slice_start h bytes place (first + n) ≤ length bytes
  pub spelled : SpellsEach (IsSlice h (content_of h bytes place)) (range_with_len first n) (take (slice_start h bytes place (first + n) - slice_start h bytes place first) (drop (slice_start h bytes place first) bytes))

slices_spelled : (h : Header) → IsAccepted h → (bytes : List ℕ) (place : ℕ) → AreBytes bytes → (first n : ℕ) → first + n ≤ slice_count h → slice_start h bytes place first ≤ length bytes
    → AllByRecursion (λ slice. fault_of_slice h slice (drop (slice_start h bytes place slice) bytes) ≡ None) (range_with_len first n) → AreSlices h bytes place first n
unfolding content_of content_at
slices_spelled h accepted bytes place are first zero most room none =
    let same : first + 0 ≡ first = omega arith in
    let start = slice_start h bytes place in
    record {
      order = subst (λ k. start first ≤ start k) (sym same) (omega arith);
      within = subst (λ k. start k ≤ length bytes) (sym same) room;
      spelled = let empty : start first - start first ≡ 0 = omega arith in ap (λ k. take (start k - start first) (drop (start first) bytes)) same ∙ ap (λ k. take k (drop (start first) bytes)) empty;
    }
slices_spelled h accepted bytes place are first (suc n) most room none =
    let start : ℕ → ℕ = slice_start h bytes place in
    let own : List ℕ = drop (start first) bytes in
    let one = slice_spelled h first own accepted (omega (arith, most)) (bytes-drop (start first) bytes are) none.0 in
    let more : start (first + 1) ≡ start first + slice_end h first own = start-more h bytes place first in
    let next : first + 1 + n ≡ first + suc n = omega arith in
    let rest = slices_spelled h accepted bytes place are (first + 1) n (omega (arith, most)) (omega (arith, more, one.0, room, length-drop (start first) bytes)) none.1 in
    let order : start (first + 1) ≤ start (first + suc n) = subst (λ k. start (first + 1) ≤ start k) next rest.order in
    let size : start (first + suc n) - start first ≡ slice_end h first own + (start (first + suc n) - start (first + 1)) = omega (arith, more, order) in
    record {
      order = omega (arith, more, order);
      within = subst (λ k. start k ≤ length bytes) next rest.within;
      spelled = (
        take (slice_end h first own) own,
        take (start (first + suc n) - start (first + 1)) (drop (start (first + 1)) bytes),
        ap (λ k. take k own) size ∙ take-add (slice_end h first own) (start (first + suc n) - start (first + 1)) own
            ∙ ap (λ l. take (slice_end h first own) own ++ take (start (first + suc n) - start (first + 1)) l) (sym (drop-drop (start first) (slice_end h first own) bytes) ∙ ap (λ k. drop k bytes) (sym more)),
        slice_is_local h (content_at h bytes place first) (content_of h bytes place) first (take (slice_end h first own) own) accepted.geometry.hsl (omega (arith, accepted.geometry.nly))
            (record {
              q = λ precinct e. ap (λ s. (content_at h bytes place s).q precinct) (sym e);
              r = λ precinct e. ap (λ s. (content_at h bytes place s).r precinct) (sym e);
              count = λ band line e. ap (λ s. (content_at h bytes place s).count band line) (sym e);
              value = λ band line e. ap (λ s. (content_at h bytes place s).value band line) (sym e);
            }) one.1,
        subst (λ k. SpellsEach (IsSlice h (content_of h bytes place)) (range_with_len (first + 1) n) (take (start k - start (first + 1)) (drop (start (first + 1)) bytes))) next rest.spelled,
      );
    }

-- Slices of a content

record AreSlicesKnown (h : Header) (bytes : List ℕ) (place first n : ℕ) (front : List ℕ) : Type 0 where
  pub no_fault : AllByRecursion (λ slice. fault_of_slice h slice (drop (slice_start h bytes place slice) bytes) ≡ None) (range_with_len first n)
  pub ends : slice_start h bytes place (first + n) ≡ slice_start h bytes place first + length front

slices_known : (h : Header) → IsAccepted h → (bytes : List ℕ) (place : ℕ) → AreBytes bytes → (content : Content) (first n : ℕ) (front rest : List ℕ) → SpellsEach (IsSlice h content) (range_with_len first n) front
    → drop (slice_start h bytes place first) bytes ≡ front ++ rest → AreSlicesKnown h bytes place first n front
slices_known h accepted bytes place are content first zero front rest p e =
    let same : first + 0 ≡ first = omega arith in
    record { no_fault = tt; ends = ap (slice_start h bytes place) same ∙ omega (arith, ap length p) }
slices_known h accepted bytes place are content first (suc n) front rest p e =
    let start : ℕ → ℕ = slice_start h bytes place in
    let own : List ℕ = drop (start first) bytes in
    let whole : own ≡ p.0 ++ (p.1 ++ rest) = e ∙ ap (λ l. l ++ rest) p.2 ∙ append_assoc p.0 p.1 rest in
    let room : length p.0 ≤ length own = omega (arith, ap length whole, length-append p.0 (p.1 ++ rest)) in
    let seam : take (length p.0) own ≡ p.0 = ap (take (length p.0)) whole ∙ take_at p.0 (p.1 ++ rest) (length p.0) refl in
    let one = slice_known h first own accepted (bytes-drop (start first) bytes are) content (length p.0) (room, subst (IsSlice h content first) (sym seam) p.3) in
    let more : start (first + 1) ≡ start first + length p.0 = start-more h bytes place first ∙ ap (λ k. start first + k) one.1 in
    let cut : drop (start (first + 1)) bytes ≡ p.1 ++ rest = ap (λ k. drop k bytes) more ∙ drop-drop (start first) (length p.0) bytes ∙ ap (drop (length p.0)) whole ∙ drop_at p.0 (p.1 ++ rest) (length p.0) refl in
    let others = slices_known h accepted bytes place are content (first + 1) n p.1 rest p.4 cut in
    let next : first + suc n ≡ first + 1 + n = omega arith in
    record {
      no_fault = (one.0, others.no_fault);
      ends = ap start next ∙ omega (arith, others.ends, more, ap length p.2, length-append p.0 p.1);
    }

-- Codestreams

four_none : {A : Type 0} (a b c d : Option A) → first_some (a ∷ b ∷ c ∷ d ∷ []) ≡ None → (a ≡ None) × (b ≡ None) × (c ≡ None) × (d ≡ None)
four_none None None None None e = (refl, refl, refl, refl)
four_none (Some x) b c d e = absurd (cc e)
four_none None (Some x) c d e = absurd (cc e)
four_none None None (Some x) d e = absurd (cc e)
four_none None None None (Some x) e = absurd (cc e)

four_back : {A : Type 0} (a b c d : Option A) → a ≡ None → b ≡ None → c ≡ None → d ≡ None → first_some (a ∷ b ∷ c ∷ d ∷ []) ≡ None
four_back a b c d p q r s = ap (λ x. first_some (x ∷ b ∷ c ∷ d ∷ [])) p ∙ ap (λ x. first_some (x ∷ c ∷ d ∷ [])) q ∙ ap (λ x. first_some (x ∷ d ∷ [])) r ∙ ap (λ x. first_some (x ∷ [])) s

either : (a b : ℕ) → (nat_eq a 0 || nat_eq a b) ≡ true → (a ≡ 0) ⊎ (a ≡ b)
either a b e = cases (nat_eq a 0) refl e
  where
    cases : (t : Bool) → nat_eq a 0 ≡ t → (t || nat_eq a b) ≡ true → (a ≡ 0) ⊎ (a ≡ b)
    cases true z e = inl (eqb-true a 0 z)
    cases false z e = inr (eqb-true a b e)

of_either : (a b : ℕ) → (a ≡ 0) ⊎ (a ≡ b) → (nat_eq a 0 || nat_eq a b) ≡ true
of_either a b (inl z) = ap (λ t. t || nat_eq a b) (eq-eqb a 0 z)
of_either a b (inr e) = or-true (nat_eq a 0) (nat_eq a b) (eq-eqb a b e)
  where
    or-true : (s t : Bool) → t ≡ true → (s || t) ≡ true
    or-true true t e = refl
    or-true false t e = e

stream_of : (h : Header) (bytes : List ℕ) (place : ℕ) → AreBytes bytes → place ≤ length bytes → IsHeader h (take place bytes) → body_fault h bytes place ≡ None
    → (content : Content) × (n : ℕ) × IsCodestreamFront h content bytes n
stream_of h bytes place are room headed none = (
  content_of h bytes place,
  end + 2,
  (
    two,
    record {
      header = take place bytes;
      slices = slices;
      joined = take-add end 2 bytes ∙ ap (λ l. l ++ take 2 (drop end bytes)) (ap (λ k. take k bytes) size ∙ take-add place (end - place) bytes) ∙ append_assoc (take place bytes) slices (take 2 (drop end bytes)) ∙ ap (λ l. take place bytes ++ (slices ++ l)) marker;
      headed = headed;
      spelled = subst (λ k. SpellsEach (IsSlice h (content_of h bytes place)) (upto (slice_count h)) (take (slice_start h bytes place k - place) (drop place bytes))) counted found.spelled;
      stated = stated (either h.lcod (end + 2) (not-false (nat_eq h.lcod 0 || nat_eq h.lcod (end + 2)) (none_when (not (nat_eq h.lcod 0 || nat_eq h.lcod (end + 2))) (fault.Lcod h.lcod (end + 2)) all.3)));
    },
  ),
)
  where
    end : ℕ
    end = end_place h bytes place

    counted : 0 + slice_count h ≡ slice_count h
    counted = omega arith

    all : (slices_fault h bytes place ≡ None) × (when (nat_lt (length bytes) (end_place h bytes place + 2)) (fault.Cut (length bytes)) ≡ None)
        × (when (not (is_same (take 2 (drop (end_place h bytes place) bytes)) eoc)) (fault.End (end_place h bytes place)) ≡ None)
        × (when (not (nat_eq h.lcod 0 || nat_eq h.lcod (end_place h bytes place + 2))) (fault.Lcod h.lcod (end_place h bytes place + 2)) ≡ None)
    all = four_none (slices_fault h bytes place) (when (nat_lt (length bytes) (end_place h bytes place + 2)) (fault.Cut (length bytes)))
        (when (not (is_same (take 2 (drop (end_place h bytes place) bytes)) eoc)) (fault.End (end_place h bytes place)))
        (when (not (nat_eq h.lcod 0 || nat_eq h.lcod (end_place h bytes place + 2))) (fault.Lcod h.lcod (end_place h bytes place + 2))) none

    found : AreSlices h bytes place 0 (slice_count h)
    found = slices_spelled h headed.accepted bytes place are 0 (slice_count h) (omega arith) room
        (all-each (λ slice. option_map (stream_fault_of_slice (length bytes) slice) (fault_of_slice h slice (drop (slice_start h bytes place slice) bytes)) ≡ None) (λ slice. fault_of_slice h slice (drop (slice_start h bytes place slice) bytes) ≡ None) (upto (slice_count h))
        (λ slice e. none_map (stream_fault_of_slice (length bytes) slice) (fault_of_slice h slice (drop (slice_start h bytes place slice) bytes)) e)
        (none_all (λ slice. option_map (stream_fault_of_slice (length bytes) slice) (fault_of_slice h slice (drop (slice_start h bytes place slice) bytes))) (upto (slice_count h)) all.0))

    slices : List ℕ
    slices = take (end_place h bytes place - place) (drop place bytes)

    two : end_place h bytes place + 2 ≤ length bytes
    two = ltb-false (length bytes) (end_place h bytes place + 2) (none_when (nat_lt (length bytes) (end_place h bytes place + 2)) (fault.Cut (length bytes)) all.1)

    size : end_place h bytes place ≡ place + (end_place h bytes place - place)
    size = let order : place ≤ end_place h bytes place = subst (λ k. place ≤ slice_start h bytes place k) counted found.order in omega (arith, order)

    marker : take 2 (drop (end_place h bytes place) bytes) ≡ eoc
    marker = all_same (take 2 (drop (end_place h bytes place) bytes)) eoc (not-false (is_same (take 2 (drop (end_place h bytes place) bytes)) eoc) (none_when (not (is_same (take 2 (drop (end_place h bytes place) bytes)) eoc)) (fault.End (end_place h bytes place)) all.2))

    stated : (h.lcod ≡ 0) ⊎ (h.lcod ≡ end_place h bytes place + 2) → (h.lcod ≡ 0) ⊎ (h.lcod ≡ length (take (end_place h bytes place + 2) bytes))
    stated (inl z) = inl z
    stated (inr e) = inr (e ∙ sym (length-take-le (end_place h bytes place + 2) bytes two))

of_stream : (h : Header) (bytes : List ℕ) (place : ℕ) → AreBytes bytes → place ≤ length bytes → IsHeader h (take place bytes) → FollowsHeader (drop place bytes) → (content : Content) (n : ℕ) → n ≤ length bytes → IsCodestream h content (take n bytes)
    → body_fault h bytes place ≡ None
of_stream h bytes place are room headed after content n within c =
    four_back (slices_fault h bytes place) (when (nat_lt (length bytes) (end_place h bytes place + 2)) (fault.Cut (length bytes)))
    (when (not (is_same (take 2 (drop (end_place h bytes place) bytes)) eoc)) (fault.End (end_place h bytes place)))
    (when (not (nat_eq h.lcod 0 || nat_eq h.lcod (end_place h bytes place + 2))) (fault.Lcod h.lcod (end_place h bytes place + 2)))
    (all_none (λ slice. option_map (stream_fault_of_slice (length bytes) slice) (fault_of_slice h slice (drop (slice_start h bytes place slice) bytes))) (upto (slice_count h))
    (all-each (λ slice. fault_of_slice h slice (drop (slice_start h bytes place slice) bytes) ≡ None) (λ slice. option_map (stream_fault_of_slice (length bytes) slice) (fault_of_slice h slice (drop (slice_start h bytes place slice) bytes)) ≡ None) (upto (slice_count h))
    (λ slice e. ap (option_map (stream_fault_of_slice (length bytes) slice)) e) known.no_fault))
    (ap (λ t. when t (fault.Cut (length bytes))) (le-ltb (length bytes) (end_place h bytes place + 2) (omega (arith, ends, lengths, room, length-drop place bytes))))
    (ap (λ t. when (not t) (fault.End (end_place h bytes place))) (same_lists (take 2 (drop (end_place h bytes place) bytes)) eoc (ap (take 2) left ∙ take_at eoc (drop n bytes) 2 refl)))
    (ap (λ t. when (not t) (fault.Lcod h.lcod (end_place h bytes place + 2))) (of_either h.lcod (end_place h bytes place + 2) (stated c.stated)))
  where
    whole : c.header ++ (c.slices ++ (eoc ++ drop n bytes)) ≡ take place bytes ++ drop place bytes
    whole = ap (λ l. c.header ++ l) (sym (append_assoc c.slices eoc (drop n bytes))) ∙ sym (append_assoc c.header (c.slices ++ eoc) (drop n bytes)) ∙ ap (λ l. l ++ drop n bytes) (sym c.joined)
        ∙ take-append-drop n bytes ∙ sym (take-append-drop place bytes)

    body : c.slices ++ (eoc ++ drop n bytes) ≡ drop place bytes
    body = (one_header h h c.header (take place bytes) (c.slices ++ (eoc ++ drop n bytes)) (drop place bytes) c.headed headed (follows h content (take n bytes) (eoc ++ drop n bytes) c) after whole).0

    known : AreSlicesKnown h bytes place 0 (slice_count h) c.slices
    known = slices_known h headed.accepted bytes place are content 0 (slice_count h) c.slices (eoc ++ drop n bytes) c.spelled (sym body)

    ends : end_place h bytes place ≡ place + length c.slices
    ends = let all : 0 + slice_count h ≡ slice_count h = omega arith in ap (slice_start h bytes place) (sym all) ∙ known.ends

    lengths : length (drop place bytes) ≡ length c.slices + (2 + length (drop n bytes))
    lengths = ap length (sym body) ∙ length-append c.slices (eoc ++ drop n bytes) ∙ omega (arith, length-append eoc (drop n bytes))

    left : drop (end_place h bytes place) bytes ≡ eoc ++ drop n bytes
    left = ap (λ k. drop k bytes) ends ∙ drop-drop place (length c.slices) bytes ∙ ap (drop (length c.slices)) (sym body) ∙ drop_at c.slices (eoc ++ drop n bytes) (length c.slices) refl

    long : end_place h bytes place + 2 ≡ length (take n bytes)
    long = omega (arith, ends, lengths, length-drop n bytes, length-drop place bytes, length-take-le n bytes within, within, room)

    stated : (h.lcod ≡ 0) ⊎ (h.lcod ≡ length (take n bytes)) → (h.lcod ≡ 0) ⊎ (h.lcod ≡ end_place h bytes place + 2)
    stated (inl z) = inl z
    stated (inr e) = inr (e ∙ sym long)

pub stream_known : StreamKnown
stream_known h bytes place are room headed after =
    (stream_of h bytes place are room headed, λ p. of_stream h bytes place are room headed after p.0 p.1 p.2.0 p.2.1)
