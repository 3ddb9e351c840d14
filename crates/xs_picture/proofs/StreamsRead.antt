-- Codestreams: what was read is one, and the first fault of one that is refused.
use Rattle.std.proofs.Common.{◌≡◌, ◌≢◌, ℕ, suc, ◌+◌, ◌-◌, ◌<◌, ◌≤◌, List, [], ◌∷◌, ◌++◌, map, take, drop, length, refl, sym, ap, subst, ◌∙◌, arith, append_assoc, length-append, length-take-le, inl, inr}
use Rattle.std.specs.Prelude.{◌⊎◌, Bool, true, false, not, ◌||◌, nat_eq, nat_lt, Option, None, Some}
use Rattle.std.specs.List.{AllByRecursion, range_with_len}
use Rattle.std.specs.Option.{option_map}
use Rattle.std.proofs.lemmas.Bool.{eq-eqb, ne_eqb}
use Rattle.std.proofs.lemmas.List.{take-append-drop}
use Rattle.xs_lists.specs.First.{when, first_some}
use Rattle.xs_lists.specs.Spelling.{upto}
use Rattle.xs_lists.proofs.Cut.{append_cut}
use Rattle.xs_lists.proofs.Ranges.{range_cut}
use Rattle.xs_params.specs.declared.header.Header.{Header}
use Rattle.xs_params.specs.Picture.{Picture}
use Rattle.xs_params.specs.Geometry.{slice_count}
use Rattle.xs_params.specs.Markers.{eoc}
use Rattle.xs_faults.specs.declared.HeadFault.{HeadFault}
use Rattle.xs_faults.specs.declared.SliceFault.{SliceFault}
use Rattle.xs_faults.specs.declared.StreamFault.{StreamFault}
use Rattle.xs_faults.specs.declared.StreamFault.TheVariants as fault
use Rattle.xs_geometry.specs.SliceLines.{BandLines}
use Rattle.xs_grammar.specs.Codestream.{IsCodestream, IsCodestreamFront}
use Rattle.xs_markers.specs.Reading.{head_fault, header_at, header_end}
use Rattle.xs_markers.specs.Read.{IsHeaderRead}
use Rattle.xs_reading.specs.Rows.{dequantised_rows}
use Rattle.xs_reading.specs.Slice.{is_same, slice_fault}
use Rattle.xs_reading.specs.Stream.{body_fault, end_place, slice_start, slices_fault, stream_fault_of_head, stream_fault_of_slice}
use Rattle.xs_decoding.specs.Decoded.{IsDecodingOf, IsPictureOf}
use Rattle.xs_decoding.proofs.Within.{decoded_within}
use Rattle.xs_picture.specs.Coefs.{Coefs, rows_of_slices}
use Rattle.xs_picture.specs.Faults.{stream_fault}
use Rattle.xs_picture.specs.StreamRead.{AreSlicesRead, IsPictureRead, IsStreamRead, eoc_fault}
use Rattle.xs_picture.proofs.Coverage.{slice_there}

-- The first of some faults

alone : {A : Type 0} (x : Option A) → first_some (x ∷ []) ≡ x
alone None = refl
alone (Some x) = refl

passed : {A : Type 0} (x : Option A) (xs : List (Option A)) → x ≡ None → first_some (x ∷ xs) ≡ first_some xs
passed x xs none = ap (λ o. first_some (o ∷ xs)) none

found : {A : Type 0} (x : Option A) (xs : List (Option A)) (a : A) → x ≡ Some a → first_some (x ∷ xs) ≡ Some a
found x xs a here = ap (λ o. first_some (o ∷ xs)) here

all_passed : {A : Type 0} (f : ℕ → Option A) (xs ys : List ℕ) → AllByRecursion (λ x. f x ≡ None) xs → first_some (map f (xs ++ ys)) ≡ first_some (map f ys)
all_passed f [] ys none = refl
all_passed f (x ∷ xs) ys none = passed (f x) (map f (xs ++ ys)) none.0 ∙ all_passed f xs ys none.1

-- the numbers before one, it and those after it
numbers_cut : (at count : ℕ) → at < count → upto count ≡ upto at ++ (at ∷ range_with_len (at + 1) (count - (at + 1)))
numbers_cut at count there =
    let whole : count ≡ at + suc (count - (at + 1)) = omega (arith, there) in
    let here : 0 + at ≡ at = omega arith in
    ap upto whole ∙ range_cut 0 at (suc (count - (at + 1))) ∙ ap (λ k. upto at ++ range_with_len k (suc (count - (at + 1)))) here

first_of_upto : {A : Type 0} (f : ℕ → Option A) (at count : ℕ) (a : A) → at < count → AllByRecursion (λ x. f x ≡ None) (upto at) → f at ≡ Some a → first_some (map f (upto count)) ≡ Some a
first_of_upto f at count a there none here =
    ap (λ xs. first_some (map f xs)) (numbers_cut at count there) ∙ all_passed f (upto at) (at ∷ range_with_len (at + 1) (count - (at + 1))) none ∙ found (f at) (map f (range_with_len (at + 1) (count - (at + 1)))) a here

none_of_all : {A : Type 0} (f : ℕ → Option A) (xs : List ℕ) → AllByRecursion (λ x. f x ≡ None) xs → first_some (map f xs) ≡ None
none_of_all f [] none = refl
none_of_all f (x ∷ xs) none = passed (f x) (map f xs) none.0 ∙ none_of_all f xs none.1

-- Headers

pub header_refused : (bytes : List ℕ) (f : HeadFault) → head_fault bytes ≡ Some f → stream_fault bytes ≡ Some (stream_fault_of_head (length bytes) f)
header_refused bytes f here =
    found (option_map (stream_fault_of_head (length bytes)) (head_fault bytes)) (body_fault (header_at bytes) bytes (header_end bytes) ∷ []) (stream_fault_of_head (length bytes) f) (ap (option_map (stream_fault_of_head (length bytes))) here)

-- after a header that was read the fault is that of the rest
pub after_header : (h : Header) (bytes : List ℕ) (start : ℕ) → IsHeaderRead h bytes start → stream_fault bytes ≡ body_fault h bytes start
after_header h bytes start head =
    passed (option_map (stream_fault_of_head (length bytes)) (head_fault bytes)) (body_fault (header_at bytes) bytes (header_end bytes) ∷ []) (ap (option_map (stream_fault_of_head (length bytes))) head.no_fault)
    ∙ alone (body_fault (header_at bytes) bytes (header_end bytes))
    ∙ ap (λ x. body_fault x bytes (header_end bytes)) head.header ∙ ap (body_fault h bytes) head.ends

-- Slices

none_mapped : (h : Header) (bytes : List ℕ) (start : ℕ) (xs : List ℕ) → AllByRecursion (λ slice. slice_fault h slice (drop (slice_start h bytes start slice) bytes) ≡ None) xs
    → AllByRecursion (λ slice. option_map (stream_fault_of_slice (length bytes) slice) (slice_fault h slice (drop (slice_start h bytes start slice) bytes)) ≡ None) xs
none_mapped h bytes start [] none = tt
none_mapped h bytes start (x ∷ xs) none = (ap (option_map (stream_fault_of_slice (length bytes) x)) none.0, none_mapped h bytes start xs none.1)

pub slice_refused : (h : Header) (bytes : List ℕ) (start slice : ℕ) (slices : List (List BandLines)) (place : ℕ) (f : SliceFault) → slice < slice_count h → AreSlicesRead h bytes start slice slices place
    → slice_fault h slice (drop place bytes) ≡ Some f → slices_fault h bytes start ≡ Some (stream_fault_of_slice (length bytes) slice f)
slice_refused h bytes start slice slices place f there so here =
    first_of_upto (λ k. option_map (stream_fault_of_slice (length bytes) k) (slice_fault h k (drop (slice_start h bytes start k) bytes))) slice (slice_count h) (stream_fault_of_slice (length bytes) slice f) there
    (none_mapped h bytes start (upto slice) so.no_fault)
    (ap (λ k. option_map (stream_fault_of_slice (length bytes) slice) (slice_fault h slice (drop k bytes))) so.ends ∙ ap (option_map (stream_fault_of_slice (length bytes) slice)) here)

pub slices_refused : (h : Header) (bytes : List ℕ) (start : ℕ) (f : StreamFault) → IsHeaderRead h bytes start → slices_fault h bytes start ≡ Some f → stream_fault bytes ≡ Some f
slices_refused h bytes start f head here = after_header h bytes start head ∙ found (slices_fault h bytes start) _ f here

pub slices_whole : (h : Header) (bytes : List ℕ) (start count : ℕ) (slices : List (List BandLines)) (place : ℕ) → AreSlicesRead h bytes start count slices place → count ≡ slice_count h
    → slices_fault h bytes start ≡ None
slices_whole h bytes start count slices place so all =
    none_of_all (λ k. option_map (stream_fault_of_slice (length bytes) k) (slice_fault h k (drop (slice_start h bytes start k) bytes))) (upto (slice_count h))
    (none_mapped h bytes start (upto (slice_count h)) (subst (λ n. AllByRecursion (λ slice. slice_fault h slice (drop (slice_start h bytes start slice) bytes) ≡ None) (upto n)) all so.no_fault))

-- The end

-- the fault of a stated length that is wrong
abbrev length_fault : Header → ℕ → Option StreamFault
length_fault h end = when (not (nat_eq h.lcod 0 || nat_eq h.lcod end)) (fault.Lcod h.lcod end)

two_passed : {A : Type 0} (a b c : Option A) → first_some (a ∷ b ∷ []) ≡ None → first_some (a ∷ b ∷ c ∷ []) ≡ c
two_passed None None c none = alone c
two_passed None (Some b) c none = absurd (cc none)
two_passed (Some a) b c none = absurd (cc none)

two_found : {A : Type 0} (a b c : Option A) (x : A) → first_some (a ∷ b ∷ []) ≡ Some x → first_some (a ∷ b ∷ c ∷ []) ≡ Some x
two_found None None c x here = absurd (cc here)
two_found None (Some b) c x here = here
two_found (Some a) b c x here = here

after_slices : (h : Header) (bytes : List ℕ) (start : ℕ) → slices_fault h bytes start ≡ None
    → body_fault h bytes start ≡ first_some (when (nat_lt (length bytes) (end_place h bytes start + 2)) (fault.Cut (length bytes))
    ∷ when (not (is_same (take 2 (drop (end_place h bytes start) bytes)) eoc)) (fault.End (end_place h bytes start)) ∷ length_fault h (end_place h bytes start + 2) ∷ [])
after_slices h bytes start none = ap (λ o. first_some (o ∷ when (nat_lt (length bytes) (end_place h bytes start + 2)) (fault.Cut (length bytes))
    ∷ when (not (is_same (take 2 (drop (end_place h bytes start) bytes)) eoc)) (fault.End (end_place h bytes start)) ∷ length_fault h (end_place h bytes start + 2) ∷ [])) none

pub end_refused : (h : Header) (bytes : List ℕ) (start : ℕ) (slices : List (List BandLines)) (place : ℕ) (f : StreamFault) → IsHeaderRead h bytes start → AreSlicesRead h bytes start (slice_count h) slices place
    → eoc_fault bytes place ≡ Some f → stream_fault bytes ≡ Some f
end_refused h bytes start slices place f head so here =
    after_header h bytes start head ∙ after_slices h bytes start (slices_whole h bytes start (slice_count h) slices place so refl)
    ∙ two_found (when (nat_lt (length bytes) (end_place h bytes start + 2)) (fault.Cut (length bytes))) (when (not (is_same (take 2 (drop (end_place h bytes start) bytes)) eoc)) (fault.End (end_place h bytes start)))
    (length_fault h (end_place h bytes start + 2)) f (ap (eoc_fault bytes) so.ends ∙ here)

after_end : (h : Header) (bytes : List ℕ) (start : ℕ) (slices : List (List BandLines)) (place end : ℕ) → IsHeaderRead h bytes start → AreSlicesRead h bytes start (slice_count h) slices place
    → eoc_fault bytes place ≡ None → end ≡ place + 2 → stream_fault bytes ≡ length_fault h end
after_end h bytes start slices place end head so none next =
    after_header h bytes start head ∙ after_slices h bytes start (slices_whole h bytes start (slice_count h) slices place so refl)
    ∙ two_passed (when (nat_lt (length bytes) (end_place h bytes start + 2)) (fault.Cut (length bytes))) (when (not (is_same (take 2 (drop (end_place h bytes start) bytes)) eoc)) (fault.End (end_place h bytes start)))
    (length_fault h (end_place h bytes start + 2)) (ap (eoc_fault bytes) so.ends ∙ none)
    ∙ ap (length_fault h) (ap (λ k. k + 2) so.ends ∙ sym next)

pub length_refused : (h : Header) (bytes : List ℕ) (start : ℕ) (slices : List (List BandLines)) (place end : ℕ) → IsHeaderRead h bytes start → AreSlicesRead h bytes start (slice_count h) slices place
    → eoc_fault bytes place ≡ None → end ≡ place + 2 → h.lcod ≢ 0 → h.lcod ≢ end → stream_fault bytes ≡ Some (fault.Lcod h.lcod end)
length_refused h bytes start slices place end head so none next some unlike =
    after_end h bytes start slices place end head so none next
    ∙ ap (λ t. when (not (t || nat_eq h.lcod end)) (fault.Lcod h.lcod end)) (ne_eqb h.lcod 0 some)
    ∙ ap (λ t. when (not t) (fault.Lcod h.lcod end)) (ne_eqb h.lcod end unlike)

length_right : (h : Header) (end : ℕ) → (h.lcod ≡ 0) ⊎ (h.lcod ≡ end) → length_fault h end ≡ None
length_right h end (inl zero) = ap (λ t. when (not (t || nat_eq h.lcod end)) (fault.Lcod h.lcod end)) (eq-eqb h.lcod 0 zero)
length_right h end (inr same) = ap (λ t. when (not (nat_eq h.lcod 0 || t)) (fault.Lcod h.lcod end)) (eq-eqb h.lcod end same) ∙ either (nat_eq h.lcod 0)
  where
    either : (t : Bool) → when (not (t || true)) (fault.Lcod h.lcod end) ≡ None
    either true = refl
    either false = refl

-- What was read

pub stream_read : (c : Coefs) (bytes : List ℕ) (start place end : ℕ) → IsHeaderRead c.header bytes start → end ≤ length bytes → AreSlicesRead c.header bytes start (slice_count c.header) c.slices place
    → eoc_fault bytes place ≡ None → drop place bytes ≡ eoc ++ drop end bytes → end ≡ place + 2 → (c.header.lcod ≡ 0) ⊎ (c.header.lcod ≡ end) → IsStreamRead c bytes end
stream_read c bytes start place end head enough so none ended next stated = record {
  no_fault = after_end h bytes start c.slices place end head so none next ∙ length_right h end stated;
  ends = ap (λ x. end_place x bytes (header_end bytes) + 2) head.header ∙ ap (λ n. end_place h bytes n + 2) head.ends ∙ ap (λ n. n + 2) so.ends ∙ sym next;
  header = head.header;
  content = so.content;
  spelled = (enough, stream);
  whole = record { accepted = head.spelled.0.1.accepted; count = so.number; lines = so.lines; small = so.small };
  shown = λ band line column inside there. so.shown band line column inside there (slice_there h band line head.spelled.0.1.accepted inside there);
}
  where
    h : Header
    h = c.header

    header : List ℕ
    header = take start bytes

    front : List ℕ
    front = header ++ (so.front ++ eoc)

    whole : bytes ≡ front ++ drop end bytes
    whole = sym (take-append-drop start bytes) ∙ ap (λ l. header ++ l) (so.joined ∙ ap (λ l. so.front ++ l) ended ∙ sym (append_assoc so.front eoc (drop end bytes))) ∙ sym (append_assoc header (so.front ++ eoc) (drop end bytes))

    size : length (take end bytes) ≡ length front
    size = omega (arith, ap length whole, length-append front (drop end bytes), ap length (take-append-drop end bytes), length-append (take end bytes) (drop end bytes))

    joined : take end bytes ≡ front
    joined = (append_cut (take end bytes) front (drop end bytes) (drop end bytes) size (take-append-drop end bytes ∙ whole)).0

    stream : IsCodestream h so.content (take end bytes)
    stream = record {
      header = header;
      slices = so.front;
      joined = joined;
      headed = head.spelled.0.1;
      spelled = so.spelled;
      stated = subst (λ n. (h.lcod ≡ 0) ⊎ (h.lcod ≡ n)) (sym (length-take-le end bytes enough)) stated;
    }

-- its picture is the decoding of that content
pub picture_read : (c : Coefs) (bytes : List ℕ) (n : ℕ) (picture : Picture) → IsStreamRead c bytes n → IsPictureOf c.header (rows_of_slices c.header c.slices) picture → IsPictureRead picture bytes n
picture_read c bytes n picture read p = record {
  no_fault = read.no_fault;
  ends = read.ends;
  content = read.content;
  spelled = subst (λ h. IsCodestreamFront h read.content bytes n) (sym read.header) read.spelled;
  decoded = subst (λ h. IsDecodingOf h read.content picture) (sym read.header) (record {
    whole = p.whole;
    shape = p.shape;
    samples = λ component row column place.
        p.samples component row column place
        ∙ decoded_within c.header (rows_of_slices c.header c.slices) (dequantised_rows c.header read.content) component row column read.whole.accepted (λ band line column inside there within. read.shown band line column inside there) place;
  });
}
