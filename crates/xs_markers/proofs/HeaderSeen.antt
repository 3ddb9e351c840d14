-- Nothing is refused of a header.
use Rattle.std.specs.Prelude.{◌⊎◌}
use Rattle.std.proofs.Common.{◌≡◌, ℕ, ◌+◌, ◌-◌, ◌^◌, ◌<◌, ◌≤◌, Bool, true, false, not, ◌&&◌, nat_eq, nat_le, if◌then◌else◌, List, [], ◌∷◌, ◌++◌, length, take, drop, None, Ok, refl, sym, ap, subst, ◌∙◌, arith, append_assoc, length-append, inl, inr}
use Rattle.std.specs.Int.{from_be_bytes, w16}
use Rattle.std.specs.List.{flat_map, AllByRecursion}
use Rattle.std.proofs.lemmas.List.{take-append-drop, drop_at, drop-drop, drop_all, take_at, length-drop}
use Rattle.std.proofs.lemmas.Bool.{le-leb, lt-leb, eq-eqb, false≢true, or_from, or_left, or_right, and_from}
use Rattle.xs_lists.specs.Fields.{half_word_at}
use Rattle.xs_lists.specs.Spelling.{BeginsWith}
use Rattle.xs_params.specs.declared.header.Header.{Header}
use Rattle.xs_params.specs.Accepted.{IsAccepted}
use Rattle.xs_params.specs.Markers.{soc, slh}
use Rattle.xs_grammar.specs.Header.{Segment, segment_bytes, is_stepped_over, IsHeader, IsHeaderFront, AreSegmentsOf, cap_code, com_code, crg_code}
use Rattle.xs_grammar.specs.Laws.{FollowsHeader}
use Rattle.xs_grammar.proofs.OneHeader.{one_header}
use Rattle.xs_markers.specs.declared.kinds.Kind.{Kind}
use Rattle.xs_markers.specs.declared.kinds.Kind.TheVariants as kind
use Rattle.xs_markers.specs.declared.seen.Seen.{Seen}
use Rattle.xs_markers.specs.Reading.{is_end, end_fault, segments_from, head_fault, header_at, header_end}
use Rattle.xs_markers.specs.Segments.{soc_code, slh_code, segment_code, segment_kind, segment_size, segment_body, segment_end, kind_of, kind_fault, is_size, rules_of, with_segment, nothing_seen}
use Rattle.xs_markers.specs.Values.{fields_fault}
use Rattle.xs_markers.proofs.Cut.{IsBytes, piece_bytes}
use Rattle.xs_markers.proofs.Fine.{IsFine, fine_segment}
use Rattle.xs_markers.proofs.HeaderRead.{header_spelled, fault_from}
use Rattle.xs_markers.proofs.KindsTold.{IsOfKind, kind_told, stepped_is}
use Rattle.xs_markers.proofs.Left.{AreGiven, AreLeftOf, MayCome, stepped_comes, table_comes_of, NoneLeft, none_left}
use Rattle.xs_markers.proofs.OneStep.{step_end, step_on, started, there_start}
use Rattle.xs_markers.proofs.Pieces.{segment_body_at, IsSegmentAt, segment_seen}
use Rattle.xs_markers.proofs.Tables.{kept}

-- from a place on the bytes are read to the end of a header
pub record IsReadFrom (steps : ℕ) (bytes : List ℕ) (place : ℕ) (seen : Seen) : Type 0 where
  pub found : Seen × ℕ
  pub same : segments_from steps bytes place seen ≡ Ok found
  pub no_fault : end_fault bytes found.0 found.1 ≡ None

-- The end

no_end_fault : (bytes : List ℕ) (seen : Seen) (place : ℕ) → NoneLeft seen → end_fault bytes seen place ≡ None
unfolding end_fault
no_end_fault bytes seen place none = ap (λ s. end_fault bytes s place) none.all

ends : (bytes front tail : List ℕ) (place : ℕ) → bytes ≡ front ++ tail → length front ≡ place → FollowsHeader tail → is_end bytes place ≡ true
ends bytes front tail place joined at (inl none) =
    let size = ap length joined in
    let empty = ap length none in
    or_left (nat_le (length bytes) place) _ (le-leb (length bytes) place (omega (arith, size, empty, at, length-append front tail)))
ends bytes front tail place joined at (inr begin) =
    let after : drop place bytes ≡ 0xff ∷ 0x20 ∷ begin.0 = ap (drop place) joined ∙ drop_at front tail place at ∙ begin.1 in
    let long = ap length after in
    let code : half_word_at bytes place ≡ slh_code = ap (λ l. from_be_bytes w16 (take 2 l)) after in
    or_right (nat_le (length bytes) place) _
    (and_from (nat_le (place + 2) (length bytes)) (nat_eq (half_word_at bytes place) slh_code) (le-leb (place + 2) (length bytes) (omega (arith, long, length-drop place bytes))) (eq-eqb (half_word_at bytes place) slh_code code))

-- A segment

-- the code of one that may come
pub record IsCode (code : ℕ) : Type 0 where
  pub small : code < 2 ^ 16
  pub other : nat_eq code slh_code ≡ false

code_of : (code wanted : ℕ) → code ≡ wanted → wanted < 2 ^ 16 → nat_eq wanted slh_code ≡ false → IsCode code
code_of code wanted same small other = record { small = omega (arith, same, small); other = ap (λ n. nat_eq n slh_code) same ∙ other }

known_code : (s : Segment) (seen : Seen) (k : Kind) (size : ℕ) → IsOfKind s.code k → is_size seen k size ≡ true → IsCode s.code
known_code s seen kind.Picture size told e = code_of s.code _ told (omega arith) refl
known_code s seen kind.Components size told e = code_of s.code _ told (omega arith) refl
known_code s seen kind.Weights size told e = code_of s.code _ told (omega arith) refl
known_code s seen kind.SteppedOver size told e = elim (stepped_is s told) [
  | inl p ↦ code_of s.code cap_code p (omega arith) refl
  | inr (inl p) ↦ code_of s.code com_code p (omega arith) refl
  | inr (inr p) ↦ code_of s.code crg_code p (omega arith) refl
]
known_code s seen kind.Unsupported size told e = absurd (false≢true e)
known_code s seen kind.Unknown size told e = absurd (false≢true e)

-- the body of a segment are bytes
body_small : (bytes front tail : List ℕ) (s : Segment) (place : ℕ) → IsBytes bytes → bytes ≡ front ++ (segment_bytes s ++ tail) → length front ≡ place → IsBytes s.body
body_small bytes front tail s place small joined at =
    let here : drop place bytes ≡ segment_bytes s ++ tail = ap (drop place) joined ∙ drop_at front (segment_bytes s ++ tail) place at in
    let after : drop (place + 4) bytes ≡ s.body ++ tail = sym (drop-drop 4 place bytes) ∙ ap (drop 4) here in
    let long = ap length after in
    let piece : take (length s.body) (drop (place + 4) bytes) ≡ s.body = ap (take (length s.body)) after ∙ take_at s.body tail (length s.body) refl in
    subst IsBytes piece (piece_bytes (length s.body) (place + 4) bytes small (inside (length bytes) (place + 4) (length s.body) (length tail) (sym (length-drop (place + 4) bytes) ∙ long ∙ length-append s.body tail) room))
  where
    whole : length bytes ≡ length front + (4 + (length s.body + length tail))
    whole = let sum = length-append s.body tail in let all = length-append front (segment_bytes s ++ tail) in let size = ap length joined in omega (arith, size, all, sum)

    room : place + 4 ≤ length bytes
    room = omega (arith, whole, at)

    inside : (all place body tail : ℕ) → all - place ≡ body + tail → place ≤ all → place + body ≤ all
    inside all place body tail e room = omega (arith, e, room)

-- at its place it is fine
pub record IsHere (bytes : List ℕ) (place : ℕ) (seen : Seen) (s : Segment) (k : Kind) : Type 0 where
  pub fine : IsFine bytes place seen
  pub next : segment_end bytes place ≡ place + (4 + length s.body)
  pub after : with_segment seen (segment_kind bytes place) (segment_body bytes place) (place + 4) ≡ with_segment seen k s.body (place + 4)
  pub more : is_end bytes place ≡ false

here : (h : Header) (x y z : Segment) (bytes front tail : List ℕ) (place : ℕ) (seen : Seen) (s : Segment) (tables : List Segment) → bytes ≡ front ++ (segment_bytes s ++ tail) → length front ≡ place
    → length s.body + 2 < 2 ^ 16 → (m : MayCome h x y z seen s place tables) → IsHere bytes place seen s m.kind
here h x y z bytes front tail place seen s tables joined at short m = record {
  fine = record {
    least = subst (λ n. 2 ≤ n) (sym size) (omega arith);
    whole = subst (λ n. place + 2 + n ≤ length bytes) (sym size) at_place.0.whole;
    kind = ap (λ k. kind_fault seen k (segment_code bytes place) place) kind_is ∙ ap (λ c. kind_fault seen m.kind c place) code ∙ m.fault;
    size = ap (λ k. is_size seen k (segment_size bytes place)) kind_is ∙ ap (is_size seen m.kind) size ∙ m.size;
    fields = ap (λ k. fields_fault (rules_of seen k (segment_body bytes place))) kind_is ∙ ap (λ b. fields_fault (rules_of seen m.kind b)) body ∙ m.fields;
  };
  next = ap (λ n. place + 2 + n) size ∙ sum place (length s.body);
  after = ap (λ k. with_segment seen k (segment_body bytes place) (place + 4)) kind_is ∙ ap (λ b. with_segment seen m.kind b (place + 4)) body;
  more =
      or_from (nat_le (length bytes) place) (nat_le (place + 2) (length bytes) && nat_eq (half_word_at bytes place) slh_code) (lt-leb (length bytes) place (room place (length s.body) (length bytes) at_place.0.whole))
      (ap (λ c. nat_le (place + 2) (length bytes) && nat_eq c slh_code) code ∙ ap (λ t. nat_le (place + 2) (length bytes) && t) coded.other ∙ never (nat_le (place + 2) (length bytes)));
}
  where
    coded : IsCode s.code
    coded = known_code s seen m.kind (length s.body + 2) (subst (IsOfKind s.code) m.told (kind_told s.code)) m.size

    at_place : IsSegmentAt bytes place s.code (length s.body + 2) × (segment_body_at bytes place (length s.body + 2) ≡ s.body)
    at_place = segment_seen bytes front tail place s.code (length s.body + 2) s.body joined at coded.small refl short

    code : segment_code bytes place ≡ s.code
    code = at_place.0.coded

    kind_is : segment_kind bytes place ≡ m.kind
    kind_is = ap kind_of code ∙ m.told

    size : segment_size bytes place ≡ length s.body + 2
    size = at_place.0.sized

    body : segment_body bytes place ≡ s.body
    body = ap (segment_body_at bytes place) size ∙ at_place.1

    sum : (from long : ℕ) → from + 2 + (long + 2) ≡ from + (4 + long)
    sum from long = omega arith

    room : (from long all : ℕ) → from + 2 + (long + 2) ≤ all → from < all
    room from long all whole = omega (arith, whole)

    never : (t : Bool) → (t && false) ≡ false
    never true = refl
    never false = refl

-- it comes next
next_comes : (h : Header) (x y z : Segment) (bytes front tail : List ℕ) (place : ℕ) (seen : Seen) (s : Segment) (rest : List Segment) → AreGiven h x y z → IsBytes bytes → bytes ≡ front ++ (segment_bytes s ++ tail)
    → length front ≡ place → AreLeftOf h x y z seen (kept (s ∷ rest)) → MayCome h x y z seen s place (kept rest)
next_comes h x y z bytes front tail place seen s rest g small joined at left = go (is_stepped_over s) refl left
  where
    go : (t : Bool) → is_stepped_over s ≡ t → AreLeftOf h x y z seen (if not t then s ∷ kept rest else kept rest) → MayCome h x y z seen s place (kept rest)
    go true e left = stepped_comes h x y z seen s place (kept rest) e left
    go false e left = table_comes_of h x y z seen s place (kept rest) g (body_small bytes front tail s place small joined at) left

-- One segment after the other

at_next : (grown front piece place body next : ℕ) → grown ≡ front + piece → front ≡ place → piece ≡ 4 + body → next ≡ place + (4 + body) → grown ≡ next
at_next grown front piece place body next a b c d = omega (arith, a, b, c, d)

-- from the next place on, and so from this one
on_from : (steps fewer : ℕ) (bytes : List ℕ) (place next : ℕ) (seen after : Seen) → segments_from steps bytes place seen ≡ segments_from fewer bytes next after → IsReadFrom fewer bytes next after → IsReadFrom steps bytes place seen
on_from steps fewer bytes place next seen after same more = record { found = more.found; same = same ∙ more.same; no_fault = more.no_fault }

read_on : (h : Header) (x y z : Segment) (segments : List Segment) (steps place : ℕ) (bytes front tail : List ℕ) (seen : Seen) → AreGiven h x y z → IsBytes bytes → bytes ≡ front ++ (flat_map segment_bytes segments ++ tail)
    → length front ≡ place → FollowsHeader tail → AllByRecursion (λ (s : Segment). length s.body + 2 < 2 ^ 16) segments → AreLeftOf h x y z seen (kept segments) → length bytes < steps + place
    → IsReadFrom steps bytes place seen
read_on h x y z [] steps place bytes front tail seen g small joined at follows short left enough =
    let within : place ≤ length bytes = let size = ap length joined in omega (arith, size, at, length-append front tail) in
    record {
      found = (seen, place);
      same = step_end steps bytes place seen enough within (ends bytes front tail place joined at follows);
      no_fault = no_end_fault bytes seen place (none_left h x y z seen left);
    }
read_on h x y z (s ∷ rest) steps place bytes front tail seen g small joined at follows short left enough =
    let cut : bytes ≡ front ++ (segment_bytes s ++ (flat_map segment_bytes rest ++ tail)) = joined ∙ ap (λ l. front ++ l) (append_assoc (segment_bytes s) (flat_map segment_bytes rest) tail) in
    let m = next_comes h x y z bytes front (flat_map segment_bytes rest ++ tail) place seen s rest g small cut at left in
    let is = here h x y z bytes front (flat_map segment_bytes rest ++ tail) place seen s (kept rest) cut at short.0 m in
    let within : place ≤ length bytes = let size = ap length cut in omega (arith, size, at, length-append front (segment_bytes s ++ (flat_map segment_bytes rest ++ tail))) in
    let on = step_on steps bytes place seen enough within is.more (fine_segment bytes place seen is.fine) in
    let joined_on : bytes ≡ (front ++ segment_bytes s) ++ (flat_map segment_bytes rest ++ tail) = cut ∙ sym (append_assoc front (segment_bytes s) (flat_map segment_bytes rest ++ tail)) in
    let long : length (segment_bytes s) ≡ 4 + length s.body = omega arith in
    let at_on : length (front ++ segment_bytes s) ≡ segment_end bytes place = at_next _ _ _ _ _ _ (length-append front (segment_bytes s)) at long is.next in
    let left_on = subst (λ seen. AreLeftOf h x y z seen (kept rest)) (sym is.after) m.left in
    let more = read_on h x y z rest on.fewer (segment_end bytes place) bytes (front ++ segment_bytes s) tail (with_segment seen (segment_kind bytes place) (segment_body bytes place) (place + 4)) g small joined_on at_on follows short.1 left_on on.enough in
    on_from steps on.fewer bytes place (segment_end bytes place) seen (with_segment seen (segment_kind bytes place) (segment_body bytes place) (place + 4)) on.same more

-- Headers

pub given : (h : Header) (segments : List Segment) → IsAccepted h → (said : AreSegmentsOf h segments) → AreGiven h said.picture said.component said.weight
given h segments accepted said = record {
  accepted = accepted;
  profile = said.profile;
  level = said.level;
  raw_line = said.raw_line;
  picture = said.picture_is;
  component = said.component_is;
  weight = said.weight_is;
}

-- a header and what follows it are not refused
pub header_unrefused : (h : Header) (bytes front tail : List ℕ) → IsBytes bytes → IsHeader h front → bytes ≡ front ++ tail → FollowsHeader tail → head_fault bytes ≡ None
header_unrefused h bytes front tail small is joined follows =
    ap (fault_from bytes) (started bytes (sym (there_start bytes there.0 there.1)) ∙ read.same) ∙ read.no_fault
  where
    whole : bytes ≡ soc ++ (flat_map segment_bytes is.segments ++ tail)
    whole = joined ∙ ap (λ l. l ++ tail) is.joined ∙ append_assoc soc (flat_map segment_bytes is.segments) tail

    there : (2 ≤ length bytes) × (half_word_at bytes 0 ≡ soc_code)
    there = (let size = ap length whole in omega (arith, size), ap (λ l. from_be_bytes w16 (take 2 l)) whole)

    read : IsReadFrom (length bytes) bytes 2 nothing_seen
    read = read_on h is.said.picture is.said.component is.said.weight is.segments (length bytes) 2 bytes soc tail nothing_seen (given h is.segments is.accepted is.said) small whole refl follows is.short is.said.order (omega (arith, there))

follows_of : (bytes : List ℕ) (n : ℕ) → (n ≡ length bytes) ⊎ BeginsWith (drop n bytes) slh → FollowsHeader (drop n bytes)
follows_of bytes n (inl whole) = inl (drop_all n bytes (omega (arith, whole)))
follows_of bytes n (inr begin) = inr begin

-- and are read as that header alone
pub header_known : (h : Header) (bytes : List ℕ) (n : ℕ) → IsBytes bytes → IsHeaderFront h bytes n → (head_fault bytes ≡ None) × (header_at bytes ≡ h) × (header_end bytes ≡ n)
header_known h bytes n small front =
    let none = header_unrefused h bytes (take n bytes) (drop n bytes) small front.0.1 (sym (take-append-drop n bytes)) (follows_of bytes n front.1) in
    let read = header_spelled bytes small none in
    let end = header_end bytes in
    let same : (drop end bytes ≡ drop n bytes) × (header_at bytes ≡ h) =
    one_header (header_at bytes) h (take end bytes) (take n bytes) (drop end bytes) (drop n bytes) read.0.1 front.0.1 (follows_of bytes end read.1) (follows_of bytes n front.1)
    (take-append-drop end bytes ∙ sym (take-append-drop n bytes)) in
    (none, same.1, same_end (length bytes) end n read.0.0 front.0.0 (sym (length-drop end bytes) ∙ ap length same.0 ∙ length-drop n bytes))
  where
    same_end : (all end n : ℕ) → end ≤ all → n ≤ all → all - end ≡ all - n → end ≡ n
    same_end all end n a b e = omega (arith, a, b, e)
