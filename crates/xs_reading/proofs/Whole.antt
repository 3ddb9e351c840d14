-- A slice of a content has no fault, and is read as the content has it.
use Rattle.std.proofs.Common.{◌≡◌, ℕ, zero, suc, ◌+◌, ◌-◌, ◌*◌, ◌/◌, ◌<◌, ◌≤◌, List, [], ◌∷◌, ◌++◌, length, take, drop, refl, sym, ap, subst, ◌∙◌, arith, append_assoc, length-append, inl, inr}
use Rattle.std.specs.Prelude.{◌↔◌, Bool, true, false, not, min, nat_eq, nat_lt, if◌then◌else◌, Option, None}
use Rattle.std.specs.Bool.{MatchBool}
use Rattle.std.specs.List.{AllByRecursion, range_with_len}
use Rattle.std.specs.Option.{option_map}
use Rattle.std.proofs.Math.Nat.{div-mul-le_self}
use Rattle.std.proofs.Math.Seq.{take-length}
use Rattle.std.proofs.lemmas.Bool.{cases_eq, le-ltb, ltb-false, eq-eqb, and_from}
use Rattle.std.proofs.lemmas.List.{take_at, drop_at, take-append-drop, length-take-le}
use Rattle.std.proofs.lemmas.Nat.{div-mul-add}
use Rattle.xs_lists.specs.First.{when, first_some}
use Rattle.xs_lists.specs.Packing.{AreBytes}
use Rattle.xs_lists.specs.Spelling.{SpellsEach}
use Rattle.xs_lists.proofs.Cut.{all-both}
use Rattle.xs_lists.proofs.Each.{range-all}
use Rattle.xs_params.specs.declared.header.Header.{Header}
use Rattle.xs_faults.specs.declared.SliceFault.TheVariants as fault
use Rattle.xs_params.specs.Geometry.{packet_bands, packets_of, precinct_count, precincts_of, slice_count}
use Rattle.xs_params.specs.Accepted.{IsAccepted}
use Rattle.xs_grammar.specs.Laws.{SameBandLine, SamePrecinct}
use Rattle.xs_grammar.specs.Precinct.{Content, precinct_of, IsPrecinct}
use Rattle.xs_params.specs.Markers.{eoc}
use Rattle.xs_grammar.specs.Slice.{slice_head, IsSlice, IsSliceFront}
use Rattle.xs_reading.specs.Precinct.{precinct_end, precinct_fault, with_precinct}
use Rattle.xs_reading.specs.Slice.{is_same, no_content, precincts_fault, with_precincts, precincts_end, slice_fault, slice_content, slice_end, whole_slice_fault}
use Rattle.xs_reading.specs.Laws.{HasRange, IsPrecinctElsewhere, IsPrecinctKnown, AgreeBefore, SlicesKnown}
use Rattle.xs_reading.proofs.Parts.{none_first, none_when, not-false, bytes-drop}
use Rattle.xs_reading.proofs.Places.{IsOfPrecinct, bands_in, packets_own}
use Rattle.xs_reading.proofs.Precincts.{precinct_spelled, precinct_elsewhere}
use Rattle.xs_reading.proofs.Slices.{all_same, slice_spelled}
use Rattle.xs_reading.proofs.Agreed.{precinct_known}
use Rattle.xs_reading.proofs.Walk.{two_back}

-- what is known of a precinct stays known when another one is read
same_stays : (h : Header) (content read : Content) (precinct other : ℕ) (bytes : List ℕ) → h.nly ≤ h.nlx → (other ≡ precinct → ⊥) → SamePrecinct h content read other → SamePrecinct h content (with_precinct h precinct read bytes) other
same_stays h content read precinct other bytes below apart same = record {
  q = same.q ∙ sym (left.q other apart);
  r = same.r ∙ sym (left.r other apart);
  lines = all-both (IsOfPrecinct h other) (λ place. AllByRecursion (λ band. SameBandLine h content read band place.line) (packet_bands h place))
      (λ place. AllByRecursion (λ band. SameBandLine h content (with_precinct h precinct read bytes) band place.line) (packet_bands h place)) (packets_of h other)
      (λ place own lines. all-both (λ band. precinct_of h band place.line ≡ other) (λ band. SameBandLine h content read band place.line) (λ band. SameBandLine h content (with_precinct h precinct read bytes) band place.line) (packet_bands h place)
      (λ band here line. moved band place.line (λ e. apart (sym here ∙ e)) line) (bands_in h place (λ band. precinct_of h band place.line ≡ other) own) lines)
      (packets_own h other below) same.lines;
}
  where
    left : IsPrecinctElsewhere h precinct read bytes
    left = precinct_elsewhere h precinct read bytes below

    moved : (band line : ℕ) → (precinct_of h band line ≡ precinct → ⊥) → SameBandLine h content read band line → SameBandLine h content (with_precinct h precinct read bytes) band line
    moved band line other s = record {
      counts = λ group inside. s.counts group inside ∙ ap (λ f. f group) (sym (left.count band line other));
      values = λ column inside. s.values column inside ∙ ap (λ f. f column) (sym (left.value band line other));
    }

record ArePrecinctsKnown (h : Header) (content read : Content) (base first n : ℕ) (bytes part : List ℕ) : Type 0 where
  pub no_fault : precincts_fault h (range_with_len first n) read bytes ≡ None
  pub ends : precincts_end h (range_with_len first n) bytes ≡ length part
  pub same : (j : ℕ) → base ≤ j → j < first + n → SamePrecinct h content (with_precincts h (range_with_len first n) read bytes) j

precincts_known : (h : Header) → IsAccepted h → (slice : ℕ) (content read : Content) (first n : ℕ) (front rest : List ℕ) → slice * h.hsl ≤ first → first + n ≤ (slice + 1) * h.hsl → AreBytes (front ++ rest) → HasRange h read
    → ((j : ℕ) → slice * h.hsl ≤ j → j < first → SamePrecinct h content read j) → SpellsEach (IsPrecinct h content) (range_with_len first n) front
    → ArePrecinctsKnown h content read (slice * h.hsl) first n (front ++ rest) front
precincts_known h accepted slice content read first zero front rest from to are range known p = record { no_fault = refl; ends = sym (ap length p); same = λ j low high. known j low (omega (arith, high)) }
precincts_known h accepted slice content read first (suc n) front rest from to are range known p =
    subst (λ b. ArePrecinctsKnown h content read (slice * h.hsl) first (suc n) b front) (sym whole)
    (step (subst (λ b. ArePrecinctsKnown h content next (slice * h.hsl) (first + 1) n b p.1) (sym cut)
    (precincts_known h accepted slice content next (first + 1) n p.1 rest (omega (arith, from)) (omega (arith, to)) (subst AreBytes cut (bytes-drop (precinct_end h bytes) bytes bytes-are)) next_range next_known p.4)))
  where
    bytes : List ℕ
    bytes = p.0 ++ (p.1 ++ rest)

    whole : front ++ rest ≡ bytes
    whole = ap (λ l. l ++ rest) p.2 ∙ append_assoc p.0 p.1 rest

    bytes-are : AreBytes bytes
    bytes-are = subst AreBytes whole are

    in_slice : (hsl precinct : ℕ) → slice * hsl ≤ precinct → precinct < (slice + 1) * hsl → precinct / hsl ≡ slice
    in_slice hsl precinct low high =
        let part : precinct ≡ slice * hsl + (precinct - slice * hsl) = omega (arith, low) in
        ap (λ n. n / hsl) part ∙ div-mul-add slice hsl (precinct - slice * hsl) (omega (arith, low, high))

    agree : AgreeBefore h content read first
    agree earlier e less =
        let here : earlier / h.hsl ≡ slice = e ∙ in_slice h.hsl first from (omega (arith, to)) in
        let low : slice * h.hsl ≤ earlier = subst (λ s. s * h.hsl ≤ earlier) here (div-mul-le_self earlier h.hsl) in
        known earlier low less

    one : IsPrecinctKnown h first content read p.0 (p.1 ++ rest)
    one = precinct_known h first content read p.0 (p.1 ++ rest) accepted range agree p.3

    next : Content
    next = with_precinct h first read bytes

    next_range : HasRange h next
    next_range = (precinct_spelled h first read bytes accepted bytes-are range one.no_fault).range

    next_known : (j : ℕ) → slice * h.hsl ≤ j → j < first + 1 → SamePrecinct h content next j
    next_known j low high = elim (cases_eq first j) [
      | inl e ↦ subst (SamePrecinct h content next) e one.same
      | inr other ↦ same_stays h content read first j bytes (omega (arith, accepted.geometry.nly)) (λ e. other (sym e)) (known j low (omega (arith, high, other)))
    ]

    cut : drop (precinct_end h bytes) bytes ≡ p.1 ++ rest
    cut = drop_at p.0 (p.1 ++ rest) (precinct_end h bytes) (sym one.ends)

    step : ArePrecinctsKnown h content next (slice * h.hsl) (first + 1) n (drop (precinct_end h bytes) bytes) p.1 → ArePrecinctsKnown h content read (slice * h.hsl) first (suc n) bytes front
    step others = record {
      no_fault = two_back (option_map (fault.Precinct first) (precinct_fault h first read bytes)) (precincts_fault h (range_with_len (first + 1) n) next (drop (precinct_end h bytes) bytes)) (ap (option_map (fault.Precinct first)) one.no_fault) others.no_fault;
      ends = omega (arith, one.ends, others.ends, ap length p.2, length-append p.0 p.1);
      same = λ j low high. others.same j low (omega (arith, high));
    }

-- Slices

same_again : (xs : List ℕ) → is_same xs xs ≡ true
same_again [] = refl
same_again (x ∷ xs) = and_from (nat_eq x x) (is_same xs xs) (eq-eqb x x refl) (same_again xs)

pub same_lists : (xs ys : List ℕ) → xs ≡ ys → is_same xs ys ≡ true
same_lists xs ys e = subst (λ l. is_same xs l ≡ true) e (same_again xs)

three_back : {A : Type 0} (a b c : Option A) → a ≡ None → b ≡ None → c ≡ None → first_some (a ∷ b ∷ c ∷ []) ≡ None
three_back a b c p q r = ap (λ x. first_some (x ∷ b ∷ c ∷ [])) p ∙ ap (λ x. first_some (x ∷ c ∷ [])) q ∙ ap (λ x. first_some (x ∷ [])) r

head-long : (slice : ℕ) → length (slice_head slice) ≡ 6
head-long slice = refl

pub slice_known : (h : Header) (slice : ℕ) (bytes : List ℕ) → IsAccepted h → AreBytes bytes → (content : Content) (n : ℕ) → IsSliceFront h content slice bytes n
    → (slice_fault h slice bytes ≡ None) × (slice_end h slice bytes ≡ n) × AllByRecursion (SamePrecinct h content (slice_content h slice bytes)) (precincts_of h slice)
slice_known h slice bytes accepted are content n p = (
  three_back (when (nat_lt (length bytes) 6) fault.Short) (when (not (is_same (take 6 bytes) (slice_head slice))) fault.Head) (precincts_fault h (precincts_of h slice) no_content (drop 6 bytes))
      (ap (λ t. when t fault.Short) (le-ltb (length bytes) 6 (omega (arith, long, head-long slice))))
      (ap (λ t. when (not t) fault.Head) (same_lists (take 6 bytes) (slice_head slice) (ap (take 6) whole ∙ take_at (slice_head slice) (p.1.body ++ drop n bytes) 6 (head-long slice))))
      known.no_fault,
  omega (arith, known.ends, size, ap length p.1.joined, length-append (slice_head slice) p.1.body, head-long slice),
  range-all (SamePrecinct h content (slice_content h slice bytes)) (slice * h.hsl) count (λ precinct low high. known.same precinct low high),
)
  where
    count : ℕ
    count = min ((slice + 1) * h.hsl) (precinct_count h) - slice * h.hsl

    whole : bytes ≡ slice_head slice ++ (p.1.body ++ drop n bytes)
    whole = sym (take-append-drop n bytes) ∙ ap (λ l. l ++ drop n bytes) p.1.joined ∙ append_assoc (slice_head slice) p.1.body (drop n bytes)

    size : length (take n bytes) ≡ n
    size = length-take-le n bytes p.0

    long : length bytes ≡ length (slice_head slice) + length (p.1.body ++ drop n bytes)
    long = ap length whole ∙ length-append (slice_head slice) (p.1.body ++ drop n bytes)

    body : drop 6 bytes ≡ p.1.body ++ drop n bytes
    body = ap (drop 6) whole ∙ drop_at (slice_head slice) (p.1.body ++ drop n bytes) 6 (head-long slice)

    most : slice * h.hsl + count ≤ (slice + 1) * h.hsl
    most = omega (arith, grown slice h.hsl)
      where
        grown : (s n : ℕ) → s * n ≤ (s + 1) * n
        grown s n = omega arith

    known : ArePrecinctsKnown h content no_content (slice * h.hsl) (slice * h.hsl) count (drop 6 bytes) p.1.body
    known = subst (λ b. ArePrecinctsKnown h content no_content (slice * h.hsl) (slice * h.hsl) count b p.1.body) (sym body)
        (precincts_known h accepted slice content no_content (slice * h.hsl) count p.1.body (drop n bytes) (omega arith) most (subst AreBytes body (bytes-drop 6 bytes are)) (λ band line group. omega arith)
        (λ j low high. absurd (omega (arith, low, high))) p.1.spelled)

-- a slice and nothing more
whole_of : (h : Header) (slice : ℕ) (bytes : List ℕ) → IsAccepted h → slice < slice_count h → AreBytes bytes → whole_slice_fault h slice bytes ≡ None → (content : Content) × IsSlice h content slice bytes
whole_of h slice bytes accepted inside are none =
    let two = none_first (slice_fault h slice bytes) (when (nat_lt (slice_end h slice bytes) (length bytes)) (fault.Trailing (slice_end h slice bytes)) ∷ []) none in
    let front = slice_spelled h slice bytes accepted inside are two.0 in
    let more : length bytes ≤ slice_end h slice bytes = ltb-false (slice_end h slice bytes) (length bytes) (none_when (nat_lt (slice_end h slice bytes) (length bytes)) (fault.Trailing (slice_end h slice bytes))
    (none_first (when (nat_lt (slice_end h slice bytes) (length bytes)) (fault.Trailing (slice_end h slice bytes))) [] two.1).0) in
    let ends : slice_end h slice bytes ≡ length bytes = omega (arith, more, front.0) in
    (slice_content h slice bytes, subst (IsSlice h (slice_content h slice bytes) slice) (ap (λ n. take n bytes) ends ∙ take-length bytes) front.1)

of_whole : (h : Header) (slice : ℕ) (bytes : List ℕ) → IsAccepted h → AreBytes bytes → (content : Content) → IsSlice h content slice bytes → whole_slice_fault h slice bytes ≡ None
of_whole h slice bytes accepted are content p =
    let most : length bytes ≤ length bytes = omega arith in
    let known = slice_known h slice bytes accepted are content (length bytes) (most, subst (IsSlice h content slice) (sym (take-length bytes)) p) in
    two_back (slice_fault h slice bytes) (when (nat_lt (slice_end h slice bytes) (length bytes)) (fault.Trailing (slice_end h slice bytes))) known.0
    (ap (λ t. when t (fault.Trailing (slice_end h slice bytes))) (le-ltb (slice_end h slice bytes) (length bytes) (omega (arith, known.1))))

-- what is sent of the last one
last_of : (h : Header) (slice : ℕ) (bytes : List ℕ) → IsAccepted h → slice < slice_count h → AreBytes bytes
    → first_some (slice_fault h slice bytes ∷ when (not (is_same (drop (slice_end h slice bytes) bytes) eoc)) fault.End ∷ []) ≡ None → (content : Content) × (front : List ℕ) × (bytes ≡ front ++ eoc) × IsSlice h content slice front
last_of h slice bytes accepted inside are none =
    let two = none_first (slice_fault h slice bytes) (when (not (is_same (drop (slice_end h slice bytes) bytes) eoc)) fault.End ∷ []) none in
    let front = slice_spelled h slice bytes accepted inside are two.0 in
    let end : drop (slice_end h slice bytes) bytes ≡ eoc = all_same (drop (slice_end h slice bytes) bytes) eoc (not-false (is_same (drop (slice_end h slice bytes) bytes) eoc) (none_when (not (is_same (drop (slice_end h slice bytes) bytes) eoc)) fault.End
    (none_first (when (not (is_same (drop (slice_end h slice bytes) bytes) eoc)) fault.End) [] two.1).0)) in
    (slice_content h slice bytes, take (slice_end h slice bytes) bytes, sym (take-append-drop (slice_end h slice bytes) bytes) ∙ ap (λ l. take (slice_end h slice bytes) bytes ++ l) end, front.1)

of_last : (h : Header) (slice : ℕ) (bytes : List ℕ) → IsAccepted h → AreBytes bytes → (content : Content) (front : List ℕ) → bytes ≡ front ++ eoc → IsSlice h content slice front
    → first_some (slice_fault h slice bytes ∷ when (not (is_same (drop (slice_end h slice bytes) bytes) eoc)) fault.End ∷ []) ≡ None
of_last h slice bytes accepted are content front e p =
    let seam : take (length front) bytes ≡ front = ap (take (length front)) e ∙ take_at front eoc (length front) refl in
    let within : length front ≤ length bytes = omega (arith, ap length e, length-append front eoc) in
    let known = slice_known h slice bytes accepted are content (length front) (within, subst (IsSlice h content slice) (sym seam) p) in
    let end : drop (slice_end h slice bytes) bytes ≡ eoc = ap (λ l. drop (slice_end h slice bytes) l) e ∙ drop_at front eoc (slice_end h slice bytes) (sym known.1) in
    two_back (slice_fault h slice bytes) (when (not (is_same (drop (slice_end h slice bytes) bytes) eoc)) fault.End) known.0
    (ap (λ t. when (not t) fault.End) (same_lists (drop (slice_end h slice bytes) bytes) eoc end))

pub slices_known : SlicesKnown
slices_known h slice bytes accepted inside are = record {
  spelled = slice_spelled h slice bytes accepted inside are;
  no_fault = slice_known h slice bytes accepted are;
  whole = (whole_of h slice bytes accepted inside are, λ p. of_whole h slice bytes accepted are p.0 p.1);
  unit = cases (nat_eq (slice + 1) (slice_count h));
}
  where
    cases : (last : Bool)
        → ((if last then first_some (slice_fault h slice bytes ∷ when (not (is_same (drop (slice_end h slice bytes) bytes) eoc)) fault.End ∷ []) else whole_slice_fault h slice bytes) ≡ None)
        ↔ ((content : Content) × MatchBool last ((front : List ℕ) × (bytes ≡ front ++ eoc) × IsSlice h content slice front) (IsSlice h content slice bytes))
    cases true = (λ e. (let x = last_of h slice bytes accepted inside are e in (x.0, (x.1, x.2, x.3))), λ p. of_last h slice bytes accepted are p.0 p.1.0 p.1.1 p.1.2)
    cases false = (whole_of h slice bytes accepted inside are, λ p. of_whole h slice bytes accepted are p.0 p.1)
