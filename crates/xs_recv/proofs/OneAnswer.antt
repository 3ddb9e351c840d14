-- A selection has one answer.
use Rattle.std.proofs.Common.{◌≡◌, ◌≢◌, ℕ, ◌+◌, ◌<◌, ◌^◌, List, [], ◌∷◌, get_or, true, false, Option, Some, None, refl, sym, ap, subst, ◌∙◌, arith, inl, inr, Contains}
use mathlib.Core.Path.{fun_ext}
use mathlib.Core.Logic.{◌⊎◌}
use Rattle.std.specs.Prelude.{IfSome}
use Rattle.std.specs.Option.{option_map_or}
use Rattle.std.specs.List.{flat_map}
use Rattle.std.proofs.lemmas.Bool.{cases_order}
use Rattle.std.proofs.lemmas.List.{ext_get_or}
use Rattle.xs_lists.specs.Packing.{AreBytes}
use Rattle.xs_lists.specs.Spelling.{upto}
use Rattle.xs_lists.proofs.Walk.{all-append}
use Rattle.xs_params.specs.declared.header.Header.{Header}
use Rattle.xs_params.specs.Accepted.{IsAccepted}
use Rattle.xs_params.specs.Geometry.{slice_count}
use Rattle.xs_params.specs.Picture.{IsPlace, Picture}
use Rattle.xs_faults.specs.declared.HeadFault.{HeadFault}
use Rattle.xs_faults.specs.declared.SliceFault.{SliceFault}
use Rattle.xs_grammar.specs.Precinct.{Content}
use Rattle.xs_reading.specs.Rows.{dequantised_rows}
use Rattle.xs_reading.proofs.Whole.{slices_known}
use Rattle.xs_markers.specs.Units.{header_unit_at, header_unit_fault}
use Rattle.xs_markers.proofs.UnitsKnown.{header_units_known}
use Rattle.xs_decoding.specs.Decoded.{IsDecodingOf}
use Rattle.xs_decoding.proofs.Within.{decoded_within}
use Rattle.xs_capture.specs.Offer.{Offer}
use Rattle.xs_capture.specs.Selection.{AreMissing, HasBytes, Held, IsSelection, IsWholeUnit, bytes_at}
use Rattle.xs_capture.proofs.Firsts.{here}
use Rattle.xs_capture.proofs.Selections.{one_selection, selection_of_set}
use Rattle.xs_recv.specs.declared.received.Damage.TheVariants as damage
use Rattle.xs_recv.specs.declared.received.Received.{Received}
use Rattle.xs_recv.specs.declared.received.Received.TheVariants as received
use Rattle.xs_recv.specs.Received.{AreSpelled, AreUnits, HasHeader, IsDamagedAt, IsReceived, fault_in, slice_unit, stream_size}
use Rattle.xs_recv.specs.Laws.{AnswerOfSet, AreOffers, OneAnswer}
use Rattle.xs_recv.proofs.Ascending.{one_ascending}
use Rattle.xs_recv.proofs.Contents.{one_content}
use Rattle.xs_recv.proofs.Samples.{one_picture}
use Rattle.xs_recv.proofs.Wholes.{one_unit}

-- The bytes of units are bytes

pub are_bytes : (offers : List Offer) (held : Held) → AreOffers offers → IsSelection offers held → (unit : ℕ) (bytes : List ℕ) → HasBytes held unit bytes → AreBytes bytes
are_bytes offers held are selection unit bytes whole = subst AreBytes (sym whole.2) (flat (upto (whole.0 + 1)))
  where
    piece : (place : ℕ) (o : Option Offer) → IfSome o (λ p. Contains offers p × (p.unit ≡ unit) × (p.place ≡ place)) → AreBytes (option_map_or (λ (p : Offer). p.bytes) o [])
    piece place None p = tt
    piece place (Some q) p = are.bytes q p.0

    flat : (places : List ℕ) → AreBytes (flat_map (bytes_at held unit) places)
    flat [] = tt
    flat (place ∷ places) = all-append (λ b. b < 2 ^ 8) (bytes_at held unit place) (flat_map (bytes_at held unit) places) (piece place (held unit place) (selection.offered unit place)) (flat places)

-- Faults

both : {A : Type 0} (o : Option A) (x : A) → o ≡ None → o ≡ Some x → ⊥
both o x none some = absurd (cc (none, some))

some_one : {A : Type 0} (x y : A) → Some x ≡ Some y → x ≡ y
some_one x y e = cc e

-- Contents of the same units

decoded_one : (h : Header) (content other : Content) (units : List (List ℕ)) (p q : Picture) → IsAccepted h → AreSpelled h content units → AreSpelled h other units → IsDecodingOf h content p → IsDecodingOf h other q → p ≡ q
decoded_one h content other units p q accepted first second a b =
    one_picture p q a.whole b.whole (a.shape ∙ sym b.shape) (λ component row column place.
    let at = subst (λ s. IsPlace s component row column) a.shape place in
    a.samples component row column at ∙ decoded_within h (dequantised_rows h content) (dequantised_rows h other) component row column accepted (one_content h content other units accepted first second) at ∙ sym (b.samples component row column at))

-- Answers in stages: after the slices are read, after all are whole, after the header, and from the start

abbrev Fourth : Header → ℕ → List (List ℕ) → Content → Received → Type 0
Fourth h n units content answer =
    ((h.lcod ≢ 0) × (h.lcod ≢ stream_size n units) × (answer ≡ received.Damaged (damage.Lcod h.lcod (stream_size n units))))
    ⊎ (((h.lcod ≡ 0) ⊎ (h.lcod ≡ stream_size n units)) × ((picture : Picture) × IsDecodingOf h content picture × (answer ≡ received.Picture picture)))

abbrev Third : Header → ℕ → List (List ℕ) → Received → Type 0
Third h n units answer =
    ((slice : ℕ) × (fault : SliceFault) × IsDamagedAt h units slice fault × (answer ≡ received.Damaged (damage.Slice slice fault))) ⊎ ((content : Content) × AreSpelled h content units × Fourth h n units content answer)

abbrev Second : Held → Header → ℕ → Received → Type 0
Second held h n answer =
    ((slices : List ℕ) × AreMissing held (slice_count h) slices × (slices ≢ []) × (answer ≡ received.Missing false slices)) ⊎ ((units : List (List ℕ)) × AreUnits held h units × Third h n units answer)

abbrev First : Held → Received → Type 0
First held answer =
    ((¬ IsWholeUnit held 0) × (answer ≡ received.Missing true []))
    ⊎ (((bytes : List ℕ) × (fault : HeadFault) × HasBytes held 0 bytes × (header_unit_fault bytes ≡ Some fault) × (answer ≡ received.Damaged (damage.Head fault)))
    ⊎ ((h : Header) × (n : ℕ) × HasHeader held h n × Second held h n answer))

staged : (held : Held) (answer : Received) → IsReceived held answer → First held answer
staged held (received.Missing true slices) p = inl (p.0, ap (received.Missing true) p.1)
staged held (received.Missing false slices) p = inr (inr (p.0, p.1, p.2, inl (slices, p.3, p.4, refl)))
staged held (received.Damaged (damage.Head fault)) p = inr (inl (p.0, fault, p.1, p.2, refl))
staged held (received.Damaged (damage.Slice slice fault)) p = inr (inr (p.0, p.1, p.2, inr (p.3, p.4, inl (slice, fault, p.5, refl))))
staged held (received.Damaged (damage.Lcod stated actual)) p = inr (inr (
  p.0,
  p.1,
  p.2,
  inr (
    p.3,
    p.4,
    inr (
      p.5,
      p.6,
      inl (
        subst (λ k. k ≢ 0) p.7 p.8,
        subst (λ k. k ≢ stream_size p.1 p.3) p.7 (subst (λ k. stated ≢ k) p.9 p.10),
        ap (λ k. received.Damaged (damage.Lcod k actual)) p.7 ∙ ap (λ k. received.Damaged (damage.Lcod p.0.lcod k)) p.9,
      ),
    ),
  ),
))
staged held (received.Picture picture) p = inr (inr (p.0, p.1, p.2, inr (p.3, p.4, inr (p.5, p.6, inr (p.7, (picture, p.8, refl))))))

fourth_one : (h : Header) (n : ℕ) (units : List (List ℕ)) (content other : Content) (a b : Received) → IsAccepted h → AreSpelled h content units → AreSpelled h other units → Fourth h n units content a → Fourth h n units other b → a ≡ b
fourth_one h n units content other a b accepted first second (inl p) (inl q) = p.2 ∙ sym q.2
fourth_one h n units content other a b accepted first second (inl p) (inr q) = absurd (elim q.0 [ inl none ↦ p.0 none | inr same ↦ p.1 same ])
fourth_one h n units content other a b accepted first second (inr p) (inl q) = absurd (elim p.0 [ inl none ↦ q.0 none | inr same ↦ q.1 same ])
fourth_one h n units content other a b accepted first second (inr p) (inr q) =
    p.1.2 ∙ ap received.Picture (decoded_one h content other units p.1.0 q.1.0 accepted first second p.1.1 q.1.1) ∙ sym q.1.2

third_one : (h : Header) (n : ℕ) (units : List (List ℕ)) (a b : Received) → IsAccepted h → ((slice : ℕ) → slice < slice_count h → AreBytes (get_or units slice [])) → Third h n units a → Third h n units b → a ≡ b
third_one h n units a b accepted are (inl p) (inl q) = elim (cases_order p.0 q.0) [
  | inl same ↦
      let fault = some_one p.1 q.1 (sym p.2.faulty ∙ ap (fault_in h units) same ∙ q.2.faulty) in
      p.3 ∙ ap (λ k. received.Damaged (damage.Slice k p.1)) same ∙ ap (λ f. received.Damaged (damage.Slice q.0 f)) fault ∙ sym q.3
  | inr apart ↦ elim apart [
    | inl less ↦ absurd (both (fault_in h units p.0) p.1 (q.2.before p.0 less) p.2.faulty)
    | inr more ↦ absurd (both (fault_in h units q.0) q.1 (p.2.before q.0 more) q.2.faulty)
  ]
]
third_one h n units a b accepted are (inl p) (inr q) =
    absurd (both (fault_in h units p.0) p.1 ((slices_known h p.0 (get_or units p.0 []) accepted p.2.there (are p.0 p.2.there)).unit.1 (q.0, q.1 p.0 p.2.there)) p.2.faulty)
third_one h n units a b accepted are (inr p) (inl q) =
    absurd (both (fault_in h units q.0) q.1 ((slices_known h q.0 (get_or units q.0 []) accepted q.2.there (are q.0 q.2.there)).unit.1 (p.0, p.1 q.0 q.2.there)) q.2.faulty)
third_one h n units a b accepted are (inr p) (inr q) = fourth_one h n units p.0 q.0 a b accepted p.1 q.1 p.2 q.2

one_units : (held : Held) (h : Header) (units others : List (List ℕ)) → AreUnits held h units → AreUnits held h others → units ≡ others
one_units held h units others p q = ext_get_or [] units others (p.count ∙ sym q.count) (λ k below.
    let there : k < slice_count h = omega (arith, below, p.count) in one_unit held (slice_unit k) (get_or units k []) (get_or others k []) (p.each k there) (q.each k there))

-- a list of missing slices that is not empty, and whole units
not_both : (held : Held) (h : Header) (slices : List ℕ) (units : List (List ℕ)) → AreMissing held (slice_count h) slices → (slices ≡ [] → ⊥) → AreUnits held h units → ⊥
not_both held h [] units missing some whole = some refl
not_both held h (slice ∷ slices) units missing some whole =
    let p = (missing.those slice).0 (here slice slices) in
    let has = whole.each slice p.0 in
    p.1 (has.0, has.1)

second_one : (held : Held) (h : Header) (n : ℕ) (a b : Received) → IsAccepted h → ((unit : ℕ) (bytes : List ℕ) → HasBytes held unit bytes → AreBytes bytes) → Second held h n a → Second held h n b → a ≡ b
second_one held h n a b accepted are (inl p) (inl q) = p.3 ∙ ap (received.Missing false) (one_ascending (λ slice. (slice < slice_count h) × ¬ IsWholeUnit held (slice + 1)) p.0 q.0 p.1 q.1) ∙ sym q.3
second_one held h n a b accepted are (inl p) (inr q) = absurd (not_both held h p.0 q.0 p.1 p.2 q.1)
second_one held h n a b accepted are (inr p) (inl q) = absurd (not_both held h q.0 p.0 q.1 q.2 p.1)
second_one held h n a b accepted are (inr p) (inr q) =
    third_one h n p.0 a b accepted (λ slice there. are (slice_unit slice) (get_or p.0 slice []) (p.1.each slice there)) p.2 (subst (λ l. Third h n l b) (sym (one_units held h p.0 q.0 p.1 q.1)) q.2)

module _ (held : Held) (are : (unit : ℕ) (bytes : List ℕ) → HasBytes held unit bytes → AreBytes bytes) where
  -- a header and a fault
  no_fault : (h : Header) (n : ℕ) (bytes : List ℕ) (fault : HeadFault) → HasHeader held h n → HasBytes held 0 bytes → header_unit_fault bytes ≡ Some fault → ⊥
  no_fault h n bytes fault headed whole some =
      let same = one_unit held 0 bytes headed.bytes whole headed.whole in
      both (header_unit_fault bytes) fault (ap header_unit_fault same ∙ ((header_units_known headed.bytes (are 0 headed.bytes headed.whole)).read h n headed.spelled).0) some

  one_header : (h other : Header) (n m : ℕ) → HasHeader held h n → HasHeader held other m → ◌≡◌ {A = Header × ℕ} (h, n) (other, m)
  one_header h other n m p q =
      let same = one_unit held 0 p.bytes q.bytes p.whole q.whole in
      sym ((header_units_known p.bytes (are 0 p.bytes p.whole)).read h n p.spelled).1 ∙ ap header_unit_at same ∙ ((header_units_known q.bytes (are 0 q.bytes q.whole)).read other m q.spelled).1

  first_one : (a b : Received) → First held a → First held b → a ≡ b
  first_one a b (inl p) (inl q) = p.1 ∙ sym q.1
  first_one a b (inl p) (inr (inl q)) = absurd (p.0 (q.2.0, q.2.1))
  first_one a b (inl p) (inr (inr q)) = absurd (p.0 (q.2.whole.0, q.2.whole.1))
  first_one a b (inr (inl p)) (inl q) = absurd (q.0 (p.2.0, p.2.1))
  first_one a b (inr (inr p)) (inl q) = absurd (q.0 (p.2.whole.0, p.2.whole.1))
  first_one a b (inr (inl p)) (inr (inl q)) =
      let same = one_unit held 0 p.0 q.0 p.2 q.2 in
      p.4 ∙ ap (λ f. received.Damaged (damage.Head f)) (some_one p.1 q.1 (sym p.3 ∙ ap header_unit_fault same ∙ q.3)) ∙ sym q.4
  first_one a b (inr (inl p)) (inr (inr q)) = absurd (no_fault q.0 q.1 p.0 p.1 q.2 p.2 p.3)
  first_one a b (inr (inr p)) (inr (inl q)) = absurd (no_fault p.0 p.1 q.0 q.1 p.2 q.2 q.3)
  first_one a b (inr (inr p)) (inr (inr q)) =
      let same = one_header p.0 q.0 p.1 q.1 p.2 q.2 in
      second_one held p.0 p.1 a b p.2.spelled.4.accepted are p.3 (subst (λ (x : Header × ℕ). Second held x.0 x.1 b) (sym same) q.3)

pub one_answer : OneAnswer
one_answer offers held answer other are selection p q = first_one held (are_bytes offers held are selection) answer other (staged held answer p) (staged held other q)

pub answer_of_set : AnswerOfSet
answer_of_set offers others timestamp a b answer other same are times agree first second p q =
    one_answer offers b answer other are back (subst (λ held. IsReceived held answer) one p) q
  where
    back : IsSelection offers b
    back = selection_of_set others offers b (λ x. ((same x).1, (same x).0)) second

    one : a ≡ b
    one = fun_ext (λ unit. fun_ext (λ place. one_selection offers timestamp times agree a b first back unit place))
