-- Each selection has an answer.
use Rattle.std.proofs.Common.{◌≡◌, ℕ, zero, suc, ◌+◌, ◌-◌, ◌^◌, ◌<◌, ◌≤◌, List, [], ◌∷◌, length, get_or, true, false, Option, Some, None, refl, sym, ap, subst, ◌∙◌, arith, inl, inr, Contains}
use mathlib.Core.Logic.{◌⊎◌}
use Rattle.std.specs.Prelude.{IfSome, ℤ, pos, negsuc}
use Rattle.std.proofs.lemmas.Bool.{cases_eq}
use Rattle.std.proofs.lemmas.Nat.{pow_pos}
use Rattle.std.proofs.lemmas.List.{get_or_default}
use Rattle.xs_lists.specs.Packing.{AreBytes}
use Rattle.xs_lists.proofs.Listing.{listing}
use Rattle.xs_params.specs.declared.header.Header.{Header}
use Rattle.xs_params.specs.Accepted.{IsAccepted}
use Rattle.xs_params.specs.Geometry.{slice_count}
use Rattle.xs_params.specs.Picture.{IsPlace, Picture, row_first, sample_count, width_of}
use Rattle.xs_params.specs.Rows.{Rows}
use Rattle.xs_params.proofs.Areas.{row_end}
use Rattle.xs_signal.specs.Samples.{clamped, scale_out}
use Rattle.xs_faults.specs.declared.SliceFault.{SliceFault}
use Rattle.xs_grammar.specs.Precinct.{Content}
use Rattle.xs_grammar.specs.Slice.{IsSliceUnit}
use Rattle.xs_reading.specs.Rows.{dequantised_rows}
use Rattle.xs_reading.specs.Slice.{no_content}
use Rattle.xs_reading.proofs.Whole.{slices_known}
use Rattle.xs_markers.specs.Units.{header_unit_at, header_unit_fault}
use Rattle.xs_markers.proofs.UnitsKnown.{header_units_known}
use Rattle.xs_decoding.specs.Decoded.{IsPictureOf, decoded_sample}
use Rattle.xs_capture.specs.Offer.{Offer}
use Rattle.xs_capture.specs.Selection.{AreMissing, HasBytes, Held, IsBounded, IsSelection, IsWholeUnit, unit_bytes}
use Rattle.xs_capture.proofs.Wholes.{whole_or_not}
use Rattle.xs_recv.specs.declared.received.Damage.TheVariants as damage
use Rattle.xs_recv.specs.declared.received.Received.{Received}
use Rattle.xs_recv.specs.declared.received.Received.TheVariants as received
use Rattle.xs_recv.specs.Received.{AreSpelled, AreUnits, HasHeader, IsDamagedAt, IsReceived, fault_in, slice_unit, stream_size}
use Rattle.xs_recv.specs.Laws.{AnswerExists, AreOffers}
use Rattle.xs_recv.proofs.Joined.{chosen_each, joined, unit_of_joined}
use Rattle.xs_recv.proofs.OneAnswer.{are_bytes}
use Rattle.xs_recv.proofs.Pictures.{units_of}
use Rattle.xs_recv.proofs.Samples.{one_place, place_of_index}

-- a value is there, or it is not
some_or_none : {A : Type 0} (o : Option A) → (o ≡ None) ⊎ ((x : A) × (o ≡ Some x))
some_or_none None = inl refl
some_or_none (Some x) = inr (x, refl)

-- nothing is held past the last place
bounded_of : (offers : List Offer) (held : Held) → AreOffers offers → IsSelection offers held → IsBounded held
bounded_of offers held are selection unit place past = go (held unit place) (selection.offered unit place)
  where
    go : (o : Option Offer) → IfSome o (λ p. Contains offers p × (p.unit ≡ unit) × (p.place ≡ place)) → o ≡ None
    go None p = refl
    go (Some q) p = let small = are.place q p.0 in absurd (omega (arith, small, p.2, past))

-- a slice is missing or it is not
missing_or_not : (held : Held) → IsBounded held → (slice : ℕ) → (¬ IsWholeUnit held (slice + 1)) ⊎ ¬ ¬ IsWholeUnit held (slice + 1)
missing_or_not held bounded slice = elim (whole_or_not held bounded (slice + 1)) [
  | inl whole ↦ inr (λ none. none whole)
  | inr none ↦ inl none
]

-- The picture of rows

clamped_small : (most : ℕ) (z : ℤ) → clamped most z ≤ most
clamped_small most (pos n) = omega arith
clamped_small most (negsuc n) = omega arith

scaled_small : (depth bw : ℕ) (z : ℤ) → scale_out depth bw z < 2 ^ depth
scaled_small depth bw z = below (clamped_small (2 ^ depth - 1) _) (pow_pos depth)
  where
    below : {a b : ℕ} → a ≤ b - 1 → 0 < b → a < b
    below less some = omega (arith, less, some)

-- the sample at an index is that of each place which has the index
abbrev IsSampleAt : Header → Rows → ℕ → ℕ → Type 0
IsSampleAt h rows k sample = (component row column : ℕ) → IsPlace h.shape component row column → row_first h.shape component row + column ≡ k → sample ≡ decoded_sample h rows component row column

sample_there : (h : Header) (rows : Rows) (k : ℕ) → k < sample_count h.shape → (sample : ℕ) × (IsSampleAt h rows k sample × (sample < 2 ^ h.shape.depth))
sample_there h rows k below =
    let place = place_of_index h.shape k below in (
      decoded_sample h rows place.0 place.1 place.2,
      (
        (λ component row column there same. moved (one_place h.shape place.0 place.1 place.2 component row column place.3 there (place.4 ∙ sym same))),
        scaled_small h.shape.depth h.bw _,
      ),
    )
  where
    moved : {a b c d e f : ℕ} → (a ≡ d) × (b ≡ e) × (c ≡ f) → decoded_sample h rows a b c ≡ decoded_sample h rows d e f
    moved {a} {b} {c} {d} {e} {f} p = ap (λ x. decoded_sample h rows x b c) p.0 ∙ ap (λ x. decoded_sample h rows d x c) p.1 ∙ ap (λ x. decoded_sample h rows d e x) p.2

picture_there : (h : Header) (rows : Rows) → IsAccepted h → (picture : Picture) × IsPictureOf h rows picture
picture_there h rows accepted = (
  record { shape = h.shape; samples = found.0 },
  record {
    whole = record {
      shaped = accepted.geometry.shape;
      size = found.1;
      small = λ k d below. small k d below;
    };
    shape = refl;
    samples = λ component row column there. (found.2 (row_first h.shape component row + column) (inside component row column there)).0 component row column there refl;
  },
)
  where
    found : (list : List ℕ) × (length list ≡ sample_count h.shape) × ((k : ℕ) → k < sample_count h.shape → IsSampleAt h rows k (get_or list k 0) × (get_or list k 0 < 2 ^ h.shape.depth))
    found = chosen_each (λ k sample. IsSampleAt h rows k sample × (sample < 2 ^ h.shape.depth)) 0 (sample_count h.shape) (sample_there h rows)

    inside : (component row column : ℕ) → IsPlace h.shape component row column → row_first h.shape component row + column < sample_count h.shape
    inside component row column there =
        within (row_first h.shape component row) (width_of h.shape component) column (sample_count h.shape) (row_end h.shape component row there.row_there) there.column_there
      where
        within : (first width column count : ℕ) → first + width ≤ count → column < width → first + column < count
        within first width column count p q = omega (arith, p, q)

    small : (k d : ℕ) → k < length found.0 → get_or found.0 k d < 2 ^ h.shape.depth
    small k d below = subst (λ n. n < 2 ^ h.shape.depth) (get_or_default found.0 k 0 d below) (found.2 k (subst (λ n. k < n) found.1 below)).1

-- Answers

abbrev HasAnswer : Held → Type 0
HasAnswer held = (answer : Received) × IsReceived held answer

-- the first slice that has a fault, if one has
first_damage : (h : Header) (units : List (List ℕ)) (n : ℕ) → n ≤ slice_count h → ((slice : ℕ) → slice < n → fault_in h units slice ≡ None) ⊎ ((slice : ℕ) × (fault : SliceFault) × IsDamagedAt h units slice fault)
first_damage h units zero few = inl (λ slice below. absurd (omega (arith, below)))
first_damage h units (suc n) few = elim (first_damage h units n (omega (arith, few))) [
  | inr damaged ↦ inr damaged
  | inl sound ↦ elim (some_or_none (fault_in h units n)) [
    | inr some ↦ inr (n, some.0, record { there = omega (arith, few); before = sound; faulty = some.1 })
    | inl none ↦ inl (λ slice below. elim (cases_eq slice n) [ inl same ↦ ap (fault_in h units) same ∙ none | inr other ↦ sound slice (omega (arith, below, other)) ])
  ]
]

-- all slices are in the grammar
of_content : (held : Held) (h : Header) (size : ℕ) → HasHeader held h size → (units : List (List ℕ)) → AreUnits held h units → (content : Content) → AreSpelled h content units → HasAnswer held
of_content held h size headed units whole content spelled =
    let picture = picture_there h (dequantised_rows h content) headed.spelled.4.accepted in
    elim (cases_eq h.lcod 0) [
      | inl none ↦ (received.Picture picture.0, (h, size, headed, units, whole, content, spelled, inl none, picture.1))
      | inr stated ↦ elim (cases_eq h.lcod (stream_size size units)) [
        | inl right ↦ (received.Picture picture.0, (h, size, headed, units, whole, content, spelled, inr right, picture.1))
        | inr wrong ↦ (received.Damaged (damage.Lcod h.lcod (stream_size size units)), (h, size, headed, units, whole, content, spelled, refl, stated, refl, wrong))
      ]
    ]

-- all slices are whole
of_units : (held : Held) (h : Header) (size : ℕ) → ((unit : ℕ) (bytes : List ℕ) → HasBytes held unit bytes → AreBytes bytes) → HasHeader held h size → (units : List (List ℕ)) → AreUnits held h units → HasAnswer held
of_units held h size are headed units whole = elim (first_damage h units (slice_count h) (omega arith)) [
  | inr damaged ↦ (received.Damaged (damage.Slice damaged.0 damaged.1), (h, size, headed, units, whole, damaged.2))
  | inl sound ↦
      let accepted = headed.spelled.4.accepted in
      let deep : h.nly ≤ h.nlx = omega (arith, accepted.geometry.nly) in
      let found = chosen_each (λ slice content. IsSliceUnit h content slice (get_or units slice [])) no_content (slice_count h)
      (λ slice there. (slices_known h slice (get_or units slice []) accepted there (are (slice_unit slice) (get_or units slice []) (whole.each slice there))).unit.0 (sound slice there)) in
      of_content held h size headed units whole (joined h found.0) (λ slice there. unit_of_joined h found.0 slice (get_or units slice []) accepted.geometry.hsl deep (found.2 slice there))
]

-- the header is read
of_header : (held : Held) (h : Header) (size : ℕ) → IsBounded held → ((unit : ℕ) (bytes : List ℕ) → HasBytes held unit bytes → AreBytes bytes) → HasHeader held h size → (slices : List ℕ) → AreMissing held (slice_count h) slices → HasAnswer held
of_header held h size bounded are headed [] missing = let units = units_of held h bounded missing in of_units held h size are headed units.0 units.1
of_header held h size bounded are headed (slice ∷ slices) missing = (received.Missing false (slice ∷ slices), (h, size, headed, missing, λ none. absurd (cc none)))

pub answer_exists : AnswerExists
answer_exists offers held are selection = elim (whole_or_not held bounded 0) [
  | inr none ↦ (received.Missing true [], (none, refl))
  | inl whole ↦ of_bytes (unit_bytes held 0 whole.0) (whole.0, whole.1, refl)
]
  where
    bounded : IsBounded held
    bounded = bounded_of offers held are selection

    bytes_are : (unit : ℕ) (bytes : List ℕ) → HasBytes held unit bytes → AreBytes bytes
    bytes_are = are_bytes offers held are selection

    of_bytes : (bytes : List ℕ) → HasBytes held 0 bytes → HasAnswer held
    of_bytes bytes whole = elim (some_or_none (header_unit_fault bytes)) [
      | inr some ↦ (received.Damaged (damage.Head some.0), (bytes, whole, some.1))
      | inl none ↦
          let h = (header_unit_at bytes).0 in
          let headed : HasHeader held (header_unit_at bytes).0 (header_unit_at bytes).1 = record { bytes = bytes; whole = whole; spelled = (header_units_known bytes (bytes_are 0 bytes whole)).spelled none } in
          let missing = listing (λ slice. ¬ IsWholeUnit held (slice + 1)) (missing_or_not held bounded) (slice_count (header_unit_at bytes).0) in
          of_header held (header_unit_at bytes).0 (header_unit_at bytes).1 bounded bytes_are headed missing.0 missing.1
    ]
