-- Settings of which none is refused are in their ranges.
use Rattle.std.proofs.Common.{◌≡◌, ℕ, suc, ◌+◌, ◌-◌, ◌*◌, ◌^◌, ◌<◌, ◌≤◌, Bool, true, false, List, [], ◌∷◌, ◌++◌, ◌∙◌, sym, length, refl, arith, inl, inr, IsTrue}
use Rattle.std.specs.Prelude.{not, ◌&&◌, ◌||◌, nat_eq, nat_lt, nat_le, is_some, if◌then◌else◌, Option, Some, None, IfSome, All, position, min}
use Rattle.std.specs.List.{AllByRecursion, position_or_len}
use Rattle.std.proofs.Common.{cond}
use Rattle.std.proofs.lemmas.List.Elements.{All-nil, All-cons, All-weaker}
use Rattle.std.specs.Option.{option_and_then, option_or}
use Rattle.std.proofs.lemmas.Bool.{or_parts, or_cases, and_parts, not-false, not-true, ltb-false, leb-true, leb-false, eqb-true}
use Rattle.xs_lists.specs.First.{first_of}
use Rattle.xs_layout.specs.Geometry.{narrowest_width}
use Rattle.xs_layout.specs.declared.Format.{Format}
use Rattle.xs_layout.specs.declared.Format.TheVariants.{Mono, C422, C444}
use Rattle.xs_layout.specs.declared.Weight.{Weight}
use Rattle.xs_params.specs.declared.settings.Settings.{Settings}
use Rattle.xs_layout.specs.Limits.{least_width, most_width, least_height, most_height, most_area, is_depth, IsDepth, is_precision, IsPrecision, most_across, most_down, most_slices, most_gain, least_chunk, most_chunk, least_share, most_share, header_room, most_stream, least_payload_type, most_payload_type, most_first_timestamp, most_step, most_boxes, most_workers, most_feeders, most_port}
use Rattle.xs_lists.specs.Packing.{AreBytes}
use Rattle.xs_params.specs.Picture.{IsShape}
use Rattle.xs_params.specs.Check.{is_share, is_outside, is_c444, bands_of_settings, slices_of_settings, are_boxes, weights_fault, shape_refusals, layout_refusals, band_refusals, packet_refusals, thread_refusals, port_refusals, IsChecked, AreWeights, AreInRange}
use Rattle.xs_params.specs.declared.settings.Setting.{Setting}
use Rattle.xs_layout.specs.declared.Shape.{Shape}
use Rattle.xs_params.proofs.Boxes.{boxes_told}
use Rattle.xs_params.proofs.Refusals.{first_of-append}

-- where there is no answer, no test holds
go_on : {A : Type 0} (test : Bool) (answer : A) (rest : Option A) → (if test then Some answer else rest) ≡ None → (test ≡ false) × (rest ≡ None)
go_on true answer rest e = absurd (cc e)
go_on false answer rest e = (refl, e)

no_refusal : {A : Type 0} (rows : List (Bool × A)) → first_of rows ≡ None → AllByRecursion (λ (row : Bool × A). row.0 ≡ false) rows
no_refusal [] e = tt
no_refusal (row ∷ rows) e = let parts = go_on row.0 row.1 (first_of rows) e in (parts.0, no_refusal rows parts.1)

inside : (low high value : ℕ) → is_outside low high value ≡ false → (low ≤ value) × (value ≤ high)
inside low high value e =
    let parts = or_parts (nat_lt value low) (nat_lt high value) e in
    (ltb-false value low parts.0, ltb-false high value parts.1)

one_of_three : (depth : ℕ) → not (is_depth depth) ≡ false → IsDepth depth
one_of_three depth e = elim (or_cases (nat_eq depth 8 || nat_eq depth 10) (nat_eq depth 12) (not-false (is_depth depth) e)) [
  | inl few ↦ elim (or_cases (nat_eq depth 8) (nat_eq depth 10) few) [ inl p ↦ inl (eqb-true depth 8 p) | inr p ↦ inr (inl (eqb-true depth 10 p)) ]
  | inr p ↦ inr (inr (eqb-true depth 12 p))
]

one_of_two : (bw : ℕ) → not (is_precision bw) ≡ false → IsPrecision bw
one_of_two bw e = elim (or_cases (nat_eq bw 18) (nat_eq bw 20) (not-false (is_precision bw) e)) [ inl p ↦ inl (eqb-true bw 18 p) | inr p ↦ inr (eqb-true bw 20 p) ]

colour_in : (colour : Bool) (format : Format) → (colour && not (is_c444 format)) ≡ false → IsTrue colour → format ≡ C444
colour_in true Mono e t = absurd (cc e)
colour_in true C422 e t = absurd (cc e)
colour_in true C444 e t = refl
colour_in false format e t = absurd (cc t)

-- a list in which no item passes
pub none_pass : {A : Type 0} (test : A → Bool) (items : List A) → length items ≤ position_or_len test items → All (λ item. test item ≡ false) items
none_pass test [] past = All-nil (λ item. test item ≡ false)
none_pass test (item ∷ items) past =
    let parts = next (test item) (position_or_len test items) (length items) past in
    All-cons (λ item. test item ≡ false) item items parts.0 (none_pass test items parts.1)
  where
    next : (t : Bool) (place count : ℕ) → suc count ≤ cond (not t) (1 + place) 0 → (t ≡ false) × (count ≤ place)
    next true place count p = absurd (omega (arith, p))
    next false place count p = (refl, omega (arith, p))

no_place : (test : Bool) (answer : Option ℕ) (other : ℕ) → is_some (if test then answer else Some other) ≡ false → (test ≡ true) × (is_some answer ≡ false)
no_place true answer other e = (refl, e)
no_place false answer other e = absurd (cc e)

pub not_found : (test : Bool) (place : ℕ) → is_some (if test then Some place else None) ≡ false → test ≡ false
not_found true place e = absurd (cc e)
not_found false place e = refl

abbrev is_bad : ℕ → Weight → Bool
is_bad bands weight = nat_lt most_gain weight.gain || nat_le bands weight.priority

weights_in : (bands : ℕ) (weights : Option (List Weight)) → is_some (option_and_then (weights_fault bands) weights) ≡ false → IfSome weights (AreWeights bands)
weights_in bands None e = tt
weights_in bands (Some weights) e =
    let parts = no_place (nat_eq (length weights) bands) (position (is_bad bands) weights) (length weights) e in
    let past = ltb-false (position_or_len (is_bad bands) weights) (length weights) (not_found (nat_lt (position_or_len (is_bad bands) weights) (length weights)) (position_or_len (is_bad bands) weights) parts.1) in
    let good = none_pass (is_bad bands) weights past in
    record {
      one_each = eqb-true (length weights) bands parts.0;
      gains =
          All-weaker (λ (w : Weight). is_bad bands w ≡ false) (λ (w : Weight). w.gain ≤ most_gain) (λ w p. ltb-false most_gain w.gain (or_parts (nat_lt most_gain w.gain) (nat_le bands w.priority) p).0) weights good;
      priorities =
          All-weaker (λ (w : Weight). is_bad bands w ≡ false) (λ (w : Weight). w.priority < bands) (λ w p. leb-false bands w.priority (or_parts (nat_lt most_gain w.gain) (nat_le bands w.priority) p).1) weights good;
    }

shape_in : (shape : Shape) → AllByRecursion (λ (row : Bool × Setting). row.0 ≡ false) (shape_refusals shape) → IsShape shape
shape_in shape rows =
    let heights = or_parts (is_outside least_height most_height shape.height) (nat_lt most_area (shape.width * shape.height)) rows.1.0 in
    record {
      width = inside least_width most_width shape.width rows.0;
      height = inside least_height most_height shape.height heights.0;
      area = ltb-false most_area (shape.width * shape.height) heights.1;
      depth = one_of_three shape.depth rows.1.1.0;
    }

pub record InLayout (s : Settings) : Type 0 where
  pub bits : IsPrecision s.bits
  pub nlx : (1 ≤ s.nlx) × (s.nlx ≤ most_across)
  pub narrow : 2 ^ s.nlx ≤ narrowest_width s.shape.format s.shape.width
  pub nly : s.nly ≤ min most_down s.nlx
  pub hsl : (1 ≤ s.hsl) × (s.hsl < 2 ^ 16)
  pub slices : slices_of_settings s ≤ most_slices

pub layout_in : (s : Settings) → first_of (layout_refusals s) ≡ None → InLayout s
layout_in s none =
    let rows = no_refusal (layout_refusals s) none in
    let levels = or_parts (is_outside 1 most_across s.nlx) (nat_lt (narrowest_width s.shape.format s.shape.width) (2 ^ s.nlx)) rows.1.0 in
    let slices = or_parts (is_outside 1 (2 ^ 16 - 1) s.hsl) (nat_lt most_slices (slices_of_settings s)) rows.1.1.1.0 in
    let slice = inside 1 (2 ^ 16 - 1) s.hsl slices.0 in
    record {
      bits = one_of_two s.bits rows.0;
      nlx = inside 1 most_across s.nlx levels.0;
      narrow = ltb-false (narrowest_width s.shape.format s.shape.width) (2 ^ s.nlx) levels.1;
      nly = ltb-false (min most_down s.nlx) s.nly rows.1.1.0;
      hsl = (slice.0, omega (arith, slice.1));
      slices = ltb-false most_slices (slices_of_settings s) slices.1;
    }

share_in : (s : Settings) → not (is_share s) ≡ false → (least_share ≤ s.share) × (s.share ≤ most_share s.chunk) × (slices_of_settings s * s.share + header_room ≤ most_stream)
share_in s e =
    let out = is_outside least_share (most_share s.chunk) s.share in
    let parts = and_parts (not out) (nat_le (slices_of_settings s * s.share + header_room) most_stream) (not-false (is_share s) e) in
    let share = inside least_share (most_share s.chunk) s.share (not-true out parts.0) in
    (share.0, share.1, leb-true (slices_of_settings s * s.share + header_room) most_stream parts.1)

-- none of some rows is refused where none of more is
parts_none : {A : Type 0} (rows others : List (Bool × A)) → first_of (rows ++ others) ≡ None → (first_of rows ≡ None) × (first_of others ≡ None)
parts_none rows others e = none_of (first_of rows) (first_of others) (sym (first_of-append rows others) ∙ e)
  where
    none_of : {A : Type 0} (x y : Option A) → option_or x y ≡ None → (x ≡ None) × (y ≡ None)
    none_of None y p = (refl, p)
    none_of (Some x) y p = absurd (cc p)

pub in_range : (s : Settings) → AreBytes s.boxes → IsChecked s → AreInRange s
in_range s bytes checked =
    let threads = thread_refusals s.workers s.feeders in
    let to_port = parts_none (shape_refusals s.shape ++ layout_refusals s ++ band_refusals s ++ packet_refusals s ++ threads) (port_refusals s.port) checked.none in
    let to_threads = parts_none (shape_refusals s.shape ++ layout_refusals s ++ band_refusals s ++ packet_refusals s) threads to_port.0 in
    let to_packets = parts_none (shape_refusals s.shape ++ layout_refusals s ++ band_refusals s) (packet_refusals s) to_threads.0 in
    let to_bands = parts_none (shape_refusals s.shape ++ layout_refusals s) (band_refusals s) to_packets.0 in
    let to_layout = parts_none (shape_refusals s.shape) (layout_refusals s) to_bands.0 in
    let shape = shape_in s.shape (no_refusal (shape_refusals s.shape) to_layout.0) in
    let layout = layout_in s to_layout.1 in
    let bands = no_refusal (band_refusals s) to_bands.1 in
    let packets = no_refusal (packet_refusals s) to_packets.1 in
    let thread = no_refusal threads to_threads.1 in
    let port = no_refusal (port_refusals s.port) to_port.1 in
    let share = share_in s packets.1.0 in
    let boxes = or_parts (nat_lt most_boxes (length s.boxes)) (not (are_boxes 0 s.boxes)) packets.1.1.1.1.1.0 in
    let few = ltb-false most_boxes (length s.boxes) boxes.0 in
    record {
      shape = shape;
      bits = layout.bits;
      nlx = layout.nlx;
      narrow = layout.narrow;
      nly = layout.nly;
      hsl = layout.hsl;
      slices = layout.slices;
      colour = colour_in s.colour s.shape.format bands.0;
      weights = weights_in (bands_of_settings s) s.weights bands.1.0;
      chunk = inside least_chunk most_chunk s.chunk packets.0;
      share = (share.0, share.1);
      stream = share.2;
      payload_type = inside least_payload_type most_payload_type s.payload_type packets.1.1.0;
      first_timestamp = ltb-false most_first_timestamp s.first_timestamp packets.1.1.1.0;
      step = inside 1 most_step s.step packets.1.1.1.1.0;
      few_boxes = few;
      boxes = (boxes_told s.boxes bytes few).0 (not-false (are_boxes 0 s.boxes) boxes.1);
      workers = inside 1 most_workers s.workers thread.0;
      feeders = inside 1 most_feeders s.feeders thread.1.0;
      port = inside 1 most_port s.port port.0;
    }
