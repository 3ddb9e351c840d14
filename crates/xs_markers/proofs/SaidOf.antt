-- What the tables of a header say, read from their bodies.
use Rattle.std.specs.Prelude.{◌⊎◌}
use Rattle.std.proofs.Common.{◌≡◌, ℕ, ◌+◌, ◌*◌, ◌^◌, ◌≤◌, min, max, Bool, true, false, List, [], ◌++◌, map, length, get_or, refl, sym, ap, subst, ◌∙◌, arith, inl, inr}
use Rattle.xs_lists.specs.Bits.{bit_of, bits_of_bytes, bits_of_fields, FieldsFit}
use Rattle.xs_lists.specs.Fields.{field, half_word_at}
use Rattle.xs_lists.proofs.Bits.{length-bits_of_bytes}
use Rattle.xs_lists.proofs.Cut.{fields_agree}
use Rattle.xs_layout.specs.Geometry.{components_of, narrowest_width, slice_count_of}
use Rattle.xs_layout.specs.Limits.{least_width, most_width, least_height, most_height, most_area, IsPrecision, fq_of, most_across, most_down, most_slices, most_run_mode}
use Rattle.xs_layout.specs.declared.Format.{Format}
use Rattle.xs_layout.specs.declared.Format.TheVariants.{Mono, C422, C444}
use Rattle.xs_layout.specs.declared.Quant.{Quant}
use Rattle.xs_layout.specs.declared.Quant.TheVariants.{DeadZone, Uniform}
use Rattle.xs_params.specs.declared.header.Header.{Header}
use Rattle.xs_params.specs.Accepted.{IsAccepted, IsGeometry}
use Rattle.xs_grammar.specs.Header.{quant_code, picture_fields, component_fields, weight_fields}
use Rattle.xs_grammar.proofs.Coded.{length-widths}
use Rattle.xs_markers.specs.declared.picture.PictureFields.{PictureFields}
use Rattle.xs_markers.specs.Segments.{picture_fields_of, bands_of_fields}
use Rattle.xs_markers.specs.Values.{byte_at}
use Rattle.xs_markers.proofs.Accepted.{Taken, IsColour, slices_same}
use Rattle.xs_markers.proofs.Bodies.{fields_of, weights_widths}
use Rattle.xs_markers.proofs.Cut.{IsBytes}
use Rattle.xs_markers.proofs.FieldsRead.{picture_read, picture_bits, picture_room, components_from, components_bits, components_room}
use Rattle.xs_markers.proofs.TakenTable.{TakenTable, fields_seen}

-- The picture header

-- its fields say this of the header
pub record IsOf (h : Header) (p : PictureFields) : Type 0 where
  pub width : h.shape.width ≡ p.wf
  pub nlx : h.nlx ≡ p.nlx
  pub nly : h.nly ≡ p.nly
  pub count : components_of h.shape.format ≡ p.nc
  pub colour : bit_of h.colour ≡ p.cpih

pub picture_size : (fields : List (ℕ × ℕ)) (x : List ℕ) → bits_of_bytes x ≡ bits_of_fields fields → (h : Header) (profile level raw_line : ℕ) → fields ≡ picture_fields h profile level raw_line → length x ≡ 24
picture_size fields x spelled h profile level raw_line same =
    let bits : 8 * length x ≡ 192 = sym (length-bits_of_bytes x) ∙ ap length (spelled ∙ ap bits_of_fields same) ∙ length-widths (picture_fields h profile level raw_line) in
    omega (arith, bits)

quant_most : (quant : Quant) → quant_code quant ≤ 1
quant_most DeadZone = omega arith
quant_most Uniform = omega arith

bit_most : (test : Bool) → bit_of test ≤ 1
bit_most true = omega arith
bit_most false = omega arith

either_count : (format : Format) → (components_of format ≡ 1) ⊎ (components_of format ≡ 3)
either_count Mono = inl refl
either_count C422 = inr refl
either_count C444 = inr refl

colour_of : (colour : Bool) (format : Format) → (colour ≡ true → format ≡ C444) → IsColour (bit_of colour) (components_of format)
colour_of false format h = inl refl
colour_of true format h = inr (refl, ap components_of (h refl))

pub record IsPictureOf (h : Header) (body : List ℕ) : Type 0 where
  pub taken : Taken (picture_fields_of body)
  pub of : IsOf h (picture_fields_of body)

pub picture_said : (h : Header) (profile level raw_line : ℕ) (x : List ℕ) → IsBytes x → length x ≡ 24 → IsAccepted h
    → FieldsFit (picture_fields h profile level raw_line) → bits_of_bytes x ≡ bits_of_fields (picture_fields h profile level raw_line) → IsPictureOf h x
picture_said h profile level raw_line x small size accepted room spelled = record {
  taken = record {
    wf = subst (λ n. (least_width ≤ n) × (n ≤ most_width)) width g.shape.width;
    hf = subst (λ n. (least_height ≤ n) × (n ≤ most_height)) height g.shape.height;
    area = subst (λ n. n ≤ most_area) (ap (λ n. n * h.shape.height) width ∙ ap (λ n. half_word_at x 8 * n) height) g.shape.area;
    cw = sym (at 5);
    hsl = subst (λ n. 1 ≤ n) hsl g.hsl;
    nc = subst (λ n. (n ≡ 1) ⊎ (n ≡ 3)) components (either_count h.shape.format);
    ng = sym (at 8);
    ss = sym (at 9);
    bw = subst IsPrecision bw accepted.bits.0;
    fq = sym fq ∙ accepted.bits.1 ∙ ap fq_of bw;
    br = sym (at 12);
    fslc = sym (at 13);
    ppoc = sym (at 14);
    cpih = subst (λ n. IsColour n (byte_at x 16)) colour (subst (IsColour (bit_of h.colour)) components (colour_of h.colour h.shape.format accepted.colour));
    nlx = subst (λ n. (1 ≤ n) × (n ≤ most_across)) nlx g.nlx;
    nly = subst (λ n. n ≤ min most_down (field 4 4 (byte_at x 22))) nly (subst (λ n. h.nly ≤ min most_down n) nlx g.nly);
    slices =
        subst (λ n. n ≤ most_slices) (
        slices_same h.shape.height h.nly h.hsl g.hsl ∙ ap (λ n. slice_count_of n h.nly (max 1 h.hsl)) height
        ∙ ap (λ n. slice_count_of (half_word_at x 10) n (max 1 h.hsl)) nly ∙ ap (λ n. slice_count_of (half_word_at x 10) (field 4 0 (byte_at x 22)) (max 1 n)) hsl)
        g.slices;
    qpih = subst (λ n. n ≤ 1) (at 20) (quant_most h.quant);
    fs = subst (λ n. n ≤ 1) (at 21) (bit_most h.signs_apart);
    rm = subst (λ n. n ≤ most_run_mode) (at 22) accepted.run_mode;
  };
  of = record { width = width; nlx = nlx; nly = nly; count = components; colour = colour };
}
  where
    g : IsGeometry h
    g = accepted.geometry

    same : map (λ (f : ℕ × ℕ). f.1) (picture_fields h profile level raw_line) ≡ map (λ (f : ℕ × ℕ). f.1) (picture_read x)
    same = (fields_agree (picture_fields h profile level raw_line) (picture_read x) [] [] refl room (picture_room x small size) (ap (λ l. l ++ []) (sym spelled ∙ picture_bits x small size))).0

    at : (i : ℕ) → get_or (map (λ (f : ℕ × ℕ). f.1) (picture_fields h profile level raw_line)) i 0 ≡ get_or (map (λ (f : ℕ × ℕ). f.1) (picture_read x)) i 0
    at i = ap (λ l. get_or l i 0) same

    width : h.shape.width ≡ half_word_at x 8
    width = at 3

    height : h.shape.height ≡ half_word_at x 10
    height = at 4

    hsl : h.hsl ≡ half_word_at x 14
    hsl = at 6

    components : components_of h.shape.format ≡ byte_at x 16
    components = at 7

    bw : h.bw ≡ byte_at x 19
    bw = at 10

    fq : h.fq ≡ field 4 4 (byte_at x 20)
    fq = at 11

    colour : bit_of h.colour ≡ field 4 0 (byte_at x 21)
    colour = at 15

    nlx : h.nlx ≡ field 4 4 (byte_at x 22)
    nlx = at 16

    nly : h.nly ≡ field 4 0 (byte_at x 22)
    nly = at 17

-- The table of components

table_bits : (format : Format) (depth : ℕ) (y : List ℕ) → bits_of_bytes y ≡ bits_of_fields (fields_of format depth) → length y ≡ 2 * components_of format
table_bits Mono depth y spelled =
    let bits : 8 * length y ≡ 16 = sym (length-bits_of_bytes y) ∙ ap length spelled ∙ length-widths (fields_of Mono depth) in
    omega (arith, bits)
table_bits C422 depth y spelled =
    let bits : 8 * length y ≡ 48 = sym (length-bits_of_bytes y) ∙ ap length spelled ∙ length-widths (fields_of C422 depth) in
    omega (arith, bits)
table_bits C444 depth y spelled =
    let bits : 8 * length y ≡ 48 = sym (length-bits_of_bytes y) ∙ ap length spelled ∙ length-widths (fields_of C444 depth) in
    omega (arith, bits)

widths_same : (format : Format) (depth : ℕ) (y : List ℕ) → map (λ (f : ℕ × ℕ). f.0) (fields_of format depth) ≡ map (λ (f : ℕ × ℕ). f.0) (components_from y 0 (components_of format))
widths_same Mono depth y = refl
widths_same C422 depth y = refl
widths_same C444 depth y = refl

plain_colour : (h : Header) → IsAccepted h → h.shape.format ≡ C422 → bit_of h.colour ≡ 0
plain_colour h accepted half = go h.colour refl
  where
    go : (t : Bool) → h.colour ≡ t → bit_of t ≡ 0
    go false e = refl
    go true e = absurd (differ (sym half ∙ accepted.colour e))
      where
        differ : C422 ≡ C444 → ⊥
        differ same = cc same

pub record IsTableOf (h : Header) (p : PictureFields) (body : List ℕ) : Type 0 where
  pub size : length body ≡ 2 * p.nc
  pub taken : TakenTable p body

pub table_said : (h : Header) (p : PictureFields) (y : List ℕ) → IsBytes y → IsAccepted h → IsOf h p → FieldsFit (component_fields h) → bits_of_bytes y ≡ bits_of_fields (component_fields h) → IsTableOf h p y
table_said h p y small accepted of room spelled =
    let size = table_bits h.shape.format h.shape.depth y spelled in
    let read = components_from y 0 (components_of h.shape.format) in
    let values : map (λ (f : ℕ × ℕ). f.1) (fields_of h.shape.format h.shape.depth) ≡ map (λ (f : ℕ × ℕ). f.1) read =
    (fields_agree (fields_of h.shape.format h.shape.depth) read [] [] (widths_same h.shape.format h.shape.depth y) room (components_room y 0 (components_of h.shape.format) small)
    (ap (λ l. l ++ []) (sym spelled ∙ components_bits y (components_of h.shape.format) size))).0 in
    let narrow : 2 ^ p.nlx ≤ narrowest_width h.shape.format p.wf =
    subst (λ n. 2 ^ n ≤ narrowest_width h.shape.format p.wf) of.nlx (subst (λ n. 2 ^ h.nlx ≤ narrowest_width h.shape.format n) of.width accepted.geometry.narrow) in
    record {
      size = size ∙ ap (λ n. 2 * n) of.count;
      taken = (fields_seen p y h.shape.format h.shape.depth (sym of.count) accepted.geometry.shape.depth (λ half. sym of.colour ∙ plain_colour h accepted half) narrow values).0;
    }

-- The table of weights

pub weights_said : (h : Header) (p : PictureFields) (z : List ℕ) → IsAccepted h → IsOf h p → bits_of_bytes z ≡ bits_of_fields (weight_fields h) → length z ≡ 2 * bands_of_fields p
weights_said h p z accepted of spelled =
    let count : length h.weights ≡ bands_of_fields p =
    accepted.weights ∙ ap (λ n. (2 * n + h.nlx + 1) * components_of h.shape.format) of.nly ∙ ap (λ n. (2 * p.nly + n + 1) * components_of h.shape.format) of.nlx
    ∙ ap (λ n. (2 * p.nly + p.nlx + 1) * n) of.count in
    let bits : 8 * length z ≡ 16 * length h.weights = sym (length-bits_of_bytes z) ∙ ap length spelled ∙ length-widths (weight_fields h) ∙ weights_widths h.weights in
    halved (length z) (length h.weights) bits ∙ ap (λ n. 2 * n) count
  where
    halved : (size count : ℕ) → 8 * size ≡ 16 * count → size ≡ 2 * count
    halved size count e = omega (arith, e)
