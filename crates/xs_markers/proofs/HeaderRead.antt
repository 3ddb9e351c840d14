-- The header that is read of bytes without a fault.
use Rattle.std.specs.Prelude.{◌⊎◌}
use Rattle.std.proofs.Common.{◌≡◌, ℕ, zero, suc, ◌+◌, ◌*◌, ◌/◌, ◌^◌, ◌<◌, ◌≤◌, true, false, nat_eq, nat_le, ◌&&◌, if◌then◌else◌, List, [], ◌∷◌, ◌++◌, length, take, drop, Option, Some, None, Ok, Err, Result, refl, sym, ap, subst, ◌∙◌, arith, inl, inr}
use Rattle.std.specs.Prelude.{is_none}
use Rattle.std.specs.List.{AllByRecursion, flat_map}
use Rattle.std.specs.Result.{result_unwrap_or}
use Rattle.std.proofs.lemmas.List.{take-append-drop}
use Rattle.std.proofs.lemmas.Bool.{or_cases, and_parts, leb-true, eqb-true}
use Rattle.xs_lists.specs.Bits.{bit_of, bits_of_fields, FieldsFit}
use Rattle.xs_lists.specs.Fields.{field, has_bit, half_word_at, word_at}
use Rattle.xs_lists.specs.Spelling.{BeginsWith}
use Rattle.xs_lists.proofs.FieldBits.{bit_of-eq}
use Rattle.xs_layout.specs.Geometry.{components_of}
use Rattle.xs_layout.specs.Limits.{IsDepth, most_slices}
use Rattle.xs_layout.specs.declared.Quant.TheVariants.{DeadZone, Uniform}
use Rattle.xs_layout.specs.declared.Shape.{Shape}
use Rattle.xs_layout.specs.declared.Weight.{Weight}
use Rattle.xs_params.specs.Accepted.{IsAccepted}
use Rattle.xs_params.specs.Markers.{soc, slh}
use Rattle.xs_faults.specs.declared.HeadFault.{HeadFault}
use Rattle.xs_grammar.specs.Header.{Segment, segment_bytes, pih_code, cdt_code, wgt_code, quant_code, picture_fields, component_fields, IsHeader, IsHeaderFront}
use Rattle.xs_markers.specs.declared.picture.PictureFields.{PictureFields}
use Rattle.xs_markers.specs.declared.seen.Seen.{Seen}
use Rattle.xs_markers.specs.Reading.{is_end, end_fault, segments_of, missing, weights_of, header_of_fields, header_of_seen, head_fault, header_at, header_end}
use Rattle.xs_markers.specs.Segments.{slh_code, nothing_seen, picture_fields_of, bands_of_fields, shape_of}
use Rattle.xs_markers.specs.Values.{byte_at, depth_at}
use Rattle.xs_markers.proofs.Accepted.{Taken, taken_fields, slices_same}
use Rattle.xs_markers.proofs.TakenTable.{TakenTable, taken_table, format_counts, colour_format, fields_same}
use Rattle.xs_markers.proofs.Cut.{IsBytes, half_word_bytes}
use Rattle.xs_markers.proofs.FieldsRead.{picture_read, picture_bits, picture_room, components_from, components_bits, components_room}
use Rattle.xs_markers.proofs.Found.{AreBefore, segments_found}
use Rattle.xs_markers.proofs.Refusals.{no_row, some_none}
use Rattle.xs_markers.proofs.Tables.{kept, IsPicture, IsTable, IsWeights, AreAll, AreTablesSeen}
use Rattle.xs_markers.proofs.Weights.{weights_count, weights_bits, weights_room}

-- The values are accepted

first_depth : (p : PictureFields) (body : List ℕ) (t : TakenTable p body) → IsDepth (depth_at body 0)
first_depth p body t = elim t.components [ inl one ↦ one.1.depth | inr all ↦ all.first.depth ]

pub fields_accept : (p : PictureFields) (body : List ℕ) (weights : List Weight) → Taken p → TakenTable p body → length weights ≡ bands_of_fields p → IsAccepted (header_of_fields p (shape_of p body) weights)
fields_accept p body weights t u count = record {
  geometry = record {
    shape = record { width = t.wf; height = t.hf; area = t.area; depth = first_depth p body u };
    hsl = t.hsl;
    nlx = t.nlx;
    nly = t.nly;
    slices = subst (λ n. n ≤ most_slices) (sym (slices_same p.hf p.nly p.hsl t.hsl)) t.slices;
    narrow = u.narrow;
  };
  bits = (t.bw, t.fq);
  colour = colour_format p body u t.cpih;
  run_mode = t.rm;
  weights = count ∙ ap (λ n. (2 * p.nly + p.nlx + 1) * n) (sym (format_counts p body u));
}

-- The fields are those that were read

-- the fields of a picture header, as numbers
listed : (lcod profile level wf hf cw hsl nc ng ss bw fq br fslc ppoc cpih nlx nly lh rl qpih fs rm : ℕ) → List (ℕ × ℕ)
listed lcod profile level wf hf cw hsl nc ng ss bw fq br fslc ppoc cpih nlx nly lh rl qpih fs rm =
    (32, lcod) ∷ (16, profile) ∷ (16, level) ∷ (16, wf) ∷ (16, hf) ∷ (16, cw) ∷ (16, hsl) ∷ (8, nc) ∷ (8, ng) ∷ (8, ss) ∷ (8, bw) ∷ (4, fq) ∷ (4, br)
    ∷ (1, fslc) ∷ (3, ppoc) ∷ (4, cpih) ∷ (4, nlx) ∷ (4, nly) ∷ (1, lh) ∷ (1, rl) ∷ (2, qpih) ∷ (2, fs) ∷ (2, rm) ∷ []

same_listed : (lcod profile level wf hf cw hsl nc ng ss bw fq br fslc ppoc cpih nlx nly lh long rl qpih fs rm count colour quant apart : ℕ)
    → cw ≡ 0 → count ≡ nc → ng ≡ 4 → ss ≡ 8 → br ≡ 4 → fslc ≡ 0 → ppoc ≡ 0 → colour ≡ cpih → lh ≡ long → quant ≡ qpih → apart ≡ fs
    → listed lcod profile level wf hf 0 hsl count 4 8 bw fq 4 0 0 colour nlx nly lh rl quant apart rm ≡ listed lcod profile level wf hf cw hsl nc ng ss bw fq br fslc ppoc cpih nlx nly long rl qpih fs rm
same_listed lcod profile level wf hf cw hsl nc ng ss bw fq br fslc ppoc cpih nlx nly lh long rl qpih fs rm count colour quant apart a b c d e f g h i j k = cc (a, b, c, d, e, f, g, h, i, j, k)

quant_told : (n : ℕ) → n ≤ 1 → quant_code (if nat_eq n 1 then Uniform else DeadZone) ≡ n
quant_told zero most = refl
quant_told (suc zero) most = refl
quant_told (suc (suc n)) most = absurd (omega (arith, most))

colour_told : (p : PictureFields) → Taken p → bit_of (nat_eq p.cpih 1) ≡ p.cpih
colour_told p t = bit_of-eq p.cpih (elim t.cpih [ inl none ↦ omega (arith, none) | inr both ↦ let one = both.0 in omega (arith, one) ])

picture_same : (body : List ℕ) (shape : Shape) (weights : List Weight) → Taken (picture_fields_of body) → components_of shape.format ≡ byte_at body 16 → shape.width ≡ half_word_at body 8 → shape.height ≡ half_word_at body 10
    → picture_fields (header_of_fields (picture_fields_of body) shape weights) (half_word_at body 4) (half_word_at body 6) (field 1 6 (byte_at body 23)) ≡ picture_read body
unfolding listed
picture_same body shape weights t count width height =
    let small : field 1 7 (byte_at body 23) < 2 = omega arith in
    let apart : bit_of (nat_eq (field 2 2 (byte_at body 23)) 1) ≡ field 2 2 (byte_at body 23) = bit_of-eq (field 2 2 (byte_at body 23)) (omega (arith, t.fs)) in
    ap (λ w. listed (word_at body 0) (half_word_at body 4) (half_word_at body 6) w shape.height 0 (half_word_at body 14) (components_of shape.format) 4 8 (byte_at body 19) (field 4 4 (byte_at body 20)) 4 0 0
    (bit_of (nat_eq (field 4 0 (byte_at body 21)) 1)) (field 4 4 (byte_at body 22)) (field 4 0 (byte_at body 22)) (bit_of (has_bit 7 (byte_at body 23))) (field 1 6 (byte_at body 23))
    (quant_code (if nat_eq (field 2 4 (byte_at body 23)) 1 then Uniform else DeadZone)) (bit_of (nat_eq (field 2 2 (byte_at body 23)) 1)) (field 2 0 (byte_at body 23))) width
    ∙ ap (λ w. listed (word_at body 0) (half_word_at body 4) (half_word_at body 6) (half_word_at body 8) w 0 (half_word_at body 14) (components_of shape.format) 4 8 (byte_at body 19) (field 4 4 (byte_at body 20)) 4 0 0
    (bit_of (nat_eq (field 4 0 (byte_at body 21)) 1)) (field 4 4 (byte_at body 22)) (field 4 0 (byte_at body 22)) (bit_of (has_bit 7 (byte_at body 23))) (field 1 6 (byte_at body 23))
    (quant_code (if nat_eq (field 2 4 (byte_at body 23)) 1 then Uniform else DeadZone)) (bit_of (nat_eq (field 2 2 (byte_at body 23)) 1)) (field 2 0 (byte_at body 23))) height
    ∙ same_listed (word_at body 0) (half_word_at body 4) (half_word_at body 6) (half_word_at body 8) (half_word_at body 10) (half_word_at body 12) (half_word_at body 14)
    (byte_at body 16) (byte_at body 17) (byte_at body 18) (byte_at body 19) (field 4 4 (byte_at body 20)) (field 4 0 (byte_at body 20))
    (field 1 7 (byte_at body 21)) (field 3 4 (byte_at body 21)) (field 4 0 (byte_at body 21)) (field 4 4 (byte_at body 22)) (field 4 0 (byte_at body 22))
    (bit_of (has_bit 7 (byte_at body 23))) (field 1 7 (byte_at body 23)) (field 1 6 (byte_at body 23)) (field 2 4 (byte_at body 23)) (field 2 2 (byte_at body 23)) (field 2 0 (byte_at body 23))
    (components_of shape.format) (bit_of (nat_eq (field 4 0 (byte_at body 21)) 1)) (quant_code (if nat_eq (field 2 4 (byte_at body 23)) 1 then Uniform else DeadZone)) (bit_of (nat_eq (field 2 2 (byte_at body 23)) 1))
    t.cw count t.ng t.ss t.br t.fslc t.ppoc (colour_told (picture_fields_of body) t) (bit_of-eq (field 1 7 (byte_at body 23)) small) (quant_told (field 2 4 (byte_at body 23)) t.qpih) apart

-- The segments spell it

header_of_all : (bytes : List ℕ) (end : ℕ) (x y z : Segment) (at : ℕ) (segments : List Segment) → IsPicture (picture_fields_of x.body) x → IsTable (picture_fields_of x.body) (shape_of (picture_fields_of x.body) y.body) y
    → IsWeights bytes (picture_fields_of x.body) at z → (kept segments ≡ x ∷ y ∷ z ∷ []) ⊎ (kept segments ≡ x ∷ z ∷ y ∷ [])
    → take end bytes ≡ soc ++ flat_map segment_bytes segments → AllByRecursion (λ (s : Segment). length s.body + 2 < 2 ^ 16) segments
    → IsHeader (header_of_fields (picture_fields_of x.body) (shape_of (picture_fields_of x.body) y.body) (weights_of z.body)) (take end bytes)
header_of_all bytes end x y z at segments picture table weights order joined short = record {
  accepted = fields_accept p y.body (weights_of z.body) t u (weights_count z.body ∙ halved (bands_of_fields p) (length z.body) weights.size);
  segments = segments;
  joined = joined;
  short = short;
  said = record {
    profile = half_word_at x.body 4;
    level = half_word_at x.body 6;
    raw_line = field 1 6 (byte_at x.body 23);
    picture = x;
    component = y;
    weight = z;
    order = order;
    picture_is = record {
      coded = picture.coded;
      room = subst FieldsFit (sym picture_is) (picture_room x.body picture.small picture.size);
      spelled = picture_bits x.body picture.small picture.size ∙ ap bits_of_fields (sym picture_is);
    };
    component_is = record {
      coded = table.coded;
      room = subst FieldsFit (sym table_is) (components_room y.body 0 p.nc table.small);
      spelled = components_bits y.body p.nc table.size ∙ ap bits_of_fields (sym table_is);
    };
    weight_is = record {
      coded = weights.coded;
      room = weights_room z.body weights.small;
      spelled = weights_bits z.body (bands_of_fields p) weights.size;
    };
  };
}
  where
    p : PictureFields
    p = picture_fields_of x.body

    t : Taken p
    t = taken_fields p picture.taken

    u : TakenTable p y.body
    u = taken_table p y.body t.nc table.taken

    halved : (bands size : ℕ) → size ≡ 2 * bands → size / 2 ≡ bands
    halved bands size e = omega (arith, e)

    picture_is : picture_fields (header_of_fields p (shape_of p y.body) (weights_of z.body)) (half_word_at x.body 4) (half_word_at x.body 6) (field 1 6 (byte_at x.body 23)) ≡ picture_read x.body
    picture_is = picture_same x.body (shape_of p y.body) (weights_of z.body) t (format_counts p y.body u) refl refl

    table_is : component_fields (header_of_fields p (shape_of p y.body) (weights_of z.body)) ≡ components_from y.body 0 p.nc
    table_is = fields_same p y.body u

-- of what was seen
pub header_seen : (bytes : List ℕ) (end : ℕ) (p : PictureFields) (shape : Shape) (at : ℕ) (segments : List Segment) → AreAll bytes p shape at (kept segments)
    → take end bytes ≡ soc ++ flat_map segment_bytes segments → AllByRecursion (λ (s : Segment). length s.body + 2 < 2 ^ 16) segments
    → IsHeader (header_of_fields p shape (weights_of (take (2 * bands_of_fields p) (drop at bytes)))) (take end bytes)
header_seen bytes end p shape at segments all joined short =
    let q = picture_fields_of all.x.body in
    let p_is : p ≡ q = sym all.picture.said in
    let table : IsTable q (shape_of q all.y.body) all.y = subst (λ r. IsTable r (shape_of r all.y.body) all.y) p_is (subst (λ s. IsTable p s all.y) (sym all.table.said) all.table) in
    let weights : IsWeights bytes q at all.z = subst (λ r. IsWeights bytes r at all.z) p_is all.weights in
    let picture : IsPicture q all.x = subst (λ r. IsPicture r all.x) p_is all.picture in
    let whole = header_of_all bytes end all.x all.y all.z at segments picture table weights all.order joined short in
    let shape_is : shape_of q all.y.body ≡ shape = ap (λ r. shape_of r all.y.body) (sym p_is) ∙ all.table.said in
    subst (λ w. IsHeader (header_of_fields p shape (weights_of w)) (take end bytes)) (sym all.weights.said)
    (subst (λ s. IsHeader (header_of_fields p s (weights_of all.z.body)) (take end bytes)) shape_is
    (subst (λ r. IsHeader (header_of_fields r (shape_of q all.y.body) (weights_of all.z.body)) (take end bytes)) (sym p_is) whole))

-- All three were seen where nothing is missing

pub record AreSeen (seen : Seen) : Type 0 where
  pub p : PictureFields
  pub shape : Shape
  pub at : ℕ
  pub all : seen ≡ record { picture = Some p; shape = Some shape; weights = Some at }

there : {A : Type 0} (o : Option A) → is_none o ≡ false → (x : A) × (o ≡ Some x)
there None e = absurd (cc e)
there (Some x) e = (x, refl)

seen_of : Option PictureFields → Option Shape → Option ℕ → Seen
seen_of picture shape weights = record { picture = picture; shape = shape; weights = weights }

pub all_seen : (bytes : List ℕ) (seen : Seen) (place : ℕ) → end_fault bytes seen place ≡ None → AreSeen seen
unfolding end_fault
all_seen bytes seen place e =
    let first = no_row (is_none seen.picture) (missing bytes place pih_code) _ e in
    let second = no_row (is_none seen.shape) (missing bytes place cdt_code) _ first.1 in
    let third = no_row (is_none seen.weights) (missing bytes place wgt_code) _ second.1 in
    let picture = there seen.picture first.0 in
    let shape = there seen.shape second.0 in
    let weights = there seen.weights third.0 in
    record { p = picture.0; shape = shape.0; at = weights.0; all = three seen.picture seen.shape seen.weights picture.0 shape.0 weights.0 picture.1 shape.1 weights.1 }
  where
    three : (a : Option PictureFields) (b : Option Shape) (c : Option ℕ) (p : PictureFields) (shape : Shape) (at : ℕ) → a ≡ Some p → b ≡ Some shape → c ≡ Some at
        → ◌≡◌ {A = Seen} (record { picture = a; shape = b; weights = c }) (record { picture = Some p; shape = Some shape; weights = Some at })
    three a b c p shape at x y z = cc (x, y, z)

-- what follows the header
pub follows : (bytes : List ℕ) (end : ℕ) → IsBytes bytes → end ≤ length bytes → is_end bytes end ≡ true → (end ≡ length bytes) ⊎ BeginsWith (drop end bytes) slh
follows bytes end small within e = elim (or_cases (nat_le (length bytes) end) (nat_le (end + 2) (length bytes) && nat_eq (half_word_at bytes end) slh_code) e) [
  | inl past ↦ let most = leb-true (length bytes) end past in inl (omega (arith, within, most))
  | inr here ↦
      let parts = and_parts (nat_le (end + 2) (length bytes)) (nat_eq (half_word_at bytes end) slh_code) here in
      let after = drop end bytes in
      inr (drop 2 after, sym (take-append-drop 2 after) ∙ ap (λ l. l ++ drop 2 after) (half_word_bytes bytes end slh_code small (leb-true (end + 2) (length bytes) parts.0) (eqb-true (half_word_at bytes end) slh_code parts.1)))
]

-- What was found is a header

pub record IsWholly (bytes : List ℕ) (found : Seen × ℕ) : Type 0 where
  pub seen : AreSeen found.0
  pub within : seen.at + 2 * bands_of_fields seen.p ≤ length bytes
  pub spelled : IsHeaderFront (header_of_seen bytes found.0) bytes found.1

wholly_of : (bytes : List ℕ) (seen : Seen) (end : ℕ) (are : AreSeen seen) → IsBytes bytes → AreBefore bytes end seen → is_end bytes end ≡ true → IsWholly bytes (seen, end)
wholly_of bytes seen end are small before ended =
    let all : AreAll bytes are.p are.shape are.at (kept before.segments) = subst (λ s. AreTablesSeen bytes s (kept before.segments)) are.all before.tables in
    record {
      seen = are;
      within = all.weights.within;
      spelled = (
        (before.within, subst (λ s. IsHeader (header_of_seen bytes s) (take end bytes)) (sym are.all) (header_seen bytes end are.p are.shape are.at before.segments all before.joined before.short)),
        follows bytes end small before.within ended,
      );
    }

pub wholly : (bytes : List ℕ) (found : Seen × ℕ) → IsBytes bytes → segments_of bytes ≡ Ok found → end_fault bytes found.0 found.1 ≡ None → IsWholly bytes found
wholly bytes found small e none =
    let is = segments_found bytes found small e in
    wholly_of bytes found.0 found.1 (all_seen bytes found.0 found.1 none) small is.before is.ended

-- the same by the names of what is read

abbrev pub fault_from : List ℕ → Result (Seen × ℕ) HeadFault → Option HeadFault
fault_from bytes (Err fault) = Some fault
fault_from bytes (Ok found) = end_fault bytes found.0 found.1

pub header_spelled : (bytes : List ℕ) → IsBytes bytes → head_fault bytes ≡ None → IsHeaderFront (header_at bytes) bytes (header_end bytes)
header_spelled bytes small e = go (segments_of bytes) refl e
  where
    go : (r : Result (Seen × ℕ) HeadFault) → segments_of bytes ≡ r → fault_from bytes r ≡ None
        → IsHeaderFront (header_of_seen bytes (result_unwrap_or r (nothing_seen, 0)).0) bytes (result_unwrap_or r (nothing_seen, 0)).1
    go (Err fault) same e = absurd (some_none fault e)
    go (Ok found) same e = (wholly bytes found small same e).spelled

-- The header in the words of its reader

-- what was seen of a header without a fault
pub record IsKnown (bytes : List ℕ) (seen : Seen) (end : ℕ) (p : PictureFields) (shape : Shape) (at : ℕ) : Type 0 where
  pub no_fault : head_fault bytes ≡ None
  pub within : at + 2 * bands_of_fields p ≤ length bytes
  pub header : header_at bytes ≡ header_of_fields p shape (weights_of (take (2 * bands_of_fields p) (drop at bytes)))
  pub ends : header_end bytes ≡ end
  pub spelled : IsHeaderFront (header_at bytes) bytes end

same_some : {A : Type 0} (x y : A) → Some x ≡ Some y → x ≡ y
same_some x y e = cc e

pub known : (bytes : List ℕ) (seen : Seen) (end : ℕ) (p : PictureFields) (shape : Shape) (at : ℕ) → IsBytes bytes → Ok (seen, end) ≡ segments_of bytes → None ≡ end_fault bytes seen end
    → seen.picture ≡ Some p → seen.shape ≡ Some shape → seen.weights ≡ Some at → IsKnown bytes seen end p shape at
known bytes seen end p shape at small found none picture_is shape_is at_is =
    let w = wholly bytes (seen, end) small (sym found) (sym none) in
    let p_same : w.seen.p ≡ p = same_some w.seen.p p (sym (ap (λ (s : Seen). s.picture) w.seen.all) ∙ picture_is) in
    let shape_same : w.seen.shape ≡ shape = same_some w.seen.shape shape (sym (ap (λ (s : Seen). s.shape) w.seen.all) ∙ shape_is) in
    let at_same : w.seen.at ≡ at = same_some w.seen.at at (sym (ap (λ (s : Seen). s.weights) w.seen.all) ∙ at_is) in
    let header : header_at bytes ≡ header_of_seen bytes seen = ap (λ (r : Result (Seen × ℕ) HeadFault). header_of_seen bytes (result_unwrap_or r (nothing_seen, 0)).0) (sym found) in
    record {
      no_fault = ap (fault_from bytes) (sym found) ∙ sym none;
      within = subst (λ q. at + 2 * bands_of_fields q ≤ length bytes) p_same (subst (λ n. n + 2 * bands_of_fields w.seen.p ≤ length bytes) at_same w.within);
      header =
          header ∙ ap (header_of_seen bytes) w.seen.all
          ∙ ap (λ q. header_of_fields q w.seen.shape (weights_of (take (2 * bands_of_fields q) (drop w.seen.at bytes)))) p_same
          ∙ ap (λ s. header_of_fields p s (weights_of (take (2 * bands_of_fields p) (drop w.seen.at bytes)))) shape_same
          ∙ ap (λ n. header_of_fields p shape (weights_of (take (2 * bands_of_fields p) (drop n bytes)))) at_same;
      ends = ap (λ (r : Result (Seen × ℕ) HeadFault). (result_unwrap_or r (nothing_seen, 0)).1) (sym found);
      spelled = subst (λ h. IsHeaderFront h bytes end) (sym header) w.spelled;
    }
