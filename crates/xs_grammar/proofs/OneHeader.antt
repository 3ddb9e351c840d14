-- Bytes are of one header.
use Rattle.std.proofs.Common.{◌≡◌, ℕ, suc, ◌+◌, ◌*◌, ◌/◌, ◌%◌, ◌^◌, ◌<◌, List, [], ◌∷◌, ◌++◌, map, length, refl, sym, ap, subst, ◌∙◌, arith, append_assoc, inl, inr}
use Rattle.std.proofs.lemmas.Bool.{eqb-true, or_cases}
use Rattle.std.specs.Prelude.{Bool, true, false, not, ◌||◌, ◌⊎◌, ◌≢◌, nat_eq, if◌then◌else◌}
use Rattle.std.specs.List.{AllByRecursion, flat_map, filter}
use Rattle.xs_layout.specs.declared.Format.{Format}
use Rattle.xs_layout.specs.declared.Format.TheVariants.{Mono, C422, C444}
use Rattle.xs_layout.specs.declared.Quant.{Quant}
use Rattle.xs_layout.specs.declared.Quant.TheVariants.{DeadZone, Uniform}
use Rattle.xs_layout.specs.declared.Weight.{Weight}
use Rattle.xs_params.specs.declared.header.Header.{Header}
use Rattle.xs_lists.specs.Bits.{bits_of_bytes}
use Rattle.xs_lists.specs.Spelling.{upto}
use Rattle.xs_lists.proofs.Cut.{append_cut, fields_agree, all-both}
use Rattle.xs_layout.specs.Geometry.{components_of, sampling_of}
use Rattle.xs_params.specs.Geometry.{bands_of}
use Rattle.xs_grammar.specs.Header.{Segment, segment_bytes, is_stepped_over, cap_code, com_code, crg_code, pih_code, cdt_code, wgt_code, quant_code, picture_fields, component_fields, weight_fields, IsSegment, AreSegmentsOf}
use Rattle.xs_params.specs.Markers.{soc}
use Rattle.xs_grammar.specs.Laws.{FollowsHeader, OneHeader}
use Rattle.xs_spelling.proofs.OneData.{bit_of-one}

-- a segment that may stand in a header
record Known (s : Segment) : Type 0 where
  code : s.code < 2 ^ 16
  other : s.code ≢ 0xff20
  size : length s.body + 2 < 2 ^ 16

-- the bytes of a segment do not begin what may follow a header
no_end : (s : Segment) (rest y : List ℕ) → Known s → FollowsHeader y → y ≡ segment_bytes s ++ rest → ⊥
no_end s rest y known (inl none) e = let n : 0 ≡ suc _ = ap length (sym none ∙ e) in omega (arith, n)
no_end s rest y known (inr begin) e =
    let high : 0xff ≡ s.code / 256 % 256 = cc (sym begin.1 ∙ e) in
    let low : 0x20 ≡ s.code % 256 = cc (sym begin.1 ∙ e) in
    known.other (omega (arith, high, low, known.code))

same_segment : (s t : Segment) (y z : List ℕ) → Known s → Known t → segment_bytes s ++ y ≡ segment_bytes t ++ z → (s ≡ t) × (y ≡ z)
same_segment s t y z p q e =
    let code_high : s.code / 256 % 256 ≡ t.code / 256 % 256 = cc e in
    let code_low : s.code % 256 ≡ t.code % 256 = cc e in
    let code : s.code ≡ t.code = omega (arith, code_high, code_low, p.code, q.code) in
    let size_high : (length s.body + 2) / 256 % 256 ≡ (length t.body + 2) / 256 % 256 = cc e in
    let size_low : (length s.body + 2) % 256 ≡ (length t.body + 2) % 256 = cc e in
    let size : length s.body ≡ length t.body = omega (arith, size_high, size_low, p.size, q.size) in
    let tail : s.body ++ y ≡ t.body ++ z = cc e in
    let cut = append_cut s.body t.body y z size tail in
    (ap (λ c. segment c s.body) code ∙ ap (λ b. segment t.code b) cut.0, cut.1)
  where
    segment : ℕ → List ℕ → Segment
    segment code body = record { code = code; body = body }

segments_agree : (xs ys : List Segment) (y z : List ℕ) → AllByRecursion Known xs → AllByRecursion Known ys → FollowsHeader y → FollowsHeader z
    → flat_map segment_bytes xs ++ y ≡ flat_map segment_bytes ys ++ z → (xs ≡ ys) × (y ≡ z)
segments_agree [] [] y z p q f g e = (refl, e)
segments_agree [] (t ∷ ys) y z p q f g e = absurd (no_end t (flat_map segment_bytes ys ++ z) y q.0 f (e ∙ append_assoc (segment_bytes t) (flat_map segment_bytes ys) z))
segments_agree (s ∷ xs) [] y z p q f g e = absurd (no_end s (flat_map segment_bytes xs ++ y) z p.0 g (sym e ∙ append_assoc (segment_bytes s) (flat_map segment_bytes xs) y))
segments_agree (s ∷ xs) (t ∷ ys) y z p q f g e =
    let here = same_segment s t (flat_map segment_bytes xs ++ y) (flat_map segment_bytes ys ++ z) p.0 q.0
    (sym (append_assoc (segment_bytes s) (flat_map segment_bytes xs) y) ∙ e ∙ append_assoc (segment_bytes t) (flat_map segment_bytes ys) z) in
    let rest = segments_agree xs ys y z p.1 q.1 f g here.1 in
    (ap (λ s. s ∷ xs) here.0 ∙ ap (λ l. t ∷ l) rest.0, rest.1)

-- the segments of a header may stand in one

stepped_known : (s : Segment) → is_stepped_over s ≡ true → (s.code < 2 ^ 16) × (s.code ≢ 0xff20)
stepped_known s e = one (or_cases (nat_eq s.code cap_code || nat_eq s.code com_code) (nat_eq s.code crg_code) e)
  where
    from : (code : ℕ) → s.code ≡ code → code < 2 ^ 16 → code ≢ 0xff20 → (s.code < 2 ^ 16) × (s.code ≢ 0xff20)
    from code same low other = (omega (arith, same, low), λ e. other (sym same ∙ e))

    two : (nat_eq s.code cap_code ≡ true) ⊎ (nat_eq s.code com_code ≡ true) → (s.code < 2 ^ 16) × (s.code ≢ 0xff20)
    two (inl e) = from cap_code (eqb-true s.code cap_code e) (omega arith) (λ e. absurd (omega (arith, e)))
    two (inr e) = from com_code (eqb-true s.code com_code e) (omega arith) (λ e. absurd (omega (arith, e)))

    one : ((nat_eq s.code cap_code || nat_eq s.code com_code) ≡ true) ⊎ (nat_eq s.code crg_code ≡ true) → (s.code < 2 ^ 16) × (s.code ≢ 0xff20)
    one (inl e) = two (or_cases (nat_eq s.code cap_code) (nat_eq s.code com_code) e)
    one (inr e) = from crg_code (eqb-true s.code crg_code e) (omega arith) (λ e. absurd (omega (arith, e)))

abbrev Coded : Segment → Type 0
Coded s = (s.code < 2 ^ 16) × (s.code ≢ 0xff20)

all_coded : (xs : List Segment) → AllByRecursion Coded (filter (λ s. not (is_stepped_over s)) xs) → AllByRecursion Coded xs
all_coded [] h = tt
all_coded (s ∷ xs) h = go (is_stepped_over s) (stepped_known s) h (all_coded xs)
  where
    kept : List Segment
    kept = filter (λ s. not (is_stepped_over s)) xs

    go : (t : Bool) → (t ≡ true → Coded s) → AllByRecursion Coded (if not t then s ∷ kept else kept) → (AllByRecursion Coded kept → AllByRecursion Coded xs) → Coded s × AllByRecursion Coded xs
    go true known h rest = (known refl, rest h)
    go false known h rest = (h.0, rest h.1)

of_code : (s : Segment) (code : ℕ) → s.code ≡ code → code < 2 ^ 16 → code ≢ 0xff20 → Coded s
of_code s code e low other = (omega (arith, e, low), λ d. other (sym e ∙ d))

segments_known : (h : Header) (segments : List Segment) → AllByRecursion (λ (s : Segment). length s.body + 2 < 2 ^ 16) segments → AreSegmentsOf h segments → AllByRecursion Known segments
segments_known h segments short said = all-both (λ (s : Segment). length s.body + 2 < 2 ^ 16) Coded Known segments (λ s size coded. record { code = coded.0; other = coded.1; size = size }) short (all_coded segments (ordered said.order))
  where
    picture : Coded said.picture
    picture = of_code said.picture pih_code said.picture_is.coded (omega arith) (λ e. absurd (omega (arith, e)))

    component : Coded said.component
    component = of_code said.component cdt_code said.component_is.coded (omega arith) (λ e. absurd (omega (arith, e)))

    weight : Coded said.weight
    weight = of_code said.weight wgt_code said.weight_is.coded (omega arith) (λ e. absurd (omega (arith, e)))

    ordered : (filter (λ s. not (is_stepped_over s)) segments ≡ said.picture ∷ said.component ∷ said.weight ∷ []) ⊎ (filter (λ s. not (is_stepped_over s)) segments ≡ said.picture ∷ said.weight ∷ said.component ∷ [])
        → AllByRecursion Coded (filter (λ s. not (is_stepped_over s)) segments)
    ordered (inl e) = subst (AllByRecursion Coded) (sym e) (picture, (component, (weight, tt)))
    ordered (inr e) = subst (AllByRecursion Coded) (sym e) (picture, (weight, (component, tt)))

-- the three segments of two headers
same_three : (h other : Header) (segments : List Segment) (p : AreSegmentsOf h segments) (q : AreSegmentsOf other segments)
    → (p.picture ≡ q.picture) × (p.component ≡ q.component) × (p.weight ≡ q.weight)
same_three h other segments p q = go p.order q.order
  where
    kept : List Segment
    kept = filter (λ s. not (is_stepped_over s)) segments

    mixed : (s t : Segment) → s.code ≡ cdt_code → t.code ≡ wgt_code → s ≡ t → ⊥
    mixed s t a b e = let c : s.code ≡ t.code = ap (λ (s : Segment). s.code) e in omega (arith, a, b, c)

    go : (kept ≡ p.picture ∷ p.component ∷ p.weight ∷ []) ⊎ (kept ≡ p.picture ∷ p.weight ∷ p.component ∷ [])
        → (kept ≡ q.picture ∷ q.component ∷ q.weight ∷ []) ⊎ (kept ≡ q.picture ∷ q.weight ∷ q.component ∷ [])
        → (p.picture ≡ q.picture) × (p.component ≡ q.component) × (p.weight ≡ q.weight)
    go (inl e) (inl d) = (cc (sym e ∙ d), cc (sym e ∙ d), cc (sym e ∙ d))
    go (inr e) (inr d) = (cc (sym e ∙ d), cc (sym e ∙ d), cc (sym e ∙ d))
    go (inl e) (inr d) = absurd (mixed p.component q.weight p.component_is.coded q.weight_is.coded (cc (sym e ∙ d)))
    go (inr e) (inl d) = absurd (mixed q.component p.weight q.component_is.coded p.weight_is.coded (cc (sym e ∙ d)))

-- fields that one body spells
body_fields : (s t : Segment) (fields others : List (ℕ × ℕ)) (code : ℕ) → s ≡ t → IsSegment code fields s → IsSegment code others t → map (λ (f : ℕ × ℕ). f.0) fields ≡ map (λ (f : ℕ × ℕ). f.0) others
    → map (λ (f : ℕ × ℕ). f.1) fields ≡ map (λ (f : ℕ × ℕ). f.1) others
body_fields s t fields others code e p q w =
    (fields_agree fields others [] [] w p.room q.room (ap (λ l. l ++ []) (sym p.spelled ∙ ap (λ (s : Segment). bits_of_bytes s.body) e ∙ q.spelled))).0

quant_one : (a b : Quant) → quant_code a ≡ quant_code b → a ≡ b
quant_one DeadZone DeadZone e = refl
quant_one Uniform Uniform e = refl
quant_one DeadZone Uniform e = absurd (omega (arith, e))
quant_one Uniform DeadZone e = absurd (omega (arith, e))

-- formats and depths, by the fields of the components
abbrev fields_of : Format → ℕ → List (ℕ × ℕ)
fields_of format depth = flat_map (λ component. (8, depth) ∷ (4, sampling_of format component) ∷ (4, 1) ∷ []) (upto (components_of format))

format_one : (f g : Format) (d e : ℕ) → components_of f ≡ components_of g
    → (map (λ (x : ℕ × ℕ). x.0) (fields_of f d) ≡ map (λ (x : ℕ × ℕ). x.0) (fields_of g e) → map (λ (x : ℕ × ℕ). x.1) (fields_of f d) ≡ map (λ (x : ℕ × ℕ). x.1) (fields_of g e)) → (f ≡ g) × (d ≡ e)
format_one Mono Mono d e n v = let l = v refl in (refl, cc l)
format_one C422 C422 d e n v = let l = v refl in (refl, cc l)
format_one C444 C444 d e n v = let l = v refl in (refl, cc l)
format_one C422 C444 d e n v = let l = v refl in let c : ◌≡◌ {A = ℕ} 2 1 = cc l in absurd (omega (arith, c))
format_one C444 C422 d e n v = let l = v refl in let c : ◌≡◌ {A = ℕ} 1 2 = cc l in absurd (omega (arith, c))
format_one Mono C422 d e n v = absurd (omega (arith, n))
format_one Mono C444 d e n v = absurd (omega (arith, n))
format_one C422 Mono d e n v = absurd (omega (arith, n))
format_one C444 Mono d e n v = absurd (omega (arith, n))

abbrev pairs_of : List Weight → List (ℕ × ℕ)
pairs_of weights = flat_map (λ (weight : Weight). (8, weight.gain) ∷ (8, weight.priority) ∷ []) weights

weight_widths : (xs ys : List Weight) → length xs ≡ length ys → map (λ (f : ℕ × ℕ). f.0) (pairs_of xs) ≡ map (λ (f : ℕ × ℕ). f.0) (pairs_of ys)
weight_widths [] [] n = refl
weight_widths [] (y ∷ ys) n = absurd (omega (arith, n))
weight_widths (x ∷ xs) [] n = absurd (omega (arith, n))
weight_widths (x ∷ xs) (y ∷ ys) n = ap (λ l. 8 ∷ 8 ∷ l) (weight_widths xs ys (omega (arith, n)))

weights_one : (xs ys : List Weight) → length xs ≡ length ys → map (λ (f : ℕ × ℕ). f.1) (pairs_of xs) ≡ map (λ (f : ℕ × ℕ). f.1) (pairs_of ys) → xs ≡ ys
weights_one [] [] n v = refl
weights_one [] (y ∷ ys) n v = absurd (omega (arith, n))
weights_one (x ∷ xs) [] n v = absurd (omega (arith, n))
weights_one (x ∷ xs) (y ∷ ys) n v =
    let gain : x.gain ≡ y.gain = cc v in
    let priority : x.priority ≡ y.priority = cc v in
    let rest : map (λ (f : ℕ × ℕ). f.1) (pairs_of xs) ≡ map (λ (f : ℕ × ℕ). f.1) (pairs_of ys) = cc v in
    ap (λ g. weight g x.priority ∷ xs) gain ∙ ap (λ p. weight y.gain p ∷ xs) priority ∙ ap (λ l. y ∷ l) (weights_one xs ys (omega (arith, n)) rest)
  where
    weight : ℕ → ℕ → Weight
    weight gain priority = record { gain = gain; priority = priority }

header : ℕ → ℕ → ℕ → Format → ℕ → ℕ → ℕ → ℕ → Bool → ℕ → ℕ → Bool → Quant → Bool → ℕ → List Weight → Header
header lcod width height format depth hsl bw fq colour nlx nly long_heads quant signs_apart run_mode weights = record {
  lcod = lcod;
  shape = record { width = width; height = height; format = format; depth = depth };
  hsl = hsl;
  bw = bw;
  fq = fq;
  colour = colour;
  nlx = nlx;
  nly = nly;
  long_heads = long_heads;
  quant = quant;
  signs_apart = signs_apart;
  run_mode = run_mode;
  weights = weights;
}

same_header : (h other : Header) → (h.lcod ≡ other.lcod) × (h.shape.width ≡ other.shape.width) × (h.shape.height ≡ other.shape.height) × (h.hsl ≡ other.hsl) × (h.bw ≡ other.bw) × (h.fq ≡ other.fq) × (h.nlx ≡ other.nlx) × (h.nly ≡ other.nly) × (h.run_mode ≡ other.run_mode)
    → h.shape.format ≡ other.shape.format → h.shape.depth ≡ other.shape.depth → h.colour ≡ other.colour → h.long_heads ≡ other.long_heads → h.quant ≡ other.quant → h.signs_apart ≡ other.signs_apart → h.weights ≡ other.weights
    → h ≡ other
unfolding header
same_header h other n format depth colour long quant apart weights =
    let whole : header h.lcod h.shape.width h.shape.height h.shape.format h.shape.depth h.hsl h.bw h.fq h.colour h.nlx h.nly h.long_heads h.quant h.signs_apart h.run_mode h.weights
    ≡ header other.lcod other.shape.width other.shape.height other.shape.format other.shape.depth other.hsl other.bw other.fq other.colour other.nlx other.nly other.long_heads other.quant other.signs_apart other.run_mode other.weights
    = cc (n.0, n.1, n.2, n.3, n.4, n.5, n.6, n.7, n.8, format, depth, colour, long, quant, apart, weights) in whole

same_said : (h other : Header) (segments : List Segment) → length h.weights ≡ bands_of h → length other.weights ≡ bands_of other → AreSegmentsOf h segments → AreSegmentsOf other segments → h ≡ other
same_said h other segments n m p q = same_header h other numbers format.0 format.1 colour long quant apart weights
  where
    three : (p.picture ≡ q.picture) × (p.component ≡ q.component) × (p.weight ≡ q.weight)
    three = same_three h other segments p q

    picture : map (λ (f : ℕ × ℕ). f.1) (picture_fields h p.profile p.level p.raw_line) ≡ map (λ (f : ℕ × ℕ). f.1) (picture_fields other q.profile q.level q.raw_line)
    picture = body_fields p.picture q.picture (picture_fields h p.profile p.level p.raw_line) (picture_fields other q.profile q.level q.raw_line) pih_code three.0 p.picture_is q.picture_is refl

    numbers : (h.lcod ≡ other.lcod) × (h.shape.width ≡ other.shape.width) × (h.shape.height ≡ other.shape.height) × (h.hsl ≡ other.hsl) × (h.bw ≡ other.bw) × (h.fq ≡ other.fq) × (h.nlx ≡ other.nlx) × (h.nly ≡ other.nly) × (h.run_mode ≡ other.run_mode)
    numbers = (cc picture, cc picture, cc picture, cc picture, cc picture, cc picture, cc picture, cc picture, cc picture)

    colour : h.colour ≡ other.colour
    colour = bit_of-one h.colour other.colour (cc picture)

    long : h.long_heads ≡ other.long_heads
    long = bit_of-one h.long_heads other.long_heads (cc picture)

    apart : h.signs_apart ≡ other.signs_apart
    apart = bit_of-one h.signs_apart other.signs_apart (cc picture)

    quant : h.quant ≡ other.quant
    quant = quant_one h.quant other.quant (cc picture)

    count : components_of h.shape.format ≡ components_of other.shape.format
    count = cc picture

    format : (h.shape.format ≡ other.shape.format) × (h.shape.depth ≡ other.shape.depth)
    format = format_one h.shape.format other.shape.format h.shape.depth other.shape.depth count
        (body_fields p.component q.component (component_fields h) (component_fields other) cdt_code three.1 p.component_is q.component_is)

    bands : length h.weights ≡ length other.weights
    bands = n ∙ ap (λ f. (2 * h.nly + h.nlx + 1) * components_of f) format.0 ∙ ap (λ y. (2 * y + h.nlx + 1) * components_of other.shape.format) numbers.7
        ∙ ap (λ x. (2 * other.nly + x + 1) * components_of other.shape.format) numbers.6 ∙ sym m

    weights : h.weights ≡ other.weights
    weights = weights_one h.weights other.weights bands
        (body_fields p.weight q.weight (weight_fields h) (weight_fields other) wgt_code three.2 p.weight_is q.weight_is (weight_widths h.weights other.weights bands))

pub one_header : OneHeader
one_header h other a b y z p q f g e =
    let cut = append_cut soc soc (flat_map segment_bytes p.segments ++ y) (flat_map segment_bytes q.segments ++ z) refl
    (sym (append_assoc soc (flat_map segment_bytes p.segments) y) ∙ ap (λ l. l ++ y) (sym p.joined) ∙ e ∙ ap (λ l. l ++ z) q.joined ∙ append_assoc soc (flat_map segment_bytes q.segments) z) in
    let same = segments_agree p.segments q.segments y z (segments_known h p.segments p.short p.said) (segments_known other q.segments q.short q.said) f g cut.1 in
    (same.1, same_said h other q.segments p.accepted.weights q.accepted.weights (subst (AreSegmentsOf h) same.0 p.said) q.said)
