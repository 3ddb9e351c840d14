-- Encodings are in the grammar.
use Rattle.std.proofs.Common.{◌≡◌, ℕ, ◌+◌, ◌-◌, ◌*◌, ◌/◌, ◌^◌, ◌<◌, ◌≤◌, max, ℤ, pos, List, [], map, length, get_or, refl, sym, ap, subst, ◌∙◌, arith, inl, inr}
use Rattle.std.specs.Prelude.{Bool, true, false, IsTrue, nat_lt, nat_le, if◌then◌else◌, unsigned_abs, Ok}
use Rattle.std.specs.List.{flat_map, sum_by, concat, AllByRecursion}
use Rattle.std.proofs.lemmas.Bool.{and_parts, ltb-true, leb-true}
use Rattle.std.proofs.lemmas.Nat.{pow_pos}
use Rattle.std.proofs.lemmas.List.Concat.{length-flat_map, concat_is}
use Rattle.std.proofs.lemmas.List.Folds.{flat_map-map}
use Rattle.std.proofs.lemmas.List.Elements.{recursion_from_All, All-weaker}
use Rattle.std.proofs.lemmas.List.FromFn.{length-map-range_with_len, get_or-map-range_with_len}
use Rattle.xs_lists.specs.Spelling.{upto, SpellsEach}
use Rattle.xs_lists.proofs.Each.{each-made, range-all}
use Rattle.xs_lists.proofs.Walk.{all-of_map}
use Rattle.xs_layout.specs.declared.Candidate.{Candidate}
use Rattle.xs_layout.specs.Candidates.{finest}
use Rattle.xs_layout.specs.declared.Weight.{Weight}
use Rattle.xs_layout.specs.Weighting.{truncation_of}
use Rattle.xs_params.specs.declared.header.Header.{Header}
use Rattle.xs_params.specs.declared.settings.Settings.{Settings}
use Rattle.xs_params.specs.Check.{AreInRange, AreWeights}
use Rattle.xs_params.specs.Headers.{header_of}
use Rattle.xs_params.proofs.HeaderWeights.{header_weights}
use Rattle.xs_params.specs.Stream.{Stream, stream_bytes}
use Rattle.xs_signal.specs.Quantiser.{quantised, sent, with_sign_of}
use Rattle.xs_signal.proofs.Laws.{quantised_fits}
use Rattle.xs_signal.proofs.Magnitudes.{size_signed}
use Rattle.xs_params.specs.Geometry.{bands_of, slice_count}
use Rattle.xs_grammar.specs.Precinct.{Content, weight_of}
use Rattle.xs_grammar.specs.Slice.{IsSlice}
use Rattle.xs_params.proofs.Accepted.{header_accepted}
use Rattle.xs_grammar.specs.Codestream.{IsCodestream}
use Rattle.xs_grammar.specs.Coded.{header_bytes, slice_bytes, slice_fits, HasRoom, IsWritableLine}
use Rattle.xs_grammar.proofs.Coded.{written_slice, writable_everywhere}
use Rattle.xs_grammar.proofs.CodedStream.{written_header}
use Rattle.xs_grammar.proofs.Local.{slice_is_local}
use Rattle.xs_rate.specs.Coefficients.{Rows, rows_of_picture}
use Rattle.xs_rate.specs.Content.{planes_of, greatest_of, cut_of, content_of}
use Rattle.xs_rate.specs.Chosen.{candidates, mode_of, content_at, size_at, fields_fit_at, fits_at, coarsest, is_over, chosen_candidate}
use Rattle.xs_rate.specs.Choice.{filler_of, filled_slice_at}
use Rattle.xs_rate.specs.Encoding.{with_length, slices_at, encoding_of_rows, encoding_of}
use Rattle.xs_rate.specs.Laws.{AreSmall}
use Rattle.xs_rate.specs.Encoded.{chosen_stream, NoneOver, chosen_content, stated_header, IsEncoding, EncodedInGrammar}
use Rattle.xs_rate.proofs.Digits.{digits-most}
use Rattle.xs_rate.proofs.Planes.{planes-room}
use Rattle.xs_rate.proofs.Headers.{components-few, few-bands, header-size}
use Rattle.xs_rate.proofs.Bodies.{chosen_passes}
use Rattle.xs_rate.proofs.Fewest.{fewest_is_first}
use Rattle.xs_rate.proofs.Filled.{filled_size, filled_fits}
use Rattle.xs_rate.proofs.Listed.{HasByte, all_bytes, found_of, at_of}
use Rattle.xs_rate.proofs.Rows.{small_rows}
use Rattle.xs_layout.specs.Geometry.{components_of}
use Rattle.xs_rate.proofs.Fits.{lengths-most, joined-stream, length-stream}
use Rattle.xs_rate.proofs.FirstOver.{cases_over, same_stream, no_both}

-- Each line of small rows can be written, at every candidate

sent-small : (h : Header) (planes cut : ℕ) (z : ℤ) → unsigned_abs z < 2 ^ planes → unsigned_abs (sent h.quant planes cut z) < 2 ^ (max planes cut - cut)
sent-small h planes cut z small = cases (nat_lt cut planes) refl
  where
    cases : (some : Bool) → nat_lt cut planes ≡ some → unsigned_abs (if some then with_sign_of z (quantised h.quant planes cut (unsigned_abs z)) else pos 0) < 2 ^ (max planes cut - cut)
    cases true is =
        let less : cut < planes = ltb-true cut planes is in
        let left : max planes cut - cut ≡ planes - cut = omega (arith, less) in
        subst (λ k. unsigned_abs (with_sign_of z (quantised h.quant planes cut (unsigned_abs z))) < 2 ^ k) (sym left)
        (omega (arith, size_signed z (quantised h.quant planes cut (unsigned_abs z)), quantised_fits h.quant planes cut (unsigned_abs z) (omega (arith, less)) small))
    cases false is = pow_pos (max planes cut - cut)

pub line-writable : (h : Header) (rows : Rows) (candidate : ℕ → Candidate) → AreSmall rows → (band line : ℕ) → IsWritableLine h (content_of h rows candidate) band line
line-writable h rows candidate small band line = record {
  most = λ group inside. omega (arith, digits-most (greatest_of (rows band line) group));
  cut = λ group inside. omega arith;
  small = λ column inside.
      sent-small h (planes_of (rows band line) (column / 4)) (cut_of h candidate band line) (rows band line column) (planes-room (rows band line) (small band line) column);
}

mode-few : (h : Header) (content : Content) (precinct band : ℕ) → mode_of h content precinct band < 4
mode-few h content precinct band = (fewest_is_first h content precinct band).is_mode

-- Slices at a candidate

pub slice-spelled : (h : Header) (rows : Rows) (filler : ℕ → ℕ) (slice : ℕ) (candidate : Candidate) → h.run_mode ≡ 0 → slice < 2 ^ 16 → HasByte candidate → AreSmall rows
    → slice_fits h (content_at h rows candidate) (mode_of h (content_at h rows candidate)) filler slice ≡ true
    → IsSlice h (content_at h rows candidate) slice (slice_bytes h (content_at h rows candidate) (mode_of h (content_at h rows candidate)) filler slice)
slice-spelled h rows filler slice candidate plain index room small fits =
    written_slice h (content_at h rows candidate) (mode_of h (content_at h rows candidate)) filler slice plain index
    (writable_everywhere h (content_at h rows candidate) (mode_of h (content_at h rows candidate)) slice (λ precinct. room) (mode-few h (content_at h rows candidate)) (line-writable h rows (λ _. candidate) small)) fits

-- a slice speaks of its own candidate alone
pub slice-local : (h : Header) (rows : Rows) (chosen : ℕ → Candidate) (slice : ℕ) (bytes : List ℕ) → 1 ≤ h.hsl → h.nly ≤ h.nlx
    → IsSlice h (content_at h rows (chosen slice)) slice bytes → IsSlice h (content_of h rows chosen) slice bytes
slice-local h rows chosen slice bytes some below p =
    slice_is_local h (content_at h rows (chosen slice)) (content_of h rows chosen) slice bytes some below (record {
      q = λ precinct e. ap (λ k. (chosen k).q) (sym e);
      r = λ precinct e. ap (λ k. (chosen k).r) (sym e);
      count = λ band line e. ap (λ k. λ group. max (planes_of (rows band line) group) (truncation_of (chosen k).q (chosen k).r (weight_of h band))) (sym e);
      value = λ band line e. ap (λ k. λ column. sent h.quant (planes_of (rows band line) (column / 4)) (truncation_of (chosen k).q (chosen k).r (weight_of h band)) (rows band line column)) (sym e);
    }) p

-- The choice of the candidate

-- the chosen one has room in a precinct's header
chosen-room : (h : Header) (rows : Rows) (share slice : ℕ) → bands_of h ≤ 30 → AllByRecursion (λ (w : Weight). w.gain ≤ 15) h.weights → HasByte (chosen_candidate h rows share slice)
chosen-room h rows share slice few gains =
    let all = all_bytes (bands_of h) h.weights few gains in
    found_of HasByte (fits_at h rows share slice) (candidates h) (coarsest h) all (at_of HasByte (candidates h) (length (candidates h) - 1) finest all (omega arith, omega arith))

within-share : (h : Header) (rows : Rows) (share slice : ℕ) → size_at h rows slice (coarsest h) ≤ share → is_over h rows share slice ≡ false
within-share h rows share slice within = cases (is_over h rows share slice) refl
  where
    cases : (over : Bool) → is_over h rows share slice ≡ over → over ≡ false
    cases true e = let more = ltb-true share (size_at h rows slice (coarsest h)) e in absurd (omega (arith, more, within))
    cases false e = refl

-- The codestream

concat_map : {A : Type 0} (f : A → List ℕ) (xs : List A) → concat (map f xs) ≡ flat_map f xs
concat_map f xs = concat_is (map f xs) ∙ flat_map-map (λ l. l) f xs

-- The header, whatever length it states

has_room : (s : Settings) → AreInRange s → (lcod : ℕ) → lcod < 2 ^ 32 → HasRoom (with_length (header_of s) lcod)
has_room s range lcod small = record {
  lcod = small;
  hsl = range.hsl.1;
  gains = recursion_from_All (λ (w : Weight). w.gain < 2 ^ 8) weights (All-weaker (λ (w : Weight). w.gain ≤ 15) (λ (w : Weight). w.gain < 2 ^ 8) (λ w p. omega (arith, p)) weights known.gains);
  priorities = recursion_from_All (λ (w : Weight). w.priority < 2 ^ 8) weights
      (All-weaker (λ (w : Weight). w.priority < bands_of (header_of s)) (λ (w : Weight). w.priority < 2 ^ 8) (λ w p. below w.priority (bands_of (header_of s)) p (few-bands s range)) weights known.priorities);
}
  where
    weights : List Weight
    weights = (header_of s).weights

    known : AreWeights (bands_of (header_of s)) (header_of s).weights
    known = header_weights s range

    below : (n bands : ℕ) → n < bands → bands ≤ 30 → n < 2 ^ 8
    below n bands p q = omega (arith, p, q)

chosen_encoding : (s : Settings) (rows : Rows) → AreInRange s → AreSmall rows → NoneOver (header_of s) rows s.share
    → IsEncoding (header_of s) rows s.share s.fill (chosen_stream (header_of s) rows s.share s.fill)
chosen_encoding s rows range small within = record {
  whole = subst (λ n. IsCodestream (with_length (header_of s) n) content (stream_bytes stream)) (sym total) whole;
  count = length-map-range_with_len slice_of 0 count;
  each = λ slice inside. record {
    spelled = subst (IsSlice (stated_header h stream) content slice) (sym (at slice inside)) (spelled (length (stream_bytes stream)) slice inside);
    within = subst (λ l. length l ≤ s.share) (sym (at slice inside)) (sized slice inside).0;
    filled = λ fill. subst (λ l. length l ≡ s.share) (sym (at slice inside)) ((sized slice inside).1 fill);
  };
}
  where
    h : Header
    h = header_of s

    count : ℕ
    count = slice_count (header_of s)

    few : slice_count (header_of s) ≤ 2047
    few = range.slices

    gains : AllByRecursion (λ (w : Weight). w.gain ≤ 15) (header_of s).weights
    gains = recursion_from_All (λ (w : Weight). w.gain ≤ 15) (header_of s).weights (header_weights s range).gains

    chosen : ℕ → Candidate
    chosen = chosen_candidate (header_of s) rows s.share

    content : Content
    content = chosen_content (header_of s) rows s.share

    slice_of : ℕ → List ℕ
    slice_of slice = filled_slice_at h rows s.share s.fill slice (chosen slice)

    slices : List (List ℕ)
    slices = slices_at h rows s.share s.fill chosen

    stream : Stream
    stream = chosen_stream h rows s.share s.fill

    size : ℕ
    size = length (header_bytes h) + sum_by length slices + 2

    parts : (slice : ℕ) → slice < count → (nat_le (size_at h rows slice (chosen slice)) s.share ≡ true) × (fields_fit_at h rows slice (chosen slice) ≡ true)
    parts slice inside = and_parts (nat_le (size_at h rows slice (chosen slice)) s.share) (fields_fit_at h rows slice (chosen slice))
        (chosen_passes h rows s.share slice (header_accepted s 0 range).geometry refl gains small (within-share h rows s.share slice (within slice inside)))

    sized : (slice : ℕ) → slice < count → (length (slice_of slice) ≤ s.share) × (IsTrue s.fill → length (slice_of slice) ≡ s.share)
    sized slice inside = filled_size h rows s.share slice (chosen slice) s.fill range.hsl.0 inside (leb-true (size_at h rows slice (chosen slice)) s.share (parts slice inside).0)

    fits : (slice : ℕ) → slice < count
        → slice_fits h (content_at h rows (chosen slice)) (mode_of h (content_at h rows (chosen slice))) (filler_of h rows s.share s.fill slice (chosen slice)) slice ≡ true
    fits slice inside =
        filled_fits h (content_at h rows (chosen slice)) (mode_of h (content_at h rows (chosen slice))) (filler_of h rows s.share s.fill slice (chosen slice)) slice (parts slice inside).1
        (short (length (slice_of slice)) (sized slice inside).0)
      where
        short : (n : ℕ) → n ≤ s.share → n < 2 ^ 24
        short n most = omega (arith, most, range.share.1, range.chunk.1)

    spelled : (lcod slice : ℕ) → slice < count → IsSlice (with_length (header_of s) lcod) content slice (slice_of slice)
    spelled lcod slice inside =
        slice-local (with_length (header_of s) lcod) rows chosen slice (slice_of slice) range.hsl.0 (omega (arith, range.nly))
        (slice-spelled (with_length (header_of s) lcod) rows (filler_of h rows s.share s.fill slice (chosen slice)) slice (chosen slice) refl (omega (arith, inside, few))
        (chosen-room h rows s.share slice (few-bands s range) gains) small (fits slice inside))

    at : (slice : ℕ) → slice < count → get_or slices slice [] ≡ slice_of slice
    at slice inside = get_or-map-range_with_len slice_of 0 count slice slice [] inside (omega arith)

    all_short : AllByRecursion (λ slice. length slice ≤ s.share) slices
    all_short =
        all-of_map (λ slice. length slice ≤ s.share) slice_of (upto count) (range-all (λ slice. length (slice_of slice) ≤ s.share) 0 count (λ slice low inside. (sized slice (omega (arith, inside))).0))

    sum : length (concat slices) ≡ sum_by length slices
    sum = ap length (concat_is slices) ∙ length-flat_map (λ l. l) slices

    total : length (stream_bytes stream) ≡ size
    total =
        length-stream stream
        ∙ ap (λ n. n + length (concat slices) + 2) (header-size s range size ∙ sym (header-size s range 0))
        ∙ ap (λ n. length (header_bytes h) + n + 2) sum

    small_size : size < 2 ^ 32
    small_size =
        bound (length (header_bytes h)) (length (concat slices)) (sum_by length slices) (length slices * s.share)
        (header-size s range 0) (components-few s.shape.format) (few-bands s range) sum (lengths-most s.share slices all_short)
        (ap (λ n. n * s.share) (length-map-range_with_len slice_of 0 count)) range.stream
      where
        bound : (front pieces sizes whole : ℕ) → front ≡ 42 + 2 * components_of s.shape.format + 2 * bands_of (header_of s) → components_of s.shape.format ≤ 3 → bands_of (header_of s) ≤ 30 → pieces ≡ sizes → pieces ≤ whole
            → whole ≡ slice_count (header_of s) * s.share → slice_count (header_of s) * s.share + 4096 ≤ 2 ^ 32 → front + sizes + 2 < 2 ^ 32
        bound front pieces sizes whole p c q r t u v = omega (arith, p, c, q, r, t, u, v)

    whole : IsCodestream (with_length (header_of s) size) content (stream_bytes stream)
    whole = record {
      header = header_bytes (with_length (header_of s) size);
      slices = concat slices;
      joined = joined-stream stream;
      headed = written_header (with_length (header_of s) size) (header_accepted s size range) (has_room s range size small_size);
      spelled = subst (SpellsEach (IsSlice (with_length (header_of s) size) content) (upto count)) (sym (concat_map slice_of (upto count)))
          (each-made (IsSlice (with_length (header_of s) size) content) slice_of (upto count)
          (range-all (λ slice. IsSlice (with_length (header_of s) size) content slice (slice_of slice)) 0 count (λ slice low inside. spelled size slice (omega (arith, inside)))));
      stated = inr (sym total);
    }

rows_in_grammar : (s : Settings) (rows : Rows) (stream : Stream) → AreInRange s → AreSmall rows → encoding_of_rows (header_of s) rows s.share s.fill ≡ Ok stream
    → IsEncoding (header_of s) rows s.share s.fill stream
rows_in_grammar s rows stream range small e = elim (cases_over (header_of s) rows s.share s.fill) [
  | inl none ↦
      subst (IsEncoding (header_of s) rows s.share s.fill) (same_stream (encoding_of_rows (header_of s) rows s.share s.fill) (chosen_stream (header_of s) rows s.share s.fill) stream none.1 e)
      (chosen_encoding s rows range small none.0)
  | inr some ↦ absurd (no_both (encoding_of_rows (header_of s) rows s.share s.fill) stream some.0 e some.2)
]

pub encoded_in_grammar : EncodedInGrammar
unfolding encoding_of
encoded_in_grammar s picture stream range e =
    rows_in_grammar s (rows_of_picture (header_of s) picture) stream range
    (λ band line column. let most = small_rows (header_of s) picture band line column in omega (arith, most)) e
