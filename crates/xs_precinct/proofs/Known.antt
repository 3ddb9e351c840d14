-- What a band that holds the line above knows of its next line, and what it holds after that.
use Rattle.std.proofs.Common.{◌≡◌, ℕ, zero, suc, ◌+◌, ◌-◌, ◌*◌, ◌/◌, ◌<◌, ◌≤◌, List, [], ◌∷◌, map, length, get_or, refl, sym, ap, ◌∙◌, arith}
use Rattle.std.specs.Prelude.{Bool, true, false, not, ◌&&◌, if◌then◌else◌, ℤ, pos, None, Some}
use Rattle.std.specs.List.{AllByRecursion, range_with_len}
use Rattle.std.proofs.lemmas.Bool.{lt-ltb}
use Rattle.std.proofs.lemmas.List.{ext_get_or}
use Rattle.std.proofs.lemmas.List.FromFn.{get_or-map-range_with_len, length-map-range_with_len}
use Rattle.xs_lists.specs.Spelling.{upto}
use Rattle.xs_layout.specs.Geometry.{groups_of}
use Rattle.xs_params.specs.declared.header.Header.{Header}
use Rattle.xs_params.specs.Geometry.{band_width_of}
use Rattle.xs_signal.specs.Quantiser.{dequantised}
use Rattle.xs_spelling.specs.Counts.{Line, predicted, predicts_above}
use Rattle.xs_spelling.specs.ReadingLaws.{IsPredicted}
use Rattle.xs_grammar.specs.Precinct.{Content, coded_line, is_first_line, line_truncation}
use Rattle.xs_reading.specs.Rows.{dequantised_rows}
use Rattle.xs_precinct.specs.Held.{Last, last_before, line_held}
use Rattle.xs_precinct.specs.Bands.{Band, EachOf, Follows, IsBand, Knows, NumbersOf, last_of, row_of}

-- Options by tests

some_one : {A : Type 0} (x y : A) → Some x ≡ Some y → x ≡ y
some_one x y e = cc e

last_there : {A : Type 0} (there first : Bool) (x y : A) → (if there then Some x else None) ≡ (if first then None else Some y) → (there ≡ not first) × (first ≡ false → x ≡ y)
last_there true true x y e = absurd (cc e)
last_there true false x y e = (refl, λ f. some_one x y e)
last_there false true x y e = (refl, λ f. absurd (cc f))
last_there false false x y e = absurd (cc e)

-- a list is that of a function that it agrees with
as_map : (xs : List ℕ) (f : ℕ → ℕ) (n : ℕ) → length xs ≡ n → ((k : ℕ) → k < n → get_or xs k 0 ≡ f k) → xs ≡ map f (upto n)
as_map xs f n size same = ext_get_or 0 xs (map f (upto n)) (size ∙ sym (length-map-range_with_len f 0 n)) (λ k inside. same k (omega (arith, inside, size)) ∙ sym (get_or-map-range_with_len f 0 n k k 0 (omega (arith, inside, size)) (omega arith)))

-- What is known

pub knows_line : (h : Header) (content : Content) (modes : ℕ → ℕ) (band line : ℕ) (state : Band) → length state.counts ≡ groups_of (band_width_of h band) → state.mode ≡ modes band → state.cut ≡ line_truncation h content band line
    → last_of state ≡ last_before h content band line → Knows state (coded_line h content (modes band) band line)
knows_line h content modes band line state room mode cut above = record {
  groups = sym room;
  mode = sym mode;
  truncation = sym cut;
  prediction = λ group inside. cases (predicts_above (modes band)) (is_first_line h band line) state.there (last_there state.there (is_first_line h band line) (record { counts = state.counts; truncation = state.above_cut }) (line_held h content band (line - 1)) above) group inside
      ∙ ap (λ m. if predicts_above m && state.there then predicted (get_or state.counts group 0) state.above_cut state.cut else state.cut) (sym mode);
}
  where
    cases : (s first there : Bool) → (there ≡ not first) × (first ≡ false → ◌≡◌ {A = Last} (record { counts = state.counts; truncation = state.above_cut }) (line_held h content band (line - 1)))
        → (group : ℕ) → group < groups_of (band_width_of h band)
        → (if s && not first then predicted (content.count band (line - 1) group) (line_truncation h content band (line - 1)) (line_truncation h content band line) else line_truncation h content band line)
        ≡ (if s && there then predicted (get_or state.counts group 0) state.above_cut state.cut else state.cut)
    cases false first there e group inside = sym cut
    cases true true true e group inside = absurd (cc e.0)
    cases true true false e group inside = sym cut
    cases true false false e group inside = absurd (cc e.0)
    cases true false true e group inside =
        let same = e.1 refl in
        let counts : get_or state.counts group 0 ≡ content.count band (line - 1) group =
        ap (λ (l : Last). get_or l.counts group 0) same ∙ get_or-map-range_with_len (content.count band (line - 1)) 0 (groups_of (band_width_of h band)) group group 0 inside (omega arith) in
        let cut_above : state.above_cut ≡ line_truncation h content band (line - 1) = ap (λ (l : Last). l.truncation) same in
        ap (λ n. predicted n (line_truncation h content band (line - 1)) (line_truncation h content band line)) (sym counts) ∙ ap (λ n. predicted (get_or state.counts group 0) n (line_truncation h content band line)) (sym cut_above)
        ∙ ap (λ n. predicted (get_or state.counts group 0) state.above_cut n) (sym cut)

-- what a band in range knows is in range
pub predicted_line : (band : Band) (line : Line) → IsBand band → Knows band line → IsPredicted line
predicted_line band line is known = record {
  least = λ group inside. omega (arith, known.truncation, known.prediction group inside, (bounds (predicts_above band.mode && band.there) group (omega (arith, known.groups, inside))).0);
  most = λ group inside. omega (arith, known.prediction group inside, (bounds (predicts_above band.mode && band.there) group (omega (arith, known.groups, inside))).1);
}
  where
    bounds : (s : Bool) (group : ℕ) → group < length band.counts → (band.cut ≤ (if s then predicted (get_or band.counts group 0) band.above_cut band.cut else band.cut)) × ((if s then predicted (get_or band.counts group 0) band.above_cut band.cut else band.cut) ≤ 15)
    bounds true group inside = (omega arith, omega (arith, is.counts group 0 inside, is.above, is.cut))
    bounds false group inside = (omega arith, omega (arith, is.cut))

pub predicted_lines : (bands : List Band) (lines : List Line) → AllByRecursion IsBand bands → EachOf Knows bands lines → AllByRecursion IsPredicted lines
predicted_lines [] [] all known = tt
predicted_lines [] (line ∷ lines) all known = absurd known
predicted_lines (band ∷ bands) [] all known = absurd known
predicted_lines (band ∷ bands) (line ∷ lines) all known = (predicted_line band line all.0 known.0, predicted_lines bands lines all.1 known.1)

-- What is held after a line was read

abbrev last : List ℕ → ℕ → Last
last counts truncation = record { counts = counts; truncation = truncation }

pub holds_line : (h : Header) (content : Content) (band line : ℕ) (old state : Band) (l : Line) → Follows old state → NumbersOf state l → length old.counts ≡ groups_of (band_width_of h band) → old.cut ≡ line_truncation h content band line
    → l.count ≡ content.count band line → last_of state ≡ Some (line_held h content band line)
holds_line h content band line old state l follows numbers room cut counts =
    ap (λ (t : Bool). if t then Some (last state.counts state.above_cut) else None) follows.there ∙ ap (λ c. Some (last c state.above_cut)) list ∙ ap (λ t. Some (last (map (content.count band line) (upto (groups_of (band_width_of h band)))) t)) (follows.above ∙ cut)
  where
    list : state.counts ≡ map (content.count band line) (upto (groups_of (band_width_of h band)))
    list = as_map state.counts (content.count band line) (groups_of (band_width_of h band)) (follows.groups ∙ room) (λ k inside. numbers.count k (omega (arith, inside, follows.groups, room)) ∙ ap (λ f. f k) counts)

-- Rows

pub range_map : (f g : ℕ → ℤ) (first n : ℕ) → ((i : ℕ) → first ≤ i → i < first + n → f i ≡ g i) → map f (range_with_len first n) ≡ map g (range_with_len first n)
range_map f g first zero same = refl
range_map f g first (suc n) same =
    ap (λ x. x ∷ map f (range_with_len (first + 1) n)) (same first (omega arith) (omega arith)) ∙ ap (λ l. g first ∷ l) (range_map f g (first + 1) n (λ i low high. same i (omega (arith, low)) (omega (arith, high))))

-- the row of a band is that of its line
pub row_is : (h : Header) (content : Content) (band line : ℕ) (state : Band) (l : Line) → NumbersOf state l → length state.counts ≡ groups_of (band_width_of h band) → l.count ≡ content.count band line → l.value ≡ content.value band line
    → l.truncation ≡ line_truncation h content band line → row_of h.quant state (band_width_of h band) ≡ map (dequantised_rows h content band line) (upto (band_width_of h band))
row_is h content band line state l numbers room counts values cut =
    range_map (λ column. dequantised h.quant (get_or state.counts (column / 4) 0) state.cut (get_or state.values column (pos 0))) (dequantised_rows h content band line) 0 (band_width_of h band) (λ column low high. one column (omega (arith, high)))
  where
    width : ℕ
    width = band_width_of h band

    one : (column : ℕ) → column < width → dequantised h.quant (get_or state.counts (column / 4) 0) state.cut (get_or state.values column (pos 0)) ≡ dequantised_rows h content band line column
    one column inside =
        let group : column / 4 < length state.counts = omega (arith, inside, room) in
        let there : column < 4 * length state.counts = omega (arith, group) in
        ap (λ n. dequantised h.quant n state.cut (get_or state.values column (pos 0))) (numbers.count (column / 4) group ∙ ap (λ f. f (column / 4)) counts)
        ∙ ap (λ n. dequantised h.quant (content.count band line (column / 4)) n (get_or state.values column (pos 0))) (numbers.truncation ∙ cut)
        ∙ ap (λ z. dequantised h.quant (content.count band line (column / 4)) (line_truncation h content band line) z) (numbers.value column there ∙ ap (λ f. f column) values)
        ∙ ap (λ (t : Bool). if t then dequantised h.quant (content.count band line (column / 4)) (line_truncation h content band line) (content.value band line column) else pos 0) (sym (lt-ltb column width inside))
