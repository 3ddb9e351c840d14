-- At the coarsest candidate every plane is cut off.
use Rattle.std.proofs.Common.{◌≡◌, ℕ, zero, suc, ◌+◌, ◌-◌, ◌/◌, ◌<◌, ◌≤◌, max, pos, List, [], ◌∷◌, ◌++◌, map, length, get_or, refl, sym, ap, subst, ◌∙◌, arith, append-nil}
use Rattle.std.specs.Prelude.{Bool, true, false, nat_lt, min, if◌then◌else◌, unsigned_abs}
use Rattle.std.specs.List.{flat_map, fold, range_with_len}
use Rattle.std.proofs.lemmas.Bool.{ltb-true}
use Rattle.std.proofs.lemmas.List.Concat.{flat_map-append}
use Rattle.std.proofs.lemmas.List.{length-map}
use Rattle.xs_lists.specs.Bits.{bit_of}
use Rattle.xs_lists.specs.Spelling.{downto}
use Rattle.xs_lists.proofs.Each.{range-more}
use Rattle.xs_layout.specs.declared.Candidate.{Candidate}
use Rattle.xs_layout.specs.declared.Weight.{Weight}
use Rattle.xs_layout.specs.Candidates.{finest, greatest_gain, candidates_of}
use Rattle.xs_layout.specs.Weighting.{truncation_of}
use Rattle.xs_signal.specs.Quantiser.{with_sign_of, quantised}
use Rattle.xs_params.specs.Geometry.{bands_of}
use Rattle.xs_grammar.specs.Precinct.{weight_of}
use Rattle.xs_rate.specs.Content.{planes_of, greatest_of}
use Rattle.xs_rate.specs.Chosen.{content_at}
use Rattle.xs_rate.specs.Laws.{IsAllCut}
use Rattle.xs_rate.specs.Choice.{CoarsestCutsAll}
use Rattle.xs_rate.proofs.Digits.{digits-most}
use Rattle.xs_rate.proofs.Narrow.{downto_at, length-downto}

-- The last of a list

last-append : {A : Type 0} (xs ys : List A) (d : A) → 1 ≤ length ys → get_or (xs ++ ys) (length (xs ++ ys) - 1) d ≡ get_or ys (length ys - 1) d
last-append [] ys d some = refl
last-append (x ∷ xs) ys d some =
    ap (λ k. get_or (x ∷ (xs ++ ys)) k d) (next (length (xs ++ ys)) (longer xs)) ∙ last-append xs ys d some
  where
    longer : (xs : List _) → 1 ≤ length (xs ++ ys)
    longer [] = some
    longer (x ∷ xs) = omega arith

    next : (n : ℕ) → 1 ≤ n → suc n - 1 ≡ suc (n - 1)
    next n h = omega (arith, h)

at-map : {A B : Type 0} (f : A → B) (xs : List A) (k : ℕ) (d : A) (e : B) → k < length xs → get_or (map f xs) k e ≡ f (get_or xs k d)
at-map f [] k d e inside = absurd (omega (arith, inside))
at-map f (x ∷ xs) zero d e inside = refl
at-map f (x ∷ xs) (suc k) d e inside = at-map f xs k d e (omega (arith, inside))

-- the last candidate
abbrev row : ℕ → ℕ → List Candidate
row bands q = map (λ r. record { q = q; r = r }) (downto bands 0)

length-down : (bands : ℕ) → length (downto bands 0) ≡ bands
length-down bands = let all : bands - 0 ≡ bands = omega arith in length-downto bands 0 ∙ all

length-row : (bands q : ℕ) → length (row bands q) ≡ bands
length-row bands q = length-map (downto bands 0) at ∙ length-down bands
  where
    at : ℕ → Candidate
    at r = record { q = q; r = r }

last-row : (bands q : ℕ) → 1 ≤ bands → get_or (row bands q) (bands - 1) finest ≡ record { q = q; r = 0 }
last-row bands q some =
    at-map (λ r. record { q = q; r = r }) (downto bands 0) (bands - 1) 0 finest (omega (arith, some, length-down bands))
    ∙ ap (λ r. record { q = q; r = r }) (zero_of (get_or (downto bands 0) (bands - 1) 0) (downto_at bands 0 (bands - 1) (omega (arith, some))))
  where
    zero_of : (n : ℕ) → n ≡ bands - (bands - 1 + 1) → n ≡ 0
    zero_of n e = omega (arith, e, some)

pub last_candidate : (bands : ℕ) (weights : List Weight) → 1 ≤ bands → get_or (candidates_of bands weights) (length (candidates_of bands weights) - 1) finest ≡ record { q = 15 + greatest_gain weights; r = 0 }
last_candidate bands weights some =
    ap (λ l. get_or l (length l - 1) finest) split
    ∙ last-append (finest ∷ flat_map (row bands) (range_with_len 1 (14 + g))) (row bands (15 + g)) finest (omega (arith, some, length-row bands (15 + g)))
    ∙ ap (λ n. get_or (row bands (15 + g)) (n - 1) finest) (length-row bands (15 + g))
    ∙ last-row bands (15 + g) some
  where
    g : ℕ
    g = greatest_gain weights

    one_row : flat_map (row bands) ((15 + g) ∷ []) ≡ row bands (15 + g)
    one_row = append-nil (row bands (15 + g))

    range : range_with_len 1 (15 + g) ≡ range_with_len 1 (14 + g) ++ ((15 + g) ∷ [])
    range = let more : 15 + g ≡ 14 + g + 1 = omega arith in let end : 1 + (14 + g) ≡ 15 + g = omega arith in
        ap (range_with_len 1) more ∙ range-more 1 (14 + g) ∙ ap (λ k. range_with_len 1 (14 + g) ++ k ∷ []) end

    split : candidates_of bands weights ≡ (finest ∷ flat_map (row bands) (range_with_len 1 (14 + g))) ++ row bands (15 + g)
    split = ap (λ l. finest ∷ flat_map (row bands) l) range
        ∙ ap (λ l. finest ∷ l) (flat_map-append (row bands) (range_with_len 1 (14 + g)) ((15 + g) ∷ []) ∙ ap (λ l. flat_map (row bands) (range_with_len 1 (14 + g)) ++ l) one_row)

-- Gains

fold-grows : (weights : List Weight) (start : ℕ) → start ≤ fold (λ most (weight : Weight). max most weight.gain) start weights
fold-grows [] start = omega arith
fold-grows (w ∷ weights) start = omega (arith, fold-grows weights (max start w.gain))

gain-most : (weights : List Weight) (start band : ℕ) → (get_or weights band (record { gain = 0; priority = 0 })).gain ≤ fold (λ most (weight : Weight). max most weight.gain) start weights
gain-most [] start band = omega arith
gain-most (w ∷ weights) start zero = omega (arith, fold-grows weights (max start w.gain))
gain-most (w ∷ weights) start (suc band) = gain-most weights (max start w.gain) band

cut-all : (weights : List Weight) (weight : Weight) → weight.gain ≤ greatest_gain weights → truncation_of (15 + greatest_gain weights) 0 weight ≡ 15
cut-all weights weight most = cases (nat_lt weight.priority 0) refl
  where
    cases : (test : Bool) → nat_lt weight.priority 0 ≡ test → min (15 + greatest_gain weights - (weight.gain + bit_of test)) 15 ≡ 15
    cases true e = absurd (omega (arith, ltb-true weight.priority 0 e))
    cases false e = omega (arith, most)

pub coarsest_cuts_all : CoarsestCutsAll
coarsest_cuts_all h rows some gains small = subst (λ (c : Candidate). IsAllCut h (content_at h rows c)) (sym (last_candidate (bands_of h) h.weights some)) (record {
  truncations = λ band line. cut band;
  counts = λ band line group. omega (arith, cut band, digits-most (greatest_of (rows band line) group));
  values = λ band line column. none band line column (nat_lt (truncation_of (15 + greatest_gain h.weights) 0 (weight_of h band)) (planes_of (rows band line) (column / 4))) refl;
})
  where
    cut : (band : ℕ) → truncation_of (15 + greatest_gain h.weights) 0 (weight_of h band) ≡ 15
    cut band = cut-all h.weights (weight_of h band) (gain-most h.weights 0 band)

    none : (band line column : ℕ) (test : Bool) → nat_lt (truncation_of (15 + greatest_gain h.weights) 0 (weight_of h band)) (planes_of (rows band line) (column / 4)) ≡ test
        → (if test
        then with_sign_of (rows band line column) (quantised h.quant (planes_of (rows band line) (column / 4)) (truncation_of (15 + greatest_gain h.weights) 0 (weight_of h band)) (unsigned_abs (rows band line column)))
        else pos 0) ≡ pos 0
    none band line column true e =
        let lt = ltb-true (truncation_of (15 + greatest_gain h.weights) 0 (weight_of h band)) (planes_of (rows band line) (column / 4)) e in
        absurd (omega (arith, lt, cut band, digits-most (greatest_of (rows band line) (column / 4))))
    none band line column false e = refl
