-- The rows of a slice are folded band after band, and line after line.
use Rattle.std.proofs.Common.{◌≡◌, ◌≢◌, ◌⊎◌, ℕ, ◌+◌, ◌-◌, ◌*◌, ◌/◌, ◌%◌, ◌<◌, ◌≤◌, List, [], ◌∷◌, ◌++◌, length, get_or, ℤ, sym, ap, subst, ◌∙◌, arith, inl, inr, length-append}
use Rattle.std.proofs.Math.ListN.{get_or-append}
use Rattle.std.proofs.Math.Seq.{get_or-append_seam}
use Rattle.std.proofs.lemmas.Bool.{cases_eq}
use Rattle.xs_layout.specs.declared.Format.{Format}
use Rattle.xs_layout.specs.declared.Format.TheVariants.{Mono, C422, C444}
use Rattle.xs_layout.specs.Geometry.{components_of}
use Rattle.xs_params.specs.declared.header.Header.{Header}
use Rattle.xs_params.specs.Geometry.{band_component, bands_of}
use Rattle.xs_geometry.specs.SliceLines.{end_line_of, first_line_of}
use Rattle.xs_splitter.specs.declared.splitter.Splitter.{Splitter}
use Rattle.xs_picture.specs.Analysed.{folded_row}
use Rattle.xs_enc_lanes.specs.Transformed.{AreBandRows, AreFoldedBands, KnowsBand, KnowsSlice, band_rows_of}

-- Lines

-- the rows of the lines from the first to this one
pub record AreRowsTo (f : ℕ → List ℤ) (first line : ℕ) (rows : List (List ℤ)) : Type 0 where
  pub count : first + length rows ≡ line
  pub each : (l : ℕ) → first ≤ l → l < line → get_or rows (l - first) [] ≡ f l

pub rows_none : (f : ℕ → List ℤ) (first : ℕ) (rows : List (List ℤ)) → rows ≡ [] → AreRowsTo f first first rows
rows_none f first rows e = record { count = (let none : length rows ≡ 0 = ap length e in omega (arith, none)); each = λ l from below. absurd (omega (arith, from, below)) }

pub rows_more : (f : ℕ → List ℤ) (first line : ℕ) (rows next : List (List ℤ)) (row : List ℤ) → row ≡ f line → next ≡ rows ++ row ∷ [] → AreRowsTo f first line rows → AreRowsTo f first (line + 1) next
rows_more f first line rows next row is more before = record {
  count = (let size = ap length more in let one = length-append rows (row ∷ []) in let count = before.count in omega (arith, size, one, count));
  each = λ l from below. ap (λ r. get_or r (l - first) []) more ∙ by l from below (cases_eq l line);
}
  where
    by : (l : ℕ) → first ≤ l → l < line + 1 → (l ≡ line) ⊎ (l ≢ line) → get_or (rows ++ row ∷ []) (l - first) [] ≡ f l
    by l from below (inl same) =
        let place : l - first ≡ length rows = let count = before.count in omega (arith, same, count) in
        ap (λ k. get_or (rows ++ row ∷ []) k []) place ∙ get_or-append_seam rows row [] [] ∙ is ∙ ap f (sym same)
    by l from below (inr other) =
        let less : l < line = omega (arith, below, other) in
        let inside : l - first < length rows = let count = before.count in omega (arith, less, from, count) in
        get_or-append rows (row ∷ []) [] (l - first) inside ∙ before.each l from less

pub rows_all : (h : Header) (slice band : ℕ) (c : Splitter) (line : ℕ) (rows : List (List ℤ)) → line ≡ end_line_of h slice band → AreRowsTo (λ l. folded_row h.fq (get_or (band_rows_of h c band) l [])) (first_line_of h slice band) line rows
    → AreBandRows h slice band c rows
rows_all h slice band c line rows end are = record { count = are.count ∙ end; each = λ l is. let below = is.below in are.each l is.from (omega (arith, below, end)) }

-- Bands

band_is : (f : Format) (band number component : ℕ) → band / components_of f ≡ number → band % components_of f ≡ component → band ≡ number * components_of f + component
band_is Mono band number component q r = omega (arith, q, r)
band_is C422 band number component q r = omega (arith, q, r)
band_is C444 band number component q r = omega (arith, q, r)

pub component_is : (f : Format) (number component : ℕ) → component < components_of f → (number * components_of f + component) % components_of f ≡ component
component_is Mono number component below = omega (arith, below)
component_is C422 number component below = omega (arith, below)
component_is C444 number component below = omega (arith, below)

pub band_inside : (f : Format) (types number component : ℕ) → component < components_of f → number < types * components_of f / components_of f → number * components_of f + component < types * components_of f
band_inside Mono types number component below inside = omega (arith, below, inside)
band_inside C422 types number component below inside = omega (arith, below, inside)
band_inside C444 types number component below inside = omega (arith, below, inside)

number_inside : (f : Format) (types band : ℕ) → band < types * components_of f → band / components_of f < types * components_of f / components_of f
number_inside Mono types band inside = omega (arith, inside)
number_inside C422 types band inside = omega (arith, inside)
number_inside C444 types band inside = omega (arith, inside)

-- the rows of a band of the component are known
pub known_band : (h : Header) (slice component : ℕ) (c : Splitter) (number bands components : ℕ) → bands ≡ bands_of h → components ≡ components_of h.shape.format → component < components_of h.shape.format → number < bands / components
    → KnowsSlice h slice component c → KnowsBand h slice (number * components + component) c
known_band h slice component c number bands components all size below inside known =
    let within : number < bands_of h / components_of h.shape.format = subst (λ n. number < bands_of h / n) size (subst (λ n. number < n / components) all inside) in
    subst (λ n. KnowsBand h slice (number * n + component) c) (sym size)
    (known (number * components_of h.shape.format + component) (band_inside h.shape.format (2 * h.nly + h.nlx + 1) number component below within) (component_is h.shape.format number component below))

-- the first bands of the component
pub record AreBandsTo (h : Header) (slice component : ℕ) (c : Splitter) (number : ℕ) (bands : List (List (List ℤ))) : Type 0 where
  pub count : length bands ≡ number
  pub each : (band : ℕ) → band < bands_of h → band_component h band ≡ component → band / components_of h.shape.format < number → AreBandRows h slice band c (get_or bands (band / components_of h.shape.format) [])

pub bands_none : (h : Header) (slice component : ℕ) (c : Splitter) (bands : List (List (List ℤ))) → bands ≡ [] → AreBandsTo h slice component c 0 bands
bands_none h slice component c bands e = record { count = ap length e; each = λ band inside of below. absurd (omega (arith, below)) }

pub bands_more : (h : Header) (slice component : ℕ) (c : Splitter) (number : ℕ) (bands next : List (List (List ℤ))) (rows : List (List ℤ)) → next ≡ bands ++ rows ∷ [] → AreBandRows h slice (number * components_of h.shape.format + component) c rows
    → AreBandsTo h slice component c number bands → AreBandsTo h slice component c (number + 1) next
bands_more h slice component c number bands next rows more this before = record {
  count = (let size = ap length more in let one = length-append bands (rows ∷ []) in let count = before.count in omega (arith, size, one, count));
  each = λ band inside of below. subst (λ l. AreBandRows h slice band c (get_or l (band / components_of h.shape.format) [])) (sym more) (by band inside of below (cases_eq (band / components_of h.shape.format) number));
}
  where
    by : (band : ℕ) → band < bands_of h → band_component h band ≡ component → band / components_of h.shape.format < number + 1 → (band / components_of h.shape.format ≡ number) ⊎ (band / components_of h.shape.format ≢ number)
        → AreBandRows h slice band c (get_or (bands ++ rows ∷ []) (band / components_of h.shape.format) [])
    by band inside of below (inl same) =
        let place : length bands ≡ band / components_of h.shape.format = before.count ∙ sym same in
        let is = band_is h.shape.format band number component same of in
        subst (λ k. AreBandRows h slice band c (get_or (bands ++ rows ∷ []) k [])) place
        (subst (AreBandRows h slice band c) (sym (get_or-append_seam bands rows [] [])) (subst (λ b. AreBandRows h slice b c rows) (sym is) this))
    by band inside of below (inr other) =
        let less : band / components_of h.shape.format < number = omega (arith, below, other) in
        subst (AreBandRows h slice band c) (sym (get_or-append bands (rows ∷ []) [] (band / components_of h.shape.format) (let count = before.count in omega (arith, less, count)))) (before.each band inside of less)

pub bands_all : (h : Header) (slice component : ℕ) (c : Splitter) (number : ℕ) (bands : List (List (List ℤ))) → number ≡ bands_of h / components_of h.shape.format → AreBandsTo h slice component c number bands → AreFoldedBands h slice component c bands
bands_all h slice component c number bands all are = record {
  count = are.count ∙ all;
  each = λ band inside of.
      let below : band / components_of h.shape.format < bands_of h / components_of h.shape.format = number_inside h.shape.format (2 * h.nly + h.nlx + 1) band inside in
      are.each band inside of (omega (arith, below, all));
}
