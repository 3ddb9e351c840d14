-- The rows that a joiner takes are there where those of coefficients are, and show the bands at full precision.
use Rattle.std.proofs.Common.{◌≡◌, ℕ, suc, ◌+◌, ◌-◌, ◌*◌, ◌/◌, ◌^◌, ◌<◌, ◌≤◌, List, get_or, ℤ, pos, negsuc, ◌*ℤ◌, Bool, true, false, nat_eq, if◌then◌else◌, unsigned_abs, refl, ap, sym, subst, ◌∙◌, arith, inl, inr}
use Rattle.std.proofs.Math.ListN.{get_or-map}
use Rattle.std.proofs.Math.Nat.{lt-mul-div-succ}
use Rattle.std.proofs.lemmas.Int.{ints}
use Rattle.std.proofs.lemmas.List.{length-map}
use Rattle.std.proofs.lemmas.Nat.{pow_pos}
use Rattle.xs_layout.specs.Geometry.{components_of}
use Rattle.xs_layout.specs.Limits.{fq_of}
use Rattle.xs_params.specs.declared.header.Header.{Header}
use Rattle.xs_params.specs.Geometry.{band_type_of, precinct_lines}
use Rattle.xs_rate.specs.Coefficients.{Rows}
use Rattle.xs_signal.specs.Fold.{IsFraction}
use Rattle.xs_signal.specs.Lines.{IsBelow, Shows, entries_of}
use Rattle.xs_signal.specs.Stripe.{rows_at, rows_each}
use Rattle.xs_signal.specs.Wavelet.{Split}
use Rattle.xs_decoding.specs.Decoded.{band_number, level_type}
use Rattle.xs_joiner.specs.Units.{IsFresh}
use Rattle.xs_joiner.specs.Source.{ShowBands}
use Rattle.xs_joiner.specs.Chain.{AreThere, AreAbove, IsTaken}
use Rattle.xs_joiner.specs.declared.source.Band.TheVariants.{Lowest, Hl, Lh, Hh}
use Rattle.xs_joiner.proofs.Counts.{given_most}
use Rattle.xs_joiner.proofs.Near.{rows_near}
use Rattle.xs_stripe.specs.Source.{IsBandRow, HaveRows, HaveRowsAbove, ShowRowsOf}
use Rattle.xs_stripe.specs.Raised.{raised_row, raised_rows}
use Rattle.xs_stripe.specs.Joined.{component_split, raised_bands}
use Rattle.xs_stripe.proofs.Bands.{IsBandAs, lowest_as, hl_as, lh_as, hh_as, lh_high, hh_high}

-- ---- numbers

fraction_cases : (b : Bool) → IsFraction (if b then 6 else 8)
fraction_cases true = inl refl
fraction_cases false = inr refl

pub fraction_known : (bw : ℕ) → IsFraction (fq_of bw)
fraction_known bw = fraction_cases (nat_eq bw 18)

six : (z : ℤ) → unsigned_abs z < 2 ^ 15 → IsBelow (4 * 2 ^ 21) (z *ℤ pos 64)
six (pos n) small = record { least = omega (arith, ints, small); most = omega (arith, ints, small) }
six (negsuc n) small = record { least = omega (arith, ints, small); most = omega (arith, ints, small) }

eight : (z : ℤ) → unsigned_abs z < 2 ^ 15 → IsBelow (4 * 2 ^ 21) (z *ℤ pos 256)
eight (pos n) small = record { least = omega (arith, ints, small); most = omega (arith, ints, small) }
eight (negsuc n) small = record { least = omega (arith, ints, small); most = omega (arith, ints, small) }

raised_small : (f : ℕ) (z : ℤ) → IsFraction f → unsigned_abs z < 2 ^ 15 → IsBelow (4 * 2 ^ 21) (z *ℤ pos (2 ^ f))
raised_small f z known small =
    elim known [
      | inl is ↦ subst (λ k. IsBelow (4 * 2 ^ 21) (z *ℤ pos (2 ^ k))) (sym is) (six z small)
      | inr is ↦ subst (λ k. IsBelow (4 * 2 ^ 21) (z *ℤ pos (2 ^ k))) (sym is) (eight z small)
    ]

-- ---- rows

pub raised_entry : (f : ℕ) (xs : List ℤ) (k : ℕ) → entries_of (raised_row f xs) k ≡ (entries_of xs k *ℤ pos (2 ^ f))
raised_entry f xs k =
    let none : pos 0 *ℤ pos (2 ^ f) ≡ pos 0 = omega (arith, ints) in
    subst (λ d. get_or (raised_row f xs) k d ≡ (entries_of xs k *ℤ pos (2 ^ f))) none (get_or-map (λ z. z *ℤ pos (2 ^ f)) xs k (pos 0))

pub fresh_row : (bw width : ℕ) (row : List ℤ) → IsBandRow width row → IsFresh width (raised_row (fq_of bw) row)
fresh_row bw width row is = record {
  wide = length-map row (λ z. z *ℤ pos (2 ^ fq_of bw)) ∙ is.wide;
  small = λ k. subst (IsBelow (4 * 2 ^ 21)) (sym (raised_entry (fq_of bw) row k)) (raised_small (fq_of bw) (entries_of row k) (fraction_known bw) (is.small k));
}

raised_shown : (f g : ℕ) (xs : List ℤ) (line : ℕ → ℤ) → g ≡ f → Shows xs line → Shows (raised_row f xs) (λ k. line k *ℤ pos (2 ^ g))
raised_shown f g xs line same shown k inside =
    raised_entry f xs k ∙ ap (λ z. z *ℤ pos (2 ^ f)) (shown k (omega (arith, inside, length-map xs (λ z. z *ℤ pos (2 ^ f))))) ∙ ap (λ j. line k *ℤ pos (2 ^ j)) (sym same)

pub bands_shown : (h : Header) (component : ℕ) (coefficients : Rows) (rows : ℕ → ℕ → List ℤ) → h.fq ≡ fq_of h.bw → ShowRowsOf coefficients rows → ShowBands (raised_rows h component rows) (raised_bands h coefficients component)
bands_shown h component coefficients rows same shown Lowest row = raised_shown (fq_of h.bw) h.fq _ _ same (shown (band_number h 0 component) row)
bands_shown h component coefficients rows same shown (Hl level) row = raised_shown (fq_of h.bw) h.fq _ _ same (shown (band_number h (level_type h (level + 1)) component) row)
bands_shown h component coefficients rows same shown (Lh level) row = raised_shown (fq_of h.bw) h.fq _ _ same (shown (band_number h (level_type h (level + 1) + 1) component) row)
bands_shown h component coefficients rows same shown (Hh level) row = raised_shown (fq_of h.bw) h.fq _ _ same (shown (band_number h (level_type h (level + 1) + 2) component) row)

-- ---- the rows that the next line makes necessary

taken_row : (h : Header) (component first given level row band width height : ℕ) (rows : ℕ → ℕ → List ℤ) → given < h.shape.height → rows_each (component_split h component) 0 * first ≤ given
    → HaveRows h first (given / 2 ^ h.nly + 1) rows → IsBandAs h band width height (rows_each (component_split h component) level) → row < height → IsTaken (component_split h component) first given level row
    → IsFresh width (raised_row (fq_of h.bw) (rows band row))
taken_row h component first given level row band width height rows room from have known inside taken =
    let s = component_split h component in
    let b = given / 2 ^ h.nly + 1 in
    let whole : 2 ^ (h.nly - 0) ≡ 2 ^ h.nly = ap (λ k. 2 ^ k) (omega arith) in
    let above : given < rows_each s 0 * b = subst (λ d. given < d * b) (sym whole) (lt-mul-div-succ given (pow_pos h.nly)) in
    let near = rows_near s first b given level row from above room taken in
    let least : precinct_lines h band * first ≤ row = subst (λ d. d * first ≤ row) (sym known.each) near.0 in
    let most : row ≤ precinct_lines h band * b = subst (λ d. row ≤ d * b) (sym known.each) near.1 in
    fresh_row h.bw width (rows band row) (subst (λ w. IsBandRow w (rows band row)) known.wide (have band row known.there (omega (arith, inside, known.high)) least most))

taken_most : (s : Split) (first given level row : ℕ) → given < s.height → IsTaken s first given level row → row < rows_at s level
taken_most s first given level row room taken = omega (arith, taken.1, given_most s first (given + 1) level (omega (arith, room)))

pub rows_there : (h : Header) (component first given : ℕ) (rows : ℕ → ℕ → List ℤ) → h.nly ≤ h.nlx → component < components_of h.shape.format → given < h.shape.height → rows_each (component_split h component) 0 * first ≤ given
    → HaveRows h first (given / 2 ^ h.nly + 1) rows → AreThere (component_split h component) first given (raised_rows h component rows)
rows_there h component first given rows deep there room from have =
    let s = component_split h component in
    record {
      lowest = λ row taken. taken_row h component first given h.nlx row _ _ _ rows room from have (lowest_as h component deep there) (taken_most s first given h.nlx row room taken) taken;
      hl = λ level row inside taken.
          let one : rows_at s (suc level) ≡ rows_at s (level + 1) = ap (rows_at s) (omega arith) in
          taken_row h component first given (suc level) row _ _ _ rows room from have (hl_as h component level deep there inside) (subst (λ n. row < n) one (taken_most s first given (suc level) row room taken)) taken;
      lh = λ level row less taken inside. taken_row h component first given (suc level) row _ _ _ rows room from have (lh_as h component level deep there less) inside taken;
      hh = λ level row less taken inside. taken_row h component first given (suc level) row _ _ _ rows room from have (hh_as h component level deep there less) inside taken;
    }

-- ---- the rows above a precinct

above_row : (h : Header) (first row band width height lines : ℕ) (rows : ℕ → ℕ → List ℤ) → HaveRowsAbove h first rows → IsBandAs h band width height lines
    → (band_type_of h band).high_down ≡ true → row + 1 ≡ lines * first → IsFresh width (raised_row (fq_of h.bw) (rows band row))
above_row h first row band width height lines rows have known high at =
    fresh_row h.bw width (rows band row) (subst (λ w. IsBandRow w (rows band row)) known.wide (have band row known.there high (at ∙ ap (λ d. d * first) (sym known.each))))

pub rows_above : (h : Header) (component first : ℕ) (rows : ℕ → ℕ → List ℤ) → h.nly ≤ h.nlx → component < components_of h.shape.format → HaveRowsAbove h first rows
    → AreAbove (component_split h component) first (raised_rows h component rows)
rows_above h component first rows deep there have = record {
  lh = λ level row less at. above_row h first row _ _ _ _ rows have (lh_as h component level deep there less) (lh_high h component level deep there less) at;
  hh = λ level row less at. above_row h first row _ _ _ _ rows have (hh_as h component level deep there less) (hh_high h component level deep there less) at;
}
