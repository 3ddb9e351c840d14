-- A header has one weight for each band, in range.
use Rattle.std.proofs.Common.{ℕ, ◌+◌, ◌-◌, ◌*◌, ◌/◌, ◌<◌, ◌≤◌, List, arith, inl, inr}
use Rattle.std.specs.Prelude.{Option, Some, None, IfSome, unwrap_or}
use Rattle.std.proofs.lemmas.Bool.{cases_lt}
use Rattle.std.proofs.lemmas.Nat.{div_below}
use Rattle.std.proofs.lemmas.List.Elements.{All-map, All-from_recursion}
use Rattle.std.proofs.lemmas.List.FromFn.{length-map-range_with_len}
use Rattle.xs_lists.specs.Spelling.{upto}
use Rattle.xs_lists.proofs.Each.{range-all}
use Rattle.xs_layout.specs.declared.Format.{Format}
use Rattle.xs_layout.specs.declared.Format.TheVariants.{Mono, C422, C444}
use Rattle.xs_layout.specs.declared.Weight.{Weight}
use Rattle.xs_layout.specs.Geometry.{ll, components_of, band_count_of, type_of_band}
use Rattle.xs_layout.specs.Weighting.{default_gain, default_weights_of}
use Rattle.xs_params.specs.declared.settings.Settings.{Settings}
use Rattle.xs_params.specs.Check.{AreWeights, AreInRange, bands_of_settings}
use Rattle.xs_params.specs.Headers.{header_of}
use Rattle.xs_params.proofs.Gains.{gain_wide, gain_deep}

gain_most : (nlx nly components band : ℕ) → nlx ≤ 5 → nly ≤ nlx → 0 < components → band < band_count_of nlx nly components
    → default_gain (type_of_band nlx nly components band) ≤ 15
gain_most nlx nly components band p q some inside =
    let there = div_below band components (2 * nly + nlx + 1) some inside in
    elim (cases_lt (band / components) (nlx - nly + 1)) [
      | inl wide ↦ omega (arith, gain_wide nlx nly (band / components) (ll 0 0) q (omega (arith, wide)), p, q)
      | inr deep ↦ omega (arith, gain_deep nlx nly (band / components) (ll 0 0) q deep there, p, q)
    ]

default_in : (nlx nly components : ℕ) → nlx ≤ 5 → nly ≤ nlx → 0 < components → AreWeights (band_count_of nlx nly components) (default_weights_of nlx nly components)
default_in nlx nly components p q some =
    let bands = band_count_of nlx nly components in
    let weight : ℕ → Weight = λ k. record { gain = default_gain (type_of_band nlx nly components k); priority = k } in
    record {
      one_each = length-map-range_with_len weight 0 bands;
      gains =
          All-map (λ (w : Weight). w.gain ≤ 15) weight (upto bands)
          (All-from_recursion (λ k. default_gain (type_of_band nlx nly components k) ≤ 15) (upto bands)
          (range-all (λ k. default_gain (type_of_band nlx nly components k) ≤ 15) 0 bands (λ k low high. gain_most nlx nly components k p q some (omega (arith, high)))));
      priorities =
          All-map (λ (w : Weight). w.priority < bands) weight (upto bands)
          (All-from_recursion (λ k. k < bands) (upto bands) (range-all (λ k. k < bands) 0 bands (λ k low high. omega (arith, high))));
    }

some_component : (format : Format) → 0 < components_of format
some_component Mono = omega arith
some_component C422 = omega arith
some_component C444 = omega arith

chosen_in : (bands : ℕ) (given : Option (List Weight)) (other : List Weight) → IfSome given (AreWeights bands) → AreWeights bands other → AreWeights bands (unwrap_or given other)
chosen_in bands None other p q = q
chosen_in bands (Some weights) other p q = p

pub header_weights : (s : Settings) → AreInRange s → AreWeights (bands_of_settings s) (header_of s).weights
header_weights s r =
    chosen_in (bands_of_settings s) s.weights (default_weights_of s.nlx s.nly (components_of s.shape.format)) r.weights
    (default_in s.nlx s.nly (components_of s.shape.format) (omega (arith, r.nlx)) (omega (arith, r.nly)) (some_component s.shape.format))
