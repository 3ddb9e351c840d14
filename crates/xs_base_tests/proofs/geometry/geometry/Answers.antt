use Rattle.std.proofs.Common.{◌≡◌, ℕ, length, refl, ap, ◌∙◌, arith, inr}
use Rattle.std.proofs.lemmas.Bool.{false≢true}
use Rattle.std.proofs.lemmas.List.FromFn.{length-map-range_with_len}
use Rattle.xs_layout.specs.declared.Weight.{Weight}
use Rattle.xs_layout.specs.Weighting.{default_gain}
use Rattle.xs_layout.specs.Geometry.{band_count_of, type_of_band}
use Rattle.xs_base_tests.proofs.geometry.geometry.Goals as goal

pub of-requires : goal.of-requires
of-requires c =
    let n = c.components-components.result in
    let weight : ℕ → Weight = λ band. record { gain = default_gain (type_of_band c.args.nlx c.args.nly n band); priority = band } in
    let many : length c.in_ok-default_weights.field-0 ≡ band_count_of c.args.nlx c.args.nly n =
    ap length c.in_ok-default_weights.ensures.default ∙ length-map-range_with_len weight 0 (band_count_of c.args.nlx c.args.nly n) in
    let g = c.requires in
    record {
      geometry = record { shape = g.shape; hsl = g.hsl; nlx = g.nlx; nly = g.nly; slices = g.slices; narrow = g.narrow };
      bits = (inr refl, refl);
      colour = λ e. absurd (false≢true e);
      run_mode = omega arith;
      weights = many ∙ ap (λ k. band_count_of c.args.nlx c.args.nly k) c.components-components.ensures.count;
    }
