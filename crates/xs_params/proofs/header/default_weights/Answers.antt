use Rattle.std.proofs.Common.{ℕ, ◌∙◌, ◌++◌, ◌∷◌, [], map, ap, sym, arith}
use Rattle.std.proofs.lemmas.List.FromFn.{map-range_with_len_more}
use Rattle.xs_lists.specs.Spelling.{upto}
use Rattle.xs_layout.specs.declared.Weight.{Weight}
use Rattle.xs_layout.specs.Geometry.{type_of_band}
use Rattle.xs_layout.specs.Weighting.{default_gain}
use Rattle.xs_params.proofs.header.default_weights.Goals as goal

pub bands-preserved : goal.bands-preserved
bands-preserved c =
    let band = c.bands.band in
    let weight : ℕ → Weight = λ k. record { gain = default_gain (type_of_band c.args.nlx c.args.nly c.args.components k); priority = k } in
    let with_gain : ℕ → Weight = λ g. record { gain = g; priority = band } in
    c.in_ok-push.ensures.appended
    ∙ ap (λ l. l ++ with_gain c.default_gain-gain.result ∷ []) c.bands.invariant
    ∙ ap (λ g. map weight (upto band) ++ with_gain g ∷ []) c.default_gain-gain.ensures.gain
    ∙ sym (map-range_with_len_more weight 0 band band (omega arith))
