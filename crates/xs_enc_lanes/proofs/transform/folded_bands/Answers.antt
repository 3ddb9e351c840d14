use Rattle.std.proofs.Common.{◌≡◌, ◌<◌, ◌+◌, ◌*◌, ◌/◌, ap, subst, ◌∙◌, arith}
use Rattle.xs_params.specs.Geometry.{bands_of}
use Rattle.xs_enc_lanes.specs.Transformed.{AreBandRows}
use Rattle.xs_enc_lanes.proofs.Folding.{bands_all, bands_more, known_band}
use Rattle.xs_enc_lanes.proofs.transform.folded_bands.Goals as goal

pub folded_band-requires-clause-known : goal.folded_band-requires-clause-known
folded_band-requires-clause-known c =
    let h = c.args.header.now in
    let count : c.bands-2.result ≡ bands_of h = c.bands-2.ensures.count ∙ ap bands_of c.of-geometry.ensures in
    let inside : c.bands.number < c.bands-2.result / c.components-components.result = omega (arith, c.bands-test.true, c.bands.auto.number-end) in
    known_band h c.args.place.0 c.args.place.1 c.args.splitter.now c.bands.number c.bands-2.result c.components-components.result count c.components-components.ensures.count c.requires.component inside c.requires.known

pub bands-preserved : goal.bands-preserved
bands-preserved c =
    let h = c.args.header.now in
    let rows = subst (λ n. AreBandRows c.args.header.now c.args.place.0 (c.bands.number * n + c.args.place.1) c.args.splitter.now c.in_ok-rows.rows) c.components-components.ensures.count c.in_ok-rows.ensures in
    bands_more h c.args.place.0 c.args.place.1 c.args.splitter.now c.bands.number c.bands.bands.items c.add_band.new.bands.items c.in_ok-rows.rows c.in_ok-add_band.ensures rows c.bands.invariant

pub returns : goal.returns
returns c =
    let h = c.args.header.now in
    let count : c.bands-2.result ≡ bands_of h = c.bands-2.ensures.count ∙ ap bands_of c.of-geometry.ensures in
    let end : c.bands.number ≡ c.bands-2.result / c.components-components.result = omega (arith, c.bands-test.false, c.bands.auto.number-end) in
    bands_all h c.args.place.0 c.args.place.1 c.args.splitter.now c.bands.number c.bands.bands.items (end ∙ ap (λ n. n / c.components-components.result) count ∙ ap (λ n. bands_of c.args.header.now / n) c.components-components.ensures.count) c.bands.invariant
