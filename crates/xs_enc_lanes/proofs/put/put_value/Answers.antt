use Rattle.std.proofs.Common.{◌≡◌, ℕ, List, ◌+◌, ◌%◌, ◌<◌, sym, ap, subst, ◌∙◌, arith}
use Rattle.xs_params.specs.Geometry.{band_component, bands_of}
use Rattle.xs_geometry.specs.SliceLines.{BandLines}
use Rattle.xs_enc_lanes.specs.Rows.{component_in}
use Rattle.xs_enc_lanes.specs.Placed.{AreRowsPut, CarriesIn, IsOfValue}
use Rattle.xs_enc_lanes.proofs.Putting.{band_past, band_put, put_none, put_weaker}
use Rattle.xs_enc_lanes.proofs.put.put_value.Goals.{then-band-components, else-band-components}
use Rattle.xs_enc_lanes.proofs.put.put_value.Goals as goal

pub bands-init : goal.bands-init
bands-init c =
    let h = c.args.got.now.header.now in
    let v = c.args.got.now.value.now in
    put_none h c.args.got.now.slice (CarriesIn h c.args.got.now.slice v) c.args.rows.now (λ (b l : ℕ). (band_component h b ≡ component_in v) × (b < 0)) c.requires.lines c.requires.small (λ b l is d. let below = d.1 in absurd (omega (arith, below)))

pub put_band-requires-clause-band : goal.put_band-requires-clause-band
put_band-requires-clause-band c = omega (arith, c.bands-test.true, c.bands.auto.band-end, c.bands-band-end.ensures.count, ap bands_of c.of.ensures)

pub bands-preserved : goal.bands-preserved
bands-preserved c =
    let h = c.args.got.now.header.now in
    let slice = c.args.got.now.slice in
    let v = c.args.got.now.value.now in
    let old = c.args.rows.now in
    let now = c.bands.rows in
    let band = c.bands.band in
    elim c.if-band-components.branch [
      | then-band-components w ↦ subst (λ (r : List BandLines). AreRowsPut h slice (CarriesIn h slice v) old r (λ (b l : ℕ). (band_component h b ≡ component_in v) × (b < band + 1))) (sym w.rows-is) (band_put h slice band v old now w.put_band.new.rows c.bands.invariant w.put_band.ensures)
      | else-band-components w ↦ subst (λ (r : List BandLines). AreRowsPut h slice (CarriesIn h slice v) old r (λ (b l : ℕ). (band_component h b ≡ component_in v) × (b < band + 1))) (sym w.rows-is)
          (band_past h slice band v old now (λ e. w.if-band-components.false (ap (λ n. band % n) c.components-components.ensures.count ∙ e ∙ sym c.component-component.ensures)) c.bands.invariant)
    ]

pub returns : goal.returns
returns c =
    let h = c.args.got.now.header.now in
    let slice = c.args.got.now.slice in
    let v = c.args.got.now.value.now in
    put_weaker h slice (CarriesIn h slice v) c.args.rows.now c.bands.rows (λ (b l : ℕ). (band_component h b ≡ component_in v) × (b < c.bands.band)) (IsOfValue h v)
    (λ b l is d. let inside = is.band_there in (d, omega (arith, inside, c.bands-test.false, c.bands.auto.band-end, c.bands-band-end.ensures.count, ap bands_of c.of.ensures))) c.bands.invariant
