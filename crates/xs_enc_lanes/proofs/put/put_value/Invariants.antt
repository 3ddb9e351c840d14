use Rattle.std.proofs.Common.{◌≡◌, ℕ, ◌<◌}
use Rattle.xs_params.specs.Geometry.{band_component}
use Rattle.xs_enc_lanes.specs.Rows.{component_in}
use Rattle.xs_enc_lanes.specs.Placed.{AreRowsPut, CarriesIn}
use Rattle.xs_enc_lanes.proofs.put.put_value.Given as goal

abbrev pub invariant-bands : goal.invariant-bands
invariant-bands l = AreRowsPut l.got.header.now l.got.slice (CarriesIn l.got.header.now l.got.slice l.got.value.now) l.initial.rows l.rows (λ (band line : ℕ). (band_component l.got.header.now band ≡ component_in l.got.value.now) × (band < l.band))
