use Rattle.std.proofs.Common.{◌≡◌, ℕ, ◌<◌}
use Rattle.xs_enc_lanes.specs.Placed.{AreRowsPut, CarriesIn}
use Rattle.xs_enc_lanes.proofs.put.put_band.Given as goal

abbrev pub invariant-lines : goal.invariant-lines
invariant-lines l = AreRowsPut l.got.header.now l.got.slice (CarriesIn l.got.header.now l.got.slice l.got.value.now) l.initial.rows l.rows (λ (band line : ℕ). (band ≡ l.band) × (line < l.line))
