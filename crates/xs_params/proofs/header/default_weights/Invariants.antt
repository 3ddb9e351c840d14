use Rattle.std.proofs.Common.{◌≡◌, map}
use Rattle.xs_lists.specs.Spelling.{upto}
use Rattle.xs_layout.specs.Geometry.{type_of_band}
use Rattle.xs_layout.specs.Weighting.{default_gain}
use Rattle.xs_params.proofs.header.default_weights.Given as goal

abbrev pub invariant-bands : goal.invariant-bands
invariant-bands l = l.weights ≡ map (λ band. record { gain = default_gain (type_of_band l.nlx l.nly l.components band); priority = band }) (upto l.band)
