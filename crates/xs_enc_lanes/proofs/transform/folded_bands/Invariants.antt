use Rattle.xs_enc_lanes.proofs.Folding.{AreBandsTo}
use Rattle.xs_enc_lanes.proofs.transform.folded_bands.Given as goal

abbrev pub invariant-bands : goal.invariant-bands
invariant-bands l = AreBandsTo l.header l.place.0 l.place.1 l.splitter l.number l.bands.items
