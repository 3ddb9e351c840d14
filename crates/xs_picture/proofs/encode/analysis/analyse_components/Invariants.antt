use Rattle.xs_picture.proofs.Analysed.{AreBandsTo}
use Rattle.xs_picture.proofs.encode.analysis.analyse_components.Given as goal

abbrev pub invariant-components : goal.invariant-components
invariant-components l = AreBandsTo l.header l.picture l.number l.bands
