use Rattle.xs_layout.proofs.Places as places
use Rattle.xs_layout.proofs.types_counted.Goals as goal

pub returns : goal.returns
returns c = places.types_counted
