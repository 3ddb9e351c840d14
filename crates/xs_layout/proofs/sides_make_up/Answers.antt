use Rattle.xs_layout.proofs.Places as places
use Rattle.xs_layout.proofs.sides_make_up.Goals as goal

pub returns : goal.returns
returns c = places.sides_make_up
