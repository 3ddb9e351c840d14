use Rattle.xs_geometry.proofs.WrittenRows as written
use Rattle.xs_geometry.proofs.accepted_ranges.Goals as goal

pub returns : goal.returns
returns c = written.accepted_ranges
