use Rattle.xs_capture.proofs.Sorting.{is_found}
use Rattle.xs_capture.proofs.pictures.number_of.Goals as goal

pub unreachable-requires : goal.unreachable-requires
unreachable-requires c = is_found c.args.timestamps.now c.args.timestamp c.in-Err.field-0 c.requires.rise c.requires.there c.in-Err.ensures.position
