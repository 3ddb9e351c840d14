use Rattle.std.proofs.Common.{◌<◌, sym, subst}
use Rattle.xs_params.specs.Geometry.{slice_count}
use Rattle.xs_picture.proofs.Encoded.{some_slices}
use Rattle.xs_enc_lanes.proofs.activity.Room.of.Goals as goal

pub blank-requires : goal.blank-requires
blank-requires c = subst (λ g. 0 < slice_count g) (sym c.of.ensures) (some_slices c.args.job.now.header.now c.requires.accepted)
