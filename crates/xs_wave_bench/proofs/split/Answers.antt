use Rattle.std.proofs.Common.{arith, ◌^◌, ap, ◌∙◌}
use Rattle.xs_wave.specs.Planes.{plane_of}
use Rattle.xs_wave.proofs.Blanks.{blank_zero}
use Rattle.xs_wave.proofs.Small.{zero_below}
use Rattle.xs_wave_bench.proofs.split.Goals as goal

pub analyse_plane-requires-clause-small : goal.analyse_plane-requires-clause-small
analyse_plane-requires-clause-small c row column =
    zero_below (2 ^ 40) _ (omega arith) (ap (λ rows. plane_of rows row column) c.in_ok-plane.ensures ∙ blank_zero 4096 2160 row column)
