use Rattle.std.proofs.Common.{◌+◌, ◌*◌, ◌/◌, ap, ◌∙◌}
use Rattle.xs_geometry.specs.SliceLines.{rows_held}
use Rattle.xs_sizes.specs.Measured.{header_in}
use Rattle.xs_sizes.proofs.Measuring.{precinct_sized, precinct_fitting}
use Rattle.xs_sizes.proofs.measure.precinct_size.Goals as goal

pub returns-clause-bytes : goal.returns-clause-bytes
returns-clause-bytes c slice bands weights candidate coded there =
    precinct_sized (header_in c.args.coding.now weights) (rows_held bands) candidate c.args.precinct c.from.result c.packets_size-packets.result.bytes (c.from.ensures ∙ ap (λ n. (40 + 2 * n + 7) / 8) c.bands-bands.ensures.count)
    (c.packets_size-packets.ensures.bytes slice bands weights candidate coded there)

pub returns-clause-fits : goal.returns-clause-fits
returns-clause-fits c slice bands weights candidate coded there =
    c.both.ensures
    ∙ precinct_fitting (header_in c.args.coding.now weights) (rows_held bands) candidate c.args.precinct c.packets_size-packets.result.bytes c.packets_size-packets.result.fits_fields
    (c.packets_size-packets.ensures.fits slice bands weights candidate coded there) (c.packets_size-packets.ensures.bytes slice bands weights candidate coded there)
