use Rattle.std.proofs.Common.{◌<◌, sym, subst}
use Rattle.xs_params.specs.declared.header.Header.{Header}
use Rattle.xs_params.specs.Geometry.{slice_count}
use Rattle.xs_precinct_write.proofs.Coded.{lines_of_geometry}
use Rattle.xs_slice_write.proofs.write.write_slice_in.Goals as goal

pub count-counted-requires-clause-lines : goal.count-counted-requires-clause-lines
count-counted-requires-clause-lines c = (
  c.args.wanted.now.slice,
  subst (λ (g : Header). c.args.wanted.now.slice < slice_count g) (sym c.of-geometry.ensures) c.requires.slice,
  lines_of_geometry c.args.header.now c.of-geometry.result c.args.wanted.now.slice c.args.wanted.now.rows.now c.of-geometry.ensures c.requires.lines,
)
