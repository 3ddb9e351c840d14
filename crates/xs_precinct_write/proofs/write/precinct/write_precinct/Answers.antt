use Rattle.std.proofs.Common.{◌<◌, sym, subst, arith}
use Rattle.xs_params.specs.declared.header.Header.{Header}
use Rattle.xs_params.specs.Geometry.{slice_count}
use Rattle.xs_precinct_write.specs.Outgoing.{HaveRoom}
use Rattle.xs_precinct_write.proofs.Alikes.{room_of_geometry}
use Rattle.xs_precinct_write.proofs.Coded.{lines_of_geometry, slice_there}
use Rattle.xs_precinct_write.proofs.write.precinct.write_precinct.Goals as goal

pub of-requires-clause-lines : goal.of-requires-clause-lines
of-requires-clause-lines c =
    let h = c.args.header.now in
    let lines = c.requires.lines in
    let some = c.requires.accepted.geometry.hsl in (
      lines.0,
      subst (λ (g : Header). lines.0 < slice_count g) (sym c.requires.geometry) (slice_there h lines.0 c.args.precinct (omega (arith, some)) lines.2),
      lines_of_geometry h c.args.geometry.now lines.0 c.args.rows.now c.requires.geometry lines.1,
    )

pub write_filled_precinct-requires-clause-room : goal.write_filled_precinct-requires-clause-room
write_filled_precinct-requires-clause-room c =
    room_of_geometry c.args.header.now c.in_ok-scratch.scratch.lines.items (subst (λ (g : Header). HaveRoom g c.in_ok-scratch.scratch.lines.items) c.requires.geometry c.in_ok-scratch.ensures.room)
