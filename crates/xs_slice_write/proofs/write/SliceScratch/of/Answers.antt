use Rattle.std.proofs.Common.{subst}
use Rattle.xs_params.specs.declared.header.Header.{Header}
use Rattle.xs_precinct_write.specs.Outgoing.{HaveRoom}
use Rattle.xs_precinct_write.proofs.Alikes.{room_of_geometry}
use Rattle.xs_slice_write.proofs.write.SliceScratch.of.Goals as goal

pub returns : goal.returns
returns c = record {
  table = c.in_ok-new.ensures.table;
  lines = room_of_geometry c.args.header.now c.in_ok-of.field-0.lines.items (subst (λ (g : Header). HaveRoom g c.in_ok-of.field-0.lines.items) c.of.ensures c.in_ok-of.ensures.room);
}
