use Rattle.std.proofs.Common.{◌≡◌, ◌-◌, ◌<◌, ◌+◌, take, drop, length, sym, ◌∙◌, arith}
use Rattle.std.proofs.lemmas.Grind.{common_steps}
use Rattle.xs_params.specs.Geometry.{slice_count}
use Rattle.xs_params.specs.Markers.{eoc}
use Rattle.xs_slice_read.proofs.Precincts.{are_bytes, rest_is}
use Rattle.xs_slice_read.proofs.Units.{last_read}
use Rattle.xs_slice_read.proofs.unit.read_last.Goals as goal

pub returns-clause-read : goal.returns-clause-read
returns-clause-read c =
    let bytes = c.args.bytes.now in
    let there : c.args.slice < slice_count c.args.header.now = omega (arith, c.requires.last) in
    let marker : take (length c.args.bytes.now - c.in_ok-rows.size) (drop c.in_ok-rows.size c.args.bytes.now) ≡ eoc = grind (arith, common_steps, c.ne.ensures, c.if-ne.false, c.as_slice.ensures) in
    last_read c.args.header.now c.args.slice c.in_ok-rows.rows bytes c.in_ok-rows.size c.requires.accepted there (are_bytes bytes (λ i. omega (arith, c.type_inv.bytes i))) c.requires.last c.in_ok-rows.ensures.read
    (sym (rest_is c.in_ok-rows.size bytes) ∙ marker)
