use Rattle.std.proofs.Common.{◌≡◌, ◌+◌, ap, ◌∙◌, arith}
use Rattle.xs_params.specs.Geometry.{slice_count}
use Rattle.xs_slice_read.specs.Read.{IsSliceRead}
use Rattle.xs_slice_read.specs.Unit.{IsUnitRead}
use Rattle.xs_slice_read.proofs.Precincts.{are_bytes}
use Rattle.xs_slice_read.proofs.Units.{if_ok, other_read}
use Rattle.xs_slice_read.proofs.unit.read_unit.Goals as goal

pub returns-else-slice-slices-clause-read : goal.returns-else-slice-slices-clause-read
returns-else-slice-slices-clause-read c =
    let h = c.args.header.now in
    let bytes = c.args.bytes.now in
    let count : c.slices.result ≡ slice_count c.args.header.now = c.slices.ensures.count ∙ ap slice_count c.of.ensures in
    if_ok c.read_slice.result (λ rows. IsSliceRead c.args.header.now c.args.slice rows c.args.bytes.now) (λ rows. IsUnitRead c.args.header.now c.args.slice rows c.args.bytes.now)
    (λ rows. other_read h c.args.slice rows bytes c.requires.accepted c.requires.there (are_bytes bytes (λ i. omega (arith, c.type_inv.bytes i))) (λ last. absurd (omega (arith, last, count, c.if-slice-slices.false))))
    c.read_slice.ensures.read
