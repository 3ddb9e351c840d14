use Rattle.std.proofs.Common.{◌-◌, refl, arith}
use Rattle.xs_geometry.specs.declared.blocks.BandBlock.{BandBlock}
use Rattle.xs_geometry.specs.Blocks.{blocks_of, IsBlockOf}
use Rattle.xs_geometry.proofs.BlockRows.{blocks_more}
use Rattle.xs_geometry.proofs.blocks.BlockTable.of.Goals as goal

pub loop-band-preserved : goal.loop-band-preserved
loop-band-preserved c =
    let h = c.args.geometry.now in
    let i = c.loop-band.invariant in
    let places = c.slice_lines-first in
    let most = places.ensures.most in
    let order = places.ensures.order in
    let block : BandBlock = record { first = places.result.0; lines = places.result.1 - places.result.0; width = c.band_width.result; start = c.loop-band.table.numbers } in
    let next : IsBlockOf h c.args.slice c.loop-band.band block = record {
      first = places.ensures.first;
      end = omega (arith, places.ensures.end, order);
      width = c.band_width.ensures.columns;
    } in
    record {
      blocks = rw (c.add.ensures.blocks, c.add.ensures.numbers) (blocks_more h c.args.slice c.loop-band.band (blocks_of c.loop-band.table) c.loop-band.table.numbers block i.blocks next refl (omega (arith, most, order)));
      count = omega (arith, c.add.ensures.count, i.count);
      numbers = omega (arith, c.add.ensures.few, c.add.ensures.count, i.count);
    }
