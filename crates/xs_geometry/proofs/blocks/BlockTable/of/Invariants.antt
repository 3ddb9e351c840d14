use Rattle.std.proofs.Common.{◌≡◌, ◌*◌, ◌^◌, ◌≤◌}
use Rattle.xs_geometry.specs.Blocks.{AreFirstBlocks, blocks_of}
use Rattle.xs_geometry.proofs.blocks.BlockTable.of.Given as goal

abbrev pub invariant-loop-band : goal.invariant-loop-band
invariant-loop-band l = record {
  blocks : AreFirstBlocks l.geometry l.slice l.band (blocks_of l.table) l.table.numbers;
  count : l.table.count ≡ l.band;
  numbers : l.table.numbers ≤ l.band * 2 ^ 26;
}
