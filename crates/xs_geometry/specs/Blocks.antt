-- The rows of a slice as they are held: band after band and line after line in one list of numbers.
use Rattle.std.specs.Prelude.{◌≡◌, ℕ, ◌+◌, ◌*◌, ◌<◌, ◌≤◌, ℤ, List, [], ◌∷◌, take, drop, length, map, slice_index_or}
use Rattle.std.specs.List.{range_with_len}
use Rattle.xs_params.specs.declared.header.Header.{Header}
use Rattle.xs_params.specs.Geometry.{bands_of, band_width_of}
use Rattle.xs_geometry.specs.declared.blocks.BandBlock.{BandBlock}
use Rattle.xs_geometry.specs.declared.blocks.BlockTable.{BlockTable}
use Rattle.xs_geometry.specs.SliceLines.{BandLines, first_line_of, end_line_of}

-- how many numbers a block has
abbrev pub room_for : BandBlock → ℕ
room_for block = block.lines * block.width

-- row k of a block in the list
abbrev pub block_row : List ℤ → BandBlock → ℕ → List ℤ
block_row numbers block k = take block.width (drop (block.start + k * block.width) numbers)

-- the lines of a block
abbrev pub block_lines : List ℤ → BandBlock → BandLines
block_lines numbers block = record { first = block.first; rows = map (block_row numbers block) (range_with_len 0 block.lines) }

-- the list cut into the lines of each band
abbrev pub bands_cut : List BandBlock → List ℤ → List BandLines
bands_cut blocks numbers = map (block_lines numbers) blocks

-- the blocks stand one behind the other from this place on, and end at that one
abbrev pub StandFrom : ℕ → List BandBlock → ℕ → Type 0
StandFrom place [] end = place ≡ end
StandFrom place (block ∷ blocks) end = (block.start ≡ place) × (block.first + block.lines ≤ 8192) × StandFrom (place + room_for block) blocks end

-- the blocks of a table
abbrev pub blocks_of : BlockTable → List BandBlock
blocks_of table = take table.count table.bands

abbrev pub no_block : BandBlock
no_block = record { first = 0; lines = 0; width = 0; start = 0 }

-- the lines of a band in a slice are those of the block
pub record IsBlockOf (h : Header) (slice band : ℕ) (block : BandBlock) : Type 0 where
  pub first : block.first ≡ first_line_of h slice band
  pub end : block.first + block.lines ≡ end_line_of h slice band
  pub width : block.width ≡ band_width_of h band

-- the first n bands of a slice have these blocks
pub record AreFirstBlocks (h : Header) (slice n : ℕ) (blocks : List BandBlock) (numbers : ℕ) : Type 0 where
  pub count : length blocks ≡ n
  pub each : (band : ℕ) → band < n → IsBlockOf h slice band (slice_index_or blocks band no_block)
  pub stand : StandFrom 0 blocks numbers

-- and so have all
abbrev pub AreBlocks : Header → ℕ → BlockTable → Type 0
AreBlocks h slice table = AreFirstBlocks h slice (bands_of h) (blocks_of table) table.numbers
