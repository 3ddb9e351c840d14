-- The lines of the bands in one list of numbers.
use Rattle.std.proofs.Common.{◌≡◌, ℕ, zero, suc, ◌+◌, ◌-◌, ◌*◌, ◌<◌, ◌≤◌, ℤ, pos, List, [], ◌∷◌, ◌++◌, length, take, drop, map, get_or, replicate, refl, sym, ap, subst, ◌∙◌, arith, inl, inr, suc-mul, take-add, Vec}
use Rattle.std.specs.List.{range_with_len}
use Rattle.std.proofs.lemmas.Bool.{cases_eq}
use Rattle.std.proofs.lemmas.List.{length-take, length-take-le, length-drop, length-map, length-append, drop-drop, take-map, take_all, get_or-map, get_or-take, get_or-append_right, get_or_append_left, take-replicate, drop-replicate}
use Rattle.std.proofs.lemmas.List.FromFn.{length-map-range_with_len, get_or-map-range_with_len, take-map-range_with_len}
use Rattle.std.proofs.lemmas.Nat.{mul-le}
use Rattle.std.specs.Vec.{with_items_from}
use Rattle.std.specs.declared.alloc.Global.{Global}
use Rattle.xs_params.specs.declared.header.Header.{Header}
use Rattle.xs_params.specs.Geometry.{bands_of}
use Rattle.xs_geometry.specs.declared.blocks.BandBlock.{BandBlock}
use Rattle.xs_geometry.specs.declared.blocks.BlockTable.{BlockTable}
use Rattle.xs_geometry.specs.SliceLines.{BandLines, no_lines, lines_at, row_at, HasLine, AreLinesOf, AreBlank}
use Rattle.xs_geometry.specs.Written.{row_numbers, band_numbers, numbers_before, rows_refilled, bands_refilled, written_from, with_lent}
use Rattle.xs_geometry.proofs.LentRows.{lent_items}
use Rattle.xs_geometry.specs.Blocks.{room_for, block_row, block_lines, bands_cut, StandFrom, blocks_of, no_block, IsBlockOf, AreFirstBlocks}

times_next : (n width : ℕ) → suc n * width ≡ width + n * width
times_next n width = omega (arith, suc-mul n width)

-- Blocks that stand one behind the other

stand_order : (place end : ℕ) (blocks : List BandBlock) → StandFrom place blocks end → place ≤ end
stand_order place end [] stand = omega (arith, stand)
stand_order place end (block ∷ blocks) stand = omega (arith, stand_order (place + room_for block) end blocks stand.2)

-- where one of them stands
pub record IsAmong (place end band : ℕ) (blocks : List BandBlock) (block : BandBlock) : Type 0 where
  pub begin : place ≤ block.start
  pub room : block.start + room_for block ≤ end
  pub most : block.first + block.lines ≤ 8192
  pub before : StandFrom place (take band blocks) block.start

pub block_stands : (place end band : ℕ) (blocks : List BandBlock) → StandFrom place blocks end → band < length blocks → IsAmong place end band blocks (get_or blocks band no_block)
block_stands place end band [] stand inside = absurd (omega (arith, inside))
block_stands place end zero (block ∷ blocks) stand inside = record {
  begin = omega (arith, stand.0);
  room = omega (arith, stand.0, stand_order (place + room_for block) end blocks stand.2);
  most = stand.1;
  before = sym stand.0;
}
block_stands place end (suc band) (block ∷ blocks) stand inside =
    let rest = block_stands (place + room_for block) end band blocks stand.2 (omega (arith, inside)) in
    record {
      begin = omega (arith, rest.begin);
      room = rest.room;
      most = rest.most;
      before = (stand.0, stand.1, rest.before);
    }

stand_more : (place end : ℕ) (blocks : List BandBlock) (block : BandBlock) → StandFrom place blocks end → block.start ≡ end → block.first + block.lines ≤ 8192 → StandFrom place (blocks ++ block ∷ []) (end + room_for block)
stand_more place end [] block stand here most = (here ∙ sym stand, most, ap (λ p. p + room_for block) stand)
stand_more place end (first ∷ blocks) block stand here most = (stand.0, stand.1, stand_more (place + room_for first) end blocks block stand.2 here most)

-- The rows of a block

-- row k of a block is within its room
pub row_room : (block : BandBlock) (k : ℕ) → k < block.lines → k * block.width + block.width ≤ room_for block
row_room block k inside = omega (arith, suc-mul k block.width, mul-le (suc k) block.width block.lines block.width (omega (arith, inside)) (omega arith))

row_long : (numbers : List ℤ) (block : BandBlock) (k : ℕ) → k < block.lines → block.start + room_for block ≤ length numbers → length (block_row numbers block k) ≡ block.width
row_long numbers block k inside room =
    let place = block.start + k * block.width in
    length-take-le block.width (drop place numbers) (omega (arith, length-drop {A = ℤ} place numbers, row_room block k inside, room))

rows_flat : (numbers : List ℤ) (block : BandBlock) (a n : ℕ) → row_numbers (map (block_row numbers block) (range_with_len a n)) ≡ take (n * block.width) (drop (block.start + a * block.width) numbers)
rows_flat numbers block a zero = let none : 0 * block.width ≡ 0 = omega arith in sym (ap (λ n. take n (drop (block.start + a * block.width) numbers)) none)
rows_flat numbers block a (suc n) =
    let width = block.width in
    let place = block.start + a * width in
    let next : block.start + (a + 1) * width ≡ place + width = omega arith in
    let rest : row_numbers (map (block_row numbers block) (range_with_len (a + 1) n)) ≡ take (n * width) (drop width (drop place numbers)) =
    rows_flat numbers block (a + 1) n ∙ ap (λ p. take (n * width) (drop p numbers)) next ∙ ap (take (n * width)) (sym (drop-drop width place numbers)) in
    ap (λ l. take width (drop place numbers) ++ l) rest ∙ sym (take-add width (n * width) (drop place numbers)) ∙ ap (λ p. take p (drop place numbers)) (sym (times_next n width))

block_flat : (numbers : List ℤ) (block : BandBlock) → row_numbers (block_lines numbers block).rows ≡ take (room_for block) (drop block.start numbers)
block_flat numbers block =
    let first : block.start + 0 * block.width ≡ block.start = omega arith in
    rows_flat numbers block 0 block.lines ∙ ap (λ p. take (room_for block) (drop p numbers)) first

bands_flat : (numbers : List ℤ) (place end : ℕ) (blocks : List BandBlock) → StandFrom place blocks end → band_numbers (bands_cut blocks numbers) ≡ take (end - place) (drop place numbers)
bands_flat numbers place end [] stand = let none : end - place ≡ 0 = omega (arith, stand) in sym (ap (λ n. take n (drop place numbers)) none)
bands_flat numbers place end (block ∷ blocks) stand =
    let room = room_for block in
    let order = stand_order (place + room) end blocks stand.2 in
    let all : room + (end - (place + room)) ≡ end - place = omega (arith, order) in
    let here : row_numbers (block_lines numbers block).rows ≡ take room (drop place numbers) = block_flat numbers block ∙ ap (λ p. take room (drop p numbers)) stand.0 in
    let rest : band_numbers (bands_cut blocks numbers) ≡ take (end - (place + room)) (drop room (drop place numbers)) =
    bands_flat numbers (place + room) end blocks stand.2 ∙ ap (take (end - (place + room))) (sym (drop-drop room place numbers)) in
    ap (λ l. l ++ band_numbers (bands_cut blocks numbers)) here ∙ ap (λ l. take room (drop place numbers) ++ l) rest
    ∙ sym (take-add room (end - (place + room)) (drop place numbers)) ∙ ap (λ n. take n (drop place numbers)) all

-- from the first place on
front_flat : (numbers : List ℤ) (end : ℕ) (blocks : List BandBlock) → StandFrom 0 blocks end → band_numbers (bands_cut blocks numbers) ≡ take end numbers
front_flat numbers end blocks stand = let whole : end - 0 ≡ end = omega arith in bands_flat numbers 0 end blocks stand ∙ ap (λ n. take n numbers) whole

-- Refilled with other numbers

rows_again : (old new : List ℤ) (block : BandBlock) (a n : ℕ) → a + n ≤ block.lines → block.start + room_for block ≤ length old
    → rows_refilled (map (block_row old block) (range_with_len a n)) (drop (block.start + a * block.width) new) ≡ map (block_row new block) (range_with_len a n)
rows_again old new block a zero few room = refl
rows_again old new block a (suc n) few room =
    let width = block.width in
    let place = block.start + a * width in
    let next : place + width ≡ block.start + (a + 1) * width = omega arith in
    let long : length (block_row old block a) ≡ width = row_long old block a (omega (arith, few)) room in
    ap (λ k. take k (drop place new) ∷ rows_refilled (map (block_row old block) (range_with_len (a + 1) n)) (drop k (drop place new))) long
    ∙ ap (λ l. block_row new block a ∷ rows_refilled (map (block_row old block) (range_with_len (a + 1) n)) l) (drop-drop width place new ∙ ap (λ p. drop p new) next)
    ∙ ap (λ l. block_row new block a ∷ l) (rows_again old new block (a + 1) n (omega (arith, few)) room)

abbrev lines : ℕ → List (List ℤ) → BandLines
lines first rows = record { first = first; rows = rows }

pub bands_again : (old new : List ℤ) (place end : ℕ) (blocks : List BandBlock) → StandFrom place blocks end → end ≤ length old → bands_refilled (bands_cut blocks old) (drop place new) ≡ bands_cut blocks new
bands_again old new place end [] stand fits = refl
bands_again old new place end (block ∷ blocks) stand fits =
    let room = room_for block in
    let order = stand_order (place + room) end blocks stand.2 in
    let inside : block.start + room ≤ length old = omega (arith, stand.0, order, fits) in
    let first : place ≡ block.start + 0 * block.width = omega (arith, stand.0) in
    let again : rows_refilled (block_lines old block).rows (drop place new) ≡ (block_lines new block).rows =
    ap (λ p. rows_refilled (block_lines old block).rows (drop p new)) first ∙ rows_again old new block 0 block.lines (omega arith) inside in
    let long : length (row_numbers (block_lines old block).rows) ≡ room =
    ap length (block_flat old block) ∙ length-take-le room (drop block.start old) (omega (arith, length-drop {A = ℤ} block.start old, inside)) in
    ap (λ r. lines block.first r ∷ bands_refilled (bands_cut blocks old) (drop (length (row_numbers (block_lines old block).rows)) (drop place new))) again
    ∙ ap (λ n. block_lines new block ∷ bands_refilled (bands_cut blocks old) (drop n (drop place new))) long
    ∙ ap (λ l. block_lines new block ∷ bands_refilled (bands_cut blocks old) l) (drop-drop room place new)
    ∙ ap (λ l. block_lines new block ∷ l) (bands_again old new (place + room) end blocks stand.2 fits)

-- What is seen of the list

-- these lines of the bands stand in this list, and fill it
pub record AreSeen (blocks : List BandBlock) (numbers : List ℤ) (now : List BandLines) : Type 0 where
  pub seen : bands_cut blocks numbers ≡ now
  pub stand : StandFrom 0 blocks (length numbers)

pub numbers_seen : (blocks : List BandBlock) (numbers : List ℤ) (now : List BandLines) → AreSeen blocks numbers now → band_numbers now ≡ numbers
numbers_seen blocks numbers now are = sym (ap band_numbers are.seen) ∙ front_flat numbers (length numbers) blocks are.stand ∙ take_all (length numbers) numbers (omega arith)

pub bands_seen : (blocks : List BandBlock) (numbers : List ℤ) (now : List BandLines) (band : ℕ) → AreSeen blocks numbers now → band < length now → band < length blocks
bands_seen blocks numbers now band are inside = omega (arith, inside, ap length are.seen, length-map blocks (block_lines numbers))

pub lines_seen : (blocks : List BandBlock) (numbers : List ℤ) (now : List BandLines) (band : ℕ) → AreSeen blocks numbers now → band < length blocks → lines_at now band ≡ block_lines numbers (get_or blocks band no_block)
lines_seen blocks numbers now band are inside = sym (ap (λ bands. lines_at bands band) are.seen) ∙ get_or-map (block_lines numbers) blocks band no_block no_lines inside

-- what the block of a band says of its lines
pub record IsSeenIn (numbers : List ℤ) (now : List BandLines) (band : ℕ) (block : BandBlock) : Type 0 where
  pub first : (lines_at now band).first ≡ block.first
  pub lines : length (lines_at now band).rows ≡ block.lines
  pub room : block.start + room_for block ≤ length numbers
  pub most : block.first + block.lines ≤ 8192

pub block_seen : (blocks : List BandBlock) (numbers : List ℤ) (now : List BandLines) (band : ℕ) → AreSeen blocks numbers now → band < length now → IsSeenIn numbers now band (get_or blocks band no_block)
block_seen blocks numbers now band are inside =
    let block = get_or blocks band no_block in
    let here = bands_seen blocks numbers now band are inside in
    let lines = lines_seen blocks numbers now band are here in
    let among = block_stands 0 (length numbers) band blocks are.stand here in
    record {
      first = ap (λ (l : BandLines). l.first) lines;
      lines = ap (λ (l : BandLines). length l.rows) lines ∙ length-map-range_with_len (block_row numbers block) 0 block.lines;
      room = among.room;
      most = among.most;
    }

-- what the place of a row says
pub record IsPlaceOf (numbers : List ℤ) (now : List BandLines) (band line place width : ℕ) : Type 0 where
  pub before : place ≡ numbers_before now band line
  pub long : width ≡ length (row_at now band line)
  pub row : take width (drop place numbers) ≡ row_at now band line

pub place_seen : (blocks : List BandBlock) (numbers : List ℤ) (now : List BandLines) (band line : ℕ) → AreSeen blocks numbers now → HasLine now band line
    → let block = get_or blocks band no_block in IsPlaceOf numbers now band line (block.start + (line - block.first) * block.width) block.width
place_seen blocks numbers now band line are has =
    let block = get_or blocks band no_block in
    let k = line - block.first in
    let here = bands_seen blocks numbers now band are has.band_there in
    let seen = block_seen blocks numbers now band are has.band_there in
    let lines = lines_seen blocks numbers now band are here in
    let among = block_stands 0 (length numbers) band blocks are.stand here in
    let inside : k < block.lines = omega (arith, has.from, has.line_there, seen.first, seen.lines) in
    let row : row_at now band line ≡ block_row numbers block k =
    ap (λ (l : BandLines). get_or l.rows (line - l.first) []) lines ∙ get_or-map-range_with_len (block_row numbers block) 0 block.lines k k [] inside (omega arith) in
    let fits = row_room block k inside in
    let bands_before : length (band_numbers (take band now)) ≡ block.start =
    ap (λ bands. length (band_numbers (take band bands))) (sym are.seen) ∙ ap (λ bands. length (band_numbers bands)) (take-map (block_lines numbers) band blocks)
    ∙ ap length (front_flat numbers block.start (take band blocks) among.before) ∙ length-take-le block.start numbers (omega (arith, seen.room)) in
    let rows_before : length (row_numbers (take (line - (lines_at now band).first) (lines_at now band).rows)) ≡ k * block.width =
    ap (λ (l : BandLines). length (row_numbers (take (line - l.first) l.rows))) lines
    ∙ ap (λ rows. length (row_numbers rows)) (take-map-range_with_len (block_row numbers block) 0 block.lines k (omega (arith, inside)))
    ∙ ap length (rows_flat numbers block 0 k)
    ∙ length-take-le (k * block.width) (drop (block.start + 0 * block.width) numbers) (omega (arith, length-drop {A = ℤ} (block.start + 0 * block.width) numbers, fits, seen.room)) in
    record {
      before = omega (arith, bands_before, rows_before);
      long = sym (ap length row ∙ row_long numbers block k inside seen.room);
      row = sym row;
    }

-- The same of a table

at_table : (table : BlockTable) (band : ℕ) → band < length (blocks_of table) → get_or (blocks_of table) band no_block ≡ get_or table.bands band no_block
at_table table band inside = get_or-take table.count table.bands band no_block (omega (arith, inside, length-take {A = BandBlock} table.count table.bands))

pub table_seen : (table : BlockTable) (numbers : List ℤ) (now : List BandLines) (band : ℕ) → AreSeen (blocks_of table) numbers now → band < length now → IsSeenIn numbers now band (get_or table.bands band no_block)
table_seen table numbers now band are inside =
    subst (IsSeenIn numbers now band) (at_table table band (bands_seen (blocks_of table) numbers now band are inside)) (block_seen (blocks_of table) numbers now band are inside)

pub table_place : (table : BlockTable) (numbers : List ℤ) (now : List BandLines) (band line : ℕ) → AreSeen (blocks_of table) numbers now → HasLine now band line
    → let block = get_or table.bands band no_block in IsPlaceOf numbers now band line (block.start + (line - block.first) * block.width) block.width
table_place table numbers now band line are has =
    subst (λ (block : BandBlock). IsPlaceOf numbers now band line (block.start + (line - block.first) * block.width) block.width) (at_table table band (bands_seen (blocks_of table) numbers now band are has.band_there))
    (place_seen (blocks_of table) numbers now band line are has)

-- The lines after a row was lent

pub view_lent : (blocks : List BandBlock) (v : Vec ℤ Global) (start : ℕ) (now : List BandLines) (band line : ℕ) (new : List ℤ) → AreSeen blocks v.items now → start ≡ numbers_before now band line → start ≤ length v.items
    → bands_cut blocks (with_items_from v start new).items ≡ with_lent now band line new
view_lent blocks v start now band line new are place fits =
    ap (bands_cut blocks) (lent_items v start new fits)
    ∙ sym (bands_again v.items (written_from start v.items new) 0 (length v.items) blocks are.stand (omega arith))
    ∙ ap (λ bands. bands_refilled bands (written_from start v.items new)) are.seen
    ∙ ap (λ l. bands_refilled now (written_from start l new)) (sym (numbers_seen blocks v.items now are))
    ∙ ap (λ n. bands_refilled now (written_from n (band_numbers now) new)) place

-- The lines of a slice

pub no_blocks : (h : Header) (slice : ℕ) (blocks : List BandBlock) → blocks ≡ [] → AreFirstBlocks h slice 0 blocks 0
no_blocks h slice blocks none = rw none record { count = omega arith; each = λ band less. absurd (omega (arith, less)); stand = refl }

pub blocks_more : (h : Header) (slice n : ℕ) (blocks : List BandBlock) (numbers : ℕ) (block : BandBlock) → AreFirstBlocks h slice n blocks numbers → IsBlockOf h slice n block → block.start ≡ numbers → block.first + block.lines ≤ 8192
    → AreFirstBlocks h slice (n + 1) (blocks ++ block ∷ []) (numbers + room_for block)
blocks_more h slice n blocks numbers block are next here most =
    let last : get_or (blocks ++ block ∷ []) n no_block ≡ block =
    get_or-append_right blocks (block ∷ []) n n no_block are.count (omega arith) ∙ (let none : n - n ≡ 0 = omega arith in ap (λ i. get_or (block ∷ []) i no_block) none) in
    record {
      count = omega (arith, length-append blocks (block ∷ []), are.count);
      each = λ band less.
          elim (cases_eq band n) [
            | inl same ↦ subst (λ b. IsBlockOf h slice b (get_or (blocks ++ block ∷ []) b no_block)) (sym same) (subst (IsBlockOf h slice n) (sym last) next)
            | inr other ↦
                let before : band < n = omega (arith, less, other) in
                subst (IsBlockOf h slice band) (sym (get_or_append_left blocks (block ∷ []) no_block band (omega (arith, before, are.count)))) (are.each band before)
          ];
      stand = stand_more 0 numbers blocks block are.stand here most;
    }

module _ (h : Header) (slice total : ℕ) (blocks : List BandBlock) (numbers : List ℤ) (are : AreFirstBlocks h slice (bands_of h) blocks total) (whole : length numbers ≡ total) where
  are_seen : AreSeen blocks numbers (bands_cut blocks numbers)
  are_seen = record { seen = refl; stand = subst (StandFrom 0 blocks) (sym whole) are.stand }

  pub lines_blank : AreLinesOf h slice (bands_cut blocks numbers)
  lines_blank =
      let size : length (bands_cut blocks numbers) ≡ bands_of h = length-map blocks (block_lines numbers) ∙ are.count in
      record {
        count = size;
        first = λ band less. (block_seen blocks numbers (bands_cut blocks numbers) band are_seen (omega (arith, less, size))).first ∙ (are.each band less).first;
        lines = λ band less.
            let seen = block_seen blocks numbers (bands_cut blocks numbers) band are_seen (omega (arith, less, size)) in
            let each = are.each band less in
            omega (arith, seen.lines, each.first, each.end);
        width = λ band line has.
            let place = place_seen blocks numbers (bands_cut blocks numbers) band line are_seen has in
            sym place.long ∙ (are.each band (omega (arith, has.band_there, size))).width;
      }

  pub zeros_blank : numbers ≡ replicate total (pos 0) → AreBlank (bands_cut blocks numbers)
  zeros_blank zeros = record {
    zero = λ band line has.
        let block = get_or blocks band no_block in
        let now = bands_cut blocks numbers in
        let place = block.start + (line - block.first) * block.width in
        let is = place_seen blocks numbers now band line are_seen has in
        let seen = block_seen blocks numbers now band are_seen has.band_there in
        let fits = row_room block (line - block.first) (omega (arith, has.from, has.line_there, seen.first, seen.lines)) in
        sym is.row ∙ ap (λ l. take block.width (drop place l)) zeros ∙ ap (take block.width) (drop-replicate place total (pos 0))
        ∙ take-replicate block.width (total - place) (pos 0) (omega (arith, fits, seen.room, whole)) ∙ ap (λ n. replicate n (pos 0)) is.long;
  }
