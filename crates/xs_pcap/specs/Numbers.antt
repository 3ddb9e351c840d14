-- Numbers in the order of bytes of a file, and the half words of IP headers: 'Classic pcap files'.
use Rattle.std.specs.Prelude.{ℕ, List, ◌^◌, ◌+◌, ◌-◌, ◌*◌, ◌/◌, ◌%◌, length, map, take, drop}
use Rattle.std.specs.Int.{to_be_bytes, to_le_bytes, from_be_bytes, from_le_bytes, w32}
use Rattle.std.specs.List.{fold}
use Rattle.xs_lists.specs.Fields.{half_word_at}
use Rattle.xs_lists.specs.Spelling.{upto}
use Rattle.xs_pcap.specs.declared.numbers.Order.{Order}
use Rattle.xs_pcap.specs.declared.numbers.Order.TheVariants.{Big, Little}

-- the four bytes of a number in the file's order, and the number of the four bytes at a place
abbrev pub word_bytes : Order → ℕ → List ℕ
word_bytes Big number = to_be_bytes w32 number
word_bytes Little number = to_le_bytes w32 number

abbrev pub word_of : Order → List ℕ → ℕ
word_of Big bytes = from_be_bytes w32 bytes
word_of Little bytes = from_le_bytes w32 bytes

abbrev pub ordered_word_at : Order → List ℕ → ℕ → ℕ
ordered_word_at order bytes at = word_of order (take 4 (drop at bytes))

-- the ones' complement sum of two numbers of 16 bits: what is carried out is carried in
abbrev pub ones_add : ℕ → ℕ → ℕ
ones_add a b = (a + b) % 2 ^ 16 + (a + b) / 2 ^ 16

-- the ones' complement sum of the half words of bytes
abbrev pub ones_sum : List ℕ → ℕ
ones_sum bytes = fold ones_add 0 (map (λ k. half_word_at bytes (2 * k)) (upto (length bytes / 2)))

-- its ones' complement
abbrev pub checksum_of : List ℕ → ℕ
checksum_of bytes = 2 ^ 16 - 1 - ones_sum bytes
