-- Bits packed into bytes, the most significant first; the last byte is filled up with zeros.
use Rattle.std.specs.Prelude.{◌≡◌, ℕ, ◌+◌, ◌-◌, ◌*◌, ◌<◌, ◌^◌, List, ◌++◌, length, map, replicate, slice_index_or}
use Rattle.std.specs.List.{AllByRecursion, fold}
use Rattle.xs_lists.specs.Bits.{bits_of_bytes, bytes_for}
use Rattle.xs_lists.specs.Spelling.{upto}

-- the number of some bits, the most significant first
abbrev pub number_of : List ℕ → ℕ
number_of bits = fold (λ number bit. 2 * number + bit) 0 bits

-- byte number i of some bits: the bits from 8 i on, and 0 past the end
abbrev pub packed_byte : List ℕ → ℕ → ℕ
packed_byte bits i = number_of (map (λ k. slice_index_or bits (8 * i + k) 0) (upto 8))

-- the bytes of some bits
abbrev pub packed : List ℕ → List ℕ
packed bits = map (packed_byte bits) (upto (bytes_for (length bits)))

-- how many bits are missing to a byte border
abbrev pub missing_bits : ℕ → ℕ
missing_bits count = 8 * bytes_for count - count

-- each of them is a bit
abbrev pub AreBits : List ℕ → Type 0
AreBits bits = AllByRecursion (λ bit. bit < 2) bits

-- each of them is a byte
abbrev pub AreBytes : List ℕ → Type 0
AreBytes bytes = AllByRecursion (λ byte. byte < 2 ^ 8) bytes

-- the bits of packed bytes are the bits, and zeros up to the border
abbrev pub PackedBits : Type 0
PackedBits = (bits : List ℕ) → AreBits bits → bits_of_bytes (packed bits) ≡ bits ++ replicate (missing_bits (length bits)) 0

-- bytes are told by their bits
abbrev pub BytesByBits : Type 0
BytesByBits = (bytes other : List ℕ) → AreBytes bytes → AreBytes other → bits_of_bytes bytes ≡ bits_of_bytes other → bytes ≡ other

-- and packed bits are bytes
abbrev pub PackedBytes : Type 0
PackedBytes = (bits : List ℕ) → AreBits bits → AreBytes (packed bits)
