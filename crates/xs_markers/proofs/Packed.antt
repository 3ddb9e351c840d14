-- Bytes are told by their bits.
use Rattle.std.proofs.Common.{◌≡◌, ℕ, List, ◌++◌, length, replicate, sym, ◌∙◌}
use Rattle.xs_lists.specs.Bits.{bits_of_bytes, bits_of_fields}
use Rattle.xs_lists.specs.Packing.{AreBytes, missing_bits}
use Rattle.xs_lists.proofs.Bitwise.{fields-are}
use Rattle.xs_lists.proofs.Packing.{packed_bits, packed_bytes, bytes_by_bits}
use Rattle.xs_grammar.specs.Coded.{field_bytes}

-- whose bits are those of fields and zeros up to the border
pub packed_fields : (bytes : List ℕ) (fields : List (ℕ × ℕ)) → AreBytes bytes
    → bits_of_bytes bytes ≡ bits_of_fields fields ++ replicate (missing_bits (length (bits_of_fields fields))) 0 → bytes ≡ field_bytes fields
packed_fields bytes fields are same =
    bytes_by_bits bytes (field_bytes fields) are (packed_bytes (bits_of_fields fields) (fields-are fields)) (same ∙ sym (packed_bits (bits_of_fields fields) (fields-are fields)))
