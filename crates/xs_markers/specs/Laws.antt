-- Laws of headers.
use Rattle.std.specs.Prelude.{◌≡◌, ℕ, None, List, ◌++◌, length}
use Rattle.xs_lists.specs.Packing.{AreBytes}
use Rattle.xs_params.specs.declared.header.Header.{Header}
use Rattle.xs_params.specs.Accepted.{IsAccepted}
use Rattle.xs_grammar.specs.Header.{IsHeaderFront, IsHeaderUnit}
use Rattle.xs_grammar.specs.Coded.{HasRoom, header_bytes}
use Rattle.xs_grammar.specs.Laws.{FollowsHeader}
use Rattle.xs_markers.specs.Reading.{head_fault, header_at, header_end}
use Rattle.xs_markers.specs.Read.{IsHeaderRead}
use Rattle.xs_markers.specs.Units.{header_unit_fault, header_unit_at}

-- bytes without a fault begin with the header that is read of them, and of bytes that begin with a header that header is read
pub record AreHeadersKnown (bytes : List ℕ) : Type 0 where
  pub spelled : head_fault bytes ≡ None → IsHeaderFront (header_at bytes) bytes (header_end bytes)
  pub read : (h : Header) (n : ℕ) → IsHeaderFront h bytes n → (head_fault bytes ≡ None) × (header_at bytes ≡ h) × (header_end bytes ≡ n)

abbrev pub HeadersKnown : Type 0
HeadersKnown = (bytes : List ℕ) → AreBytes bytes → AreHeadersKnown bytes

-- the same of what is sent of a header
pub record AreUnitsKnown (bytes : List ℕ) : Type 0 where
  pub spelled : header_unit_fault bytes ≡ None → IsHeaderUnit (header_unit_at bytes).0 bytes (header_unit_at bytes).1
  pub read : (h : Header) (len : ℕ) → IsHeaderUnit h bytes len → (header_unit_fault bytes ≡ None) × (header_unit_at bytes ≡ (h, len))

abbrev pub HeaderUnitsKnown : Type 0
HeaderUnitsKnown = (bytes : List ℕ) → AreBytes bytes → AreUnitsKnown bytes

-- what is written of a header is read as that header alone, whatever slice follows it
abbrev pub HeaderReadAgain : Type 0
HeaderReadAgain = (h : Header) (rest : List ℕ) → IsAccepted h → HasRoom h → AreBytes rest → FollowsHeader rest
    → IsHeaderRead h (header_bytes h ++ rest) (length (header_bytes h))
