-- Headers are read as what they spell, and what is written is read again.
use Rattle.std.specs.Prelude.{◌≡◌, ℕ, ◌+◌, Ok, List, ◌++◌, length, slice_range}
use Rattle.xs_lists.specs.Bits.{bits_of, bits_of_fields, FieldsFit}
use Rattle.xs_lists.specs.Packing.{AreBytes}
use Rattle.xs_rtp.specs.declared.payload.Pay.{Pay}
use Rattle.xs_rtp.specs.declared.packet.Rtp.{Rtp}
use Rattle.xs_rtp.specs.Packet.{HasRtpRoom, IsRtp, rtp_bytes, rtp_read}
use Rattle.xs_rtp.specs.Payload.{pay_bytes, pay_fields, pay_of, pay_of_word}

-- the bits of a word are the fields that reading gives, one after the other
abbrev pub PayloadHeaderIsSpelled : Type 0
PayloadHeaderIsSpelled = (word : ℕ) → bits_of_fields (pay_fields (pay_of_word word)) ≡ bits_of 32 word

-- what is written of a payload header is read again, whatever follows it
abbrev pub PayloadHeaderReadAgain : Type 0
PayloadHeaderReadAgain = (pay : Pay) (rest : List ℕ) → FieldsFit (pay_fields pay) → pay_of (pay_bytes pay ++ rest) ≡ pay

-- what is written of a fixed header is read again, and all that follows it is the payload
abbrev pub RtpHeaderReadAgain : Type 0
RtpHeaderReadAgain = (rtp : Rtp) (payload : List ℕ) → HasRtpRoom rtp → rtp_read (rtp_bytes rtp ++ payload) ≡ Ok (rtp, 12, 12 + length payload)

-- Bytes are read as a packet exactly where they are one: what is read is so spelled, with its payload, and what is so spelled is read.
pub record PacketIsRead : Type 0 where
  pub read : (bytes : List ℕ) (rtp : Rtp) (begin end : ℕ) → AreBytes bytes → rtp_read bytes ≡ Ok (rtp, begin, end) → IsRtp rtp (slice_range bytes begin end) bytes
  pub spelled : (bytes payload : List ℕ) (rtp : Rtp) → AreBytes bytes → IsRtp rtp payload bytes → (begin : ℕ) × (end : ℕ) × (rtp_read bytes ≡ Ok (rtp, begin, end)) × (payload ≡ slice_range bytes begin end)
