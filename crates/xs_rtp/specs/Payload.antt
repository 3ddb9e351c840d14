-- The four bytes at the front of an RTP payload of JPEG XS (RFC 9134): 'RTP packets and captures'.
use Rattle.std.specs.Prelude.{ℕ, ◌+◌, ◌*◌, ◌^◌, List, [], ◌∷◌}
use Rattle.std.specs.Int.{to_be_bytes, w32}
use Rattle.xs_lists.specs.Bits.{bit_of}
use Rattle.xs_lists.specs.Fields.{field, has_bit, word_at}
use Rattle.xs_rtp.specs.declared.payload.Pay.{Pay}

-- T, K, L, I, F, SEP and P, each with its width in bits
abbrev pub pay_fields : Pay → List (ℕ × ℕ)
pay_fields pay =
    (1, bit_of pay.sequential) ∷ (1, bit_of pay.slice_mode) ∷ (1, bit_of pay.last) ∷ (2, pay.interlace)
    ∷ (5, pay.frame) ∷ (11, pay.sep) ∷ (11, pay.place) ∷ []

-- the word of a payload header
abbrev pub pay_word : Pay → ℕ
pay_word pay =
    2 ^ 31 * bit_of pay.sequential + 2 ^ 30 * bit_of pay.slice_mode + 2 ^ 29 * bit_of pay.last + 2 ^ 27 * pay.interlace
    + 2 ^ 22 * pay.frame + 2 ^ 11 * pay.sep + pay.place

-- its bytes
abbrev pub pay_bytes : Pay → List ℕ
pay_bytes pay = to_be_bytes w32 (pay_word pay)

-- what a word says
abbrev pub pay_of_word : ℕ → Pay
pay_of_word word = record {
  sequential = has_bit 31 word;
  slice_mode = has_bit 30 word;
  last = has_bit 29 word;
  interlace = field 2 27 word;
  frame = field 5 22 word;
  sep = field 11 11 word;
  place = field 11 0 word;
}

-- what the first four bytes say
abbrev pub pay_of : List ℕ → Pay
pay_of bytes = pay_of_word (word_at bytes 0)
