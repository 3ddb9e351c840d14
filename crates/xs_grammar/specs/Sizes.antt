-- How many bytes what is written has: the size of 'Rate choice', by the numbers of bits that each line gives.
use Rattle.std.specs.Prelude.{◌≡◌, ℕ, ◌+◌, ◌*◌, false, if◌then◌else◌, List, length}
use Rattle.std.specs.List.{sum_by}
use Rattle.xs_layout.specs.Geometry.{PacketPlace}
use Rattle.xs_lists.specs.Bits.{bytes_for}
use Rattle.xs_params.specs.declared.header.Header.{Header}
use Rattle.xs_spelling.specs.Counts.{Line, flag_bits}
use Rattle.xs_spelling.specs.Data.{sign_bits}
use Rattle.xs_spelling.specs.Written.{written_flag, line_count_bits, line_data_bits}
use Rattle.xs_params.specs.Geometry.{bands_of, packet_bands, packets_of, precincts_of}
use Rattle.xs_grammar.specs.Precinct.{Content}
use Rattle.xs_grammar.specs.Coded.{packet_line, slice_bytes}

-- the bytes of a packet's header
abbrev pub head_size : Header → ℕ
head_size h = if h.long_heads then 7 else 5

-- the bytes of a packet of the bands' lines: those of its header, flags, counts, data and signs
abbrev pub lines_size : Header → List ℕ → (ℕ → Line) → ℕ
lines_size h bands line =
    head_size h
    + bytes_for (sum_by (λ band. length (flag_bits (line band) (written_flag (line band)))) bands)
    + bytes_for (sum_by (λ band. length (line_count_bits false (line band) (written_flag (line band)))) bands)
    + bytes_for (sum_by (λ band. length (line_data_bits h.signs_apart (line band))) bands)
    + (if h.signs_apart then bytes_for (sum_by (λ band. length (sign_bits (line band))) bands) else 0)

abbrev pub packet_size : Header → Content → (ℕ → ℕ) → PacketPlace → ℕ
packet_size h content mode place = lines_size h (packet_bands h place) (packet_line h content mode place)

-- the bytes of a precinct: its size, quantisation, refinement and modes, and its packets
abbrev pub precinct_size : Header → Content → (ℕ → ℕ → ℕ) → ℕ → ℕ
precinct_size h content mode precinct = bytes_for (40 + 2 * bands_of h) + sum_by (packet_size h content (mode precinct)) (packets_of h precinct)

-- the bytes of a slice: its header and its precincts
abbrev pub slice_size : Header → Content → (ℕ → ℕ → ℕ) → ℕ → ℕ
slice_size h content mode slice = 6 + sum_by (precinct_size h content mode) (precincts_of h slice)

-- the size of a slice is that of what is written of it, without its filler
abbrev pub SizeOfSlice : Type 0
SizeOfSlice = (h : Header) (content : Content) (mode : ℕ → ℕ → ℕ) (filler : ℕ → ℕ) (slice : ℕ)
    → length (slice_bytes h content mode filler slice) ≡ slice_size h content mode slice + sum_by filler (precincts_of h slice)
