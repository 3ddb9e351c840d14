-- What is written: 'Classic pcap files'. The order of the bytes is little-endian but inside the frame.
use Rattle.std.specs.Prelude.{ℕ, ◌+◌, ◌*◌, ◌/◌, ◌%◌, List, [], ◌∷◌, ◌++◌, length, replicate, flat_map}
use Rattle.std.specs.Int.{to_be_bytes, to_le_bytes, w16, w32}
use Rattle.xs_pcap.specs.Numbers.{checksum_of}
use Rattle.xs_pcap.specs.File.{microseconds, ethernet}
use Rattle.xs_pcap.specs.Datagram.{ipv4_type, udp_protocol}

-- the greatest packet of a datagram
abbrev pub most_wrapped : ℕ
most_wrapped = 65507

-- the file header: version 2.4, two words 0, the snapshot length and the link type
abbrev pub header_bytes : List ℕ
header_bytes = to_le_bytes w32 microseconds ++ to_le_bytes w16 2 ++ to_le_bytes w16 4 ++ replicate 8 0 ++ to_le_bytes w32 65535 ++ to_le_bytes w32 ethernet

-- seconds and microseconds of a timestamp, whose clock has 90 kHz
abbrev pub seconds_of : ℕ → ℕ
seconds_of timestamp = timestamp / 90000

abbrev pub microseconds_of : ℕ → ℕ
microseconds_of timestamp = timestamp % 90000 * 100 / 9

-- what stands in a record before so many captured bytes
abbrev pub record_head : ℕ → ℕ → List ℕ
record_head timestamp size = to_le_bytes w32 (seconds_of timestamp) ++ to_le_bytes w32 (microseconds_of timestamp) ++ to_le_bytes w32 size ++ to_le_bytes w32 size

-- destination and source, two addresses that are administered locally, and the type
abbrev pub ethernet_head : List ℕ
ethernet_head = (2 ∷ 0 ∷ 0 ∷ 0 ∷ 0 ∷ 2 ∷ []) ++ (2 ∷ 0 ∷ 0 ∷ 0 ∷ 0 ∷ 1 ∷ []) ++ to_be_bytes w16 ipv4_type

-- The header of a packet of so many bytes, itself included: five words, identification 0, the don't-fragment bit, time to live 64, the checksum, and the
-- addresses 192.0.2.1 and 192.0.2.2.
abbrev pub ipv4_with : ℕ → ℕ → List ℕ
ipv4_with total checksum =
    (69 ∷ 0 ∷ to_be_bytes w16 total) ++ to_be_bytes w16 0 ++ to_be_bytes w16 0x4000 ++ (64 ∷ udp_protocol ∷ to_be_bytes w16 checksum) ++ (192 ∷ 0 ∷ 2 ∷ 1 ∷ []) ++ (192 ∷ 0 ∷ 2 ∷ 2 ∷ [])

-- the checksum of that header, whose own field is 0
unfoldable pub ipv4_checksum : ℕ → ℕ
ipv4_checksum total = checksum_of (ipv4_with total 0)

abbrev pub ipv4_head : ℕ → List ℕ
ipv4_head total = ipv4_with total (ipv4_checksum total)

-- both ports, the length and no checksum
abbrev pub udp_head : ℕ → ℕ → List ℕ
udp_head port size = to_be_bytes w16 port ++ to_be_bytes w16 port ++ to_be_bytes w16 size ++ to_be_bytes w16 0

-- the frame of a packet
abbrev pub frame_of : ℕ → List ℕ → List ℕ
frame_of port packet = ethernet_head ++ ipv4_head (28 + length packet) ++ udp_head port (8 + length packet) ++ packet

-- the record of a packet
unfoldable pub wrapped : ℕ → ℕ → List ℕ → List ℕ
wrapped port timestamp packet = record_head timestamp (42 + length packet) ++ frame_of port packet

-- the record of a packet beside its timestamp
abbrev pub wrapped_entry : ℕ → ℕ × List ℕ → List ℕ
wrapped_entry port entry = wrapped port entry.0 entry.1

-- a file of packets, each beside its timestamp
abbrev pub wrapped_file : ℕ → List (ℕ × List ℕ) → List ℕ
wrapped_file port entries = header_bytes ++ flat_map (wrapped_entry port) entries
