-- The accepted values of settings and headers, each range once: 'Picture header' and 'Command words'.
use Rattle.std.specs.Prelude.{◌≡◌, ℕ, ◌-◌, ◌*◌, ◌^◌, ◌⊎◌, Bool, ◌||◌, nat_eq, if◌then◌else◌}

-- Pictures

abbrev pub least_width : ℕ
least_width = 32

abbrev pub most_width : ℕ
most_width = 8192

abbrev pub least_height : ℕ
least_height = 4

abbrev pub most_height : ℕ
most_height = 8192

-- samples of the first component
abbrev pub most_area : ℕ
most_area = 2 ^ 24

-- bits of a sample
abbrev pub is_depth : ℕ → Bool
is_depth depth = nat_eq depth 8 || nat_eq depth 10 || nat_eq depth 12

abbrev pub IsDepth : ℕ → Type 0
IsDepth depth = (depth ≡ 8) ⊎ (depth ≡ 10) ⊎ (depth ≡ 12)

-- Coding

-- bits of the numbers that the transforms work on (Bw)
abbrev pub is_precision : ℕ → Bool
is_precision bw = nat_eq bw 18 || nat_eq bw 20

abbrev pub IsPrecision : ℕ → Type 0
IsPrecision bw = (bw ≡ 18) ⊎ (bw ≡ 20)

-- bits of them that are rounded away (Fq)
abbrev pub fq_of : ℕ → ℕ
fq_of bw = if nat_eq bw 18 then 6 else 8

-- wavelet levels across, of which there is one at least, and down
abbrev pub most_across : ℕ
most_across = 5

abbrev pub most_down : ℕ
most_down = 2

abbrev pub most_slices : ℕ
most_slices = 2047

-- the greatest gain that settings may give
abbrev pub most_gain : ℕ
most_gain = 15

-- how insignificant code groups are coded (Rm)
abbrev pub most_run_mode : ℕ
most_run_mode = 1

-- Packets and threads

-- bytes of a unit in one packet
abbrev pub least_chunk : ℕ
least_chunk = 64

abbrev pub most_chunk : ℕ
most_chunk = 8192

-- packets of a unit
abbrev pub most_packets : ℕ
most_packets = 512

-- bytes of a slice: what is left of a unit's packets beside the end marker
abbrev pub least_share : ℕ
least_share = 64

abbrev pub most_share : ℕ → ℕ
most_share chunk = most_packets * chunk - 2

-- bytes of a codestream, in which its header has at most so many
abbrev pub most_stream : ℕ
most_stream = 2 ^ 32

abbrev pub header_room : ℕ
header_room = 4096

abbrev pub least_payload_type : ℕ
least_payload_type = 96

abbrev pub most_payload_type : ℕ
most_payload_type = 127

abbrev pub most_first_timestamp : ℕ
most_first_timestamp = 2 ^ 31

abbrev pub most_step : ℕ
most_step = 4194304

-- bytes of boxes
abbrev pub most_boxes : ℕ
most_boxes = 2048

abbrev pub most_workers : ℕ
most_workers = 16

abbrev pub most_feeders : ℕ
most_feeders = 8

abbrev pub most_port : ℕ
most_port = 65535
