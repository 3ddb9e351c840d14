-- The packets of a codestream, as formulas of unit, piece and picture: 'RTP packets and captures'.
use Rattle.std.specs.Prelude.{ℕ, ◌+◌, ◌-◌, ◌*◌, ◌/◌, ◌%◌, ◌^◌, ◌<◌, ◌≤◌, Bool, true, ◌&&◌, nat_eq, if◌then◌else◌, List, [], ◌∷◌, ◌++◌, length, take, drop, map, flat_map, sum_by, slice_index_or}
use Rattle.xs_lists.specs.Spelling.{upto}
use Rattle.xs_params.specs.Markers.{eoc}
use Rattle.xs_params.specs.Stream.{Stream}
use Rattle.xs_params.specs.declared.settings.Settings.{Settings}
use Rattle.xs_rtp.specs.declared.packet.Rtp.{Rtp}
use Rattle.xs_rtp.specs.declared.payload.Pay.{Pay}
use Rattle.xs_rtp.specs.Packet.{rtp_bytes}
use Rattle.xs_rtp.specs.Payload.{pay_bytes}

-- Units

-- the slices, the last with the end marker
abbrev pub ended : List (List ℕ) → List (List ℕ)
ended [] = []
ended (slice ∷ []) = (slice ++ eoc) ∷ []
ended (slice ∷ next ∷ slices) = slice ∷ ended (next ∷ slices)

-- the units: boxes and header, and then each slice
abbrev pub units_of : List ℕ → Stream → List (List ℕ)
units_of boxes stream = (boxes ++ stream.header) ∷ ended stream.slices

abbrev pub unit_at : List (List ℕ) → ℕ → List ℕ
unit_at units unit = slice_index_or units unit []

-- a unit is cut into pieces of `chunk` bytes, the last of 1 to `chunk`
abbrev pub piece_count : ℕ → List ℕ → ℕ
piece_count chunk bytes = (length bytes + chunk - 1) / chunk

abbrev pub piece_of : ℕ → List ℕ → ℕ → List ℕ
piece_of chunk bytes piece = take chunk (drop (piece * chunk) bytes)

-- the piece is the last of its unit
abbrev pub is_last : ℕ → List ℕ → ℕ → Bool
is_last chunk bytes piece = nat_eq (piece + 1) (piece_count chunk bytes)

-- how many pieces a unit has, and how many there are of the units before it
abbrev pub unit_pieces : ℕ → List (List ℕ) → ℕ → ℕ
unit_pieces chunk units unit = piece_count chunk (unit_at units unit)

abbrev pub pieces_before : ℕ → List (List ℕ) → ℕ → ℕ
pieces_before chunk units unit = sum_by (unit_pieces chunk units) (upto unit)

-- Packets

-- a unit that is sent: its number, its bytes, whether it ends its picture, the picture's number, and the number of its first packet, from which the sequence number is
pub record SentUnit : Type 0 where
  pub number : ℕ
  pub bytes : List ℕ
  pub final : Bool
  pub picture : ℕ
  pub first : ℕ

-- the fixed header of a piece's packet: the marker is on the picture's last packet, sequence numbers run on, and each picture has its timestamp
abbrev pub piece_rtp : Settings → SentUnit → ℕ → Rtp
piece_rtp s unit piece = record {
  marker = unit.final && is_last s.chunk unit.bytes piece;
  payload_type = s.payload_type;
  sequence = (unit.first + piece) % 2 ^ 16;
  timestamp = s.first_timestamp + unit.picture * s.step;
  ssrc = s.ssrc;
}

-- its payload header: 2047 names the header unit, and other numbers a slice
abbrev pub piece_pay : Settings → SentUnit → ℕ → Pay
piece_pay s unit piece = record {
  sequential = true;
  slice_mode = true;
  last = is_last s.chunk unit.bytes piece;
  interlace = 0;
  frame = unit.picture % 32;
  sep = if nat_eq unit.number 0 then 2047 else unit.number - 1;
  place = piece;
}

-- the packet of a piece: fixed header, payload header and the piece
abbrev pub datagram : Settings → SentUnit → ℕ → List ℕ
datagram s unit piece = rtp_bytes (piece_rtp s unit piece) ++ pay_bytes (piece_pay s unit piece) ++ piece_of s.chunk unit.bytes piece

-- the packets of a unit, piece after piece
abbrev pub unit_datagrams : Settings → SentUnit → List (List ℕ)
unit_datagrams s unit = map (datagram s unit) (upto (piece_count s.chunk unit.bytes))

-- a unit of a picture's, where the first packet of all has this sequence number
abbrev pub sent_unit : Settings → List (List ℕ) → ℕ → ℕ → ℕ → SentUnit
sent_unit s units picture sequence unit = record {
  number = unit;
  bytes = unit_at units unit;
  final = nat_eq (unit + 1) (length units);
  picture = picture;
  first = sequence + pieces_before s.chunk units unit;
}

-- the packets of units, one after the other
abbrev pub datagrams_of_units : Settings → List (List ℕ) → ℕ → ℕ → List (List ℕ)
datagrams_of_units s units picture sequence = flat_map (λ unit. unit_datagrams s (sent_unit s units picture sequence unit)) (upto (length units))

-- the packets of a codestream, which is the picture of this number
abbrev pub datagrams_of : Settings → Stream → ℕ → ℕ → List (List ℕ)
datagrams_of s stream picture sequence = datagrams_of_units s (units_of s.boxes stream) picture sequence

-- the units have no more pieces than there are places, and no more slices than are numbered
pub record IsPackable (s : Settings) (stream : Stream) : Type 0 where
  pub pieces : (unit : ℕ) → unit < length (units_of s.boxes stream) → unit_pieces s.chunk (units_of s.boxes stream) unit ≤ 512
  pub slices : length stream.slices ≤ 2047
