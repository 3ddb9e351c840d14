-- What the packets of a codestream are as offers.
use Rattle.std.specs.Prelude.{◌≡◌, ℕ, ◌+◌, ◌*◌, ◌<◌, ◌≤◌, ◌^◌, List, length}
use Rattle.xs_params.specs.declared.settings.Settings.{Settings}
use Rattle.xs_capture.specs.Offer.{Offer}
use Rattle.xs_pack.specs.Datagrams.{unit_at, piece_of, unit_pieces, is_last}

-- the units can be sent: there are no more than are numbered, each has bytes, and no more pieces than there are places; the fixed header's fields have room
pub record AreSendable (s : Settings) (units : List (List ℕ)) (picture : ℕ) : Type 0 where
  pub chunk : 1 ≤ s.chunk
  pub few : length units ≤ 2048
  pub some : (unit : ℕ) → unit < length units → 1 ≤ length (unit_at units unit)
  pub short : (unit : ℕ) → unit < length units → length (unit_at units unit) ≤ 512 * s.chunk
  pub payload_type : s.payload_type < 2 ^ 7
  pub ssrc : s.ssrc < 2 ^ 32
  pub timestamp : s.first_timestamp + picture * s.step < 2 ^ 32

-- there is such a unit, and such a piece of it
abbrev pub IsPiece : Settings → List (List ℕ) → ℕ → ℕ → Type 0
IsPiece s units unit piece = (unit < length units) × (piece < unit_pieces s.chunk units unit)

-- the offer of a piece
abbrev pub sent_offer : Settings → List (List ℕ) → ℕ → ℕ → ℕ → Offer
sent_offer s units picture unit piece = record {
  timestamp = s.first_timestamp + picture * s.step;
  unit = unit;
  place = piece;
  last = is_last s.chunk (unit_at units unit) piece;
  bytes = piece_of s.chunk (unit_at units unit) piece;
}

-- the packet is the offer of some piece
abbrev pub IsSent : Settings → List (List ℕ) → ℕ → Offer → Type 0
IsSent s units picture p = (unit : ℕ) × (piece : ℕ) × IsPiece s units unit piece × (p ≡ sent_offer s units picture unit piece)
