-- Laws of the packets of a codestream: they are offers, and whatever arrives of all of them gives the units back.
use Rattle.std.specs.Prelude.{◌≡◌, ◌↔◌, ℕ, ◌<◌, ◌≤◌, Some, List, length, flat_map, Contains}
use Rattle.xs_lists.specs.Spelling.{upto}
use Rattle.xs_params.specs.declared.settings.Settings.{Settings}
use Rattle.xs_capture.specs.Offer.{Offer}
use Rattle.xs_capture.specs.Offers.{offer_of, offers_of}
use Rattle.xs_capture.specs.Selection.{Held, HasBytes, IsSelection}
use Rattle.xs_pack.specs.Datagrams.{unit_at, piece_of, piece_count, datagram, sent_unit, datagrams_of_units}
use Rattle.xs_pack.specs.Sent.{AreSendable, IsPiece, sent_offer, IsSent}

-- the pieces of a unit join to it
abbrev pub PiecesJoin : Type 0
PiecesJoin = (chunk : ℕ) (bytes : List ℕ) → 1 ≤ chunk → flat_map (piece_of chunk bytes) (upto (piece_count chunk bytes)) ≡ bytes

-- a packet is the offer of its piece
abbrev pub DatagramIsOffer : Type 0
DatagramIsOffer = (s : Settings) (units : List (List ℕ)) (picture sequence unit piece : ℕ) → AreSendable s units picture → IsPiece s units unit piece
    → offer_of (datagram s (sent_unit s units picture sequence unit) piece) ≡ Some (sent_offer s units picture unit piece)

-- two lists have the same packets, in whatever order, and each as often as one likes
abbrev pub HaveSame : List (List ℕ) → List (List ℕ) → Type 0
HaveSame packets others = (packet : List ℕ) → Contains packets packet ↔ Contains others packet

-- the offers of what arrived are those of the pieces, where exactly the packets of the units arrived
abbrev pub OffersAreSent : Type 0
OffersAreSent = (s : Settings) (units arrived : List (List ℕ)) (picture sequence : ℕ) → AreSendable s units picture → HaveSame arrived (datagrams_of_units s units picture sequence)
    → (p : Offer) → Contains (offers_of arrived) p ↔ IsSent s units picture p

-- where the offers of a picture are those of the pieces, each unit is whole in whatever is selected, and has its bytes
abbrev pub UnitsComeBack : Type 0
UnitsComeBack = (s : Settings) (units : List (List ℕ)) (picture : ℕ) (offers : List Offer) (held : Held) → AreSendable s units picture
    → ((p : Offer) → Contains offers p ↔ IsSent s units picture p) → IsSelection offers held → (unit : ℕ) → unit < length units → HasBytes held unit (unit_at units unit)
