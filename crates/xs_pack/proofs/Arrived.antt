-- The offers of what arrived are those of the pieces.
use Rattle.std.proofs.Common.{◌≡◌, ℕ, List, length, Some, sym, ap, subst, ◌∙◌, arith, Contains}
use Rattle.xs_lists.specs.Spelling.{upto}
use Rattle.xs_params.specs.declared.settings.Settings.{Settings}
use Rattle.xs_capture.specs.Offer.{Offer}
use Rattle.xs_capture.specs.Offers.{offer_of, offers_of}
use Rattle.xs_pack.specs.Datagrams.{unit_pieces, datagram, sent_unit, unit_datagrams, datagrams_of_units}
use Rattle.xs_pack.specs.Sent.{IsPiece, sent_offer}
use Rattle.xs_pack.specs.Laws.{OffersAreSent}
use Rattle.xs_pack.proofs.Members.{in_range, of_range, in_map, of_map, in_flat, of_flat, in_filter_map, of_filter_map}
use Rattle.xs_pack.proofs.Offered.{datagram_is_offer}

-- a packet of the units is one of some piece
abbrev IsDatagram : Settings → List (List ℕ) → ℕ → ℕ → List ℕ → Type 0
IsDatagram s units picture sequence packet = (unit : ℕ) × (piece : ℕ) × IsPiece s units unit piece × (datagram s (sent_unit s units picture sequence unit) piece ≡ packet)

of_datagrams : (s : Settings) (units : List (List ℕ)) (picture sequence : ℕ) (packet : List ℕ) → Contains (datagrams_of_units s units picture sequence) packet → IsDatagram s units picture sequence packet
of_datagrams s units picture sequence packet has =
    let unit = of_flat (λ u. unit_datagrams s (sent_unit s units picture sequence u)) (upto (length units)) packet has in
    let piece = of_map (datagram s (sent_unit s units picture sequence unit.0)) (upto (unit_pieces s.chunk units unit.0)) packet unit.2 in
    let unit_there = of_range 0 (length units) unit.0 unit.1 in
    let piece_there = of_range 0 (unit_pieces s.chunk units unit.0) piece.0 piece.1 in
    (unit.0, piece.0, (omega (arith, unit_there.1), omega (arith, piece_there.1)), piece.2)

in_datagrams : (s : Settings) (units : List (List ℕ)) (picture sequence unit piece : ℕ) → IsPiece s units unit piece
    → Contains (datagrams_of_units s units picture sequence) (datagram s (sent_unit s units picture sequence unit) piece)
in_datagrams s units picture sequence unit piece there =
    in_flat (λ u. unit_datagrams s (sent_unit s units picture sequence u)) (upto (length units)) unit (datagram s (sent_unit s units picture sequence unit) piece)
    (in_range 0 (length units) unit (omega arith) (omega (arith, there.0)))
    (in_map (datagram s (sent_unit s units picture sequence unit)) (upto (unit_pieces s.chunk units unit)) piece (in_range 0 (unit_pieces s.chunk units unit) piece (omega arith) (omega (arith, there.1))))

same_some : (p q : Offer) → Some p ≡ Some q → p ≡ q
same_some p q e = cc e

pub offers_are_sent : OffersAreSent
offers_are_sent s units arrived picture sequence sendable same p = (
  λ has.
      let from = of_filter_map offer_of arrived p has in
      let sent = of_datagrams s units picture sequence from.0 ((same from.0).0 from.1) in
      let offer = datagram_is_offer s units picture sequence sent.0 sent.1 sendable sent.2 in
      (sent.0, sent.1, sent.2, same_some p (sent_offer s units picture sent.0 sent.1) (sym from.2 ∙ ap offer_of (sym sent.3) ∙ offer)),
  λ sent.
      let packet = datagram s (sent_unit s units picture sequence sent.0) sent.1 in
      let offer = datagram_is_offer s units picture sequence sent.0 sent.1 sendable sent.2 in
      subst (Contains (offers_of arrived)) (sym sent.3) (in_filter_map offer_of arrived packet (sent_offer s units picture sent.0 sent.1) ((same packet).1 (in_datagrams s units picture sequence sent.0 sent.1 sent.2)) offer),
)
