-- Whatever is selected of the offers of all pieces has each unit whole, with its bytes.
use Rattle.std.proofs.Common.{◌≡◌, ℕ, ◌+◌, ◌-◌, ◌<◌, ◌≤◌, List, [], Bool, true, false, Option, Some, None, refl, sym, ap, subst, ◌∙◌, arith, Contains}
use Rattle.std.specs.Prelude.{nat_eq, flat_map, IsSome, IfSome, IsSomeAnd, ◌↔◌}
use Rattle.std.specs.Option.{option_map_or}
use Rattle.std.proofs.lemmas.Bool.{eqb-true, eq-eqb}
use Rattle.xs_lists.specs.Spelling.{upto}
use Rattle.xs_params.specs.declared.settings.Settings.{Settings}
use Rattle.xs_capture.specs.Offer.{Offer}
use Rattle.xs_capture.specs.Selection.{Held, IsSelection, bytes_at}
use Rattle.xs_pack.specs.Datagrams.{unit_at, piece_of, unit_pieces}
use Rattle.xs_pack.specs.Sent.{IsPiece, sent_offer, IsSent}
use Rattle.xs_pack.specs.Laws.{UnitsComeBack}
use Rattle.xs_pack.proofs.Members.{same_flat}
use Rattle.xs_pack.proofs.Pieces.{pieces_join, some_pieces}

abbrev AreSent : Settings → List (List ℕ) → ℕ → List Offer → Type 0
AreSent s units picture offers = (p : Offer) → Contains offers p ↔ IsSent s units picture p

-- what is held at the place of a piece is its offer
held_is : (s : Settings) (units : List (List ℕ)) (picture : ℕ) (offers : List Offer) (held : Held) → AreSent s units picture offers → IsSelection offers held
    → (unit piece : ℕ) → IsPiece s units unit piece → held unit piece ≡ Some (sent_offer s units picture unit piece)
held_is s units picture offers held sent selection unit piece there =
    at (held unit piece) (selection.filled (sent_offer s units picture unit piece) ((sent (sent_offer s units picture unit piece)).1 (unit, piece, there, refl))) (selection.offered unit piece)
  where
    at : (o : Option Offer) → IsSome o → IfSome o (λ p. Contains offers p × (p.unit ≡ unit) × (p.place ≡ piece)) → o ≡ Some (sent_offer s units picture unit piece)
    at None filled offered = absurd (cc filled)
    at (Some p) filled offered =
        let from = (sent p).0 offered.0 in
        let same_unit : from.0 ≡ unit = sym (ap (λ (q : Offer). q.unit) from.3) ∙ offered.1 in
        let same_piece : from.1 ≡ piece = sym (ap (λ (q : Offer). q.place) from.3) ∙ offered.2 in
        ap Some (from.3 ∙ ap (λ u. sent_offer s units picture u from.1) same_unit ∙ ap (λ k. sent_offer s units picture unit k) same_piece)

other_place : (n place : ℕ) → place + 1 < n → nat_eq (place + 1) n ≡ false
other_place n place less = go (nat_eq (place + 1) n) refl
  where
    go : (b : Bool) → nat_eq (place + 1) n ≡ b → nat_eq (place + 1) n ≡ false
    go true e = let same : place + 1 ≡ n = eqb-true (place + 1) n e in absurd (omega (arith, same, less))
    go false e = e

pub units_come_back : UnitsComeBack
units_come_back s units picture offers held sendable sent selection unit there =
    let bytes = unit_at units unit in
    let n = unit_pieces s.chunk units unit in
    let some : 1 ≤ unit_pieces s.chunk units unit = some_pieces s.chunk (unit_at units unit) sendable.chunk (sendable.some unit there) in
    let last : n - 1 < n = omega (arith, some) in
    let count : n - 1 + 1 ≡ n = omega (arith, some) in
    let at = held_is s units picture offers held sent selection unit in (
      n - 1,
      record {
        closes = subst (λ o. IsSomeAnd o (λ p. p.last ≡ true)) (sym (at (n - 1) (there, last))) (eq-eqb (n - 1 + 1) n count);
        before = λ place less. subst (λ o. IsSomeAnd o (λ p. p.last ≡ false)) (sym (at place (there, omega (arith, less)))) (other_place n place (omega (arith, less)));
      },
      sym (ap (λ k. flat_map (bytes_at held unit) (upto k)) count
          ∙ same_flat (bytes_at held unit) (piece_of s.chunk bytes) 0 n (λ place low high. ap (λ o. option_map_or (λ (p : Offer). p.bytes) o []) (at place (there, omega (arith, high))))
          ∙ pieces_join s.chunk bytes sendable.chunk),
    )
