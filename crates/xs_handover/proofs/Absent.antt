-- What a block without a piece does not carry.
use Rattle.std.proofs.Common.{◌≡◌, ℕ, subst}
use Rattle.std.specs.Prelude.{Some}
use Rattle.xs_params.specs.declared.header.Header.{Header}
use Rattle.xs_handover.specs.declared.piece.Piece.{Piece}
use Rattle.xs_handover.specs.Blocks.{Block, Carried, Carries, HasPiece}

pub not_carried : (h : Header) (slice : ℕ) (piece : Piece) (v : Carried) (b : Block) → v ≡ Some b → (HasPiece h slice piece b → ⊥) → Carries h slice piece v → ⊥
not_carried h slice piece v b same other has = other (subst (Carries h slice piece) same has)
