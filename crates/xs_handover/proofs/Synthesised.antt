-- A stripe of pieces is that of the picture of their coefficients.
use Rattle.std.proofs.Common.{◌≡◌, ℕ, ◌+◌, ◌-◌, ◌<◌, List, subst}
use Rattle.std.specs.Prelude.{Option, None, Some, IfSome, MatchOption, Result, Ok, Err, IfOk, All}
use Rattle.xs_io.specs.declared.lists.Memory.{Memory}
use Rattle.xs_params.specs.declared.header.Header.{Header}
use Rattle.xs_params.specs.Geometry.{slice_count}
use Rattle.xs_params.specs.Rows.{Rows}
use Rattle.xs_geometry.specs.SliceLines.{AreLinesOf, BandLines, ShowRows}
use Rattle.xs_stripe.specs.Edges.{AreSmallRows, EdgeRows, IsDownEdge, IsUpEdge, ShowsDown, ShowsUp}
use Rattle.xs_stripe.specs.Stripe.{IsStripeOf}
use Rattle.xs_stripe.specs.declared.stripe.Stripe.{Stripe}
use Rattle.xs_handover.specs.declared.piece.Piece.{Piece}
use Rattle.xs_handover.specs.declared.piece.Piece.TheVariants.{Body, Up, Down}
use Rattle.xs_handover.specs.Headers.{HaveSameLayout}
use Rattle.xs_handover.specs.Blocks.{Block, Carried, Carries}
use Rattle.xs_handover.specs.Decoded.{AreRowsAt, AreRowsOf, IsDecodedBlock, IsPieceOf, ShowsPiece}
use Rattle.xs_handover.specs.Answers.{AreBy, IsStripeFrom}
use Rattle.xs_handover.specs.Sources.{HasAt, place_below, value_at}
use Rattle.xs_handover.proofs.Layouts.{count_by, down_by, lines_by, up_by}
use Rattle.xs_handover.proofs.Shown.{at_place, piece_shown}

-- a piece is there by each header that cuts a picture so
there_by : (h other : Header) (slice : ℕ) (piece : Piece) → HaveSameLayout h other → IsPieceOf h slice piece → IsPieceOf other slice piece
there_by h other slice (Body body) l is = (lines_by h other slice body l is.0, is.1)
there_by h other slice (Up edge) l is = (is.0, up_by h other slice edge l is.1)
there_by h other slice (Down edge) l is = (subst (λ n. slice + 1 < n) (count_by h other l) is.0, down_by h other slice edge l is.1)

piece_there : (h : Header) (slice : ℕ) (piece : Piece) (v : Carried) → Carries h slice piece v → IsDecodedBlock v → IsPieceOf h slice piece
piece_there h slice piece None has d = absurd has
piece_there h slice piece (Some b) has d =
    there_by b.header h slice piece has.layout (subst (IsPieceOf b.header slice) has.piece_is (subst (λ s. IsPieceOf b.header s b.piece) has.slice_is d.piece_of))

pub body_there : (h : Header) (slice : ℕ) (values : List Carried) (body : List BandLines) → HasAt values 0 h slice (Body body) → AreLinesOf h slice body × AreSmallRows body
body_there h slice values body at = piece_there h slice (Body body) (value_at values 0) at.0 at.1

-- the piece at a place shows the coefficients
at_shown : (h : Header) (slice : ℕ) (values : List Carried) (place : ℕ) (rows : Rows) (piece : Piece) → AreBy h values → All (AreRowsAt h rows) values → HasAt values place h slice piece → ShowsPiece h slice rows piece
at_shown h slice values place rows piece by are at =
    piece_shown h slice piece rows (value_at values place) at.0 at.1 (at_place (λ (b : Block). b.header ≡ h) values place by) (at_place (λ (b : Block). AreRowsOf h b.slice b.bytes rows) values place are)

-- what a reference shows
module _ {E : Type 0} (now : E → EdgeRows) where
  pub above_there : (h : Header) (slice : ℕ) (values : List Carried) (above : Option E) → MatchOption above (slice ≡ 0) (λ e. (0 < slice) × HasAt values 1 h (slice - 1) (Down (now e)))
      → MatchOption above (slice ≡ 0) (λ e. (0 < slice) × IsDownEdge h (slice - 1) (now e))
  above_there h slice values None at = at
  above_there h slice values (Some e) at = (at.0, (piece_there h (slice - 1) (Down (now e)) (value_at values 1) at.1.0 at.1.1).1)

  pub below_there : (h : Header) (slice : ℕ) (values : List Carried) (below : Option E)
      → MatchOption below (slice + 1 ≡ slice_count h) (λ e. (slice + 1 < slice_count h) × HasAt values (place_below slice) h (slice + 1) (Up (now e)))
      → MatchOption below (slice + 1 ≡ slice_count h) (λ e. (slice + 1 < slice_count h) × IsUpEdge h (slice + 1) (now e))
  below_there h slice values None at = at
  below_there h slice values (Some e) at = (at.0, (piece_there h (slice + 1) (Up (now e)) (value_at values (place_below slice)) at.1.0 at.1.1).1)

  above_shown : (h : Header) (slice : ℕ) (values : List Carried) (rows : Rows) (above : Option E) → AreBy h values → All (AreRowsAt h rows) values
      → MatchOption above (slice ≡ 0) (λ e. (0 < slice) × HasAt values 1 h (slice - 1) (Down (now e))) → IfSome above (λ e. ShowsDown h (slice - 1) (now e) rows)
  above_shown h slice values rows None by are at = tt
  above_shown h slice values rows (Some e) by are at = at_shown h (slice - 1) values 1 rows (Down (now e)) by are at.1

  below_shown : (h : Header) (slice : ℕ) (values : List Carried) (rows : Rows) (below : Option E) → AreBy h values → All (AreRowsAt h rows) values
      → MatchOption below (slice + 1 ≡ slice_count h) (λ e. (slice + 1 < slice_count h) × HasAt values (place_below slice) h (slice + 1) (Up (now e))) → IfSome below (λ e. ShowsUp h (slice + 1) (now e) rows)
  below_shown h slice values rows None by are at = tt
  below_shown h slice values rows (Some e) by are at = at_shown h (slice + 1) values (place_below slice) rows (Up (now e)) by are at.1

  pub stripe_from : (h : Header) (slice : ℕ) (values : List Carried) (body : List BandLines) (above below : Option E) (result : Result Stripe Memory) → HasAt values 0 h slice (Body body)
      → MatchOption above (slice ≡ 0) (λ e. (0 < slice) × HasAt values 1 h (slice - 1) (Down (now e)))
      → MatchOption below (slice + 1 ≡ slice_count h) (λ e. (slice + 1 < slice_count h) × HasAt values (place_below slice) h (slice + 1) (Up (now e)))
      → IfOk result (λ stripe. (rows : Rows) → ShowRows h rows body → IfSome above (λ e. ShowsDown h (slice - 1) (now e) rows) → IfSome below (λ e. ShowsUp h (slice + 1) (now e) rows) → IsStripeOf h slice stripe rows)
      → IfOk result (IsStripeFrom h slice values)
  stripe_from h slice values body above below (Err e) own up down f = tt
  stripe_from h slice values body above below (Ok stripe) own up down f = λ by rows are.
      f rows (at_shown h slice values 0 rows (Body body) by are own) (above_shown h slice values rows above by are up) (below_shown h slice values rows below by are down)

-- of blocks of another header anything may come
pub none_from : (h : Header) (slice : ℕ) (values : List Carried) (result : Result Stripe Memory) → (AreBy h values → ⊥) → IfOk result (IsStripeFrom h slice values)
none_from h slice values (Err e) other = tt
none_from h slice values (Ok stripe) other = λ by rows are. absurd (other by)
