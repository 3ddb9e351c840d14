-- A piece shows the coefficients that agree with its own in the slice.
use Rattle.std.proofs.Common.{◌≡◌, ℕ, zero, suc, ◌+◌, ◌-◌, ◌<◌, ◌≤◌, List, [], ◌∷◌, map, length, get_or, refl, sym, ap, subst, ◌∙◌, arith}
use Rattle.std.specs.Prelude.{ℤ, Some, None, IfSome, All}
use Rattle.std.specs.List.{range_with_len}
use Rattle.xs_params.specs.declared.header.Header.{Header}
use Rattle.xs_params.specs.Geometry.{bands_of, band_width_of}
use Rattle.xs_params.specs.Rows.{Rows}
use Rattle.xs_geometry.specs.SliceLines.{AreLinesOf, BandLines, ShowRows, end_line_of, first_line_of, lines_at}
use Rattle.xs_grammar.specs.Precinct.{Content}
use Rattle.xs_grammar.specs.Slice.{IsSliceUnit}
use Rattle.xs_reading.specs.Rows.{dequantised_rows}
use Rattle.xs_stripe.specs.Edges.{EdgeRows, HasHighLines, HasLines, IsDownEdge, IsUpEdge, ShowsDown, ShowsUp, edge_row}
use Rattle.xs_handover.specs.declared.piece.Piece.{Piece}
use Rattle.xs_handover.specs.declared.piece.Piece.TheVariants.{Body, Up, Down}
use Rattle.xs_handover.specs.Blocks.{Block, Carried, Carries}
use Rattle.xs_handover.specs.Decoded.{AgreeIn, AreRowsAt, IsDecoded, IsDecodedBlock, IsLineIn, IsPieceOf, ShowsPiece}

-- two functions that agree on numbers have the same list of values
map_agree : (f g : ℕ → ℤ) (first n : ℕ) → ((k : ℕ) → first ≤ k → k < first + n → f k ≡ g k) → map f (range_with_len first n) ≡ map g (range_with_len first n)
map_agree f g first zero same = refl
map_agree f g first (suc n) same =
    ap (λ z. z ∷ map f (range_with_len (first + 1) n)) (same first (omega arith) (omega arith))
    ∙ ap (λ l. g first ∷ l) (map_agree f g (first + 1) n (λ k low high. same k (omega (arith, low)) (omega (arith, high))))

-- a row with a number is not empty
some_row : {A : Type 0} (xs : List A) (k : ℕ) → k < length xs → xs ≡ [] → ⊥
some_row xs k below e = let none = ap length e in omega (arith, below, none)

shows_body : (h : Header) (slice : ℕ) (rows other : Rows) (body : List BandLines) → AreLinesOf h slice body → AgreeIn h slice rows other → ShowRows h other body → ShowRows h rows body
shows_body h slice rows other body lines agree shown band line has =
    shown band line has ∙ map_agree (other band line) (rows band line) 0 (band_width_of h band) (λ k low below. sym (agree band line k here (omega (arith, below))))
  where
    inside : band < bands_of h
    inside = subst (λ n. band < n) lines.count has.band_there

    here : IsLineIn h slice band line
    here = record {
      band_there = inside;
      from = subst (λ n. n ≤ line) (lines.first band inside) has.from;
      below = subst (λ n. line < n) (lines.lines band inside) (subst (λ n. line < n + length (lines_at body band).rows) (lines.first band inside) has.line_there);
    }

shows_up : (h : Header) (slice : ℕ) (rows other : Rows) (edge : EdgeRows) → IsUpEdge h slice edge → AgreeIn h slice rows other → ShowsUp h slice edge other → ShowsUp h slice edge rows
shows_up h slice rows other edge is agree shown band k below =
    shown band k below ∙ sym (agree band (first_line_of h slice band) k here (subst (λ n. k < n) (is.there band has).wide below))
  where
    has : HasLines h slice band
    has = is.alone band (some_row (edge_row edge band) k below)

    here : IsLineIn h slice band (first_line_of h slice band)
    here = record { band_there = has.0; from = omega arith; below = has.1 }

shows_down : (h : Header) (slice : ℕ) (rows other : Rows) (edge : EdgeRows) → IsDownEdge h slice edge → AgreeIn h slice rows other → ShowsDown h slice edge other → ShowsDown h slice edge rows
shows_down h slice rows other edge is agree shown band k below =
    shown band k below ∙ sym (agree band (end_line_of h slice band - 1) k here (subst (λ n. k < n) (is.there band has).wide below))
  where
    has : HasHighLines h slice band
    has = is.alone band (some_row (edge_row edge band) k below)

    here : IsLineIn h slice band (end_line_of h slice band - 1)
    here = record { band_there = has.0.0; from = omega (arith, has.0.1); below = omega (arith, has.0.1) }

pub shows_piece : (h : Header) (slice : ℕ) (rows other : Rows) (piece : Piece) → IsPieceOf h slice piece → AgreeIn h slice rows other → ShowsPiece h slice other piece → ShowsPiece h slice rows piece
shows_piece h slice rows other (Body body) is agree shown = shows_body h slice rows other body is.0 agree shown
shows_piece h slice rows other (Up edge) is agree shown = shows_up h slice rows other edge is.1 agree shown
shows_piece h slice rows other (Down edge) is agree shown = shows_down h slice rows other edge is.1 agree shown

-- The piece of a block of this header shows the coefficients of which its bytes are sent

abbrev pub block : Header → ℕ → List ℕ → Piece → Block
block h slice bytes piece = record { header = h; slice = slice; bytes = bytes; piece = piece }

shown_by : (h : Header) (slice : ℕ) (bytes : List ℕ) (piece : Piece) (rows : Rows) → IsDecoded (block h slice bytes piece) → ((content : Content) → IsSliceUnit h content slice bytes → AgreeIn h slice rows (dequantised_rows h content))
    → ShowsPiece h slice rows piece
shown_by h slice bytes piece rows d are = shows_piece h slice rows (dequantised_rows h d.content) piece d.piece_of (are d.content d.spelled) d.shown

pub piece_shown : (h : Header) (slice : ℕ) (piece : Piece) (rows : Rows) (v : Carried) → Carries h slice piece v → IsDecodedBlock v → IfSome v (λ (b : Block). b.header ≡ h) → AreRowsAt h rows v → ShowsPiece h slice rows piece
piece_shown h slice piece rows None has d by are = absurd has
piece_shown h slice piece rows (Some b) has d by are =
    shown_by h slice b.bytes piece rows
    (subst (λ p. IsDecoded (block h slice b.bytes p)) has.piece_is (subst (λ s. IsDecoded (block h s b.bytes b.piece)) has.slice_is (subst (λ k. IsDecoded (block k b.slice b.bytes b.piece)) by d)))
    (subst (λ s. (content : Content) → IsSliceUnit h content s b.bytes → AgreeIn h s rows (dequantised_rows h content)) has.slice_is are)

-- what holds of each value of a list holds of the one at a place, if there is one
pub at_place : (P : Block → Type 0) (xs : List Carried) (place : ℕ) → All (λ (v : Carried). IfSome v P) xs → IfSome (get_or xs place None) P
at_place P [] place all = tt
at_place P (x ∷ xs) zero all = all 0 None (omega arith)
at_place P (x ∷ xs) (suc place) all = at_place P xs place (λ k d below. all (suc k) d (omega (arith, below)))
