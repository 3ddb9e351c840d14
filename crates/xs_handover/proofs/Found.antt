-- What stands at the places of a list of blocks.
use Rattle.std.proofs.Common.{◌≡◌, ℕ, ◌+◌, ◌-◌, ◌<◌, List, sym, subst}
use Rattle.std.specs.Prelude.{Option, None, Some, MatchOption}
use Rattle.xs_params.specs.declared.header.Header.{Header}
use Rattle.xs_params.specs.Geometry.{slice_count}
use Rattle.xs_geometry.specs.SliceLines.{BandLines}
use Rattle.xs_stripe.specs.Edges.{EdgeRows}
use Rattle.xs_handover.specs.declared.piece.Piece.{Piece}
use Rattle.xs_handover.specs.declared.piece.Piece.TheVariants.{Body, Up, Down}
use Rattle.xs_handover.specs.Blocks.{Carried, Carries}
use Rattle.xs_handover.specs.Decoded.{IsDecodedBlock, IsDecodedIf}
use Rattle.xs_handover.specs.Sources.{AreOf, HasAt, place_below, value_at}
use Rattle.xs_handover.proofs.Runs.{above_of, below_of, body_of}

-- the value has a piece, so that it has rows
has_rows : (h : Header) (slice : ℕ) (piece : Piece) (v : Carried) → Carries h slice piece v → IsDecodedIf v → IsDecodedBlock v
has_rows h slice piece None has d = has
has_rows h slice piece (Some b) has d = d

has_at : (values : List Carried) (place : ℕ) (h : Header) (slice : ℕ) (piece : Piece) (v : Carried) → v ≡ value_at values place → Carries h slice piece v → IsDecodedIf v → HasAt values place h slice piece
has_at values place h slice piece v same has d = (subst (Carries h slice piece) same has, subst IsDecodedBlock same (has_rows h slice piece v has d))

-- no block is at the place
pub no_body : (h : Header) (slice : ℕ) (values : List Carried) → value_at values 0 ≡ None → ¬ AreOf h slice values
no_body h slice values none = λ of. let own = body_of h slice values of in subst (Carries h slice (Body own.0)) none own.1

pub no_above : (h : Header) (slice : ℕ) (values : List Carried) → 0 < slice → slice < slice_count h → value_at values 1 ≡ None → ¬ AreOf h slice values
no_above h slice values some there none = λ of. let edge = above_of h slice values some there of in subst (Carries h (slice - 1) (Down edge.1.0)) none edge.1.1

pub no_below : (h : Header) (slice : ℕ) (values : List Carried) (place : ℕ) → slice + 1 < slice_count h → place ≡ place_below slice → value_at values place ≡ None → ¬ AreOf h slice values
no_below h slice values place more at none = λ of.
    let here = subst (λ p. value_at values p ≡ None) at none in
    let edge = (below_of h slice values more of).1 (subst IsDecodedIf (sym here) tt) in
    subst (Carries h (slice + 1) (Up edge.0)) here edge.1

-- the block at the place was asked for its piece
module _ {E : Type 0} where
  pub body_found : (now : E → List BandLines) (h : Header) (slice : ℕ) (values : List Carried) (v : Carried) (result : Option E) → v ≡ value_at values 0 → IsDecodedIf v
      → MatchOption result ((body : List BandLines) → ¬ Carries h slice (Body body) v) (λ e. Carries h slice (Body (now e)) v) → MatchOption result (¬ AreOf h slice values) (λ e. HasAt values 0 h slice (Body (now e)))
  body_found now h slice values v None same d is = λ of. let own = body_of h slice values of in is own.0 (subst (Carries h slice (Body own.0)) (sym same) own.1)
  body_found now h slice values v (Some e) same d is = has_at values 0 h slice (Body (now e)) v same is d

  pub above_found : (now : E → EdgeRows) (h : Header) (slice : ℕ) (values : List Carried) (v : Carried) (result : Option E) → 0 < slice → slice < slice_count h → v ≡ value_at values 1 → IsDecodedIf v
      → MatchOption result ((edge : EdgeRows) → ¬ Carries h (slice - 1) (Down edge) v) (λ e. Carries h (slice - 1) (Down (now e)) v)
      → MatchOption result (¬ AreOf h slice values) (λ e. HasAt values 1 h (slice - 1) (Down (now e)))
  above_found now h slice values v None some there same d is = λ of.
      let edge = (above_of h slice values some there of).1 in is edge.0 (subst (Carries h (slice - 1) (Down edge.0)) (sym same) edge.1)
  above_found now h slice values v (Some e) some there same d is = has_at values 1 h (slice - 1) (Down (now e)) v same is d

  pub below_found : (now : E → EdgeRows) (h : Header) (slice : ℕ) (values : List Carried) (place : ℕ) (v : Carried) (result : Option E) → slice + 1 < slice_count h → place ≡ place_below slice → v ≡ value_at values place → IsDecodedIf v
      → MatchOption result ((edge : EdgeRows) → ¬ Carries h (slice + 1) (Up edge) v) (λ e. Carries h (slice + 1) (Up (now e)) v)
      → MatchOption result (¬ AreOf h slice values) (λ e. HasAt values (place_below slice) h (slice + 1) (Up (now e)))
  below_found now h slice values place v None more at same d is = λ of.
      let here = subst (λ p. v ≡ value_at values p) at same in
      let edge = (below_of h slice values more of).1 (subst IsDecodedIf here d) in is edge.0 (subst (Carries h (slice + 1) (Up edge.0)) (sym here) edge.1)
  below_found now h slice values place v (Some e) more at same d is = has_at values (place_below slice) h (slice + 1) (Up (now e)) v (subst (λ p. v ≡ value_at values p) at same) is d
