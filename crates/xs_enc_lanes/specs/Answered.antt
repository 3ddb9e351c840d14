-- The slices of a picture, put in order.
use Rattle.std.specs.Prelude.{◌≡◌, ℕ, ◌<◌, Bool, Option, None, List, All, length, IsSome, IfSome, slice_index_or}
use Rattle.std.specs.List.{Contains}
use Rattle.xs_params.specs.declared.header.Header.{Header}
use Rattle.xs_params.specs.Geometry.{slice_count}
use Rattle.xs_params.specs.Rows.{Rows}
use Rattle.xs_enc_lanes.specs.declared.activity.CodedSlice.{CodedSlice}
use Rattle.xs_enc_lanes.specs.Coded.{HasSlice, IsCodedOutcome}

-- Each slice of the picture is kept, and what came of it is that of the coefficients.
pub record AreSliced (h : Header) (rows : Rows) (share : ℕ) (fill : Bool) (kept : List CodedSlice) : Type 0 where
  pub each : (slice : ℕ) → slice < slice_count h → HasSlice kept slice
  pub right : All (λ (c : CodedSlice). IsCodedOutcome h rows share fill c.slice c.outcome) kept

-- At each place of a slice stands what came of it.
pub record AreRight (h : Header) (rows : Rows) (share : ℕ) (fill : Bool) (places : List (Option CodedSlice)) : Type 0 where
  pub size : length places ≡ slice_count h
  pub right : (slice : ℕ) → slice < slice_count h
      → IfSome (slice_index_or places slice None) (λ (c : CodedSlice). IsCodedOutcome h rows share fill slice c.outcome)

-- no place is empty
abbrev pub AreAllThere : List (Option CodedSlice) → Type 0
AreAllThere places = (slice : ℕ) → slice < length places → IsSome (slice_index_or places slice None)

-- the slices below a number are in order
pub record AreInOrder (kept : List CodedSlice) (count : ℕ) (places : List (Option CodedSlice)) : Type 0 where
  pub size : length places ≡ count
  pub each : (slice : ℕ) → slice < count → HasSlice kept slice → IsSome (slice_index_or places slice None)
  pub from : (slice : ℕ) → slice < count → IfSome (slice_index_or places slice None) (λ (c : CodedSlice). Contains kept c × (c.slice ≡ slice))
