-- A slice: 'Slice, precinct and packet', and what is sent of the last one: 'Codestream layout'.
use Rattle.std.specs.Prelude.{◌≡◌, ℕ, ◌+◌, ◌<◌, ◌^◌, nat_eq, List, ◌∷◌, ◌++◌}
use Rattle.std.specs.Bool.{MatchBool}
use Rattle.std.specs.Int.{to_be_bytes, w16}
use Rattle.xs_params.specs.declared.header.Header.{Header}
use Rattle.xs_lists.specs.Spelling.{FirstAre, SpellsEach}
use Rattle.xs_params.specs.Geometry.{slice_count, precincts_of}
use Rattle.xs_params.specs.Markers.{slh, eoc}
use Rattle.xs_grammar.specs.Precinct.{Content, IsPrecinct}

-- the slice header: its marker, its length 4, and the slice's index
abbrev pub slice_head : ℕ → List ℕ
slice_head slice = slh ++ 0 ∷ 4 ∷ to_be_bytes w16 slice

-- the bytes are a slice: its header and its precincts in order
pub record IsSlice (h : Header) (content : Content) (slice : ℕ) (bytes : List ℕ) : Type 0 where
  pub index : slice < 2 ^ 16
  pub body : List ℕ
  pub joined : bytes ≡ slice_head slice ++ body
  pub spelled : SpellsEach (IsPrecinct h content) (precincts_of h slice) body

-- the first n bytes are a slice
abbrev pub IsSliceFront : Header → Content → ℕ → List ℕ → ℕ → Type 0
IsSliceFront h content slice = FirstAre (IsSlice h content slice)

-- the bytes are what is sent of a slice: the slice, and after the last one the end of the codestream
abbrev pub IsSliceUnit : Header → Content → ℕ → List ℕ → Type 0
IsSliceUnit h content slice bytes =
    MatchBool (nat_eq (slice + 1) (slice_count h))
    ((front : List ℕ) × (bytes ≡ front ++ eoc) × IsSlice h content slice front)
    (IsSlice h content slice bytes)
