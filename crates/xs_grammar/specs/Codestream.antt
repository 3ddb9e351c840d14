-- A codestream: 'Codestream layout'.
use Rattle.std.specs.Prelude.{◌≡◌, ℕ, ◌⊎◌, List, ◌++◌, length}
use Rattle.xs_params.specs.declared.header.Header.{Header}
use Rattle.xs_lists.specs.Spelling.{upto, FirstAre, SpellsEach}
use Rattle.xs_params.specs.Geometry.{slice_count}
use Rattle.xs_grammar.specs.Header.{IsHeader}
use Rattle.xs_grammar.specs.Precinct.{Content}
use Rattle.xs_grammar.specs.Slice.{IsSlice}
use Rattle.xs_params.specs.Markers.{eoc}

-- the bytes are a codestream: its header, its slices in order and the end marker; the length that the header states is 0 or theirs
pub record IsCodestream (h : Header) (content : Content) (bytes : List ℕ) : Type 0 where
  pub header : List ℕ
  pub slices : List ℕ
  pub joined : bytes ≡ header ++ (slices ++ eoc)
  pub headed : IsHeader h header
  pub spelled : SpellsEach (IsSlice h content) (upto (slice_count h)) slices
  pub stated : (h.lcod ≡ 0) ⊎ (h.lcod ≡ length bytes)

-- the first n bytes are a codestream
abbrev pub IsCodestreamFront : Header → Content → List ℕ → ℕ → Type 0
IsCodestreamFront h content = FirstAre (IsCodestream h content)
