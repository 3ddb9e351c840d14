-- A codestream in pieces: 'Codestream layout'.
use Rattle.std.specs.Prelude.{ℕ, List, ◌++◌}
use Rattle.std.specs.List.{concat}
use Rattle.xs_params.specs.Markers.{eoc}

-- the header, and the slices in order, without the end marker
pub record Stream : Type 0 where
  pub header : List ℕ
  pub slices : List (List ℕ)

-- the codestream: its pieces one after the other, and the end marker
abbrev pub stream_bytes : Stream → List ℕ
stream_bytes stream = stream.header ++ concat stream.slices ++ eoc
