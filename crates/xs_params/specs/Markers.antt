-- The markers that stand alone, or begin a slice: 'Codestream layout'.
use Rattle.std.specs.Prelude.{ℕ, List, [], ◌∷◌}

-- the marker that begins a codestream
abbrev pub soc : List ℕ
soc = 0xff ∷ 0x10 ∷ []

-- the marker that begins a slice
abbrev pub slh : List ℕ
slh = 0xff ∷ 0x20 ∷ []

-- the marker that ends a codestream
abbrev pub eoc : List ℕ
eoc = 0xff ∷ 0x11 ∷ []
