-- A row split across: '5/3 wavelet'.
use Rattle.std.specs.Prelude.{◌≡◌, ◌++◌, ◌∷◌, List, [], length, ℤ}
use Rattle.xs_signal.specs.Lines.{entries_of, Shows}
use Rattle.xs_signal.specs.Wavelet.{low_count, high_count, low_of, high_of}

-- the low and the high part of a line
pub record AreParts (line lows highs : List ℤ) : Type 0 where
  pub low_width : length lows ≡ low_count (length line)
  pub high_width : length highs ≡ high_count (length line)
  pub low : Shows lows (low_of (length line) (entries_of line))
  pub high : Shows highs (high_of (length line) (entries_of line))

-- a line was split: its low part was given, its high part added to a band
pub record IsSplitOff (line low : List ℤ) (old new : List (List ℤ)) : Type 0 where
  pub high : List ℤ
  pub parts : AreParts line low high
  pub added : new ≡ old ++ high ∷ []
