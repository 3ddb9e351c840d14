-- Worked examples of '5/3 wavelet', 'Samples, scaling and colour', 'Quantisers' and 'Rate choice'.
use Rattle.std.specs.Prelude.{◌≡◌, ℕ, ◌∷◌, [], ℤ, pos, neg_ℤ}
use Rattle.xs_signal.specs.Lines.{entries_of}
use Rattle.xs_signal.specs.Samples.{scale_in, scale_out}
use Rattle.xs_signal.specs.Colour.{rct, unrct}
use Rattle.xs_signal.specs.Wavelet.{low_of, high_of, inverse_line}
use Rattle.xs_layout.specs.declared.Quant.TheVariants.{DeadZone, Uniform}
use Rattle.xs_signal.specs.Quantiser.{quantised, unquantised}
use Rattle.xs_signal.specs.Fold.{fold}

-- a line of four samples, its low and its high part
abbrev pub line : ℕ → ℤ
line = entries_of (pos 10 ∷ pos 13 ∷ pos 20 ∷ pos 9 ∷ [])

abbrev pub low : ℕ → ℤ
low = entries_of (pos 9 ∷ pos 17 ∷ [])

abbrev pub high : ℕ → ℤ
high = entries_of (neg_ℤ (pos 2) ∷ neg_ℤ (pos 11) ∷ [])

pub record LineSplit : Type 0 where
  pub low_first : low_of 4 line 0 ≡ low 0
  pub low_second : low_of 4 line 1 ≡ low 1
  pub high_first : high_of 4 line 0 ≡ high 0
  pub high_second : high_of 4 line 1 ≡ high 1

pub record LineJoined : Type 0 where
  pub first : inverse_line 4 low high 0 ≡ line 0
  pub second : inverse_line 4 low high 1 ≡ line 1
  pub third : inverse_line 4 low high 2 ≡ line 2
  pub fourth : inverse_line 4 low high 3 ≡ line 3

pub record ColourTurned : Type 0 where
  pub there : rct (pos 10) (pos 20) (pos 31) ≡ (pos 20, pos 11, neg_ℤ (pos 10))
  pub back : unrct (pos 20) (pos 11) (neg_ℤ (pos 10)) ≡ (pos 10, pos 20, pos 31)

pub record Quantised : Type 0 where
  pub dead_zone : quantised DeadZone 5 3 21 ≡ 2
  pub uniform : quantised Uniform 5 3 21 ≡ 2
  pub dead_zone_back : unquantised DeadZone 5 3 2 ≡ 20
  pub uniform_back : unquantised Uniform 5 3 2 ≡ 18

pub record Folded : Type 0 where
  pub most : fold 8 (pos 8400000) ≡ pos 32767
  pub rounds : fold 8 (neg_ℤ (pos 128)) ≡ neg_ℤ (pos 1)
  pub vanishes : fold 8 (neg_ℤ (pos 127)) ≡ pos 0

pub record Scaled : Type 0 where
  pub there : scale_in 10 20 1023 ≡ pos 523264
  pub back : scale_out 10 20 (pos 523264) ≡ 1023
  pub clamps : scale_out 10 20 (pos 600000) ≡ 1023
