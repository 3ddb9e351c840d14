-- Samples and the numbers that the transforms work on: 'Samples, scaling and colour'.
use Rattle.std.specs.Prelude.{◌≡◌, ◌⊎◌, ℕ, ◌-◌, ◌*◌, ◌^◌, ◌<◌, min, ℤ, pos, negsuc, ◌+ℤ◌, ◌-ℤ◌}
use Rattle.std.specs.Int.{int_shr}

-- a sample of `depth` bits, raised to `bw` bits and centred round 0
abbrev pub scale_in : ℕ → ℕ → ℕ → ℤ
scale_in depth bw sample = pos (sample * 2 ^ (bw - depth)) -ℤ pos (2 ^ (bw - 1))

-- the number of 0..most that is nearest to z
abbrev pub clamped : ℕ → ℤ → ℕ
clamped most (pos n) = min n most
clamped most (negsuc n) = 0

-- the sample of `depth` bits that is nearest to a number of `bw` bits round 0
abbrev pub scale_out : ℕ → ℕ → ℤ → ℕ
scale_out depth bw z = clamped (2 ^ depth - 1) (int_shr (z +ℤ pos (2 ^ (bw - 1)) +ℤ pos (2 ^ (bw - depth - 1))) (bw - depth))

-- a sample comes back from its scaled number
abbrev pub ScaleOutUndoesIn : Type 0
ScaleOutUndoesIn = (depth bw sample : ℕ) → 0 < depth → depth < bw → sample < 2 ^ depth → scale_out depth bw (scale_in depth bw sample) ≡ sample
