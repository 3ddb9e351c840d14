-- The two quantisers, from a magnitude to the number that is sent and back: 'Quantisers'. `count` is the number of bit-planes of the
-- magnitude's group, and `cut` how many of its lowest planes are left out.
use Rattle.std.specs.Prelude.{◌≡◌, ℕ, zero, suc, ◌+◌, ◌-◌, ◌*◌, ◌/◌, ◌^◌, ◌<◌, ◌≤◌, ℤ, pos, negsuc, neg_ℤ, if◌then◌else◌, nat_eq, nat_lt, unsigned_abs}
use Rattle.xs_layout.specs.declared.Quant.{Quant}
use Rattle.xs_layout.specs.declared.Quant.TheVariants.{DeadZone, Uniform}

-- dead zone: the lowest planes are dropped
abbrev pub dead_zone : ℕ → ℕ → ℕ
dead_zone cut x = x / 2 ^ cut

-- dead zone back: the middle of all that was sent as v, and 0 for 0
abbrev pub dead_zone_back : ℕ → ℕ → ℕ
dead_zone_back cut v = if nat_eq v 0 then 0 else v * 2 ^ cut + 2 ^ cut / 2

-- uniform: the nearest of 2 ^ (count - cut + 1) - 1 even steps
abbrev pub uniform : ℕ → ℕ → ℕ → ℕ
uniform count cut x = (x * 2 ^ (count - cut + 1) - x + 2 ^ count) / 2 ^ (count + 1)

-- n terms of f, f >> step, f >> 2 step, .. added up
abbrev pub shift_sum : ℕ → ℕ → ℕ → ℕ
shift_sum step zero f = 0
shift_sum step (suc n) f = f + shift_sum step n (f / 2 ^ step)

-- uniform back: v << cut and its shifts by count - cut + 1, until a term is 0; after `count` terms each is 0
abbrev pub uniform_back : ℕ → ℕ → ℕ → ℕ
uniform_back count cut v = shift_sum (count - cut + 1) count (v * 2 ^ cut)

-- the number that is sent for a magnitude
abbrev pub quantised : Quant → ℕ → ℕ → ℕ → ℕ
quantised DeadZone count cut x = dead_zone cut x
quantised Uniform count cut x = uniform count cut x

-- the magnitude that stands for a number that was sent
abbrev pub unquantised : Quant → ℕ → ℕ → ℕ → ℕ
unquantised DeadZone count cut v = dead_zone_back cut v
unquantised Uniform count cut v = uniform_back count cut v

-- a magnitude with the sign of z
abbrev pub with_sign_of : ℤ → ℕ → ℤ
with_sign_of (pos n) m = pos m
with_sign_of (negsuc n) m = neg_ℤ (pos m)

-- no later term is left out: where f has at most n bits, a longer sum is the same
abbrev pub ShiftSumEnds : Type 0
ShiftSumEnds = (step n more f : ℕ) → 0 < step → f < 2 ^ n → shift_sum step (n + more) f ≡ shift_sum step n f

-- the signed number that is sent for a coefficient: none of a group with no more planes than are left out
abbrev pub sent : Quant → ℕ → ℕ → ℤ → ℤ
sent kind count cut z = if nat_lt cut count then with_sign_of z (quantised kind count cut (unsigned_abs z)) else pos 0

-- the coefficient that stands for a number that was sent
abbrev pub dequantised : Quant → ℕ → ℕ → ℤ → ℤ
dequantised kind count cut q = if nat_lt cut count then with_sign_of q (unquantised kind count cut (unsigned_abs q)) else pos 0

-- what is sent has no more planes than are sent
abbrev pub QuantisedFits : Type 0
QuantisedFits = (kind : Quant) (count cut x : ℕ) → cut ≤ count → x < 2 ^ count → quantised kind count cut x < 2 ^ (count - cut)

-- what comes back has no more planes than its group
abbrev pub DequantisedFits : Type 0
DequantisedFits = (kind : Quant) (count cut : ℕ) (q : ℤ) → unsigned_abs q < 2 ^ (count - cut) → unsigned_abs (dequantised kind count cut q) < 2 ^ count
