-- A plane of full size has room for the part of each level.
use Rattle.std.proofs.Common.{◌≡◌, ◌≤◌, ℕ, zero, suc, ℤ, List, length, min, arith, Vec, ap, sym, ◌∙◌}
use Rattle.std.proofs.lemmas.List.{with_items_is}
use Rattle.std.specs.Vec.{with_items}
use Rattle.std.specs.declared.alloc.Global.{Global}
use Rattle.xs_signal.specs.Wavelet.{Split, low_count, low_count_at}
use Rattle.xs_signal.specs.Stripe.{rows_at}
use Rattle.xs_wave.specs.Planes.{HasSize}
use Rattle.xs_wave.specs.Corners.{IsRoomy}
use Rattle.xs_wave.proofs.Corners.{room_of}

pub count_most : (n level : ℕ) → low_count_at n level ≤ n
count_most n zero = omega arith
count_most n (suc level) = let before = count_most n level in omega (arith, before)

pub rows_most : (s : Split) (level : ℕ) → rows_at s level ≤ s.height
rows_most s level = count_most s.height (min level s.down)

-- so for sizes that are told by other names
pub room_at : (s : Split) (level width height : ℕ) (rows : List (List ℤ)) → HasSize s.width s.height rows → width ≡ low_count_at s.width level → height ≡ rows_at s level → IsRoomy width height rows
room_at s level width height rows size columns tall =
    room_of s.width s.height width height rows size (omega (arith, columns, count_most s.width level)) (omega (arith, tall, rows_most s level))

-- half a row of a level is no longer than half a row of the plane
pub half_most : (s : Split) (level width n : ℕ) → width ≡ low_count_at s.width level → n ≡ low_count s.width → low_count width ≤ n
half_most s level width n columns half = omega (arith, columns, half, count_most s.width level)

-- a line that was lent and written over is as long
pub line_kept : (v : Vec ℤ Global) (slice new : List ℤ) (n : ℕ) → slice ≡ v.items → length new ≡ length slice → length v.items ≡ n → length (with_items v new).items ≡ n
line_kept v slice new n same long size = ap length (with_items_is v new (long ∙ ap length same ∙ sym v.ok.0)) ∙ long ∙ ap length same ∙ size
