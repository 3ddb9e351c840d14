-- The sizes of the parts are those of the band geometry.
use Rattle.std.proofs.Common.{◌≡◌, ℕ, zero, suc, ◌+◌, ◌-◌, ◌/◌, arith, ap, sym, ◌∙◌}
use Rattle.xs_layout.proofs.Places.{sides_make_up}
use Rattle.xs_layout.specs.Geometry.{low_size, high_size}
use Rattle.xs_signal.specs.Wavelet.{low_count, high_count, low_count_at, SizesAgree}

-- so many levels leave as many low entries as the band geometry says
pub low_sizes : (n level : ℕ) → low_count_at n level ≡ low_size n level
low_sizes n zero = omega arith
low_sizes n (suc level) =
    let next : level + 1 ≡ suc level = omega arith in
    ap low_count (low_sizes n level) ∙ sym (sides_make_up n level).0 ∙ ap (low_size n) next

-- and the next level puts as many on the high side
pub high_sizes : (n level : ℕ) → high_count (low_count_at n level) ≡ high_size n (level + 1)
high_sizes n level =
    let here : level + 1 - 1 ≡ level = omega arith in
    ap high_count (low_sizes n level) ∙ sym (ap (λ k. low_size n k / 2) here)

pub sizes_agree : SizesAgree
sizes_agree = record { low = low_sizes; high = high_sizes }
