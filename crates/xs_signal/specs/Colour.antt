-- The reversible colour transform, on three scaled components: 'Samples, scaling and colour'.
use Rattle.std.specs.Prelude.{◌≡◌, ℤ, pos, ◌+ℤ◌, ◌-ℤ◌, ◌*ℤ◌}
use Rattle.std.specs.Int.{int_shr}

-- luma and two colour differences of red, green and blue: a quarter of r + 2g + b, rounded down, b - g and r - g
abbrev pub rct : ℤ → ℤ → ℤ → ℤ × ℤ × ℤ
rct r g b = (int_shr (r +ℤ pos 2 *ℤ g +ℤ b) 2, b -ℤ g, r -ℤ g)

-- red, green and blue again: green is luma less a quarter of u + v, rounded down
abbrev pub unrct : ℤ → ℤ → ℤ → ℤ × ℤ × ℤ
unrct y u v = let g = y -ℤ int_shr (u +ℤ v) 2 in (v +ℤ g, g, u +ℤ g)

-- the one transform undoes the other
pub record ColourUndone : Type 0 where
  pub back : (r g b : ℤ) → let t = rct r g b in unrct t.0 t.1 t.2 ≡ (r, g, b)
  pub forth : (y u v : ℤ) → let t = unrct y u v in rct t.0 t.1 t.2 ≡ (y, u, v)
