-- A whole picture, its coefficients in bands and its samples from them: '5/3 wavelet' and 'Samples, scaling and colour'
-- for all components, and the rounding of 'Rate choice'.
use Rattle.std.specs.Prelude.{◌≡◌, ℕ, zero, suc, ◌^◌, ◌<◌, ℤ, pos, ◌*ℤ◌, Bool, if◌then◌else◌}
use Rattle.xs_signal.specs.Samples.{scale_in, scale_out}
use Rattle.xs_signal.specs.Colour.{rct, unrct}
use Rattle.xs_signal.specs.Wavelet.{Split, Bands, bands_of_plane, inverse_plane}
use Rattle.xs_signal.specs.Fold.{fold}

-- How a picture is taken apart: each component's split, the bits of a sample, those of the numbers inside and those of
-- them that are rounded away, and whether the three components are turned to luma and differences.
pub record Signal : Type 0 where
  pub split : ℕ → Split
  pub depth : ℕ
  pub bw : ℕ
  pub fq : ℕ
  pub colour : Bool

-- of three numbers the one of a component
abbrev pub one_of : ℤ × ℤ × ℤ → ℕ → ℤ
one_of t zero = t.0
one_of t (suc zero) = t.1
one_of t (suc (suc component)) = t.2

-- the planes of luma and differences
abbrev pub coloured : (ℕ → ℕ → ℕ → ℤ) → ℕ → ℕ → ℕ → ℤ
coloured planes component row column = one_of (rct (planes 0 row column) (planes 1 row column) (planes 2 row column)) component

-- the planes of red, green and blue again
abbrev pub uncoloured : (ℕ → ℕ → ℕ → ℤ) → ℕ → ℕ → ℕ → ℤ
uncoloured planes component row column = one_of (unrct (planes 0 row column) (planes 1 row column) (planes 2 row column)) component

-- the bands with a function of each entry
abbrev pub each_entry : (ℤ → ℤ) → Bands → Bands
each_entry f b = record {
  ll = λ row column. f (b.ll row column);
  hl = λ level row column. f (b.hl level row column);
  lh = λ level row column. f (b.lh level row column);
  hh = λ level row column. f (b.hh level row column);
}

-- the scaled samples of each component
abbrev pub scaled : Signal → (ℕ → ℕ → ℕ → ℕ) → ℕ → ℕ → ℕ → ℤ
scaled s picture component row column = scale_in s.depth s.bw (picture component row column)

-- the bands of each component, at full precision
abbrev pub analysed : Signal → (ℕ → ℕ → ℕ → ℕ) → ℕ → Bands
analysed s picture component = bands_of_plane (s.split component) ((if s.colour then coloured (scaled s picture) else scaled s picture) component)

-- the planes with these bands
abbrev pub synthesised : Signal → (ℕ → Bands) → ℕ → ℕ → ℕ → ℤ
synthesised s bands component = inverse_plane (s.split component) (bands component)

-- the samples with these bands at full precision
abbrev pub picture_of_bands : Signal → (ℕ → Bands) → ℕ → ℕ → ℕ → ℕ
picture_of_bands s bands component row column = scale_out s.depth s.bw ((if s.colour then uncoloured (synthesised s bands) else synthesised s bands) component row column)

-- the coefficients that are sent of a picture, before the quantiser
abbrev pub coefficients_of : Signal → (ℕ → ℕ → ℕ → ℕ) → ℕ → Bands
coefficients_of s picture component = each_entry (fold s.fq) (analysed s picture component)

-- the picture of coefficients that came back from the quantiser
abbrev pub decoded_picture : Signal → (ℕ → Bands) → ℕ → ℕ → ℕ → ℕ
decoded_picture s coefficients = picture_of_bands s (λ component. each_entry (λ z. z *ℤ pos (2 ^ s.fq)) (coefficients component))

-- where nothing is rounded, each sample comes back
abbrev pub PictureBack : Type 0
PictureBack = (s : Signal) (picture : ℕ → ℕ → ℕ → ℕ) (component row column : ℕ) → component < 3 → 0 < s.depth → s.depth < s.bw → picture component row column < 2 ^ s.depth
    → picture_of_bands s (analysed s picture) component row column ≡ picture component row column
