-- The rows of coefficients of a picture.
use Rattle.std.proofs.Common.{◌≤◌, ℕ, pos, arith}
use Rattle.std.specs.Prelude.{Bool, true, false, nat_lt, if◌then◌else◌, unsigned_abs}
use Rattle.xs_layout.specs.Geometry.{BandType}
use Rattle.xs_params.specs.Picture.{sample_at}
use Rattle.xs_signal.specs.Fold.{fold}
use Rattle.xs_signal.specs.Picture.{analysed, each_entry}
use Rattle.xs_signal.specs.Wavelet.{Bands, band_plane}
use Rattle.xs_signal.proofs.Magnitudes.{fold_fits}
use Rattle.xs_params.specs.Geometry.{band_width_of, band_component, band_type_of}
use Rattle.xs_rate.specs.Coefficients.{signal_of}
use Rattle.xs_rate.specs.Laws.{SmallRows}

-- Small numbers

plane-small : (b : Bands) (fq : ℕ) (type : BandType) (line column : ℕ) → unsigned_abs (band_plane (each_entry (fold fq) b) type line column) ≤ 32767
plane-small b fq type line column = cases type.high_down type.high_across
  where
    cases : (down across : Bool)
        → unsigned_abs ((if down then (if across then (each_entry (fold fq) b).hh type.across else (each_entry (fold fq) b).lh type.across)
        else (if across then (each_entry (fold fq) b).hl type.across else (each_entry (fold fq) b).ll)) line column) ≤ 32767
    cases true true = fold_fits fq (b.hh type.across line column)
    cases true false = fold_fits fq (b.lh type.across line column)
    cases false true = fold_fits fq (b.hl type.across line column)
    cases false false = fold_fits fq (b.ll line column)

pub small_rows : SmallRows
small_rows h picture band line column = cases (nat_lt column (band_width_of h band))
  where
    bands : Bands
    bands = analysed (signal_of h) (sample_at picture) (band_component h band)

    cases : (inside : Bool) → unsigned_abs (if inside then band_plane (each_entry (fold h.fq) bands) (band_type_of h band) line column else pos 0) ≤ 32767
    cases true = plane-small bands h.fq (band_type_of h band) line column
    cases false = omega arith
