-- A picture comes back.
use Rattle.std.proofs.Common.{◌≡◌, ℕ, zero, suc, ◌<◌, ℤ, arith, ap, ◌∙◌, refl, Bool, true, false}
use Rattle.std.specs.Prelude.{if◌then◌else◌}
use Rattle.xs_signal.specs.Samples.{scale_out}
use Rattle.xs_signal.specs.Wavelet.{Bands, bands_of_plane, inverse_plane}
use Rattle.xs_signal.specs.Picture.{Signal, one_of, coloured, uncoloured, scaled, synthesised, PictureBack}
use Rattle.xs_signal.proofs.Laws.{colour_undone, scale_out_undoes_in}
use Rattle.xs_signal.proofs.PlaneLaws.{plane_back}

one_of_three : (planes : ℕ → ℕ → ℕ → ℤ) (component row column : ℕ) → component < 3 → one_of (planes 0 row column, planes 1 row column, planes 2 row column) component ≡ planes component row column
one_of_three planes zero row column inside = refl
one_of_three planes (suc zero) row column inside = refl
one_of_three planes (suc (suc zero)) row column inside = refl
one_of_three planes (suc (suc (suc component))) row column inside = absurd (omega arith)

uncoloured_back : (planes : ℕ → ℕ → ℕ → ℤ) (component row column : ℕ) → component < 3 → uncoloured (coloured planes) component row column ≡ planes component row column
uncoloured_back planes component row column inside =
    ap (λ t. one_of t component) (colour_undone.back (planes 0 row column) (planes 1 row column) (planes 2 row column)) ∙ one_of_three planes component row column inside

same_components : {p q : ℕ → ℕ → ℕ → ℤ} → ((component : ℕ) → p component ≡ q component) → p ≡ q
same_components same = λ i component. same component i

planes_back : (s : Signal) (planes : ℕ → ℕ → ℕ → ℤ) → (λ component. inverse_plane (s.split component) (bands_of_plane (s.split component) (planes component))) ≡ planes
planes_back s planes = same_components (λ component. plane_back (s.split component) (planes component))

numbers_back : (s : Signal) (planes : ℕ → ℕ → ℕ → ℤ) (component row column : ℕ) (colour : Bool) → component < 3
    → (let bands : ℕ → Bands = λ k. bands_of_plane (s.split k) ((if colour then coloured planes else planes) k) in (if colour then uncoloured (synthesised s bands) else synthesised s bands) component row column) ≡ planes component row column
numbers_back s planes component row column true inside = ap (λ p. uncoloured p component row column) (planes_back s (coloured planes)) ∙ uncoloured_back planes component row column inside
numbers_back s planes component row column false inside = ap (λ p. p component row column) (planes_back s planes)

pub picture_back : PictureBack
picture_back s picture component row column inside some less small =
    ap (scale_out s.depth s.bw) (numbers_back s (scaled s picture) component row column s.colour inside) ∙ scale_out_undoes_in s.depth s.bw (picture component row column) some less small
