-- A picture that is drawn from the front on.
use Rattle.std.specs.Prelude.{ℕ, List, flat_map}
use Rattle.xs_lists.specs.Spelling.{upto}
use Rattle.xs_layout.specs.declared.Shape.{Shape}
use Rattle.xs_params.specs.Picture.{Picture, put_at}
use Rattle.xs_trial.specs.Generator.{plane_places, row_places, samples_at}

-- the picture with the samples of places, which begin at one of its samples
abbrev pub with_drawn : Picture → ℕ → List (ℕ × ℕ) → ℕ → Picture
with_drawn picture first places state =
    record { shape = picture.shape; samples = put_at picture.samples first (samples_at picture.shape.depth places state) }

-- the places of the first rows of a component, and of the first components
abbrev pub rows_places : ℕ → ℕ → List (ℕ × ℕ)
rows_places width rows = flat_map (row_places width) (upto rows)

abbrev pub planes_places : Shape → ℕ → List (ℕ × ℕ)
planes_places shape components = flat_map (plane_places shape) (upto components)
