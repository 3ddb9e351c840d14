-- A generator of numbers, a picture made by it, and an order of packets: 'Trial'.
use Rattle.std.specs.Prelude.{ℕ, zero, suc, ◌+◌, ◌-◌, ◌*◌, ◌/◌, ◌%◌, ◌^◌, List, [], ◌∷◌, ◌++◌, map, flat_map, fold, swap}
use Rattle.xs_lists.specs.Spelling.{upto}
use Rattle.xs_layout.specs.Geometry.{components_of}
use Rattle.xs_layout.specs.declared.Shape.{Shape}
use Rattle.xs_params.specs.Picture.{Picture, width_of}

-- the next state
unfoldable pub next_state : ℕ → ℕ
next_state state = (state * 6364136223846793005 + 1442695040888963407) % 2 ^ 64

-- Pictures

-- row and column of each sample in the order of the raw picture: of a row, of a component, and of all
abbrev pub row_places : ℕ → ℕ → List (ℕ × ℕ)
row_places width row = map (λ column. (row, column)) (upto width)

abbrev pub plane_places : Shape → ℕ → List (ℕ × ℕ)
plane_places shape component = flat_map (row_places (width_of shape component)) (upto shape.height)

abbrev pub sample_places : Shape → List (ℕ × ℕ)
sample_places shape = flat_map (plane_places shape) (upto (components_of shape.format))

-- a sample: a slope, and the state's four highest bits
unfoldable pub sample_of : ℕ → ℕ × ℕ → ℕ → ℕ
sample_of depth place state = ((place.1 + place.0) % 256 + state / 2 ^ 60) % 2 ^ depth

-- the samples at places, with one step before each
abbrev pub samples_at : ℕ → List (ℕ × ℕ) → ℕ → List ℕ
samples_at depth [] state = []
samples_at depth (place ∷ places) state = sample_of depth place (next_state state) ∷ samples_at depth places (next_state state)

-- the state after them
abbrev pub state_past : List (ℕ × ℕ) → ℕ → ℕ
state_past places state = fold (λ state place. next_state state) state places

-- the picture of a seed, and the state after it
abbrev pub trial_picture : Shape → ℕ → Picture
trial_picture shape seed = record { shape = shape; samples = samples_at shape.depth (sample_places shape) seed }

abbrev pub state_after : Shape → ℕ → ℕ
state_after shape seed = state_past (sample_places shape) seed

-- Orders

-- the entry, not after the last, with which that one changes places
unfoldable pub place_of : ℕ → ℕ → ℕ
place_of state last = state / 2 ^ 33 % (last + 1)

-- from the last entry down to entry 1, each changes places with another, with one step before each
abbrev pub shuffled : ℕ → ℕ → List ℕ → List ℕ
shuffled zero state entries = entries
shuffled (suc entry) state entries = shuffled entry (next_state state) (swap entries (suc entry) (place_of (next_state state) (suc entry)))

-- the order of packets that are listed once and then once again
abbrev pub shuffle_of : ℕ → ℕ → List ℕ
shuffle_of count state = shuffled (2 * count - 1) state (upto count ++ upto count)
