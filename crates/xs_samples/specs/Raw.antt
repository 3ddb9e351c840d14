-- How far a raw picture is read or written: 'Samples, scaling and colour'.
use Rattle.std.specs.Prelude.{◌≡◌, ℕ, ◌*◌, List, take}
use Rattle.std.specs.List.{flat_map}
use Rattle.xs_params.specs.Picture.{Picture, sample_bytes, sample_size, samples_of}

-- so many first samples of the picture are those that the raw picture holds
abbrev pub HasRead : Picture → ℕ → List ℕ → Type 0
HasRead picture count bytes = take count picture.samples ≡ take count (samples_of picture.shape.depth bytes)

-- so many first samples of the picture are written, from the front on
abbrev pub HasWritten : Picture → ℕ → List ℕ → Type 0
HasWritten picture count bytes = take (count * sample_size picture.shape.depth) bytes ≡ flat_map (sample_bytes picture.shape.depth) (take count picture.samples)
