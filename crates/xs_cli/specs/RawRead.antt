-- What is read where a raw picture stands in the input.
use Rattle.std.specs.Prelude.{◌≡◌, ℕ, ◌<◌, ◌≤◌, Result, Ok, Err, Option, None, Some, List, [], length}
use Rattle.xs_io.specs.Bytes.{AreByteItems}
use Rattle.xs_layout.specs.declared.Shape.{Shape}
use Rattle.xs_params.specs.Picture.{over_sample, picture_of_raw, raw_size}
use Rattle.xs_endings.specs.declared.stop.Stop.{Stop}
use Rattle.xs_endings.specs.Ends.{Change}
use Rattle.xs_cli.specs.declared.raw_input.RawPicture.{RawPicture}
use Rattle.xs_cli.specs.declared.raw_input.RawPicture.TheVariants as raw
use Rattle.xs_cli.specs.Steps.{IsRead}

-- what these bytes are, which were read where a raw picture stands
abbrev pub IsRawOf : Shape → List ℕ → RawPicture → Type 0
IsRawOf shape bytes (raw.Cut count) = (1 ≤ length bytes) × (length bytes ≡ count) × (count < raw_size shape)
IsRawOf shape bytes (raw.Sample place) = (1 ≤ length bytes) × (length bytes ≡ raw_size shape) × (over_sample (picture_of_raw shape bytes) ≡ Some place)
IsRawOf shape bytes (raw.Whole picture) = (1 ≤ length bytes) × (length bytes ≡ raw_size shape) × (over_sample (picture_of_raw shape bytes) ≡ None) × (picture ≡ picture_of_raw shape bytes)

-- the bytes of a raw picture were read, and are that; or none were left; or why not
abbrev pub IsRawRead : Shape → Change → Result (Option RawPicture) Stop → Type 0
IsRawRead shape source (Ok None) = IsRead (raw_size shape) source (Ok [])
IsRawRead shape source (Ok (Some found)) = (bytes : List ℕ) × AreByteItems bytes × IsRead (raw_size shape) source (Ok bytes) × IsRawOf shape bytes found
IsRawRead shape source (Err why) = IsRead (raw_size shape) source (Err why)
