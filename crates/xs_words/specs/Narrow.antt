-- Settings whose numbers have room in their fields: one that has none becomes one that is refused in the same place.
use Rattle.std.specs.Prelude.{ℕ, ◌^◌, nat_lt, if◌then◌else◌}
use Rattle.xs_params.specs.declared.settings.Settings.{Settings}
use Rattle.xs_params.specs.declared.settings.Setting.{Setting}
use Rattle.xs_params.specs.declared.settings.Field.{Field}
use Rattle.xs_params.specs.declared.settings.Field.TheVariants.{Depth, Bits, Nlx, Nly, Hsl, PayloadType, Workers, Feeders}

-- the number, or else another where it has more than so many bits
abbrev pub fitting : ℕ → ℕ → ℕ → ℕ
fitting bits other number = if nat_lt number (2 ^ bits) then number else other

abbrev pub narrowed : Settings → Settings
narrowed s = record s {
  shape = record s.shape { depth = fitting 8 255 s.shape.depth };
  bits = fitting 8 255 s.bits;
  nlx = fitting 8 255 s.nlx;
  nly = fitting 8 255 s.nly;
  hsl = fitting 16 0 s.hsl;
  payload_type = fitting 8 255 s.payload_type;
  workers = fitting 8 255 s.workers;
  feeders = fitting 8 255 s.feeders;
}

-- the value of a setting as it was asked for, where the check was of the narrowed settings
abbrev pub value_asked : Settings → Field → ℕ → ℕ
value_asked s Depth value = s.shape.depth
value_asked s Bits value = s.bits
value_asked s Nlx value = s.nlx
value_asked s Nly value = s.nly
value_asked s Hsl value = s.hsl
value_asked s PayloadType value = s.payload_type
value_asked s Workers value = s.workers
value_asked s Feeders value = s.feeders
value_asked s _ value = value

abbrev pub as_asked : Settings → Setting → Setting
as_asked s setting = record setting { value = value_asked s setting.field setting.value }
