-- Fields of a picture header that were accepted, in plain words.
use Rattle.std.specs.Prelude.{◌≤◌, IfSome}
use Rattle.xs_layout.specs.Limits.{most_across, most_down}
use Rattle.xs_markers.specs.declared.picture.PictureFields.{PictureFields}
use Rattle.xs_markers.specs.declared.seen.Seen.{Seen}

-- there are few wavelet levels and components
pub record IsLimited (p : PictureFields) : Type 0 where
  pub across : p.nlx ≤ most_across
  pub down : p.nly ≤ most_down
  pub components : (1 ≤ p.nc) × (p.nc ≤ 3)

-- where a picture header was seen
abbrev pub IsLimitedSeen : Seen → Type 0
IsLimitedSeen seen = IfSome seen.picture IsLimited
