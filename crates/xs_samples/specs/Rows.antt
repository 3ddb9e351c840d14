-- Some rows of a component, and what is known of a raw picture of which the bytes up to them were read: 'Samples, scaling and colour'.
use Rattle.std.specs.Prelude.{◌≡◌, ℕ, ◌-◌, ◌*◌, ◌<◌, ◌≤◌, Result, Ok, Err, Some, List, take, drop, length}
use Rattle.std.specs.List.{flat_map}
use Rattle.xs_layout.specs.declared.Shape.{Shape}
use Rattle.xs_layout.specs.Geometry.{components_of}
use Rattle.xs_params.specs.Picture.{Picture, over_sample, picture_of_raw, raw_size, row_first, sample_bytes, sample_size, width_of}
use Rattle.xs_samples.specs.declared.rows.RowRange.{RowRange}
use Rattle.xs_samples.specs.Raw.{HasRead}

-- one row at least; or, after the last component, those of none
pub record AreRows (shape : Shape) (rows : RowRange) : Type 0 where
  pub component_there : rows.component ≤ components_of shape.format
  pub some : rows.first < rows.end
  pub there : rows.end ≤ shape.height

-- the bytes of the rows
abbrev pub rows_size : Shape → RowRange → ℕ
rows_size shape rows = (rows.end - rows.first) * width_of shape rows.component * sample_size shape.depth

-- the raw bytes of the rows of a picture
abbrev pub rows_bytes : Picture → RowRange → List ℕ
rows_bytes picture rows =
    flat_map (sample_bytes picture.shape.depth) (take ((rows.end - rows.first) * width_of picture.shape rows.component) (drop (row_first picture.shape rows.component rows.first) picture.samples))

-- these are the bytes of the rows in a whole raw picture
pub record AreRowsOf (shape : Shape) (rows : RowRange) (bytes whole : List ℕ) : Type 0 where
  pub size : length whole ≡ raw_size shape
  pub part : bytes ≡ take (rows_size shape rows) (drop (row_first shape rows.component rows.first * sample_size shape.depth) whole)

-- so many first samples of a whole raw picture were read, or one of them is the first that has more bits than the depth
abbrev pub IsReadOf : Picture → ℕ → Result (Unit {0}) ℕ → List ℕ → Type 0
IsReadOf picture count (Ok done) whole = HasRead picture count whole
IsReadOf picture count (Err place) whole = over_sample (picture_of_raw picture.shape whole) ≡ Some place
