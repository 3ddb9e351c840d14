-- What stands on the closed lanes of a picture.
use Rattle.std.specs.Prelude.{◌≡◌, ℕ, ◌<◌, All}
use Rattle.xs_layout.specs.Geometry.{components_of}
use Rattle.xs_params.specs.declared.header.Header.{Header}
use Rattle.xs_params.specs.Geometry.{slice_count}
use Rattle.xs_params.specs.Picture.{Picture}
use Rattle.xs_rate.specs.Coefficients.{rows_of_picture}
use Rattle.xs_lane_core.specs.Machine.{Actor}
use Rattle.xs_lanes.specs.Claiming.{got_at}
use Rattle.xs_lanes.specs.Knowing.{stored_at}
use Rattle.xs_enc_lanes.specs.Rows.{Carried, CarriesRows, parts}

-- What is stored are the rows of the picture's coefficients: one value for each slice and component.
pub record StoresPicture (h : Header) (picture : Picture) (v : Actor Carried) : Type 0 where
  pub rows : All (CarriesRows h (rows_of_picture h picture)) v.stored
  pub one : (slice component : ℕ) → slice < slice_count h → component < components_of h.shape.format → stored_at parts slice component v ≡ 1

-- the lane of each slice was got once
abbrev pub GotEachOnce : Header → Actor Carried → Type 0
GotEachOnce h v = (slice component : ℕ) → slice < slice_count h → component < components_of h.shape.format → got_at parts slice component v ≡ 1
