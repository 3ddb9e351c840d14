use Rattle.std.proofs.Common.{◌≡◌, ℕ, List}
use Rattle.xs_params.specs.Picture.{row_first}
use Rattle.xs_samples.specs.Raw.{HasRead}
use Rattle.xs_samples.specs.Rows.{AreRowsOf}
use Rattle.xs_samples.proofs.raw.read_rows.Given as goal

abbrev pub invariant-rows : goal.invariant-rows
invariant-rows l = record {
  shape : l.planes.shape ≡ l.shape;
  read : (whole : List ℕ) → AreRowsOf l.shape l.rows l.bytes whole → HasRead l.initial.planes (row_first l.shape l.rows.component l.rows.first) whole → HasRead l.planes (row_first l.shape l.rows.component l.row) whole;
}
