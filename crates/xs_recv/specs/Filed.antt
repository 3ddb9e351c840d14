-- How many bytes are held of a picture's packets.
use Rattle.std.specs.Prelude.{ℕ, ◌+◌, ◌<◌, ◌^◌, length, sum_by}
use Rattle.xs_lists.specs.Spelling.{upto}
use Rattle.xs_capture.specs.Offer.{last_unit, unit_places}
use Rattle.xs_capture.specs.Selection.{Held, IsBounded, bytes_at}

-- how many bytes are held of a unit, and of all of them
unfoldable pub unit_size : Held → ℕ → ℕ
unit_size held unit = sum_by (λ place. length (bytes_at held unit place)) (upto unit_places)

unfoldable pub held_size : Held → ℕ
held_size held = sum_by (unit_size held) (upto (last_unit + 1))

-- nothing is held past the last place, and all that is held has fewer than 2^32 bytes
pub record IsReceivable (held : Held) : Type 0 where
  pub bounded : IsBounded held
  pub size : held_size held < 2 ^ 32
