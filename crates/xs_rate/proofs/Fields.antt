-- The counts of a packet can be written, and their predictions are in range.
use Rattle.std.proofs.Common.{ℕ, ◌-◌, ◌≤◌, arith}
use Rattle.std.specs.Prelude.{Bool, true, false, not, ◌&&◌, if◌then◌else◌}
use Rattle.xs_layout.specs.Geometry.{PacketPlace}
use Rattle.xs_params.specs.declared.header.Header.{Header}
use Rattle.xs_spelling.specs.Counts.{predicts_above, predicted}
use Rattle.xs_spelling.specs.Written.{IsWritableCount}
use Rattle.xs_grammar.specs.Precinct.{Content, line_truncation, prediction_of, is_first_line}
use Rattle.xs_grammar.specs.Coded.{packet_line}
use Rattle.xs_grammar.proofs.Coded.{predicted as least_predicted}
use Rattle.xs_rate.specs.Laws.{HasCountsInRange}

prediction-most : (h : Header) (content : Content) (mode band line group : ℕ) → HasCountsInRange h content → prediction_of h content mode band line group ≤ 15
prediction-most h content mode band line group range = cases (predicts_above mode && not (is_first_line h band line))
  where
    cases : (above : Bool) → (if above then predicted (content.count band (line - 1) group) (line_truncation h content band (line - 1)) (line_truncation h content band line) else line_truncation h content band line) ≤ 15
    cases true = omega (arith, range.most band (line - 1) group)
    cases false = omega arith

-- each count of a packet can be written, and its prediction is in range
pub can_write : (h : Header) (content : Content) (mode : ℕ → ℕ) (place : PacketPlace) → HasCountsInRange h content → (band group : ℕ)
    → IsWritableCount (packet_line h content mode place band) group × ((packet_line h content mode place band).prediction group ≤ 15)
can_write h content mode place range band group = (
  record { most = range.most band place.line group; cut = range.cut band place.line group; predicted = least_predicted h content (mode band) band place.line group },
  prediction-most h content (mode band) band place.line group range,
)
