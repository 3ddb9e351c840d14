-- What a value that comes home owes to the summary of its lane.
use Rattle.std.specs.Prelude.{ℕ, bit_or}
use Rattle.xs_lane_core.specs.Places.{word_of}
use Rattle.xs_lane_core.specs.Machine.{Placing, owed, mask}

module _ {T : Type 0} (k : Placing T) where
  -- the words that the value x owes, where this word was home before
  abbrev pub debt_after : T → ℕ → ℕ
  debt_after x before = owed (k.closes x) (word_of (k.place x)) before (bit_or before (mask k x))
