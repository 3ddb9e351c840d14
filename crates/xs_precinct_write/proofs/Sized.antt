-- How many bits a line gives to the parts of a packet.
use Rattle.std.proofs.Common.{◌≡◌, ℕ, ◌*◌, ◌<◌, ◌≤◌, length, get_or, ap, ◌∙◌, arith}
use Rattle.std.specs.Prelude.{Bool, true, false, if◌then◌else◌}
use Rattle.xs_spelling.specs.Counts.{predicted, predicts_above}
use Rattle.xs_spelling.specs.Sizes.{numbered}
use Rattle.xs_spelling.specs.Written.{line_count_bits, written_flag}
use Rattle.xs_spelling.proofs.Bitwise.{flags-are, counts-are, data-are, signs-are}
use Rattle.xs_spelling.proofs.Bounded.{counts-most, data-most, signs-most}
use Rattle.xs_lists.specs.Packing.{AreBits}
use Rattle.xs_counts.specs.Known.{counted_line}
use Rattle.xs_counts.specs.declared.predictor.Predictor.{Predictor}
use Rattle.xs_precinct_write.specs.Outgoing.{Outgoing, IsOutgoing, line_counted, own_data, own_signs}
use Rattle.xs_precinct_write.specs.Parts.{bits_in_part}
use Rattle.xs_precinct_write.specs.declared.write.line.LinePart.{LinePart}
use Rattle.xs_precinct_write.specs.declared.write.line.LinePart.TheVariants.{Flags, Counts, Data, Signs}

prediction_least : (o : Outgoing) (mode group : ℕ) → o.cut ≤ (line_counted o mode).prediction group
prediction_least o mode group = cases (predicts_above mode) o.there
  where
    cases : (up there : Bool) → o.cut ≤ (if up then (if there then predicted (get_or o.above group 0) o.cut o.cut else o.cut) else o.cut)
    cases true true = omega arith
    cases true false = omega arith
    cases false there = omega arith

prediction_most : (o : Outgoing) (mode group : ℕ) → IsOutgoing o → group < length o.counts → (line_counted o mode).prediction group ≤ 15
prediction_most o mode group is inside = cases (predicts_above mode) o.there
  where
    cases : (up there : Bool) → (if up then (if there then predicted (get_or o.above group 0) o.cut o.cut else o.cut) else o.cut) ≤ 15
    cases true true = omega (arith, is.cut, is.above_range group 0 (omega (arith, inside, is.above)))
    cases true false = omega (arith, is.cut)
    cases false there = omega (arith, is.cut)

-- the line by its predictor
pub same_counted : (held o : Outgoing) (p : Predictor) → held ≡ o → ((mode : ℕ) → counted_line o.counts p mode ≡ line_counted o mode) → counted_line held.counts p held.mode ≡ line_counted o o.mode
same_counted held o p same line = ap (λ (x : Outgoing). counted_line x.counts p x.mode) same ∙ line o.mode

pub counted_most : (o : Outgoing) (mode : ℕ) → IsOutgoing o → length (line_count_bits false (line_counted o mode) (written_flag (line_counted o mode))) ≤ length o.counts * 30
counted_most o mode is = counts-most (line_counted o mode) (written_flag (line_counted o mode))
    (λ group inside. (record { most = is.range group 0 inside; cut = is.least group 0 inside; predicted = prediction_least o mode group }, prediction_most o mode group is inside))

pub numbers_most : (o : Outgoing) (apart : Bool) → IsOutgoing o → length (own_data apart o) ≤ length o.counts * 64
numbers_most o apart is = data-most apart (numbered o.cut o.counts o.values) (λ group inside. is.range group 0 inside)

pub signs_most : (o : Outgoing) → length (own_signs true o) ≤ length o.counts * 4
signs_most o = signs-most (numbered o.cut o.counts o.values)

pub part_are : (part : LinePart) (apart : Bool) (o : Outgoing) → AreBits (bits_in_part part apart o)
part_are Flags apart o = flags-are (line_counted o o.mode)
part_are Counts apart o = counts-are (line_counted o o.mode) (written_flag (line_counted o o.mode))
part_are Data apart o = data-are apart (numbered o.cut o.counts o.values)
part_are Signs true o = signs-are (numbered o.cut o.counts o.values)
part_are Signs false o = tt
