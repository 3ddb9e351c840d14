use Rattle.std.proofs.Common.{rules, arith, ap, ◌∙◌}
use Rattle.xs_lane_core.specs.Places.{word_of, own_bit}
use Rattle.xs_lanes.specs.Filing.{placing, lane_word}
use Rattle.xs_lanes.proofs.Takes.{takes_place}
use Rattle.xs_lanes.proofs.Tells.{took_choice, took_tells}
use Rattle.xs_lanes.proofs.table.Lanes.take.Goals as goal

pub fetch_or-found-requires : goal.fetch_or-found-requires
fetch_or-found-requires g c = let words = c.args.self.now.has_words in let slots = c.args.self.now.has_slots in let lane = c.requires.lane in let at = c.lane_word-word.ensures in let is = c.lane.ensures in let low = c.word_of.ensures.low in (
  search rules,
  omega arith,
  takes_place (placing g.T.Placed.lane_of g.T.Placed.slot_of g.T.Placed.closes_of) _ _ _ c.args.value.now _ _ c.requires.pass.2 (omega arith) c.requires.slot
      (c.lane_word-word.ensures ∙ (λ i. lane_word (c.lane.ensures i) ((c.word_of.ensures.word ∙ ap word_of c.slot-place.ensures) i))) (c.own_bit-bit.ensures ∙ ap own_bit c.slot-place.ensures),
)

pub returns-clause-choice : goal.returns-clause-choice
returns-clause-choice g c = took_choice (placing g.T.Placed.lane_of g.T.Placed.slot_of g.T.Placed.closes_of) c.args.self.now.table.shared.table_id.slots (g.T.Placed.lane_of c.args.value.now) (g.T.Placed.slot_of c.args.value.now) c.fetch_or-found.result c.lane_word-word.result c.own_bit-bit.result _ _ c.requires.slot
    (c.lane_word-word.ensures ∙ (λ i. lane_word (c.lane.ensures i) ((c.word_of.ensures.word ∙ ap word_of c.slot-place.ensures) i))) (c.own_bit-bit.ensures ∙ ap own_bit c.slot-place.ensures) c.fetch_or-found.ensures.2

pub returns-clause-taken : goal.returns-clause-taken
returns-clause-taken g c = took_tells (placing g.T.Placed.lane_of g.T.Placed.slot_of g.T.Placed.closes_of) c.args.self.now.table.shared.table_id.slots (g.T.Placed.lane_of c.args.value.now) (g.T.Placed.slot_of c.args.value.now) c.fetch_or-found.result c.lane_word-word.result c.own_bit-bit.result _ _ c.requires.slot
    (c.lane_word-word.ensures ∙ (λ i. lane_word (c.lane.ensures i) ((c.word_of.ensures.word ∙ ap word_of c.slot-place.ensures) i))) (c.own_bit-bit.ensures ∙ ap own_bit c.slot-place.ensures) c.requires.pass.1 c.fetch_or-found.ensures.2
