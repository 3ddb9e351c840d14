use Rattle.std.proofs.Common.{rules, arith, ◌+◌, ◌∷◌, [], Some, bit_or, sym, ap, ◌∙◌}
use Rattle.atomic_table.specs.Table.{rest}
use Rattle.xs_lane_core.specs.Places.{word_of}
use Rattle.xs_lane_core.specs.Machine.{stores, owed, stand_owing, home_bits}
use Rattle.xs_lanes.specs.Filing.{placing, lane_word, slot_at}
use Rattle.xs_lanes.proofs.Homes.{comes_home}
use Rattle.xs_lanes.proofs.Tells.{home_tells}
use Rattle.xs_lanes.proofs.table.Lanes.bring.Goals as goal

pub fetch_or-before-requires : goal.fetch_or-before-requires
fetch_or-before-requires g c = let words = c.args.self.now.has_words in let slots = c.args.self.now.has_slots in let lane = c.requires.lane in let at = c.lane_word-word.ensures in let is = c.lane-lane.ensures in let low = c.word_of-set_word.ensures.low in
    let x = c.exchange.ensures in let h = c.requires.held in let slot = c.slot_at-slot.ensures ∙ (λ i. slot_at (c.lane-lane.ensures i) (c.slot-place.ensures i)) in (
      search rules,
      omega arith,
      comes_home (placing g.T.Placed.lane_of g.T.Placed.slot_of g.T.Placed.closes_of) _ _ _ h.0 c.args.value [] _ _ (ap (λ m. m.0.stand) x.3 ∙ h.1) (sym h.2) (sym h.3) (omega arith) c.requires.slot
          (ap (λ m. m.1) x.3 ∙ (λ i. (slot i, Some c.args.value) ∷ rest (c.requires.out i)))
          (c.lane_word-word.ensures ∙ (λ i. lane_word (c.lane-lane.ensures i) (8 + (c.word_of-set_word.ensures.word ∙ ap word_of c.slot-place.ensures) i)))
          (c.home_bits-more.ensures ∙ (λ i. home_bits (c.closes-closes.ensures i) (c.slot-place.ensures i))),
    )

pub returns-clause-same : goal.returns-clause-same
returns-clause-same g c = let t = home_tells (placing g.T.Placed.lane_of g.T.Placed.slot_of g.T.Placed.closes_of) 0 c.lane_word-word.result c.home_bits-more.result c.fetch_or-before.result c.slot_at-slot.result c.args.value c.args.pass.now.me.0 _ _
    (c.exchange.ensures.3 ∙ ap (λ l. (c.args.pass.now.me.0, (c.slot_at-slot.result, Some c.args.value) ∷ rest l)) c.requires.out) c.fetch_or-before.ensures.2 in (c.fetch_or-before.ensures.0 ∙ c.exchange.ensures.0, t.2)

pub returns-clause-brought : goal.returns-clause-brought
returns-clause-brought g c = let before = c.fetch_or-before.result in let t = home_tells (placing g.T.Placed.lane_of g.T.Placed.slot_of g.T.Placed.closes_of) 0 c.lane_word-word.result c.home_bits-more.result before c.slot_at-slot.result c.args.value c.args.pass.now.me.0 _ _
    (c.exchange.ensures.3 ∙ ap (λ l. (c.args.pass.now.me.0, (c.slot_at-slot.result, Some c.args.value) ∷ rest l)) c.requires.out) c.fetch_or-before.ensures.2 in
    let word = c.word_of-set_word.ensures.word ∙ ap word_of c.slot-place.ensures in let more = c.home_bits-more.ensures ∙ (λ i. home_bits (c.closes-closes.ensures i) (c.slot-place.ensures i)) in
    let debt = c.owed.ensures ∙ (λ i. owed (c.closes-closes.ensures i) (word i) before (bit_or before (more i))) in
    (before, t.0, debt, t.1 ∙ ap (λ o. stores c.args.value (stand_owing (g.T.Placed.lane_of c.args.value) o) c.args.pass.now.me.0) (sym debt))
