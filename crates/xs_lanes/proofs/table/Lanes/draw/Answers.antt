use Rattle.std.proofs.Common.{rules, arith, ◌∷◌, Some, sym, ap, ◌∙◌}
use Rattle.atomic_table.specs.Table.{rest}
use Rattle.xs_lanes.specs.Filing.{placing, slot_at}
use Rattle.xs_lanes.proofs.Draws.{pulls_next}
use Rattle.xs_lanes.proofs.table.Lanes.draw.Goals as goal

pub fetch_add-place-requires : goal.fetch_add-place-requires
fetch_add-place-requires g c = let words = c.args.self.now.has_words in let slots = c.args.self.now.has_slots in let lane = c.requires.lane in let at = c.lane_word-word.ensures in (
  search rules,
  omega arith,
  pulls_next (placing g.T.Placed.lane_of g.T.Placed.slot_of g.T.Placed.closes_of) _ _ _ c.args.lane c.requires.pulling.0 _ c.requires.pulling.1 (omega arith) c.lane_word-word.ensures,
)

pub exchange-requires : goal.exchange-requires
exchange-requires g c = let t = c.fetch_add-place.ensures.2 c.args.lane c.requires.pulling.0 c.lane_word-word.ensures c.requires.pulling.1 in let out = t.2.4 in
    (search rules, (Some t.2.0, out ∙ (λ i. (sym (c.slot_at-slot.ensures ∙ ap (slot_at c.args.lane) t.0) i, Some t.2.0) ∷ rest (sym out i))))
