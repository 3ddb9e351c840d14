use Rattle.std.proofs.Common.{◌+◌, length, arith, refl, ◌∙◌}
use Rattle.xs_joiner.proofs.Bounds.{units_more, joined_units}
use Rattle.xs_joiner.proofs.Lifts.{state_with}
use Rattle.xs_joiner.proofs.columns.Columns.take_flat.Goals as goal

pub returns-clause-small : goal.returns-clause-small
returns-clause-small c = joined_units c.args.self.now.reach (length c.args.self.now.even) c.args.low.now c.args.hl.now c.join.new.self c.requires.small_low c.requires.small_high c.join.ensures.entries

pub returns-clause-state : goal.returns-clause-state
returns-clause-state c =
    let old = c.args.self.now in
    let s = c.requires.state in
    let small = joined_units old.reach (length old.even) c.args.low.now c.args.hl.now c.join.new.self c.requires.small_low c.requires.small_high c.join.ensures.entries in
    state_with old _ s (record { width = refl; height = refl; reach = refl }) (c.join.ensures.width ∙ s.even_width) s.odd_width s.high_width s.spare_width (units_more (old.reach + 6) (old.reach + 11) _ (omega arith) small) s.odd s.high
