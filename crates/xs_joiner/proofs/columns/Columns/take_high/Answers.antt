use Rattle.std.proofs.Common.{length, refl, ◌∙◌}
use Rattle.xs_joiner.proofs.Bounds.{joined_units}
use Rattle.xs_joiner.proofs.Lifts.{state_with}
use Rattle.xs_joiner.proofs.columns.Columns.take_high.Goals as goal

pub returns-clause-small : goal.returns-clause-small
returns-clause-small c = joined_units 4 (length c.args.self.now.spare) c.args.lh.now c.args.hh.now c.join.new.self c.requires.small_low c.requires.small_high c.join.ensures.entries

pub returns-clause-state : goal.returns-clause-state
returns-clause-state c =
    let s = c.requires.state in
    state_with c.args.self.now _ s (record { width = refl; height = refl; reach = refl }) s.even_width s.odd_width s.high_width (c.join.ensures.width ∙ s.spare_width) s.even s.odd s.high
