use Rattle.std.proofs.Common.{ap, refl, ◌∙◌}
use Rattle.xs_joiner.specs.declared.source.Band.TheVariants.{Hl}
use Rattle.xs_joiner.proofs.Levels.{taken_deep}
use Rattle.xs_joiner.proofs.level.Level.take.Goals as goal

pub returns-then-self-clause-holds : goal.returns-then-self-clause-holds
returns-then-self-clause-holds g c start t r h next =
    let e = c.take_high.ensures in
    taken_deep start c.args.number t r c.args.low.now _ (g.S.BandRows.rows c.args.rows.now) c.args.self.now c.take_high.new.self _ e.state c.if-self.true e.same e.taken e.shown (e.holds start t r h) next
    (c.as_slice.ensures ∙ c.fill.ensures ∙ ap (g.S.BandRows.rows c.args.rows.now (Hl c.args.number)) c.taken-place.ensures) refl (c.take_low.ensures.holds start t r)
