use Rattle.std.proofs.Common.{◌≡◌, ◌+◌, ◌^◌, length, ◌+ℤ◌, arith, ap, refl, sym, subst, ◌∙◌}
use Rattle.std.specs.Int.{int_shr}
use Rattle.xs_signal.specs.Lines.{entries_of, Shows}
use Rattle.xs_signal.specs.Wavelet.{inverse_line}
use Rattle.xs_joiner.proofs.Bounds.{units_below, joined_units}
use Rattle.xs_joiner.proofs.Lifted.{shows_same, through}
use Rattle.xs_joiner.proofs.Lifts.{even_fits, lifted_state}
use Rattle.xs_joiner.proofs.columns.Columns.lift.Goals as goal

pub update-requires-clause-row : goal.update-requires-clause-row
update-requires-clause-row c =
    let old = c.args.self.now in
    let few = c.requires.state.few in
    units_below (old.reach + 6) (2 ^ 29) (entries_of c.join.new.self) (omega (arith, few)) (joined_units old.reach (length old.odd) c.args.low.now c.args.hl.now c.join.new.self c.requires.small_low c.requires.small_high c.join.ensures.entries)

pub update-requires-clause-above : goal.update-requires-clause-above
update-requires-clause-above c = units_below 10 (2 ^ 29) (entries_of c.args.self.now.high) (omega arith) c.requires.state.high

pub update-requires-clause-below : goal.update-requires-clause-below
update-requires-clause-below c = units_below 10 (2 ^ 29) (entries_of c.args.self.now.spare) (omega arith) c.requires.small_spare

pub predict-requires-clause-row : goal.predict-requires-clause-row
predict-requires-clause-row c = units_below 10 (2 ^ 29) (entries_of c.args.self.now.high) (omega arith) c.requires.state.high

pub predict-requires-clause-above : goal.predict-requires-clause-above
predict-requires-clause-above c =
    let old = c.args.self.now in
    let few = c.requires.state.few in
    units_below (old.reach + 11) (2 ^ 29) (entries_of old.even) (omega (arith, few)) c.requires.state.even

pub predict-requires-clause-below : goal.predict-requires-clause-below
predict-requires-clause-below c =
    let old = c.args.self.now in
    even_fits old c.join.new.self old.high old.spare c.update.new.self c.requires.state (joined_units old.reach (length old.odd) c.args.low.now c.args.hl.now c.join.new.self c.requires.small_low c.requires.small_high c.join.ensures.entries) c.requires.state.high
    c.requires.small_spare c.update.ensures.entries

pub returns-clause-even : goal.returns-clause-even
returns-clause-even c =
    let old = c.args.self.now in
    let line = inverse_line old.width (entries_of c.args.low.now) (entries_of c.args.hl.now) in
    let joined : Shows c.join.new.self line = subst (λ w. Shows c.join.new.self (inverse_line w (entries_of c.args.low.now) (entries_of c.args.hl.now))) c.requires.state.odd_width c.join.ensures.entries in
    shows_same c.swap.new.x c.update.new.self _ c.swap.ensures.x_after (through line c.join.new.self old.high old.spare c.update.new.self (sym c.update.ensures.width) joined c.update.ensures.entries)

pub returns-clause-odd : goal.returns-clause-odd
returns-clause-odd c =
    let old = c.args.self.now in
    shows_same c.swap-2.new.x c.predict.new.self _ c.swap-2.ensures.x_after (subst (λ l. Shows c.predict.new.self (λ k. entries_of old.high k +ℤ int_shr (entries_of old.even k +ℤ entries_of l k) 1)) (sym c.swap.ensures.x_after) c.predict.ensures.entries)

pub returns-clause-state : goal.returns-clause-state
returns-clause-state c =
    let old = c.args.self.now in
    let s = c.requires.state in
    let row = joined_units old.reach (length old.odd) c.args.low.now c.args.hl.now c.join.new.self c.requires.small_low c.requires.small_high c.join.ensures.entries in
    let even = shows_same c.swap.new.x c.update.new.self _ c.swap.ensures.x_after c.update.ensures.entries in
    let odd = shows_same c.swap-2.new.x c.predict.new.self _ c.swap-2.ensures.x_after (subst (λ l. Shows c.predict.new.self (λ k. entries_of old.high k +ℤ int_shr (entries_of old.even k +ℤ entries_of l k) 1)) (sym c.swap.ensures.x_after) c.predict.ensures.entries) in
    let even_wide : length c.swap.new.x ≡ old.width = ap length c.swap.ensures.x_after ∙ c.update.ensures.width ∙ c.join.ensures.width ∙ s.odd_width in
    let odd_wide : length c.swap-2.new.x ≡ old.width = ap length c.swap-2.ensures.x_after ∙ c.predict.ensures.width ∙ s.high_width in
    lifted_state old _ c.join.new.self s c.requires.small_spare (record { width = refl; height = refl; reach = refl }) row even_wide even odd_wide odd c.swap-3.ensures.x_after (c.swap-3.ensures.y_after ∙ c.swap-2.ensures.y_after ∙ c.swap.ensures.y_after)
