use Rattle.std.proofs.Common.{◌≡◌, ◌%◌, ◌^◌, arith, refl, ◌∙◌}
use Rattle.std.proofs.lemmas.Nat.{pow_pos}
use Rattle.xs_splitter.proofs.Lifted.{fits, fits_twice, fits_kernel, fits_kernel_twice, lifted_below, low_below, high_below, last_high, last_low, last_odd_low}
use Rattle.xs_splitter.proofs.columns.Columns.finish.Goals as goal

pub lift_last-requires-clause-even : goal.lift_last-requires-clause-even
lift_last-requires-clause-even c = fits c.args.self.now.bits _ c.requires.bits c.requires.state.even

pub lift_last-requires-clause-odd : goal.lift_last-requires-clause-odd
lift_last-requires-clause-odd c = fits c.args.self.now.bits _ c.requires.bits (c.requires.state.odd (omega (arith, c.if-self-eq0.true)))

pub lift_last-requires-clause-high : goal.lift_last-requires-clause-high
lift_last-requires-clause-high c = fits_twice c.args.self.now.bits _ c.requires.bits c.requires.state.high

pub update-requires-clause-row : goal.update-requires-clause-row
update-requires-clause-row c = fits_kernel c.args.self.now.bits _ c.requires.bits c.requires.state.even

pub update-requires-clause-above : goal.update-requires-clause-above
update-requires-clause-above c = fits_kernel_twice c.args.self.now.bits _ c.requires.bits c.requires.state.high

pub update-requires-clause-below : goal.update-requires-clause-below
update-requires-clause-below c = fits_kernel_twice c.args.self.now.bits _ c.requires.bits c.requires.state.high

pub returns-then-self-eq0-clause-small_low : goal.returns-then-self-eq0-clause-small_low
returns-then-self-eq0-clause-small_low c =
    let old = c.args.self.now in
    let s = c.requires.state in
    let even : old.taken % 2 ≡ 0 = omega (arith, c.if-self-eq0.true) in
    let known = high_below (2 ^ old.bits) old.even old.odd old.even c.lift_last.new.self.high (pow_pos old.bits) s.even (s.odd even) s.even c.lift_last.ensures.high in
    lifted_below (2 ^ old.bits) _ old.even old.high c.lift_last.new.self.high c.lift_last.new.self.even (pow_pos old.bits) s.even s.high known c.lift_last.ensures.low

pub returns-then-self-eq0-clause-small_high : goal.returns-then-self-eq0-clause-small_high
returns-then-self-eq0-clause-small_high c =
    let old = c.args.self.now in
    let s = c.requires.state in
    let even : old.taken % 2 ≡ 0 = omega (arith, c.if-self-eq0.true) in
    high_below (2 ^ old.bits) old.even old.odd old.even c.lift_last.new.self.high (pow_pos old.bits) s.even (s.odd even) s.even c.lift_last.ensures.high

pub returns-then-self-eq0-clause-low : goal.returns-then-self-eq0-clause-low
returns-then-self-eq0-clause-low c p h =
    let old = c.args.self.now in
    let s = c.requires.state in
    let even : old.taken % 2 ≡ 0 = omega (arith, c.if-self-eq0.true) in
    let wide = c.lift_last.ensures.high_width ∙ s.even_width in
    let known = last_high p old c.lift_last.new.self.high s h even c.requires.all c.requires.two wide c.lift_last.ensures.high in
    last_low p old _ c.lift_last.new.self.high c.lift_last.new.self.even refl s h even c.requires.all c.requires.two wide (c.lift_last.ensures.low_width ∙ s.even_width) known c.lift_last.ensures.low

pub returns-else-self-eq0-clause-small_low : goal.returns-else-self-eq0-clause-small_low
returns-else-self-eq0-clause-small_low c =
    let old = c.args.self.now in
    let s = c.requires.state in
    low_below (2 ^ old.bits) old.even old.high old.high c.update.new.self (pow_pos old.bits) s.even s.high s.high c.update.ensures.entries

pub returns-else-self-eq0-clause-low : goal.returns-else-self-eq0-clause-low
returns-else-self-eq0-clause-low c p h =
    let old = c.args.self.now in
    let s = c.requires.state in
    let odd : old.taken % 2 ≡ 1 = omega (arith, c.if-self-eq0.false) in
    last_odd_low p old c.update.new.self s h odd c.requires.all c.requires.two (c.update.ensures.width ∙ s.even_width) c.update.ensures.entries
