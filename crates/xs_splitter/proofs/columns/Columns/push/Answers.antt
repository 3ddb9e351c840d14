use Rattle.std.proofs.Common.{◌≡◌, ◌≤◌, ◌+◌, ◌-◌, ◌*◌, ◌/◌, ◌%◌, ◌^◌, arith, refl, ◌∙◌}
use Rattle.std.proofs.lemmas.Nat.{pow_pos}
use Rattle.xs_splitter.specs.Columns.{high_rows}
use Rattle.xs_splitter.proofs.Lifted.{fits, fits_twice, shows_at, lifted_state, lifted_below, lifted_high, lifted_low, high_below}
use Rattle.xs_splitter.proofs.columns.Columns.push.Goals as goal

pub returns-then-before-eq1-clause-holds : goal.returns-then-before-eq1-clause-holds
returns-then-before-eq1-clause-holds c p h s =
    let t = c.args.self.now.taken in
    let odd : t % 2 ≡ 1 = omega (arith, c.if-before-eq1.true) in
    record {
      even = λ some. shows_at c.args.self.now.even p (2 * ((t - 1) / 2)) (2 * ((t + 1 - 1) / 2)) (omega (arith, odd)) (h.even (omega (arith, odd)));
      odd = λ some even. shows_at c.args.row p t (t + 1 - 1) (omega arith) s;
      high = λ more. shows_at c.args.self.now.high (high_rows c.args.self.now.height p) ((t - 1) / 2 - 1) ((t + 1 - 1) / 2 - 1) (omega (arith, odd)) (h.high (omega (arith, odd, more)));
    }

pub lift-requires-clause-even : goal.lift-requires-clause-even
lift-requires-clause-even c = fits c.args.self.now.bits _ c.requires.bits c.requires.state.even

pub lift-requires-clause-odd : goal.lift-requires-clause-odd
lift-requires-clause-odd c = fits c.args.self.now.bits _ c.requires.bits (c.requires.state.odd (omega (arith, c.if-before-eq1.false)))

pub lift-requires-clause-high : goal.lift-requires-clause-high
lift-requires-clause-high c = fits_twice c.args.self.now.bits _ c.requires.bits c.requires.state.high

pub lift-requires-clause-next : goal.lift-requires-clause-next
lift-requires-clause-next c = fits c.args.self.now.bits _ c.requires.bits c.requires.small

pub returns-clause-state : goal.returns-clause-state
returns-clause-state c =
    let even : c.args.self.now.taken % 2 ≡ 0 = omega (arith, c.if-before-eq1.false) in
    let kept = c.lift.ensures.kept in
    lifted_state c.args.self.now c.lift.new.self c.args.row c.requires.state even c.requires.width c.requires.small kept.0 kept.2 kept.3 c.lift.ensures.even c.lift.ensures.odd_width c.lift.ensures.high_width c.lift.ensures.high

pub returns-clause-low : goal.returns-clause-low
returns-clause-low c =
    let b = 2 ^ c.args.self.now.bits in
    let even : c.args.self.now.taken % 2 ≡ 0 = omega (arith, c.if-before-eq1.false) in
    let two : 2 ≤ c.args.self.now.taken = omega (arith, even, c.if-before-eq0.false) in
    let s = c.requires.state in
    let known = high_below b c.args.self.now.even c.args.self.now.odd c.args.row c.lift.new.self.high (pow_pos c.args.self.now.bits) s.even (s.odd even) c.requires.small c.lift.ensures.high in
    (two, even, c.lift.ensures.low_width ∙ c.requires.width, lifted_below b _ c.args.self.now.even c.args.self.now.high c.lift.new.self.high c.lift.result (pow_pos c.args.self.now.bits) s.even s.high known c.lift.ensures.low)

pub returns-clause-shows : goal.returns-clause-shows
returns-clause-shows c p h shown =
    let even : c.args.self.now.taken % 2 ≡ 0 = omega (arith, c.if-before-eq1.false) in
    let two : 2 ≤ c.args.self.now.taken = omega (arith, even, c.if-before-eq0.false) in
    let wide = c.requires.width in
    let high_wide = c.lift.ensures.high_width ∙ wide in
    let known = lifted_high p c.args.self.now c.args.row c.lift.new.self.high c.requires.state h even two c.requires.room wide high_wide shown c.lift.ensures.high in
    lifted_low p c.args.self.now _ c.lift.new.self.high c.lift.result refl c.requires.state h even two c.requires.room high_wide (c.lift.ensures.low_width ∙ wide) known c.lift.ensures.low
