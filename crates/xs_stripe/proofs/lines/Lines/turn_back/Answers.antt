use Rattle.std.proofs.Common.{◌≡◌, ◌<◌, ◌-◌, length, sym, ap, subst, ◌∙◌, arith}
use Rattle.xs_layout.specs.Geometry.{components_of}
use Rattle.xs_decoding.proofs.Within.{full_width}
use Rattle.xs_joiner.specs.Chain.{HoldsBands}
use Rattle.xs_stripe.specs.Colours.{HaveWidth}
use Rattle.xs_stripe.specs.Joined.{IsComponentJoiner, raised_bands}
use Rattle.xs_stripe.proofs.Turned.{AreTurned, line_is, line_wide, turned_small, turned_holds}
use Rattle.xs_stripe.proofs.lines.Lines.turn_back.Goals as goal

pub returns-then-self-clause-state : goal.returns-then-self-clause-state
returns-then-self-clause-state c =
    let s = c.args.self.now in
    let h = s.header.now in
    let state = c.requires.state in
    let full = state.accepted.colour c.if-self.true in
    let three : components_of h.shape.format ≡ 3 = ap components_of full in
    let first = subst (IsComponentJoiner h 0 s.first s.given) (sym c.index.ensures) (state.joiners.each 0 c.index.result.now (omega (arith, three))) in
    let e = c.turn_back.ensures in
    let turned : AreTurned c.line.result.now c.line-then-self.result.now c.line-then-self-2.result.now c.turn_back.new.self = record { width = e.width; red = e.red; green = e.green; blue = e.blue } in
    let wide : length c.line.result.now ≡ h.shape.width = c.line.ensures.width ∙ line_wide h 0 s.first s.given c.index.result.now first ∙ full_width h.shape 0 full in
    record {
      accepted = state.accepted;
      from = state.from;
      joiners = state.joiners;
      colours = record {
        width = λ _. subst (λ n. HaveWidth n c.turn_back.new.self) wide e.width;
        small = turned_small _ _ _ c.turn_back.new.self turned c.line.ensures.small c.line-then-self.ensures.small c.line-then-self-2.ensures.small;
      };
    }

pub returns-then-self-clause-colours : goal.returns-then-self-clause-colours
returns-then-self-clause-colours c coefficients coloured held =
    let s = c.args.self.now in
    let h = s.header.now in
    let state = c.requires.state in
    let full = state.accepted.colour c.if-self.true in
    let three : components_of h.shape.format ≡ 3 = ap components_of full in
    let there_first : 0 < components_of h.shape.format = omega (arith, three) in
    let there_second : 1 < components_of h.shape.format = omega (arith, three) in
    let there_third : 2 < components_of h.shape.format = omega (arith, three) in
    let first = subst (IsComponentJoiner h 0 s.first s.given) (sym c.index.ensures) (state.joiners.each 0 c.index.result.now there_first) in
    let second = subst (IsComponentJoiner h 1 s.first s.given) (sym c.index-then-self.ensures) (state.joiners.each 1 c.index-then-self.result.now there_second) in
    let third = subst (IsComponentJoiner h 2 s.first s.given) (sym c.index-then-self-2.ensures) (state.joiners.each 2 c.index-then-self-2.result.now there_third) in
    let e = c.turn_back.ensures in
    let y = c.line.result.now in
    let u = c.line-then-self.result.now in
    let v = c.line-then-self-2.result.now in
    let turned : AreTurned y u v c.turn_back.new.self = record { width = e.width; red = e.red; green = e.green; blue = e.blue } in
    let wide_y : length y ≡ h.shape.width = c.line.ensures.width ∙ line_wide h 0 s.first s.given c.index.result.now first ∙ full_width h.shape 0 full in
    let wide_u : length u ≡ h.shape.width = c.line-then-self.ensures.width ∙ line_wide h 1 s.first s.given c.index-then-self.result.now second ∙ full_width h.shape 1 full in
    let wide_v : length v ≡ h.shape.width = c.line-then-self-2.ensures.width ∙ line_wide h 2 s.first s.given c.index-then-self-2.result.now third ∙ full_width h.shape 2 full in
    let held_y = subst (HoldsBands (raised_bands h coefficients 0)) (sym c.index.ensures) (held 0 c.index.result.now there_first) in
    let held_u = subst (HoldsBands (raised_bands h coefficients 1)) (sym c.index-then-self.ensures) (held 1 c.index-then-self.result.now there_second) in
    let held_v = subst (HoldsBands (raised_bands h coefficients 2)) (sym c.index-then-self-2.ensures) (held 2 c.index-then-self-2.result.now there_third) in
    turned_holds h coefficients (s.given - 1) y u v c.turn_back.new.self turned (wide_u ∙ sym wide_y) (wide_v ∙ sym wide_y)
    (line_is h coefficients 0 s.first s.given c.index.result.now y first (c.line.ensures.shows (raised_bands h coefficients 0) held_y))
    (line_is h coefficients 1 s.first s.given c.index-then-self.result.now u second (c.line-then-self.ensures.shows (raised_bands h coefficients 1) held_u))
    (line_is h coefficients 2 s.first s.given c.index-then-self-2.result.now v third (c.line-then-self-2.ensures.shows (raised_bands h coefficients 2) held_v))
