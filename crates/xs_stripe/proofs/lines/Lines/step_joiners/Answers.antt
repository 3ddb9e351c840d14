use Rattle.std.proofs.Common.{◌<◌, ◌+◌, ◌/◌, ◌^◌, arith, refl, sym, subst}
use Rattle.xs_layout.specs.Geometry.{components_of}
use Rattle.xs_joiner.specs.Chain.{HoldsBands}
use Rattle.xs_stripe.specs.Source.{HaveRows, ShowRowsOf}
use Rattle.xs_stripe.specs.Joined.{IsComponentJoiner, raised_bands}
use Rattle.xs_stripe.proofs.Steps.{moved_first, moved_next, moved_all, not_moved}
use Rattle.xs_stripe.proofs.lines.Lines.step_joiners.Goals as goal

pub index_mut-requires : goal.index_mut-requires
index_mut-requires g c =
    let less : c.components.component < components_of c.args.self.now.header.now.shape.format = omega (arith, c.components-test.true, c.component_count-component-end.ensures) in
    omega (arith, less, c.components.invariant.moved.many, c.components.self.joiners.ok.0)

pub step_joiner-requires-clause-chain : goal.step_joiner-requires-clause-chain
step_joiner-requires-clause-chain g c =
    let old = c.args.self.now in
    let h = old.header.now in
    let less : c.components.component < components_of h.shape.format = omega (arith, c.components-test.true, c.component_count-component-end.ensures) in
    (not_moved h old.first (old.given + 1) old.first old.given c.components.component (λ coefficients i j. HoldsBands (raised_bands h coefficients i) j × ShowRowsOf coefficients (g.S.CoefficientRows.rows c.args.rows.now)) old.joiners.items c.components.self.joiners.items
    c.index_mut.result.now c.components.invariant.moved less c.index_mut.ensures.value c.requires.state.joiners).chain

pub step_joiner-requires-clause-split : goal.step_joiner-requires-clause-split
step_joiner-requires-clause-split g c =
    let old = c.args.self.now in
    let h = old.header.now in
    let less : c.components.component < components_of h.shape.format = omega (arith, c.components-test.true, c.component_count-component-end.ensures) in
    (not_moved h old.first (old.given + 1) old.first old.given c.components.component (λ coefficients i j. HoldsBands (raised_bands h coefficients i) j × ShowRowsOf coefficients (g.S.CoefficientRows.rows c.args.rows.now)) old.joiners.items c.components.self.joiners.items
    c.index_mut.result.now c.components.invariant.moved less c.index_mut.ensures.value c.requires.state.joiners).split

pub step_joiner-requires-clause-room : goal.step_joiner-requires-clause-room
step_joiner-requires-clause-room g c =
    let old = c.args.self.now in
    let h = old.header.now in
    let less : c.components.component < components_of h.shape.format = omega (arith, c.components-test.true, c.component_count-component-end.ensures) in
    let was = not_moved h old.first (old.given + 1) old.first old.given c.components.component (λ coefficients i j. HoldsBands (raised_bands h coefficients i) j × ShowRowsOf coefficients (g.S.CoefficientRows.rows c.args.rows.now)) old.joiners.items c.components.self.joiners.items
    c.index_mut.result.now c.components.invariant.moved less c.index_mut.ensures.value c.requires.state.joiners in
    omega (arith, was.given_is, c.requires.room)

pub step_joiner-requires-clause-near : goal.step_joiner-requires-clause-near
step_joiner-requires-clause-near g c =
    let old = c.args.self.now in
    let h = old.header.now in
    let rows = g.S.CoefficientRows.rows c.args.rows.now in
    let less : c.components.component < components_of h.shape.format = omega (arith, c.components-test.true, c.component_count-component-end.ensures) in
    let was = not_moved h old.first (old.given + 1) old.first old.given c.components.component (λ coefficients i j. HoldsBands (raised_bands h coefficients i) j × ShowRowsOf coefficients rows) old.joiners.items c.components.self.joiners.items
    c.index_mut.result.now c.components.invariant.moved less c.index_mut.ensures.value c.requires.state.joiners in
    subst (λ n. HaveRows h c.index_mut.result.now.first (n / 2 ^ h.nly + 1) rows) (sym was.given_is) (subst (λ n. HaveRows h n (old.given / 2 ^ h.nly + 1) rows) (sym was.first_is) c.requires.near)

pub components-init : goal.components-init
components-init g c =
    let old = c.args.self.now in
    let h = old.header.now in
    record {
      header = refl;
      first = refl;
      given = refl;
      colours = refl;
      moved = moved_first h old.first (old.given + 1) (λ coefficients i j. HoldsBands (raised_bands h coefficients i) j × ShowRowsOf coefficients (g.S.CoefficientRows.rows c.args.rows.now)) old.joiners.items c.requires.state.joiners.many;
    }

pub components-preserved : goal.components-preserved
components-preserved g c =
    let old = c.args.self.now in
    let h = old.header.now in
    let rows = g.S.CoefficientRows.rows c.args.rows.now in
    let i = c.components.invariant in
    let k = c.components.component in
    let less : k < components_of h.shape.format = omega (arith, c.components-test.true, c.component_count-component-end.ensures) in
    let was = not_moved h old.first (old.given + 1) old.first old.given k (λ coefficients i j. HoldsBands (raised_bands h coefficients i) j × ShowRowsOf coefficients rows) old.joiners.items c.components.self.joiners.items
    c.index_mut.result.now i.moved less c.index_mut.ensures.value c.requires.state.joiners in
    let state = subst (λ n. IsComponentJoiner h k old.first (n + 1) c.step_joiner.new.joiner) was.given_is
    (subst (λ n. IsComponentJoiner h k n (c.index_mut.result.now.given + 1) c.step_joiner.new.joiner) was.first_is c.step_joiner.ensures.state) in
    record {
      header = i.header;
      first = i.first;
      given = i.given;
      colours = i.colours;
      moved = moved_next h old.first (old.given + 1) k (λ coefficients i j. HoldsBands (raised_bands h coefficients i) j × ShowRowsOf coefficients rows) old.joiners.items c.components.self.joiners.items c.index_mut.result.now c.step_joiner.new.joiner
          i.moved less c.index_mut.ensures.value state (λ coefficients starts. c.step_joiner.ensures.holds coefficients starts.0 starts.1);
    }

pub returns-clause-joiners : goal.returns-clause-joiners
returns-clause-joiners g c =
    let old = c.args.self.now in
    let h = old.header.now in
    moved_all h old.first (old.given + 1) c.components.component (λ coefficients i j. HoldsBands (raised_bands h coefficients i) j × ShowRowsOf coefficients (g.S.CoefficientRows.rows c.args.rows.now)) old.joiners.items c.components.self.joiners.items c.components.invariant.moved
    (omega (arith, c.components-test.false, c.component_count-component-end.ensures))

pub returns-clause-holds : goal.returns-clause-holds
returns-clause-holds g c coefficients held shown component other less =
    c.components.invariant.moved.holds coefficients (λ i j there. (held i j there, shown)) component other (omega (arith, less, c.components-test.false, c.component_count-component-end.ensures))
