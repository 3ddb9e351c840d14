use Rattle.std.proofs.Common.{◌<◌, ◌*◌, ◌^◌, arith, refl}
use Rattle.xs_layout.specs.Geometry.{components_of}
use Rattle.xs_stripe.specs.Source.{ShowRowsOf}
use Rattle.xs_stripe.proofs.Steps.{moved_first, moved_next, moved_all, not_moved}
use Rattle.xs_stripe.proofs.lines.Lines.begin_joiners.Goals as goal

pub index_mut-requires : goal.index_mut-requires
index_mut-requires g c =
    let less : c.components.component < components_of c.args.self.now.header.now.shape.format = omega (arith, c.components-test.true, c.component_count-component-end.ensures) in
    omega (arith, less, c.components.invariant.moved.many, c.components.self.joiners.ok.0)

pub begin_joiner-requires-clause-chain : goal.begin_joiner-requires-clause-chain
begin_joiner-requires-clause-chain g c =
    let old = c.args.self.now in
    let h = old.header.now in
    let less : c.components.component < components_of h.shape.format = omega (arith, c.components-test.true, c.component_count-component-end.ensures) in
    (not_moved h c.args.first (2 ^ h.nly * c.args.first) old.first old.given c.components.component (λ coefficients _ _. ShowRowsOf coefficients (g.S.CoefficientRows.rows c.args.rows.now)) old.joiners.items c.components.self.joiners.items c.index_mut.result.now
    c.components.invariant.moved less c.index_mut.ensures.value c.requires.state.joiners).chain

pub begin_joiner-requires-clause-split : goal.begin_joiner-requires-clause-split
begin_joiner-requires-clause-split g c =
    let old = c.args.self.now in
    let h = old.header.now in
    let less : c.components.component < components_of h.shape.format = omega (arith, c.components-test.true, c.component_count-component-end.ensures) in
    (not_moved h c.args.first (2 ^ h.nly * c.args.first) old.first old.given c.components.component (λ coefficients _ _. ShowRowsOf coefficients (g.S.CoefficientRows.rows c.args.rows.now)) old.joiners.items c.components.self.joiners.items c.index_mut.result.now
    c.components.invariant.moved less c.index_mut.ensures.value c.requires.state.joiners).split

pub components-init : goal.components-init
components-init g c =
    let old = c.args.self.now in
    let h = old.header.now in
    record { header = refl; first = refl; given = refl; colours = refl; moved = moved_first h c.args.first (2 ^ h.nly * c.args.first) (λ coefficients _ _. ShowRowsOf coefficients (g.S.CoefficientRows.rows c.args.rows.now)) old.joiners.items c.requires.state.joiners.many }

pub components-preserved : goal.components-preserved
components-preserved g c =
    let old = c.args.self.now in
    let h = old.header.now in
    let i = c.components.invariant in
    let less : c.components.component < components_of h.shape.format = omega (arith, c.components-test.true, c.component_count-component-end.ensures) in
    record {
      header = i.header;
      first = i.first;
      given = i.given;
      colours = i.colours;
      moved = moved_next h c.args.first (2 ^ h.nly * c.args.first) c.components.component (λ coefficients _ _. ShowRowsOf coefficients (g.S.CoefficientRows.rows c.args.rows.now)) old.joiners.items c.components.self.joiners.items c.index_mut.result.now c.begin_joiner.new.joiner
          i.moved less c.index_mut.ensures.value c.begin_joiner.ensures.state c.begin_joiner.ensures.holds;
    }

pub returns-clause-joiners : goal.returns-clause-joiners
returns-clause-joiners g c =
    let old = c.args.self.now in
    let h = old.header.now in
    moved_all h c.args.first (2 ^ h.nly * c.args.first) c.components.component (λ coefficients _ _. ShowRowsOf coefficients (g.S.CoefficientRows.rows c.args.rows.now)) old.joiners.items c.components.self.joiners.items c.components.invariant.moved
    (omega (arith, c.components-test.false, c.component_count-component-end.ensures))

pub returns-clause-holds : goal.returns-clause-holds
returns-clause-holds g c coefficients shown component other less =
    c.components.invariant.moved.holds coefficients (λ _ _ _. shown) component other (omega (arith, less, c.components-test.false, c.component_count-component-end.ensures))
