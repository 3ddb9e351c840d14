use Rattle.std.proofs.Common.{sym, ap, subst, ◌∙◌, arith}
use Rattle.xs_signal.specs.Stripe.{IsSplit}
use Rattle.xs_splitter.specs.Chain.{IsChain}
use Rattle.xs_wave.proofs.Cascade.{component_split as splits}
use Rattle.xs_decoding.proofs.Within.{accepted_component}
use Rattle.xs_stripe.specs.Joined.{component_split}
use Rattle.xs_picture.specs.Analysed.{numbers_of}
use Rattle.xs_picture.proofs.encode.analysis.component_splitter.Goals as goal

pub new-requires-clause-split : goal.new-requires-clause-split
new-requires-clause-split c =
    let h = c.args.header.now in
    let component = c.args.component in
    subst IsSplit (sym c.split_shape-shape.ensures) (splits (component_split h component) (accepted_component h component c.requires.accepted c.requires.there))

pub new-requires-clause-few : goal.new-requires-clause-few
new-requires-clause-few c =
    let known = accepted_component c.args.header.now c.args.component c.requires.accepted c.requires.there in
    let across = ap (λ s. s.across) c.split_shape-shape.ensures in
    let down = ap (λ s. s.down) c.split_shape-shape.ensures in
    (omega (arith, across, known.few), omega (arith, down, known.two))

pub returns : goal.returns
returns c picture from =
    let e = c.in_ok-splitter.ensures in
    record {
      chain = subst (λ t. IsChain 0 t c.in_ok-splitter.splitter) (sym e.shape.1) e.chain;
      taken = e.shape.1;
      split = e.shape.0 ∙ c.split_shape-shape.ensures;
      holds = e.holds (numbers_of c.args.header.now picture c.args.component) from;
    }
