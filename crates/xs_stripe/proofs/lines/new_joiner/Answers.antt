use Rattle.std.proofs.Common.{sym, subst}
use Rattle.xs_signal.specs.Stripe.{IsSplit}
use Rattle.xs_wave.proofs.Cascade.{component_split as splits}
use Rattle.xs_decoding.proofs.Within.{accepted_component}
use Rattle.xs_stripe.specs.Joined.{component_split}
use Rattle.xs_stripe.proofs.lines.new_joiner.Goals as goal

pub new-requires-clause-split : goal.new-requires-clause-split
new-requires-clause-split c =
    let h = c.args.header.now in
    subst IsSplit (sym c.join_shape-shape.ensures) (splits (component_split h c.args.component) (accepted_component h c.args.component c.requires.accepted c.requires.component))
